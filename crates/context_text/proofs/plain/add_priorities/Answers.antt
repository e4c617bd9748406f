use Rattle.context_text.proofs.Pieces.{two_pieces}
use Rattle.context_text.proofs.plain.add_priorities.Goals as goal

pub returns : goal.returns
returns c =
    two_pieces _ c.args.text.now.items _ _ _ _ (rw (c.as_bytes-word.ensures.value, c.priority_word.ensures.word) at c.in_ok-add_worded.ensures)
    (rw (c.as_bytes-other.ensures.value, c.priority_word-2.ensures.word) at c.add_worded-2.ensures)
