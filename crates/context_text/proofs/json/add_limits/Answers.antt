use Rattle.context_text.proofs.Pieces.{two_pieces}
use Rattle.context_text.proofs.json.add_limits.Goals as goal

pub returns : goal.returns
returns c =
    two_pieces _ c.args.text.now.items _ _ _ _ (rw (c.from-first.ensures, c.from-second.ensures) at c.in_ok-add_around_two.ensures)
    (rw c.from.ensures at c.add_around.ensures)
