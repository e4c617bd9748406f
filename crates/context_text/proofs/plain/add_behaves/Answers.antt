use Rattle.context_text.proofs.plain.add_behaves.Goals as goal

pub returns : goal.returns
returns c = rw (c.as_bytes-word.ensures.value, c.behaviour_word.ensures.word) at c.add_worded.ensures
