use Rattle.context_text.proofs.plain.add_single.Goals as goal

pub returns : goal.returns
returns c = rw (c.from-first.ensures, c.from-second.ensures) at c.add_around_two.ensures
