use Rattle.lint_text.proofs.text.add_missing.Goals as goal

pub returns : goal.returns
returns c = rw (c.in_ok-extend_from_slice-2.ensures.items, c.in_ok-extend_from_slice.ensures.items, c.noun.ensures) at c.add_expected.ensures
