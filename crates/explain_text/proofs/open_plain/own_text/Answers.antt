use Rattle.std.proofs.Common.{refl}
use Rattle.explain_text.proofs.open_plain.own_text.Goals as goal

pub returns-in-Makes-clause-items : goal.returns-in-Makes-clause-items
returns-in-Makes-clause-items c =
    rw (c.in-Makes.is, c.add.ensures, c.around-line.ensures.items, c.deref.ensures.0, c.line.ensures.items) refl
