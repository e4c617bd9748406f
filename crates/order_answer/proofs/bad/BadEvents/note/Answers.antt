use Rattle.std.proofs.Common.{refl}
use Rattle.order_answer.proofs.bad.BadEvents.note.Goals as goal

pub returns-in-OutOfTime-clause-note : goal.returns-in-OutOfTime-clause-note
returns-in-OutOfTime-clause-note c =
    rw (c.in-OutOfTime.is, c.add-in-OutOfTime-2.ensures, c.add_decimal.ensures.items, c.from.ensures, c.add-in-OutOfTime.ensures, c.at_line-note-in-OutOfTime.ensures.items) refl
