use Rattle.std.proofs.Common.{ap, arith, sym, ◌∙◌}
use Rattle.std.specs.Prelude.{is_some}
use Rattle.live_core.specs.Books.{item_of}
use Rattle.live_core.proofs.Fitting.{is_some_there}
use Rattle.live_core.proofs.books.Books.fits.Goals as goal

pub returns-in-JobStep : goal.returns-in-JobStep
returns-in-JobStep c = λ plan past stand.
    rw c.in-JobStep.is (c.is_some.ensures ∙ ap is_some (c.holds.ensures plan past stand) ∙ is_some_there item_of _ _)

pub returns-then-is_driving : goal.returns-then-is_driving
returns-then-is_driving c = λ plan past stand.
    let driving = sym (c.is_driving.ensures plan past stand) ∙ c.if-is_driving.true in let named = c.names.ensures plan past stand in grind arith

pub returns-in-MainEnd : goal.returns-in-MainEnd
returns-in-MainEnd c = λ plan past stand. rw c.in-MainEnd.is (c.may_end_main.ensures plan past stand)

pub returns-else-is_driving : goal.returns-else-is_driving
returns-else-is_driving c = λ plan past stand.
    let driving = sym (c.is_driving.ensures plan past stand) ∙ c.if-is_driving.false in grind arith
