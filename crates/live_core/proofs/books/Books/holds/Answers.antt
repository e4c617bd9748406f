use Rattle.std.proofs.Common.{ap, sym}
use Rattle.std.proofs.lemmas.Option.{cond_some}
use Rattle.live_core.proofs.Fitting.{not_there}
use Rattle.live_core.specs.declared.books.Seat.{Seat}
use Rattle.live_core.proofs.books.Books.holds.Goals as goal

pub returns-in_err-seat : goal.returns-in_err-seat
returns-in_err-seat c = λ plan past stand. rw (not_there _ _ (sym (c.in_err-seat.ensures plan past stand))) c.from_residual.ensures

pub returns : goal.returns
returns c = λ plan past stand.
    let found = cond_some _ _ _ (sym (c.in_ok-seat.ensures plan past stand)) in rw found.0 (ap (λ (s : Seat). s.holds) (sym found.1))
