use Rattle.std.proofs.Common.{◌≡◌, arith, false, refl, sym, true, ◌∙◌}
use Rattle.std.specs.Prelude.{◌==◌}
use Rattle.std.proofs.lemmas.Bool.Decides.{nat_tests}
use Rattle.live_core.specs.Calls.{seat_of}
use Rattle.live_roster.proofs.roster.wish_after.Goals as goal

pub returns-then-seat-eq0 : goal.returns-then-seat-eq0
returns-then-seat-eq0 c =
    let driver : (seat_of c.args.call == 0) ≡ true = rw (sym c.seat.ensures ∙ c.if-seat-eq0.true) refl in
    rw driver refl

pub returns-else-seat-eq0 : goal.returns-else-seat-eq0
returns-else-seat-eq0 c =
    let worker : (seat_of c.args.call == 0) ≡ false = grind (arith, nat_tests, c.seat.ensures, c.if-seat-eq0.false) in
    rw worker refl
