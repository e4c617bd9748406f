use Rattle.std.proofs.Common.{◌≡◌}
use Rattle.worked_parts.proofs.tests.turns.steps.visits.Given as goal

abbrev pub invariant-loop : goal.invariant-loop
invariant-loop g l = (l.seat.of ≡ l.turnstile) × (l.seat.number ≡ l.fn.seat.number) × (l.seat.made ≡ l.fn.seat.made)
