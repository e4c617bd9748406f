use Rattle.std.proofs.Common.{◌≡◌}
use Rattle.turn_table.proofs.turnstile.Turnstile.grab.Given as goal

abbrev pub invariant-loop : goal.invariant-loop
invariant-loop g l = (l.token.table_id ≡ l.fn.token.table_id) × (l.token.id ≡ l.fn.token.id) × (l.token.me ≡ l.fn.token.me)
