-- A seat that leaves its desk.
-- Cited by `env_threads`, `worked_calls`.
use Rattle.std.proofs.Common.{◌≡◌, true, refl, sym, ◌∙◌}
use Rattle.turn_table.specs.Seats.{TurnKey, SeatView}
use Rattle.env_shared.specs.Sits.{Seated}

-- the shared environment of a seat at a desk is the one with this table and this script
pub same_environment : (key : TurnKey) (s : SeatView) → s.of.table ≡ key.table → s.of.basis ≡ key.basis → key.stands ≡ true → Seated s → s.of ≡ key
same_environment key s table script stands seated = rw (← table, ← script, ← (seated.stands ∙ sym stands)) refl
