use Rattle.std.proofs.Common.{◌≡◌, take, true}
use Rattle.std.specs.List.{list_all}
use Rattle.env_step.specs.Hands.{is_empty}
use Rattle.env_explain.proofs.explain.first_busy.Given as goal

abbrev pub invariant-loop-hand : goal.invariant-loop-hand
invariant-loop-hand l = (l.seat ≡ l.hand-index) × (list_all is_empty (take l.hand-index l.hands) ≡ true)
