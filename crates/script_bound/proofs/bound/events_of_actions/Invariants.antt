use Rattle.std.proofs.Common.{◌≡◌, take}
use Rattle.std.specs.Prelude.{sum_by}
use Rattle.script_model.specs.Bound.{events_of_action}
use Rattle.script_bound.proofs.bound.events_of_actions.Given as goal

abbrev pub invariant-loop-action : goal.invariant-loop-action
invariant-loop-action l = l.events ≡ sum_by events_of_action (take l.action-index l.actions)
