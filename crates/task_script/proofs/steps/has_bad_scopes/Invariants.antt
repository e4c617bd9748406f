use Rattle.std.proofs.Common.{◌≡◌, false, drop}
use Rattle.script_model.specs.Draft.{has_bad_scopes}
use Rattle.task_script.proofs.steps.has_bad_scopes.Given as goal

abbrev pub invariant-loop-step : goal.invariant-loop-step
invariant-loop-step l = has_bad_scopes l.inside (drop l.step-index l.steps) ≡ has_bad_scopes false l.steps
