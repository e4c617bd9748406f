use Rattle.std.proofs.Common.{◌≡◌, ◌+◌, ◌*◌, ◌≤◌, drop}
use Rattle.script_lint.specs.Steps.{first_step}
use Rattle.script_lint.proofs.steps.first_step.Given as goal

abbrev pub invariant-loop-step : goal.invariant-loop-step
invariant-loop-step l = record {
  near : l.place ≤ l.from + 5 * l.step-index;
  rest : first_step l.script l.question (drop l.step-index l.steps) l.place ≡ first_step l.script l.question l.steps l.from;
}
