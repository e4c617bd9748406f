use Rattle.std.proofs.Common.{◌≡◌, ◌+◌, ◌≤◌, ◌++◌, length, take}
use Rattle.std.specs.Prelude.{flat_map}
use Rattle.nested_loop.specs.Waiting.{main_of_step}
use Rattle.nested_loop.proofs.script.add_steps.Given as goal

abbrev pub invariant-loop-step : goal.invariant-loop-step
invariant-loop-step l = record {
  so_far : l.added.items ≡ l.fn.added.items ++ flat_map main_of_step (take l.step-index l.steps);
  room : length l.steps ≤ l.added.spare + l.step-index;
}
