use Rattle.std.proofs.Common.{◌≡◌, map}
use Rattle.std.specs.List.{range_with_len}
use Rattle.wide_script.specs.Drawn.{steps_of}
use Rattle.wide_script.proofs.draws.Draws.tasks.Given as goal

abbrev pub invariant-loop-task : goal.invariant-loop-task
invariant-loop-task l = l.tasks.items ≡ map (steps_of l.self) (range_with_len 0 l.task)
