use Rattle.std.proofs.Common.{◌≡◌, map}
use Rattle.std.specs.List.{range_with_len}
use Rattle.wide_script.specs.Drawn.{runner_of}
use Rattle.wide_script.proofs.draws.Draws.runners.Given as goal

abbrev pub invariant-loop-runner : goal.invariant-loop-runner
invariant-loop-runner l = l.runners.items ≡ map (runner_of l.self) (range_with_len 0 l.runner)
