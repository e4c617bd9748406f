use Rattle.std.proofs.Common.{◌≡◌}
use Rattle.std.specs.Prelude.{flat_map}
use Rattle.std.specs.List.{range_with_len}
use Rattle.wide_script.specs.Drawn.{actions_at}
use Rattle.wide_script.proofs.draws.Draws.actions.Given as goal

abbrev pub invariant-loop-task : goal.invariant-loop-task
invariant-loop-task l = l.actions.items ≡ flat_map (actions_at l.self) (range_with_len 0 l.task)
