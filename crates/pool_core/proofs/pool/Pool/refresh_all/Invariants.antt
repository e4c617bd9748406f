use Rattle.pool_core.specs.Refreshes.{refreshed_below}
use Rattle.std.specs.Prelude.{◌≡◌}
use Rattle.pool_core.proofs.pool.Pool.refresh_all.Given as goal

abbrev pub invariant-loop-task : goal.invariant-loop-task
invariant-loop-task l = l.self ≡ refreshed_below l.initial.self l.task
