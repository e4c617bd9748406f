use Rattle.std.specs.Prelude.{◌≡◌, map, take}
use Rattle.pool_core.proofs.pool.parts.first_priorities.Given as goal

abbrev pub invariant-loop-runner : goal.invariant-loop-runner
invariant-loop-runner l = l.priorities.items ≡ map (λ r. r.traits.priority) (take l.runner-index l.runner-items)
