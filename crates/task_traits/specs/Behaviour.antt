-- Which behaviour a task has in effect, and what each phase of shutdown forbids.
use Rattle.std.specs.Prelude.{Bool, true, false}
use Rattle.task_traits.specs.declared.phase.Phase.{Phase}
use Rattle.task_traits.specs.declared.phase.Phase.TheVariants.{Running, Started, Done}
use Rattle.task_traits.specs.declared.traits.Behaviour.{Behaviour}
use Rattle.task_traits.specs.declared.traits.Behaviour.TheVariants.{ContinueOnShutdown, SkipOnShutdown, BlockShutdown}

-- the behaviour in effect: the runner's own, but block becomes skip where the task is delayed (this
-- project's own rule)
abbrev pub effective_of : Behaviour → Bool → Behaviour
effective_of ContinueOnShutdown delayed = ContinueOnShutdown
effective_of SkipOnShutdown delayed = SkipOnShutdown
effective_of BlockShutdown false = BlockShutdown
effective_of BlockShutdown true = SkipOnShutdown

-- the phase forbids the effective behaviour: none while running, continue and skip once shutdown started,
-- all once it is done (the behaviours are those of Chromium's `task_traits.h`, the phases this project's own)
abbrev pub forbids : Phase → Behaviour → Bool
forbids Running effective = false
forbids Started ContinueOnShutdown = true
forbids Started SkipOnShutdown = true
forbids Started BlockShutdown = false
forbids Done effective = true
