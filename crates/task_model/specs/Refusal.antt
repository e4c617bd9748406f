-- What shutdown refuses and forbids.
use Rattle.std.specs.Prelude.{ℕ, ◌==◌, Bool, false, nat_lt, List, slice_get}
use Rattle.std.specs.List.{list_any}
use Rattle.std.specs.Option.{option_map_or}
use Rattle.task_base.specs.Plan.{Plan}
use Rattle.task_base.specs.declared.entry.Entry.{Entry}
use Rattle.task_base.specs.declared.entry.Kind.{Kind}
use Rattle.task_base.specs.declared.entry.Kind.TheVariants.{Close}
use Rattle.task_traits.specs.Behaviour.{effective_of, forbids}
use Rattle.task_traits.specs.declared.traits.Behaviour.{Behaviour}
use Rattle.task_traits.specs.declared.traits.Behaviour.TheVariants.{ContinueOnShutdown}
use Rattle.task_model.specs.Phase.{phase_of}
use Rattle.task_model.specs.Posts.{Posted}

-- the behaviour in effect of a task that is posted to a runner with a delay: the runner's, but a delayed block
-- task is a skip task (`task_traits.h`)
abbrev pub effective_at : Plan → ℕ → ℕ → Behaviour
effective_at script runner delay = effective_of (option_map_or (λ r. r.traits.behaviour) (slice_get script.runners runner) ContinueOnShutdown) (nat_lt 0 delay)

-- a pool post is refused exactly where the phase forbids the task's effective behaviour (`task_traits.h` has the notion, and
-- refuses more in some versions; the rule is this project's own)
abbrev pub is_refused : Plan → List Entry → ℕ → ℕ → Bool
is_refused script past runner delay = forbids (phase_of past) (effective_at script runner delay)

-- the phase forbids the accepted task to start
abbrev pub is_forbidden : Plan → List Entry → Posted → Bool
is_forbidden script past p = is_refused script past p.home p.delay

-- what shutdown does with a job (`post_job.h`)
abbrev pub behaviour_of_job : Plan → ℕ → Behaviour
behaviour_of_job script j = option_map_or (λ job. job.behaviour) (slice_get script.jobs j) ContinueOnShutdown

-- the phase forbids the job, so its post is refused and no worker enters it (`task_traits.h`, `post_job.h`)
abbrev pub is_job_forbidden : Plan → List Entry → ℕ → Bool
is_job_forbidden script past j = forbids (phase_of past) (behaviour_of_job script j)

-- the entry closes this main queue
abbrev pub closes : ℕ → Kind → Bool
closes q (Close queue) = queue == q
closes q kind = false

-- the main queue is closed, so a main post to it is refused (this project's own rule)
unfoldable pub is_closed : List Entry → ℕ → Bool
is_closed past q = list_any (λ e. closes q e.kind) past
