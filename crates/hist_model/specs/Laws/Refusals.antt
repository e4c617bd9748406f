-- Which posts of a log are refused.
use Rattle.std.specs.Prelude.{◌≡◌, ◌↔◌, ℕ, Bool, false, List}
use Rattle.task_base.specs.Plan.{Plan}
use Rattle.task_base.specs.declared.entry.Entry.{Entry}
use Rattle.task_base.specs.declared.entry.Kind.{Kind}
use Rattle.task_base.specs.declared.entry.Kind.TheVariants as kinds
use Rattle.task_traits.specs.declared.traits.Behaviour.{Behaviour}
use Rattle.task_traits.specs.declared.traits.Behaviour.TheVariants.{ContinueOnShutdown, SkipOnShutdown, BlockShutdown}
use Rattle.task_model.specs.Refusal.{effective_at, behaviour_of_job}
use Rattle.hist_model.specs.Laws.Places.{IsAt, StandsBefore}

-- the entry from which on work of this behaviour is refused: continue and skip from the start of shutdown on, block only once
-- shutdown is done (`task_traits.h`)
abbrev pub refused_from : Behaviour → Kind
refused_from ContinueOnShutdown = kinds.Shutdown
refused_from SkipOnShutdown = kinds.Shutdown
refused_from BlockShutdown = kinds.Done

-- each post says whether it is refused, and it is refused exactly where it must be
pub record RefusalsAreExact (script : Plan) (log : List Entry) : Type 0 where
  -- a post to the pool is refused exactly where the entry stands before it from which on its behaviour in effect is refused
  -- (`task_traits.h`)
  pub task_posts : (k seat task runner delay : ℕ) (ok : Bool) → IsAt log k seat (kinds.Post task runner delay ok)
      → (ok ≡ false) ↔ StandsBefore log k (refused_from (effective_at script runner delay))
  -- and so is the post of a job by the behaviour of the job (`post_job.h`)
  pub job_posts : (k seat job : ℕ) (ok : Bool) → IsAt log k seat (kinds.JobPost job ok)
      → (ok ≡ false) ↔ StandsBefore log k (refused_from (behaviour_of_job script job))
  -- a post to a main queue is refused exactly where the queue was closed before it (this project's own rule)
  pub main_posts : (k seat task queue delay : ℕ) (ok : Bool) → IsAt log k seat (kinds.Main task queue delay ok)
      → (ok ≡ false) ↔ StandsBefore log k (kinds.Close queue)
