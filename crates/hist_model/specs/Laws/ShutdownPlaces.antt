-- What shutdown waits for and forbids, over the places of a log.
use Rattle.std.specs.Prelude.{◌≡◌, ℕ, true, List, Some, take}
use Rattle.task_base.specs.Plan.{Plan}
use Rattle.task_base.specs.declared.entry.Entry.{Entry}
use Rattle.task_base.specs.declared.entry.Kind.TheVariants as kinds
use Rattle.task_traits.specs.declared.traits.Behaviour.TheVariants.{SkipOnShutdown, BlockShutdown}
use Rattle.task_model.specs.Refusal.{effective_at, behaviour_of_job}
use Rattle.task_model.specs.Seats.{Holding, holding}
use Rattle.task_model.specs.Jobs.{is_over}
use Rattle.hist_model.specs.Laws.Places.{IsAt, StandsBefore}

-- the end of the task stands before the place
abbrev pub EndsBefore : List Entry → ℕ → ℕ → Type 0
EndsBefore log k task = (left : ℕ) × StandsBefore log k (kinds.End task left)

-- the task was accepted on this runner before the place, and its behaviour in effect is block
abbrev pub IsBlockTask : Plan → List Entry → ℕ → ℕ → ℕ → Type 0
IsBlockTask script log k task runner =
    (delay : ℕ) × StandsBefore log k (kinds.Post task runner delay true) × (effective_at script runner delay ≡ BlockShutdown)

-- shutdown waits for what it must wait for, and forbids what it must forbid (`task_traits.h`; jobs by `post_job.h`)
pub record WaitsAndForbids (script : Plan) (log : List Entry) : Type 0 where
  -- where shutdown is done, each accepted task whose behaviour in effect is block has its end before
  pub block_tasks_have_ended : (k seat task runner delay : ℕ) → IsAt log k seat kinds.Done → StandsBefore log k (kinds.Post task runner delay true)
      → effective_at script runner delay ≡ BlockShutdown → EndsBefore log k task
  -- and so has each task that was taken whose behaviour in effect is skip
  pub taken_skip_tasks_have_ended : (k seat task runner delay taken_on found : ℕ) → IsAt log k seat kinds.Done
      → StandsBefore log k (kinds.Post task runner delay true) → effective_at script runner delay ≡ SkipOnShutdown
      → StandsBefore log k (kinds.Take task taken_on found) → EndsBefore log k task
  -- each accepted block job is over there: nobody is inside, and all its items are done or it is cancelled
  pub block_jobs_are_over : (k seat job : ℕ) → IsAt log k seat kinds.Done → StandsBefore log k (kinds.JobPost job true)
      → behaviour_of_job script job ≡ BlockShutdown → is_over script (take k log) job ≡ true
  -- and no seat is inside a skip job
  pub nobody_is_inside_skip_jobs : (k seat holder : ℕ) (held : Holding) → IsAt log k seat kinds.Done
      → holding (take k log) holder ≡ Some held → behaviour_of_job script held.job ≡ SkipOnShutdown → ⊥
  -- once shutdown was started, a task is taken only if its behaviour in effect is block
  pub only_block_tasks_start : (k seat task runner found : ℕ) → IsAt log k seat (kinds.Take task runner found) → StandsBefore log k kinds.Shutdown
      → IsBlockTask script log k task runner
  -- and a job is entered only if its behaviour is block
  pub only_block_jobs_are_entered : (k seat job id item : ℕ) → IsAt log k seat (kinds.JobTake job id item) → StandsBefore log k kinds.Shutdown
      → behaviour_of_job script job ≡ BlockShutdown
  -- once it is done, no task is taken
  pub no_task_starts_after_done : (k seat task runner found : ℕ) → IsAt log k seat (kinds.Take task runner found) → StandsBefore log k kinds.Done → ⊥
  -- and no job is entered
  pub no_job_is_entered_after_done : (k seat job id item : ℕ) → IsAt log k seat (kinds.JobTake job id item) → StandsBefore log k kinds.Done → ⊥
