-- What shutdown refuses, forbids and waits for, said of one entry of a history.
use Rattle.std.specs.Prelude.{◌≡◌, ℕ, false, not, List, All, Contains, length}
use Rattle.std.specs.List.{range_with_len}
use Rattle.task_base.specs.Plan.{Plan}
use Rattle.task_base.specs.declared.entry.Entry.{Entry}
use Rattle.task_base.specs.declared.entry.Kind.{Kind}
use Rattle.task_base.specs.declared.entry.Kind.TheVariants as kinds
use Rattle.task_model.specs.Posts.{Posted, posts}
use Rattle.task_model.specs.Refusal.{is_refused, is_forbidden, is_job_forbidden, is_closed}
use Rattle.task_model.specs.Seats.{all_seats}
use Rattle.task_model.specs.Blockers.{is_open_block, is_running_skip, is_open_job, is_in_skip_job}

-- the task was accepted on this runner, and the phase does not forbid it to start
pub record MayStart (script : Plan) (past : List Entry) (task runner : ℕ) : Type 0 where
  pub accepted : Posted
  pub posted : Contains (posts past) accepted
  pub task_is : accepted.task ≡ task
  pub runner_is : accepted.home ≡ runner
  pub free : is_forbidden script past accepted ≡ false

-- each accepted block task has its end, no skip task runs, each accepted block job is over, and nobody is inside a
-- skip job
pub record HasWaited (script : Plan) (past : List Entry) : Type 0 where
  pub blocks_ended : All (λ p. is_open_block script past p ≡ false) (posts past)
  pub no_skip_runs : All (λ p. is_running_skip script past p ≡ false) (posts past)
  pub jobs_over : All (λ j. is_open_job script past j ≡ false) (range_with_len 0 (length script.jobs))
  pub nobody_inside : All (λ seat. is_in_skip_job script past seat ≡ false) (all_seats script)

-- a post to the pool and a job's post are refused exactly where the phase forbids their behaviour, and a main post
-- exactly where its queue is closed; a task starts and a job is entered only where the phase does not forbid it; and
-- shutdown is done only where it has waited (`task_traits.h`; main queues and jobs by this project's own rules)
abbrev pub KeepsShutdown : Plan → List Entry → Kind → Type 0
KeepsShutdown script past (kinds.Post task runner delay ok) = ok ≡ not (is_refused script past runner delay)
KeepsShutdown script past (kinds.Main task queue delay ok) = ok ≡ not (is_closed past queue)
KeepsShutdown script past (kinds.Take task runner found) = MayStart script past task runner
KeepsShutdown script past (kinds.JobPost job ok) = ok ≡ not (is_job_forbidden script past job)
KeepsShutdown script past (kinds.JobTake job id item) = is_job_forbidden script past job ≡ false
KeepsShutdown script past kinds.Done = HasWaited script past
KeepsShutdown script past kind = Unit {0}
