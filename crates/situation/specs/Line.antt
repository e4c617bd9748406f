-- The line of the pool: the tasks that may be taken and the jobs that may be entered, in the order of their keys.
use Rattle.std.specs.Prelude.{ℕ, ◌==◌, Bool, false, not, ◌&&◌, if◌then◌else◌, List, [], ◌∷◌, ◌++◌, length, filter, find, map, Option, is_none}
use Rattle.task_base.specs.Plan.{Plan}
use Rattle.task_base.specs.Runners.{sequence_of}
use Rattle.task_base.specs.Keys.{key_below}
use Rattle.task_base.specs.declared.entry.Entry.{Entry}
use Rattle.task_base.specs.declared.entry.Kind.{Kind}
use Rattle.task_base.specs.declared.entry.Kind.TheVariants as kinds
use Rattle.task_base.specs.declared.source.Key.{Key}
use Rattle.task_base.specs.declared.source.TaskSource.{TaskSource}
use Rattle.task_base.specs.declared.source.TaskSource.TheVariants.{Sequence, Job}
use Rattle.task_model.specs.Past.{fold_past}
use Rattle.task_model.specs.Keys.{Ready, key_at}
use Rattle.task_model.specs.Refusal.{is_job_forbidden}
use Rattle.task_model.specs.Sequences.{may_start}
use Rattle.task_model.specs.Jobs.{JobPosted, job_post_of, is_cancelled, has_unclaimed}
use Rattle.pool_laws.specs.Keys.{arriving_by}

-- who stands in the line: an accepted task with its key, or an accepted job with its post
pub data Standing : Type 0 where
  TaskStands : Ready → Standing
  JobStands : ℕ → JobPosted → Standing

-- by what their order goes
abbrev pub standing_key : Standing → Key
standing_key (TaskStands r) = r.key
standing_key (JobStands j post) = key_at post.place

-- the first stands before the second
abbrev pub stands_before : Standing → Standing → Bool
stands_before a b = key_below (standing_key a) (standing_key b)

-- the job that an entry behind a past lets into the line: an accepted one at its first post
abbrev pub job_joining : List Entry → ℕ → Bool → List Standing
job_joining before j ok = if is_none (job_post_of before j) && ok then JobStands j (record { place = length before; ok = ok }) ∷ [] else []

-- who comes into the line at an entry behind a past
abbrev pub joining_by : List Entry → Kind → List Standing
joining_by before (kinds.JobPost job ok) = job_joining before job ok
joining_by before kind = map TaskStands (arriving_by before kind)

-- all accepted tasks that have keys and all accepted jobs, in the order of their keys
unfoldable pub comers : List Entry → List Standing
comers past = fold_past (λ before known e. known ++ joining_by before e.kind) [] past

-- the job may still be entered, were there room inside
abbrev pub is_job_open : Plan → List Entry → ℕ → Bool
is_job_open script past j = not (is_cancelled past j) && not (is_job_forbidden script past j) && has_unclaimed script past j

-- who came still stands in the line: a task that was not taken and may start in the phase, or a job that is open
abbrev pub still_stands : Plan → List Entry → Standing → Bool
still_stands script past (TaskStands r) = may_start script past r.posted
still_stands script past (JobStands j post) = is_job_open script past j

-- the line, with keys
unfoldable pub standing : Plan → List Entry → List Standing
standing script past = filter (still_stands script past) (comers past)

-- who waits in the line, without keys: a task with its runner and its delay, or a job
pub data Waiter : Type 0 where
  Task : ℕ → ℕ → ℕ → Waiter
  OfJob : ℕ → Waiter

-- without the key
abbrev pub waiter_of : Standing → Waiter
waiter_of (TaskStands r) = Task r.posted.task r.posted.home r.posted.delay
waiter_of (JobStands j post) = OfJob j

-- the line of the pool, in order
unfoldable pub line_of : Plan → List Entry → List Waiter
line_of script past = map waiter_of (standing script past)

-- who waits is of the source: a task of the sequence, or the job
abbrev pub waits_at : Plan → TaskSource → Waiter → Bool
waits_at script (Sequence s) (Task task runner delay) = sequence_of script runner task == s
waits_at script (Job j) (OfJob job) = job == j
waits_at script source waiter = false

-- the first of the source in the line
abbrev pub first_at : Plan → List Entry → TaskSource → Option Standing
first_at script past source = find (λ x. waits_at script source (waiter_of x)) (standing script past)
