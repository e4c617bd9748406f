-- The items of jobs: claimed, done, and what they add up to (the notion of a job is that of `post_job.h`, the rules
-- are this project's own).
use Rattle.std.specs.Prelude.{ℕ, ◌+◌, ◌-◌, ◌%◌, ◌^◌, ◌==◌, Bool, false, not, ◌&&◌, ◌||◌, nat_lt, min, if◌then◌else◌, List, [], length, fold, slice_get, Option, Some, None, is_some}
use Rattle.std.specs.Option.{option_map_or}
use Rattle.std.specs.List.{list_any, list_all, find, range_with_len}
use Rattle.task_base.specs.Plan.{Plan}
use Rattle.task_base.specs.Steps.{after}
use Rattle.task_base.specs.declared.step.Step.{Step}
use Rattle.task_base.specs.declared.entry.Entry.{Entry}
use Rattle.task_base.specs.declared.entry.JobReply.{JobReply}
use Rattle.task_base.specs.declared.entry.JobReply.TheVariants.{Refused, Finished, Cancelled, Stopped}
use Rattle.task_base.specs.declared.entry.Kind.{Kind}
use Rattle.task_base.specs.declared.entry.Kind.TheVariants.{JobPost, JobTake, JobStep, JobCancel}
use Rattle.list_laws.specs.Lists.{count, holds_of}
use Rattle.task_model.specs.Past.{fold_past}
use Rattle.task_model.specs.Refusal.{is_job_forbidden}
use Rattle.task_model.specs.Seats.{Holding, holding, all_seats, inside}

-- the post of a job: its place, and whether it was accepted
pub record JobPosted : Type 0 where
  pub place : ℕ
  pub ok : Bool

-- the post of a job after an entry: the first one counts
abbrev pub job_post_after : ℕ → List Entry → Option JobPosted → Kind → Option JobPosted
job_post_after j before None (JobPost job ok) = if job == j then Some (record { place = length before; ok = ok }) else None
job_post_after j before now kind = now

-- the first post of the job
unfoldable pub job_post_of : List Entry → ℕ → Option JobPosted
job_post_of past j = fold_past (λ before now e. job_post_after j before now e.kind) None past

-- the job was accepted
abbrev pub is_job_accepted : List Entry → ℕ → Bool
is_job_accepted past j = holds_of (λ p. p.ok) (job_post_of past j)

-- the entry cancels the job
abbrev pub cancels : ℕ → Kind → Bool
cancels j (JobCancel job) = job == j
cancels j kind = false

-- the job is cancelled
unfoldable pub is_cancelled : List Entry → ℕ → Bool
is_cancelled past j = list_any (λ e. cancels j e.kind) past

-- the entry claims an item of the job
abbrev pub claims : ℕ → Kind → Bool
claims j (JobTake job id item) = job == j
claims j (JobStep job id item value next) = job == j && is_some next
claims j kind = false

-- how many items are claimed, which is the least unclaimed item where there is one
unfoldable pub claimed : List Entry → ℕ → ℕ
claimed past j = count (λ e. claims j e.kind) past

-- the value of the item of the job that the entry ends
abbrev pub value_by : ℕ → Kind → Option ℕ
value_by j (JobStep job id item value next) = if job == j then Some value else None
value_by j kind = None

-- how many items are done
unfoldable pub done : List Entry → ℕ → ℕ
done past j = count (λ e. is_some (value_by j e.kind)) past

-- the sum of the values of the done items, modulo 2^64
unfoldable pub job_sum : List Entry → ℕ → ℕ
job_sum past j = fold (λ sum e. option_map_or (λ value. (sum + value) % 2 ^ 64) (value_by j e.kind) sum) 0 past

-- how many items the job has
abbrev pub items_of : Plan → ℕ → ℕ
items_of script j = option_map_or (λ job. job.items) (slice_get script.jobs j) 0

-- how many workers may be inside by the job's own word
abbrev pub cap_of : Plan → ℕ → ℕ
cap_of script j = option_map_or (λ job. job.cap) (slice_get script.jobs j) 0

-- the steps of the job
abbrev pub job_steps_of : Plan → ℕ → List Step
job_steps_of script j = option_map_or (λ job. job.steps) (slice_get script.jobs j) []

-- the value of an item: the job's steps, applied to its number
abbrev pub item_value : Plan → ℕ → ℕ → ℕ
item_value script j item = after (job_steps_of script j) item

-- an item is unclaimed
abbrev pub has_unclaimed : Plan → List Entry → ℕ → Bool
has_unclaimed script past j = nat_lt (claimed past j) (items_of script j)

-- how many workers may be inside: the least of the job's cap, 32, and the number of items that are not done
abbrev pub concurrency : Plan → List Entry → ℕ → ℕ
concurrency script past j = min (min (cap_of script j) 32) (items_of script j - done past j)

-- the job was accepted, is not cancelled, may run in the phase, has an unclaimed item, and has room inside
unfoldable pub may_enter : Plan → List Entry → ℕ → Bool
may_enter script past j =
    is_job_accepted past j && not (is_cancelled past j) && not (is_job_forbidden script past j)
    && has_unclaimed script past j && nat_lt (length (inside script past j)) (concurrency script past j)

-- the seat holds an item of the job under this number
abbrev pub holds_id : ℕ → ℕ → Option Holding → Bool
holds_id j id held = holds_of (λ h. h.job == j && h.id == id) held

-- nobody inside the job has this number
abbrev pub is_free_id : Plan → List Entry → ℕ → ℕ → Bool
is_free_id script past j id = list_all (λ seat. not (holds_id j id (holding past seat))) (all_seats script)

-- the least number that nobody inside has
abbrev pub free_id : Plan → List Entry → ℕ → Option ℕ
free_id script past j = find (is_free_id script past j) (range_with_len 0 (length (inside script past j) + 1))

-- all items are done
abbrev pub is_finished_job : Plan → List Entry → ℕ → Bool
is_finished_job script past j = done past j == items_of script j

-- nobody is inside
abbrev pub is_empty : Plan → List Entry → ℕ → Bool
is_empty script past j = length (inside script past j) == 0

-- the job is over: nobody is inside, and all its items are done or it is cancelled
abbrev pub is_over : Plan → List Entry → ℕ → Bool
is_over script past j = is_empty script past j && (is_finished_job script past j || is_cancelled past j)

-- the reply to a join, where it has one: the first of these that applies
abbrev pub reply_of : Plan → List Entry → ℕ → Option JobReply
reply_of script past j =
    if holds_of (λ p. not p.ok) (job_post_of past j) then Some Refused
    else (if is_finished_job script past j then Some (Finished (job_sum past j))
    else (if is_cancelled past j then Some Cancelled
    else (if is_job_forbidden script past j then Some Stopped
    else None)))
