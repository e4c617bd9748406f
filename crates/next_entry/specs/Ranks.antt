-- By what one source goes before another.
use Rattle.std.specs.Prelude.{ℕ, ◌==◌, Bool, false, not, ◌&&◌, ◌||◌, nat_lt, if◌then◌else◌, List, length, slice_get, Option, Some, None, option_and_then}
use Rattle.std.specs.Option.{option_map}
use Rattle.list_laws.specs.Lists.{holds_of}
use Rattle.task_base.specs.Groups.{importance}
use Rattle.task_base.specs.Keys.{key_below}
use Rattle.task_base.specs.Plan.{Plan}
use Rattle.task_base.specs.Runners.{is_parallel}
use Rattle.task_base.specs.declared.entry.Entry.{Entry}
use Rattle.task_base.specs.declared.entry.Kind.{Kind}
use Rattle.task_base.specs.declared.entry.Kind.TheVariants.{JobTake, Take}
use Rattle.task_base.specs.declared.source.Key.{Key}
use Rattle.task_model.specs.Capacity.{priority_of, priority_of_job}
use Rattle.task_model.specs.Jobs.{JobPosted, job_post_of}
use Rattle.task_model.specs.Keys.{key_at, key_of}
use Rattle.task_model.specs.Posts.{Posted}
use Rattle.pool_laws.specs.Posts.{post_of}
use Rattle.task_model.specs.Seats.{inside}
use Rattle.env_step.specs.declared.hand.Hand.{Hand}
use Rattle.env_step.specs.declared.hand.Hand.TheVariants as hands
use Rattle.next_entry.specs.declared.cause.Edge.{Edge}
use Rattle.next_entry.specs.declared.cause.Edge.TheVariants as edges
use Rattle.next_entry.specs.declared.rank.Rank.{Rank}

-- the key of an accepted task that is this runner's, where it has one
abbrev pub key_at_home : List Entry → ℕ → Posted → Option Key
key_at_home past runner p = if p.home == runner then key_of past p else None

-- by what the sequence of a task of a runner is compared, where that is the task to be taken: the runner's priority, and the
-- task's key
abbrev pub task_rank : Plan → List Entry → ℕ → ℕ → Option Rank
task_rank script past task runner = option_map (λ key. record { priority = priority_of script past runner; inside = 0; key = key })
    (option_and_then (key_at_home past runner) (post_of past task))

-- by what a job is compared that was accepted
abbrev pub accepted_rank : Plan → List Entry → ℕ → JobPosted → Option Rank
accepted_rank script past j post =
    if post.ok
    then Some (record { priority = priority_of_job script j; inside = length (inside script past j); key = key_at post.place })
    else None

-- by what a job is compared
abbrev pub job_rank : Plan → List Entry → ℕ → Option Rank
job_rank script past j = option_and_then (accepted_rank script past j) (job_post_of past j)

-- by what the source that an entry takes is compared
abbrev pub rank_of : Plan → List Entry → Kind → Option Rank
rank_of script past (Take task runner found) = task_rank script past task runner
rank_of script past (JobTake job id item) = job_rank script past job
rank_of script past kind = None

-- the two entries take one source: tasks of one sequence, or items of one job
abbrev pub is_same_source : Plan → Kind → Kind → Bool
is_same_source script (Take t r f) (Take task runner found) =
    r == runner && (t == task || not (holds_of (λ x. is_parallel x.kind) (slice_get script.runners runner)))
is_same_source script (JobTake j d i) (JobTake job id item) = j == job
is_same_source script next kind = false

-- what a source has over another, by the first of priority, number inside and key that tells them apart
abbrev pub edge_over : Rank → Rank → Edge
edge_over best other =
    if nat_lt (importance other.priority) (importance best.priority) then edges.Priority
    else if nat_lt (importance best.priority) (importance other.priority) then edges.Barred
    else if nat_lt best.inside other.inside then edges.Inside
    else if nat_lt other.inside best.inside then edges.Barred
    else if key_below best.key other.key then edges.Key
    else edges.Barred

-- the same, where the other may have no rank
abbrev pub edge_between : Option Rank → Option Rank → Edge
edge_between (Some best) (Some other) = edge_over best other
edge_between best other = edges.Unready

-- what the source that an entry takes has over the one that another entry takes
abbrev pub edge_of : Plan → List Entry → Kind → Kind → Edge
edge_of script past next kind =
    if is_same_source script next kind then edges.Same else edge_between (rank_of script past next) (rank_of script past kind)

-- an item of the job is in hand
abbrev pub is_item_of : ℕ → Hand → Bool
is_item_of j hands.Free = false
is_item_of j (hands.Task at) = false
is_item_of j (hands.Item pass) = pass.job == j

-- how many seats are inside the job of which an entry takes an item; of another entry none
abbrev pub inside_of : Plan → List Entry → Kind → ℕ
inside_of script past (JobTake job id item) = length (inside script past job)
inside_of script past kind = 0
