-- What a worker takes next.
use Rattle.std.specs.Prelude.{ℕ, ◌==◌, Bool, true, not, ◌&&◌, ◌||◌, nat_lt, nat_le, if◌then◌else◌, List, ◌++◌, length, filter, Option, Some, None, is_none}
use Rattle.std.specs.List.{list_any, filter_map, range_with_len}
use Rattle.std.specs.Option.{option_map_or, option_map}
use Rattle.task_base.specs.Plan.{Plan}
use Rattle.task_base.specs.declared.entry.Entry.{Entry}
use Rattle.task_base.specs.declared.source.Key.{Key}
use Rattle.task_base.specs.declared.source.TaskSource.{TaskSource}
use Rattle.task_base.specs.declared.source.TaskSource.TheVariants.{Sequence, Job}
use Rattle.task_traits.specs.declared.traits.Priority.{Priority}
use Rattle.list_laws.specs.Lists.{least}
use Rattle.task_model.specs.Policies.{is_held}
use Rattle.task_model.specs.Refusal.{is_job_forbidden}
use Rattle.task_model.specs.Keys.{Ready, key_at}
use Rattle.task_base.specs.Keys.{key_below}
use Rattle.task_base.specs.Runners.{sequence_count, seat_of}
use Rattle.task_model.specs.Sequences.{head_of}
use Rattle.task_model.specs.Seats.{runs_sequence, inside}
use Rattle.task_base.specs.Groups.{importance, group_of, same_group}
use Rattle.task_model.specs.Capacity.{priority_of, priority_of_job, load, capacity, has_room}
use Rattle.task_model.specs.Jobs.{JobPosted, job_post_of, is_cancelled, claimed, has_unclaimed, may_enter}

-- work that waits: a source, its priority, how many are inside, its key, and the only seat that may take it, if
-- there is one
pub record Candidate : Type 0 where
  pub source : TaskSource
  pub priority : Priority
  pub inside : ℕ
  pub key : Key
  pub seat : Option ℕ

-- a sequence with a head, by its head
abbrev pub sequence_candidate : Plan → List Entry → ℕ → Ready → Candidate
sequence_candidate script past s head = record {
  source = Sequence s;
  priority = priority_of script past head.posted.home;
  inside = 0;
  key = head.key;
  seat = seat_of script head.posted.home;
}

-- a job that was posted, by its post
abbrev pub job_candidate : Plan → List Entry → ℕ → JobPosted → Candidate
job_candidate script past j post = record {
  source = Job j;
  priority = priority_of_job script j;
  inside = length (inside script past j);
  key = key_at post.place;
  seat = None;
}

-- a sequence waits where it does not run and has a head
abbrev pub sequence_waiting : Plan → List Entry → ℕ → Option Candidate
sequence_waiting script past s = if runs_sequence script past s then None else option_map (sequence_candidate script past s) (head_of script past s)

-- a job waits where it may be entered
abbrev pub job_waiting : Plan → List Entry → ℕ → Option Candidate
job_waiting script past j = if may_enter script past j then option_map (job_candidate script past j) (job_post_of past j) else None

-- the sequences and jobs that would wait, were nothing held back: as under the policy `all`
unfoldable pub would_wait : Plan → List Entry → List Candidate
would_wait script past =
    filter_map (sequence_waiting script past) (range_with_len 0 (sequence_count script))
    ++ filter_map (job_waiting script past) (range_with_len 0 (length script.jobs))

-- those of them that the policy does not hold back: what could be taken, were it not for the limits (`task_traits.h` for
-- the priorities, this project's own rule for the rest)
unfoldable pub waiting : Plan → List Entry → List Candidate
waiting script past = filter (λ c. not (is_held past c.priority)) (would_wait script past)

-- the seat may take the source: there is room for its priority, and it is the stated seat where there is one
abbrev pub is_takeable : Plan → List Entry → ℕ → Candidate → Bool
is_takeable script past seat c = has_room script past c.priority && option_map_or (λ only. only == seat) c.seat true

-- the first goes before the second: it is of higher priority (`task_traits.h`), then of fewer inside, then of lesser key
-- (this project's own rule on ties)
abbrev pub goes_before : Candidate → Candidate → Bool
goes_before a b =
    nat_lt (importance b.priority) (importance a.priority)
    || (importance b.priority == importance a.priority
    && (nat_lt a.inside b.inside || (a.inside == b.inside && key_below a.key b.key)))

-- the best source that the seat may take, if there is one
unfoldable pub best_of : Plan → List Entry → ℕ → Option Candidate
best_of script past seat = least goes_before (filter (is_takeable script past seat) (waiting script past))

-- a source of the same group and of strictly higher priority waits, other than a sequence of a single-thread runner
abbrev pub is_outranked : Plan → List Entry → Priority → Bool
is_outranked script past priority =
    list_any (λ c. is_none c.seat && same_group (group_of script c.priority) (group_of script priority)
    && nat_lt (importance priority) (importance c.priority)) (waiting script past)

-- a worker at a job makes way: its group runs at least what it may, and better work of the group waits
abbrev pub makes_way : Plan → List Entry → Priority → Bool
makes_way script past priority =
    nat_le (capacity script past (group_of script priority)) (load script past (group_of script priority)) && is_outranked script past priority

-- the seat leaves the job after the item that it holds: no item is unclaimed, the job is cancelled, the phase
-- forbids it, or a worker makes way (this project's own rule)
unfoldable pub leaves : Plan → List Entry → ℕ → ℕ → Bool
leaves script past seat j =
    not (has_unclaimed script past j) || is_cancelled past j || is_job_forbidden script past j
    || (nat_lt 0 seat && makes_way script past (priority_of_job script j))

-- the next item: none where the seat leaves the job, else the least unclaimed one
abbrev pub next_item : Plan → List Entry → ℕ → ℕ → Option ℕ
next_item script past seat j = if leaves script past seat j then None else Some (claimed past j)
