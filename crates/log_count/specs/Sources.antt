-- What a worker takes next, by the situation alone (this project's own notion).
use Rattle.std.specs.Prelude.{ℕ, zero, suc, ◌+◌, ◌-◌, ◌==◌, Bool, true, not, ◌&&◌, ◌||◌, nat_lt, nat_le, min, if◌then◌else◌, List, [], ◌∷◌, ◌++◌}
use Rattle.std.specs.Prelude.{length, filter, find}
use Rattle.std.specs.Prelude.{Option, Some, None, is_none, is_some}
use Rattle.std.specs.Option.{option_map, option_map_or}
use Rattle.std.specs.List.{list_any, filter_map, range_with_len}
use Rattle.task_base.specs.Groups.{importance, group_of, same_group, is_best_effort}
use Rattle.task_base.specs.Plan.{Plan}
use Rattle.task_base.specs.Policy.{is_held_back}
use Rattle.task_base.specs.Runners.{sequence_count, seat_of}
use Rattle.task_base.specs.declared.source.TaskSource.TheVariants.{Sequence, Job}
use Rattle.task_traits.specs.Behaviour.{forbids}
use Rattle.task_traits.specs.declared.traits.Priority.{Priority}
use Rattle.list_laws.specs.Lists.{count, holds_of, least}
use Rattle.task_model.specs.Keys.{key_at}
use Rattle.task_model.specs.Refusal.{behaviour_of_job}
use Rattle.task_model.specs.Seats.{all_seats, worker_seats, runs_of}
use Rattle.task_model.specs.Capacity.{priority_of_job, limit, best_limit, is_in, is_best_in}
use Rattle.task_model.specs.Jobs.{items_of, cap_of}
use Rattle.task_model.specs.Sources.{Candidate, goes_before}
use Rattle.situation.specs.Line.{Waiter, Task, OfJob, waits_at}
use Rattle.situation.specs.Situation.{Situation}
use Rattle.log_count.specs.Parts.{priority_in, runs_in, taken_in, scope_in, job_in, reply_in, is_cancelled_in, claimed_in}

-- ---- seats

-- some seat runs a task of the sequence
unfoldable pub runs_sequence_in : Plan → Situation → ℕ → Bool
runs_sequence_in script s q = list_any (λ seat. holds_of (runs_of script q) (runs_in s seat)) (all_seats script)

-- the seats inside a job
unfoldable pub inside_in : Plan → Situation → ℕ → List ℕ
inside_in script s j = filter (λ seat. holds_of (λ job. job == j) (job_in s seat)) (all_seats script)

-- the priority of the pool's work that a seat does
abbrev pub work_in : Plan → Situation → ℕ → Option Priority
work_in script s seat = if is_some (runs_in s seat) then taken_in s seat else option_map (priority_of_job script) (job_in s seat)

-- how many workers do work of such a priority
unfoldable pub load_in : Plan → Situation → (Priority → Bool) → ℕ
load_in script s test = count (λ seat. holds_of test (work_in script s seat)) (worker_seats script)

-- how many workers are blocked in a task of such a priority: their open scope counts
unfoldable pub blocked_in : Plan → Situation → (Priority → Bool) → ℕ
blocked_in script s test = count (λ seat. holds_of test (taken_in s seat) && holds_of (λ from. nat_le from s.now) (scope_in s seat)) (worker_seats script)

-- work of the priority may start
unfoldable pub has_room_for : Plan → Situation → Priority → Bool
has_room_for script s priority =
    nat_lt (load_in script s (is_in script (group_of script priority)))
    (limit script (group_of script priority) + blocked_in script s (is_in script (group_of script priority)))
    && (not (is_best_effort priority)
    || nat_lt (load_in script s (is_best_in script (group_of script priority)))
    (best_limit script (group_of script priority) + blocked_in script s (is_best_in script (group_of script priority))))

-- ---- jobs

-- how many items of the job are done: those that are claimed, but for those that are held
abbrev pub done_in : Plan → Situation → ℕ → ℕ
done_in script s j = claimed_in s j - length (inside_in script s j)

-- a job may be entered
unfoldable pub may_enter_in : Plan → Situation → ℕ → Bool
may_enter_in script s j =
    holds_of (λ ok. ok) (reply_in s j) && not (is_cancelled_in s j) && not (forbids s.phase (behaviour_of_job script j))
    && nat_lt (claimed_in s j) (items_of script j)
    && nat_lt (length (inside_in script s j)) (min (min (cap_of script j) 32) (items_of script j - done_in script s j))

-- ---- what waits

-- how many stand before the first that passes the test
abbrev pub place_of : {A : Type 0} → (A → Bool) → List A → ℕ
place_of test [] = zero
place_of test (x ∷ xs) = if test x then zero else suc (place_of test xs)

-- the runner of a task that waits, and its delay
abbrev pub home_of_waiter : Waiter → ℕ
home_of_waiter (Task task home delay) = home
home_of_waiter (OfJob job) = 0

-- a sequence by the task that stands first of it in the line: its key is its place there
abbrev pub sequence_by : Plan → Situation → ℕ → Waiter → Candidate
sequence_by script s q first = record {
  source = Sequence q;
  priority = priority_in script s (home_of_waiter first);
  inside = 0;
  key = key_at (place_of (waits_at script (Sequence q)) s.line);
  seat = seat_of script (home_of_waiter first);
}

-- a sequence waits where it does not run and one of its tasks stands in the line
abbrev pub sequence_waits_in : Plan → Situation → ℕ → Option Candidate
sequence_waits_in script s q =
    if runs_sequence_in script s q then None else option_map (sequence_by script s q) (find (waits_at script (Sequence q)) s.line)

-- a job waits where it may be entered
abbrev pub job_waits_in : Plan → Situation → ℕ → Option Candidate
job_waits_in script s j =
    if may_enter_in script s j
    then Some (record {
      source = Job j;
      priority = priority_of_job script j;
      inside = length (inside_in script s j);
      key = key_at (place_of (waits_at script (Job j)) s.line);
      seat = None;
    })
    else None

-- the sequences and jobs that wait and are not held back
unfoldable pub waiting_in : Plan → Situation → List Candidate
waiting_in script s =
    filter (λ c. not (is_held_back s.phase s.policy c.priority))
    (filter_map (sequence_waits_in script s) (range_with_len 0 (sequence_count script))
    ++ filter_map (job_waits_in script s) (range_with_len 0 (length script.jobs)))

-- the best source that the seat may take: of the highest priority, then of the fewest inside, then the first in the line
unfoldable pub best_in : Plan → Situation → ℕ → Option Candidate
best_in script s seat =
    least goes_before (filter (λ c. has_room_for script s c.priority && option_map_or (λ only. only == seat) c.seat true) (waiting_in script s))

-- ---- who leaves a job

-- a worker at a job of the priority makes way
abbrev pub makes_way_in : Plan → Situation → Priority → Bool
makes_way_in script s priority =
    nat_le (limit script (group_of script priority) + blocked_in script s (is_in script (group_of script priority)))
    (load_in script s (is_in script (group_of script priority)))
    && list_any (λ c. is_none c.seat && same_group (group_of script c.priority) (group_of script priority)
    && nat_lt (importance priority) (importance c.priority)) (waiting_in script s)

-- the seat leaves the job after the item that it holds
unfoldable pub leaves_in : Plan → Situation → ℕ → ℕ → Bool
leaves_in script s seat j =
    not (nat_lt (claimed_in s j) (items_of script j)) || is_cancelled_in s j || forbids s.phase (behaviour_of_job script j)
    || (nat_lt 0 seat && makes_way_in script s (priority_of_job script j))
