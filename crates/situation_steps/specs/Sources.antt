-- What may be taken, one source at a time.
use Rattle.std.specs.Prelude.{ℕ, ◌==◌, Bool, true, false, not, ◌&&◌, ◌||◌, nat_lt, if◌then◌else◌, Option, Some, None, is_none, slice_get, option_and_then}
use Rattle.std.specs.Option.{option_map_or}
use Rattle.task_base.specs.Groups.{importance, group_of, same_group}
use Rattle.task_base.specs.Keys.{key_below}
use Rattle.task_base.specs.Plan.{Plan}
use Rattle.task_base.specs.Policy.{is_held_back}
use Rattle.task_base.specs.Runners.{seat_of, sequence_count, sequence_of}
use Rattle.task_base.specs.declared.source.TaskSource.{TaskSource}
use Rattle.task_base.specs.declared.source.TaskSource.TheVariants.{Sequence, Job}
use Rattle.task_traits.specs.declared.traits.Priority.{Priority}
use Rattle.list_laws.specs.Lists.{keep}
use Rattle.task_model.specs.Keys.{key_at}
use Rattle.task_model.specs.Sources.{Candidate}
use Rattle.situation.specs.Line.{Waiter, Task, OfJob, waits_at}
use Rattle.situation.specs.Situation.{Situation}
use Rattle.log_count.specs.Parts.{priority_in}
use Rattle.log_count.specs.Sources.{has_room_for, job_waits_in, place_of, runs_sequence_in, sequence_waits_in}

-- the policy does not hold the work back
abbrev pub is_let : Situation → Candidate → Bool
is_let s c = not (is_held_back s.phase s.policy c.priority)

-- the seat may take the work, were it not held back: there is room for it, and it is no other seat's
abbrev pub is_takeable_in : Plan → Situation → ℕ → Candidate → Bool
is_takeable_in script s seat c = has_room_for script s c.priority && option_map_or (λ only. only == seat) c.seat true

-- the work outranks work of the priority: it is of the same group and of higher priority, and of no single-thread runner
abbrev pub outranks_in : Plan → Priority → Candidate → Bool
outranks_in script priority c =
    is_none c.seat && same_group (group_of script c.priority) (group_of script priority) && nat_lt (importance priority) (importance c.priority)

-- the sequence waits, and is not held back
abbrev pub let_sequence : Plan → Situation → ℕ → Option Candidate
let_sequence script s q = keep (is_let s) (sequence_waits_in script s q)

-- the job waits, and is not held back
abbrev pub let_job : Plan → Situation → ℕ → Option Candidate
let_job script s j = keep (is_let s) (job_waits_in script s j)

-- of two that may be there the one that goes before the other; the first where neither does
abbrev pub better_of : {A : Type 0} → (A → A → Bool) → Option A → Option A → Option A
better_of before None second = second
better_of before (Some first) None = Some first
better_of before (Some first) (Some second) = Some (if before second first then second else first)

-- fewer are inside the first, or as many and it is of lesser key
abbrev pub is_sooner : Candidate → Candidate → Bool
is_sooner a b = nat_lt a.inside b.inside || (a.inside == b.inside && key_below a.key b.key)

-- ---- by the line

-- a task that stands at a place, as work of its sequence
abbrev pub stands_as : Plan → Situation → ℕ → Waiter → Option Candidate
stands_as script s place (Task task home delay) =
    if nat_lt (sequence_of script home task) (sequence_count script)
    then Some (record {
      source = Sequence (sequence_of script home task);
      priority = priority_in script s home;
      inside = 0;
      key = key_at place;
      seat = seat_of script home;
    })
    else None
stands_as script s place (OfJob job) = None

-- a seat runs a task of the source
abbrev pub runs_source : Plan → Situation → TaskSource → Bool
runs_source script s (Sequence q) = runs_sequence_in script s q
runs_source script s (Job j) = false

-- work that stands first of its source, of which no task runs
abbrev pub is_first : Plan → Situation → Candidate → Bool
is_first script s c = place_of (waits_at script c.source) s.line == c.key.place && not (runs_source script s c.source)

-- who stands at a place of the line, as work
abbrev pub standing_at : Plan → Situation → ℕ → Option Candidate
standing_at script s place = option_and_then (stands_as script s place) (slice_get s.line place)

-- who stands first of a sequence that does not run, by the place in the line
abbrev pub waits_from : Plan → Situation → ℕ → Option Candidate
waits_from script s place = keep (is_first script s) (standing_at script s place)
