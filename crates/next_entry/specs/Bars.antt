-- Why a worker may not take a source, where it may take none.
use Rattle.std.specs.Prelude.{ℕ, ◌==◌, Bool, false, not, nat_lt, if◌then◌else◌, List, length, is_none}
use Rattle.std.specs.Option.{option_map_or}
use Rattle.task_base.specs.Plan.{Plan}
use Rattle.task_base.specs.Runners.{sequence_of}
use Rattle.task_base.specs.declared.entry.Entry.{Entry}
use Rattle.task_base.specs.declared.entry.Kind.{Kind}
use Rattle.task_base.specs.declared.entry.Kind.TheVariants.{JobTake, Take}
use Rattle.task_model.specs.Capacity.{has_room, priority_of, priority_of_job}
use Rattle.task_model.specs.Jobs.{concurrency, has_unclaimed, is_cancelled, is_job_accepted}
use Rattle.task_model.specs.Keys.{key_of}
use Rattle.task_model.specs.Policies.{is_held}
use Rattle.task_model.specs.Posts.{Posted, is_taken}
use Rattle.pool_laws.specs.Posts.{post_of}
use Rattle.task_model.specs.Refusal.{is_forbidden, is_job_forbidden}
use Rattle.task_model.specs.Seats.{inside, runs_sequence}
use Rattle.past_lookup.specs.Runners.{is_others}
use Rattle.next_entry.specs.declared.cause.Bar.{Bar}
use Rattle.next_entry.specs.declared.cause.Bar.TheVariants as bars

-- what is against the take of an accepted task: it was taken, may not start in the phase, or has no key yet; or its sequence
-- runs, is another seat's, or is held back
abbrev pub posted_bar : Plan → List Entry → ℕ → Posted → Bar
posted_bar script past seat p =
    if is_taken past p.task then bars.Taken
    else if is_forbidden script past p then bars.Forbidden
    else if is_none (key_of past p) then bars.Unripe
    else if runs_sequence script past (sequence_of script p.home p.task) then bars.Busy
    else if is_others script seat p.home then bars.OtherSeat
    else if is_held past (priority_of script past p.home) then bars.Held
    else bars.Limit

-- what is against the take of a task of a runner
abbrev pub task_bar : Plan → List Entry → ℕ → ℕ → ℕ → Bar
task_bar script past seat task runner =
    option_map_or (λ p. if p.home == runner then posted_bar script past seat p else bars.Unaccepted) (post_of past task) bars.Unaccepted

-- one more seat may go inside the job
abbrev pub has_place : Plan → List Entry → ℕ → Bool
has_place script past j = nat_lt (length (inside script past j)) (concurrency script past j)

-- what is against the take of an item of a job
abbrev pub job_bar : Plan → List Entry → ℕ → Bar
job_bar script past j =
    if not (is_job_accepted past j) then bars.Unaccepted
    else if is_cancelled past j then bars.Cancelled
    else if is_job_forbidden script past j then bars.Forbidden
    else if not (has_unclaimed script past j) then bars.Claimed
    else if not (has_place script past j) then bars.Full
    else if is_held past (priority_of_job script j) then bars.Held
    else bars.Limit

-- what is against the take of the source that an entry takes, by the first of these that holds; the limits where none does
abbrev pub bar_of : Plan → List Entry → ℕ → Kind → Bar
bar_of script past seat (Take task runner found) = task_bar script past seat task runner
bar_of script past seat (JobTake job id item) = job_bar script past job
bar_of script past seat kind = bars.Unaccepted

-- there is room for the source that an entry takes, by its priority
abbrev pub is_room_for : Plan → List Entry → Kind → Bool
is_room_for script past (Take task runner found) = has_room script past (priority_of script past runner)
is_room_for script past (JobTake job id item) = has_room script past (priority_of_job script job)
is_room_for script past kind = false
