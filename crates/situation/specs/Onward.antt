-- What an entry changes of a situation, part by part.
use Rattle.std.specs.Prelude.{ℕ, ◌+◌, ◌==◌, Bool, true, not, ◌&&◌, nat_lt, nat_le, is_none, if◌then◌else◌, List, [], ◌∷◌, map, filter, Option, Some, None}
use Rattle.std.specs.Option.{option_map}
use Rattle.task_base.specs.Plan.{Plan}
use Rattle.task_base.specs.Groups.{has_come}
use Rattle.task_base.specs.declared.entry.Kind.{Kind}
use Rattle.task_base.specs.declared.entry.Kind.TheVariants as kinds
use Rattle.task_traits.specs.Behaviour.{forbids}
use Rattle.task_traits.specs.declared.phase.Phase.{Phase}
use Rattle.list_laws.specs.Sorts.{insert_by}
use Rattle.task_model.specs.Time.{is_tick_from}
use Rattle.task_model.specs.Posts.{takes}
use Rattle.task_model.specs.Refusal.{effective_at, behaviour_of_job}
use Rattle.task_model.specs.Jobs.{cancels, items_of}
use Rattle.situation.specs.Line.{Waiter, Task, OfJob}
use Rattle.situation.specs.Situation.{Unripe}

-- ---- seats and jobs

-- a moment from which a scope counts, at a later moment: 0 once it has come
abbrev pub once_come : ℕ → ℕ → ℕ
once_come now from = if nat_le from now then 0 else from

-- from when the open scope of a task counts after an entry, if it has one, with the moments before and after the entry
abbrev pub from_after : Plan → ℕ → ℕ → ℕ → Option ℕ → Kind → Option ℕ
from_after script before now t from (kinds.Enter task scope) =
    if task == t
    then Some (if has_come scope (before + script.threshold) now then 0 else before + script.threshold)
    else option_map (once_come now) from
from_after script before now t from (kinds.Leave task) = if task == t then None else option_map (once_come now) from
from_after script before now t from kind = option_map (once_come now) from

-- the job that a seat is inside after an entry of its own
abbrev pub job_after : Option ℕ → Kind → Option ℕ
job_after now (kinds.JobTake job id item) = Some job
job_after now (kinds.JobStep job id item value (Some next)) = Some job
job_after now (kinds.JobStep job id item value None) = None
job_after now kind = now

-- the reply to a job's post after an entry: the first post counts
abbrev pub reply_after : ℕ → Option Bool → Kind → Option Bool
reply_after j None (kinds.JobPost job ok) = if job == j then Some ok else None
reply_after j now kind = now

-- ---- the line

-- a task that stays where it is: the entry doesn't take it, and the phase after it doesn't forbid it
abbrev pub task_stays : Plan → Phase → Kind → ℕ → ℕ → ℕ → Bool
task_stays script phase kind task home delay = not (takes task kind) && not (forbids phase (effective_at script home delay))

-- who stays in the line at an entry, by the phase and the claims after it
abbrev pub stays : Plan → Phase → (ℕ → ℕ) → Kind → Waiter → Bool
stays script phase claims_of kind (Task task home delay) = task_stays script phase kind task home delay
stays script phase claims_of kind (OfJob j) = not (cancels j kind) && not (forbids phase (behaviour_of_job script j)) && nat_lt (claims_of j)
    (items_of script j)

-- a task that was not ripe, as it waits
abbrev pub waiter_of_unripe : Unripe → Waiter
waiter_of_unripe u = Task u.task u.home u.delay

-- who comes into the line at an entry, by its kind, the phase after it, which jobs are open after it, the replies that jobs had
-- before it, and the tasks that were not ripe
abbrev pub coming : Plan → Phase → (ℕ → Bool) → (ℕ → Option Bool) → List Unripe → Kind → List Waiter
coming script phase opened replied unripe (kinds.Post task runner delay true) =
    if nat_lt 0 delay then [] else (if not (forbids phase (effective_at script runner delay)) then Task task runner delay ∷ [] else [])
coming script phase opened replied unripe (kinds.JobPost job ok) =
    if is_none (replied job) && ok then (if opened job then OfJob job ∷ [] else []) else []
coming script phase opened replied unripe (kinds.Tick now) = map waiter_of_unripe (filter (λ u. nat_le u.ripe now) unripe)
coming script phase opened replied unripe kind = []

-- ---- what is not ripe

-- a task that stays unripe at an entry
abbrev pub unripe_stays : Plan → Phase → Kind → Unripe → Bool
unripe_stays script phase kind u = not (is_tick_from u.ripe kind) && task_stays script phase kind u.task u.home u.delay

-- the first becomes ripe at the moment of the second, or before
abbrev pub not_later : Unripe → Unripe → Bool
not_later u v = nat_le u.ripe v.ripe

-- with one more in its place
abbrev pub put_in : Option Unripe → List Unripe → List Unripe
put_in None us = us
put_in (Some u) us = insert_by not_later u us

-- the delayed task that an entry posts, by the moment and the phase
abbrev pub new_unripe : Plan → ℕ → Phase → Kind → Option Unripe
new_unripe script now phase (kinds.Post task runner delay true) =
    if nat_lt 0 delay && not (forbids phase (effective_at script runner delay))
    then Some (record { task = task; home = runner; delay = delay; ripe = now + delay })
    else None
new_unripe script now phase kind = None
