-- When two situations are the same, as a test (this project's own notion).
use Rattle.std.specs.Prelude.{ℕ, ◌==◌, Bool, true, false, not, ◌&&◌, if◌then◌else◌, List, [], ◌∷◌, Option, Some, None}
use Rattle.task_base.specs.Groups.{importance}
use Rattle.task_traits.specs.declared.phase.Phase.{Phase}
use Rattle.task_traits.specs.declared.phase.Phase.TheVariants as phases
use Rattle.task_traits.specs.declared.traits.Behaviour.{Behaviour}
use Rattle.task_traits.specs.declared.traits.Behaviour.TheVariants as behaviours
use Rattle.task_traits.specs.declared.traits.Priority.{Priority}
use Rattle.task_model.specs.Seats.{Running}
use Rattle.hist_model.specs.Script.{same_policy}
use Rattle.situation.specs.Line.{Waiter, Task, OfJob}
use Rattle.situation.specs.Situation.{DriverAt, SeatAt, JobAt, Unripe, Situation}

-- ---- lists and options, by a test of their elements

abbrev pub same_list : {A : Type 0} → (A → A → Bool) → List A → List A → Bool
same_list same [] [] = true
same_list same (x ∷ xs) (y ∷ ys) = same x y && same_list same xs ys
same_list same xs ys = false

abbrev pub same_option : {A : Type 0} → (A → A → Bool) → Option A → Option A → Bool
same_option same None None = true
same_option same (Some x) (Some y) = same x y
same_option same a b = false

-- ---- plain values

abbrev pub same_number : ℕ → ℕ → Bool
same_number a b = a == b

abbrev pub same_answer : Bool → Bool → Bool
same_answer a b = if a then b else not b

abbrev pub same_priority : Priority → Priority → Bool
same_priority a b = importance a == importance b

abbrev pub same_phase : Phase → Phase → Bool
same_phase phases.Running phases.Running = true
same_phase phases.Started phases.Started = true
same_phase phases.Done phases.Done = true
same_phase a b = false

abbrev pub same_behaviour : Behaviour → Behaviour → Bool
same_behaviour behaviours.ContinueOnShutdown behaviours.ContinueOnShutdown = true
same_behaviour behaviours.SkipOnShutdown behaviours.SkipOnShutdown = true
same_behaviour behaviours.BlockShutdown behaviours.BlockShutdown = true
same_behaviour a b = false

-- ---- the parts of a situation

abbrev pub same_driver : DriverAt → DriverAt → Bool
same_driver a b = a.left == b.left && a.made == b.made

abbrev pub same_task : Running → Running → Bool
same_task a b = a.task == b.task && a.home == b.home && a.found == b.found && same_answer a.is_main b.is_main

abbrev pub same_seat : SeatAt → SeatAt → Bool
same_seat a b =
    same_option same_task a.runs b.runs && a.acts == b.acts && same_option same_priority a.taken b.taken && same_option same_number a.scope b.scope
    && same_option same_behaviour a.behaviour b.behaviour && same_option same_number a.job b.job

abbrev pub same_waiter : Waiter → Waiter → Bool
same_waiter (Task t h d) (Task u i e) = t == u && h == i && d == e
same_waiter (OfJob j) (OfJob k) = j == k
same_waiter a b = false

abbrev pub same_unripe : Unripe → Unripe → Bool
same_unripe a b = a.task == b.task && a.home == b.home && a.delay == b.delay && a.ripe == b.ripe

abbrev pub same_job : JobAt → JobAt → Bool
same_job a b = same_option same_answer a.reply b.reply && same_answer a.cancelled b.cancelled && a.claims == b.claims

-- ---- all together

unfoldable pub same_situation : Situation → Situation → Bool
same_situation a b =
    same_driver a.driver b.driver && a.now == b.now && same_phase a.phase b.phase && same_policy a.policy b.policy
    && same_list same_priority a.priorities b.priorities && same_list same_seat a.seats b.seats && same_list same_waiter a.line b.line
    && same_list same_unripe a.unripe b.unripe && same_list same_job a.jobs b.jobs && same_list same_number a.cells b.cells
    && a.blocks == b.blocks && a.skips == b.skips
