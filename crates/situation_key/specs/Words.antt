-- A situation as a list of numbers, from which it can be told (this project's own notion).
use Rattle.std.specs.Prelude.{ℕ, ◌+◌, List, [], ◌∷◌, ◌++◌, length, flat_map, Option, Some, None}
use Rattle.task_base.specs.Groups.{importance}
use Rattle.task_base.specs.declared.policy.Policy.{Policy}
use Rattle.task_base.specs.declared.policy.Policy.TheVariants as policies
use Rattle.task_traits.specs.declared.phase.Phase.{Phase}
use Rattle.task_traits.specs.declared.phase.Phase.TheVariants as phases
use Rattle.task_traits.specs.declared.traits.Behaviour.{Behaviour}
use Rattle.task_traits.specs.declared.traits.Behaviour.TheVariants as behaviours
use Rattle.task_traits.specs.declared.traits.Priority.{Priority}
use Rattle.pool_laws.specs.Room.{share}
use Rattle.task_model.specs.Seats.{Running}
use Rattle.situation.specs.Line.{Waiter, Task, OfJob}
use Rattle.situation.specs.Situation.{SeatAt, JobAt, Unripe, Situation}

-- ---- numbers of plain values

abbrev pub phase_number : Phase → ℕ
phase_number phases.Running = 0
phase_number phases.Started = 1
phase_number phases.Done = 2

abbrev pub policy_number : Policy → ℕ
policy_number policies.All = 0
policy_number policies.Foreground = 1
policy_number policies.Nothing = 2

abbrev pub behaviour_number : Behaviour → ℕ
behaviour_number behaviours.ContinueOnShutdown = 0
behaviour_number behaviours.SkipOnShutdown = 1
behaviour_number behaviours.BlockShutdown = 2

-- one more than the number of a value, and 0 for none
abbrev pub number_if : {A : Type 0} → (A → ℕ) → Option A → ℕ
number_if number None = 0
number_if number (Some x) = number x + 1

-- ---- the words of the parts

abbrev pub priority_words : Priority → List ℕ
priority_words priority = importance priority ∷ []

abbrev pub running_words : Option Running → List ℕ
running_words None = 0 ∷ 0 ∷ 0 ∷ 0 ∷ []
running_words (Some w) = (w.task + 1) ∷ w.home ∷ w.found ∷ share w.is_main ∷ []

abbrev pub scope_words : Option ℕ → List ℕ
scope_words None = 0 ∷ 0 ∷ []
scope_words (Some from) = 1 ∷ from ∷ []

-- what a seat has beside the task that it runs and the scope of that
abbrev pub seat_rest_words : SeatAt → List ℕ
seat_rest_words x = x.acts ∷ number_if importance x.taken ∷ number_if behaviour_number x.behaviour ∷ number_if (λ job. job) x.job ∷ []

abbrev pub seat_words : SeatAt → List ℕ
seat_words x = running_words x.runs ++ (scope_words x.scope ++ seat_rest_words x)

abbrev pub waiter_words : Waiter → List ℕ
waiter_words (Task task home delay) = 1 ∷ task ∷ home ∷ delay ∷ []
waiter_words (OfJob job) = 0 ∷ job ∷ 0 ∷ 0 ∷ []

abbrev pub unripe_words : Unripe → List ℕ
unripe_words u = u.task ∷ u.home ∷ u.delay ∷ u.ripe ∷ []

abbrev pub job_words : JobAt → List ℕ
job_words x = number_if share x.reply ∷ share x.cancelled ∷ x.claims ∷ []

-- how many there are, and then the words of each
abbrev pub list_words : {A : Type 0} → (A → List ℕ) → List A → List ℕ
list_words words xs = length xs ∷ flat_map words xs

-- ---- all together

-- what a situation has beside its lists
abbrev pub head_words : Situation → List ℕ
head_words s =
    s.driver.left ∷ s.driver.made ∷ s.now ∷ phase_number s.phase ∷ policy_number s.policy ∷ s.blocks ∷ s.skips ∷ []

-- the words of a situation
unfoldable pub key_of : Situation → List ℕ
key_of s =
    head_words s ++ (list_words priority_words s.priorities ++ (list_words seat_words s.seats ++ (list_words waiter_words s.line
    ++ (list_words unripe_words s.unripe ++ (list_words job_words s.jobs ++ list_words (λ value. value ∷ []) s.cells)))))
