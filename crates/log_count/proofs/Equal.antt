-- The test of situations finds just those that are the same.
-- Cited by `Layers`, `Once`.
use Rattle.std.proofs.Common.{◌≡◌, ℕ, Bool, true, false, eqb, List, [], ◌∷◌, refl, ap, ◌∙◌, Option, Some, None}
use Rattle.std.proofs.lemmas.Bool.{and_parts, and_from, eqb-true, eq-eqb}
use Rattle.task_base.specs.declared.policy.Policy.{Policy}
use Rattle.task_base.specs.declared.policy.Policy.TheVariants as policies
use Rattle.task_traits.specs.declared.phase.Phase.{Phase}
use Rattle.task_traits.specs.declared.phase.Phase.TheVariants as phases
use Rattle.task_traits.specs.declared.traits.Behaviour.{Behaviour}
use Rattle.task_traits.specs.declared.traits.Behaviour.TheVariants as behaviours
use Rattle.task_traits.specs.declared.traits.Priority.{Priority}
use Rattle.task_traits.specs.declared.traits.Priority.TheVariants as priorities
use Rattle.task_model.specs.Seats.{Running}
use Rattle.hist_model.specs.Script.{same_policy}
use Rattle.situation.specs.Line.{Waiter, Task, OfJob}
use Rattle.situation.specs.Situation.{SeatAt, JobAt, Unripe, Situation}
use Rattle.situation.proofs.Onward.Whole.{driver_is, seat_is, situation_is}
use Rattle.log_count.specs.Equal.{same_answer, same_behaviour, same_driver, same_job, same_list, same_number, same_option, same_phase, same_priority, same_seat}
use Rattle.log_count.specs.Equal.{same_situation, same_task, same_unripe, same_waiter}

-- what a test finds the same is the same, and it finds everything the same as itself
record Decides {A : Type 0} (test : A → A → Bool) : Type 0 where
  is : (a b : A) → test a b ≡ true → a ≡ b
  itself : (a : A) → test a a ≡ true

-- ---- lists and options

of_lists : {A : Type 0} (test : A → A → Bool) → Decides test → Decides (same_list test)
of_lists {A = A} test each = record { is = is; itself = itself }
  where
    is : (xs ys : List A) → same_list test xs ys ≡ true → xs ≡ ys
    is [] [] h = refl
    is (x ∷ xs) (y ∷ ys) h =
        let parts = and_parts (test x y) (same_list test xs ys) h in
        ap (λ z. z ∷ xs) (each.is x y parts.0) ∙ ap (λ zs. y ∷ zs) (is xs ys parts.1)
    is [] (y ∷ ys) h = absurd cc
    is (x ∷ xs) [] h = absurd cc

    itself : (xs : List A) → same_list test xs xs ≡ true
    itself [] = refl
    itself (x ∷ xs) = and_from (test x x) (same_list test xs xs) (each.itself x) (itself xs)

of_options : {A : Type 0} (test : A → A → Bool) → Decides test → Decides (same_option test)
of_options {A = A} test each = record { is = is; itself = itself }
  where
    is : (a b : Option A) → same_option test a b ≡ true → a ≡ b
    is None None h = refl
    is (Some x) (Some y) h = ap Some (each.is x y h)
    is None (Some y) h = absurd cc
    is (Some x) None h = absurd cc

    itself : (a : Option A) → same_option test a a ≡ true
    itself None = refl
    itself (Some x) = each.itself x

-- ---- plain values

numbers : Decides same_number
numbers = record { is = eqb-true; itself = λ n. eq-eqb n n refl }

answers : Decides same_answer
answers = record { is = is; itself = itself }
  where
    is : (a b : Bool) → same_answer a b ≡ true → a ≡ b
    is true true h = refl
    is false false h = refl
    is true false h = absurd cc
    is false true h = absurd cc

    itself : (a : Bool) → same_answer a a ≡ true
    itself true = refl
    itself false = refl

of_priorities : Decides same_priority
of_priorities = record { is = is; itself = λ a. eq-eqb _ _ refl }
  where
    is : (a b : Priority) → same_priority a b ≡ true → a ≡ b
    is priorities.BestEffort priorities.BestEffort h = refl
    is priorities.UserVisible priorities.UserVisible h = refl
    is priorities.UserBlocking priorities.UserBlocking h = refl
    is a b h = absurd cc

of_phases : Decides same_phase
of_phases = record { is = is; itself = itself }
  where
    is : (a b : Phase) → same_phase a b ≡ true → a ≡ b
    is phases.Running phases.Running h = refl
    is phases.Started phases.Started h = refl
    is phases.Done phases.Done h = refl
    is a b h = absurd cc

    itself : (a : Phase) → same_phase a a ≡ true
    itself phases.Running = refl
    itself phases.Started = refl
    itself phases.Done = refl

of_policies : Decides same_policy
of_policies = record { is = is; itself = itself }
  where
    is : (a b : Policy) → same_policy a b ≡ true → a ≡ b
    is policies.All policies.All h = refl
    is policies.Foreground policies.Foreground h = refl
    is policies.Nothing policies.Nothing h = refl
    is a b h = absurd cc

    itself : (a : Policy) → same_policy a a ≡ true
    itself policies.All = refl
    itself policies.Foreground = refl
    itself policies.Nothing = refl

of_behaviours : Decides same_behaviour
of_behaviours = record { is = is; itself = itself }
  where
    is : (a b : Behaviour) → same_behaviour a b ≡ true → a ≡ b
    is behaviours.ContinueOnShutdown behaviours.ContinueOnShutdown h = refl
    is behaviours.SkipOnShutdown behaviours.SkipOnShutdown h = refl
    is behaviours.BlockShutdown behaviours.BlockShutdown h = refl
    is a b h = absurd cc

    itself : (a : Behaviour) → same_behaviour a a ≡ true
    itself behaviours.ContinueOnShutdown = refl
    itself behaviours.SkipOnShutdown = refl
    itself behaviours.BlockShutdown = refl

-- ---- the parts of a situation

itself_number : (n : ℕ) → eqb n n ≡ true
itself_number n = eq-eqb n n refl

drivers : Decides same_driver
drivers = record {
  is = λ a b h. let parts = and_parts (eqb a.left b.left) (eqb a.made b.made) h in
      driver_is a b (eqb-true a.left b.left parts.0) (eqb-true a.made b.made parts.1);
  itself = λ a. and_from _ _ (itself_number a.left) (itself_number a.made);
}

of_tasks : Decides same_task
of_tasks = record { is = is; itself = itself }
  where
    is : (a b : Running) → same_task a b ≡ true → a ≡ b
    is a b h =
        let last = and_parts _ (same_answer a.is_main b.is_main) h in
        let third = and_parts _ (eqb a.found b.found) last.0 in
        let first = and_parts (eqb a.task b.task) (eqb a.home b.home) third.0 in
        ap (λ x. record { task = x; home = a.home; found = a.found; is_main = a.is_main }) (eqb-true a.task b.task first.0)
        ∙ ap (λ x. record { task = b.task; home = x; found = a.found; is_main = a.is_main }) (eqb-true a.home b.home first.1)
        ∙ ap (λ x. record { task = b.task; home = b.home; found = x; is_main = a.is_main }) (eqb-true a.found b.found third.1)
        ∙ ap (λ x. record { task = b.task; home = b.home; found = b.found; is_main = x }) (answers.is a.is_main b.is_main last.1)

    itself : (a : Running) → same_task a a ≡ true
    itself a = and_from _ _ (and_from _ _ (and_from _ _ (itself_number a.task) (itself_number a.home)) (itself_number a.found)) (answers.itself a.is_main)

of_seats : Decides same_seat
of_seats = record { is = is; itself = itself }
  where
    is : (a b : SeatAt) → same_seat a b ≡ true → a ≡ b
    is a b h =
        let job = and_parts _ (same_option same_number a.job b.job) h in
        let behaviour = and_parts _ (same_option same_behaviour a.behaviour b.behaviour) job.0 in
        let scope = and_parts _ (same_option same_number a.scope b.scope) behaviour.0 in
        let taken = and_parts _ (same_option same_priority a.taken b.taken) scope.0 in
        let first = and_parts (same_option same_task a.runs b.runs) (eqb a.acts b.acts) taken.0 in
        seat_is a b ((of_options same_task of_tasks).is a.runs b.runs first.0) (eqb-true a.acts b.acts first.1)
        ((of_options same_priority of_priorities).is a.taken b.taken taken.1) ((of_options same_number numbers).is a.scope b.scope scope.1)
        ((of_options same_behaviour of_behaviours).is a.behaviour b.behaviour behaviour.1) ((of_options same_number numbers).is a.job b.job job.1)

    itself : (a : SeatAt) → same_seat a a ≡ true
    itself a = and_from _ _ (and_from _ _ (and_from _ _ (and_from _ _ (and_from _ _ ((of_options same_task of_tasks).itself a.runs) (itself_number a.acts))
        ((of_options same_priority of_priorities).itself a.taken)) ((of_options same_number numbers).itself a.scope))
        ((of_options same_behaviour of_behaviours).itself a.behaviour)) ((of_options same_number numbers).itself a.job)

waiters : Decides same_waiter
waiters = record { is = is; itself = itself }
  where
    is : (a b : Waiter) → same_waiter a b ≡ true → a ≡ b
    is (Task t h d) (Task u i e) same =
        let last = and_parts _ (eqb d e) same in
        let first = and_parts (eqb t u) (eqb h i) last.0 in
        ap (λ x. Task x h d) (eqb-true t u first.0) ∙ ap (λ x. Task u x d) (eqb-true h i first.1) ∙ ap (Task u i) (eqb-true d e last.1)
    is (OfJob j) (OfJob k) same = ap OfJob (eqb-true j k same)
    is (Task t h d) (OfJob k) same = absurd cc
    is (OfJob j) (Task u i e) same = absurd cc

    itself : (a : Waiter) → same_waiter a a ≡ true
    itself (Task t h d) = and_from _ _ (and_from _ _ (itself_number t) (itself_number h)) (itself_number d)
    itself (OfJob j) = itself_number j

unripes : Decides same_unripe
unripes = record { is = is; itself = itself }
  where
    is : (a b : Unripe) → same_unripe a b ≡ true → a ≡ b
    is a b h =
        let last = and_parts _ (eqb a.ripe b.ripe) h in
        let third = and_parts _ (eqb a.delay b.delay) last.0 in
        let first = and_parts (eqb a.task b.task) (eqb a.home b.home) third.0 in
        ap (λ x. record { task = x; home = a.home; delay = a.delay; ripe = a.ripe }) (eqb-true a.task b.task first.0)
        ∙ ap (λ x. record { task = b.task; home = x; delay = a.delay; ripe = a.ripe }) (eqb-true a.home b.home first.1)
        ∙ ap (λ x. record { task = b.task; home = b.home; delay = x; ripe = a.ripe }) (eqb-true a.delay b.delay third.1)
        ∙ ap (λ x. record { task = b.task; home = b.home; delay = b.delay; ripe = x }) (eqb-true a.ripe b.ripe last.1)

    itself : (a : Unripe) → same_unripe a a ≡ true
    itself a = and_from _ _ (and_from _ _ (and_from _ _ (itself_number a.task) (itself_number a.home)) (itself_number a.delay)) (itself_number a.ripe)

of_jobs : Decides same_job
of_jobs = record { is = is; itself = itself }
  where
    is : (a b : JobAt) → same_job a b ≡ true → a ≡ b
    is a b h =
        let last = and_parts _ (eqb a.claims b.claims) h in
        let first = and_parts (same_option same_answer a.reply b.reply) (same_answer a.cancelled b.cancelled) last.0 in
        ap (λ x. record { reply = x; cancelled = a.cancelled; claims = a.claims }) ((of_options same_answer answers).is a.reply b.reply first.0)
        ∙ ap (λ x. record { reply = b.reply; cancelled = x; claims = a.claims }) (answers.is a.cancelled b.cancelled first.1)
        ∙ ap (λ x. record { reply = b.reply; cancelled = b.cancelled; claims = x }) (eqb-true a.claims b.claims last.1)

    itself : (a : JobAt) → same_job a a ≡ true
    itself a = and_from _ _ (and_from _ _ ((of_options same_answer answers).itself a.reply) (answers.itself a.cancelled)) (itself_number a.claims)

-- ---- all together

pub same_is : (a b : Situation) → same_situation a b ≡ true → a ≡ b
unfolding same_situation
same_is a b h =
    let skips = and_parts _ (eqb a.skips b.skips) h in
    let blocks = and_parts _ (eqb a.blocks b.blocks) skips.0 in
    let cells = and_parts _ (same_list same_number a.cells b.cells) blocks.0 in
    let jobs = and_parts _ (same_list same_job a.jobs b.jobs) cells.0 in
    let unripe = and_parts _ (same_list same_unripe a.unripe b.unripe) jobs.0 in
    let line = and_parts _ (same_list same_waiter a.line b.line) unripe.0 in
    let seats = and_parts _ (same_list same_seat a.seats b.seats) line.0 in
    let levels = and_parts _ (same_list same_priority a.priorities b.priorities) seats.0 in
    let policy = and_parts _ (same_policy a.policy b.policy) levels.0 in
    let phase = and_parts _ (same_phase a.phase b.phase) policy.0 in
    let first = and_parts (same_driver a.driver b.driver) (eqb a.now b.now) phase.0 in
    situation_is a b (drivers.is a.driver b.driver first.0) (eqb-true a.now b.now first.1) (of_phases.is a.phase b.phase phase.1)
    (of_policies.is a.policy b.policy policy.1) ((of_lists same_priority of_priorities).is a.priorities b.priorities levels.1)
    ((of_lists same_seat of_seats).is a.seats b.seats seats.1) ((of_lists same_waiter waiters).is a.line b.line line.1)
    ((of_lists same_unripe unripes).is a.unripe b.unripe unripe.1) ((of_lists same_job of_jobs).is a.jobs b.jobs jobs.1)
    ((of_lists same_number numbers).is a.cells b.cells cells.1) (eqb-true a.blocks b.blocks blocks.1) (eqb-true a.skips b.skips skips.1)

pub same_itself : (a : Situation) → same_situation a a ≡ true
unfolding same_situation
same_itself a =
    and_from _ _ (and_from _ _ (and_from _ _ (and_from _ _ (and_from _ _ (and_from _ _ (and_from _ _ (and_from _ _ (and_from _ _ (and_from _ _ (and_from _ _
    (drivers.itself a.driver) (itself_number a.now)) (of_phases.itself a.phase)) (of_policies.itself a.policy))
    ((of_lists same_priority of_priorities).itself a.priorities)) ((of_lists same_seat of_seats).itself a.seats))
    ((of_lists same_waiter waiters).itself a.line)) ((of_lists same_unripe unripes).itself a.unripe)) ((of_lists same_job of_jobs).itself a.jobs))
    ((of_lists same_number numbers).itself a.cells)) (itself_number a.blocks)) (itself_number a.skips)
