-- Two situations that have the same words are the same.
-- Cited by `told.rt`.
use Rattle.std.proofs.Common.{◌≡◌, ℕ, ◌+◌, true, false, List, [], ◌∷◌, ◌++◌, length, refl, sym, ap, ◌∙◌, Some, None, append_assoc, arith}
use Rattle.std.specs.Prelude.{flat_map}
use Rattle.std.proofs.lemmas.List.{append-nil}
use Rattle.task_base.specs.Groups.{importance}
use Rattle.task_base.specs.declared.policy.Policy.TheVariants as policies
use Rattle.task_traits.specs.declared.phase.Phase.TheVariants as phases
use Rattle.task_traits.specs.declared.traits.Behaviour.TheVariants as behaviours
use Rattle.task_traits.specs.declared.traits.Priority.TheVariants as priorities
use Rattle.pool_laws.specs.Room.{share}
use Rattle.situation.specs.Line.{Task, OfJob}
use Rattle.situation.specs.Situation.{Situation}
use Rattle.situation.proofs.Onward.Whole.{driver_is, seat_is, situation_is}
use Rattle.situation_key.specs.Words.{behaviour_number, job_words, key_of, list_words, number_if, phase_number, policy_number, priority_words}
use Rattle.situation_key.specs.Words.{running_words, scope_words, seat_rest_words, seat_words, unripe_words, waiter_words}

-- what is told by its number
abbrev ToldBy : {A : Type 0} → (A → ℕ) → Type 0
ToldBy {A = A} number = (a b : A) → number a ≡ number b → a ≡ b

-- what is told by its words, whatever words follow
record IsTold {A : Type 0} (words : A → List ℕ) (a b : A) (us vs : List ℕ) : Type 0 where
  same : a ≡ b
  rest : us ≡ vs

abbrev ToldFirst : {A : Type 0} → (A → List ℕ) → Type 0
ToldFirst {A = A} words = (a b : A) (us vs : List ℕ) → words a ++ us ≡ words b ++ vs → IsTold words a b us vs

-- ---- plain values

phase_told : ToldBy phase_number
phase_told phases.Running phases.Running h = refl
phase_told phases.Started phases.Started h = refl
phase_told phases.Done phases.Done h = refl
phase_told a b h = absurd (omega (arith, h))

policy_told : ToldBy policy_number
policy_told policies.All policies.All h = refl
policy_told policies.Foreground policies.Foreground h = refl
policy_told policies.Nothing policies.Nothing h = refl
policy_told a b h = absurd (omega (arith, h))

behaviour_told : ToldBy behaviour_number
behaviour_told behaviours.ContinueOnShutdown behaviours.ContinueOnShutdown h = refl
behaviour_told behaviours.SkipOnShutdown behaviours.SkipOnShutdown h = refl
behaviour_told behaviours.BlockShutdown behaviours.BlockShutdown h = refl
behaviour_told a b h = absurd (omega (arith, h))

priority_told : ToldBy importance
priority_told priorities.BestEffort priorities.BestEffort h = refl
priority_told priorities.UserVisible priorities.UserVisible h = refl
priority_told priorities.UserBlocking priorities.UserBlocking h = refl
priority_told a b h = absurd (omega (arith, h))

answer_told : ToldBy share
answer_told true true h = refl
answer_told false false h = refl
answer_told true false h = absurd (omega (arith, h))
answer_told false true h = absurd (omega (arith, h))

option_told : {A : Type 0} (number : A → ℕ) → ToldBy number → ToldBy (number_if number)
option_told number told None None h = refl
option_told number told (Some a) (Some b) h = ap Some (told a b (omega (arith, h)))
option_told number told None (Some b) h = absurd (omega (arith, h))
option_told number told (Some a) None h = absurd (omega (arith, h))

-- ---- lists

elements_told : {A : Type 0} (words : A → List ℕ) → ToldFirst words → (xs ys : List A) (us vs : List ℕ) → length xs ≡ length ys
    → flat_map words xs ++ us ≡ flat_map words ys ++ vs → (xs ≡ ys) × (us ≡ vs)
elements_told words told [] [] us vs long h = (refl, h)
elements_told words told (x ∷ xs) (y ∷ ys) us vs long h =
    let first = told x y (flat_map words xs ++ us) (flat_map words ys ++ vs)
    (sym (append_assoc (words x) (flat_map words xs) us) ∙ h ∙ append_assoc (words y) (flat_map words ys) vs) in
    let others = elements_told words told xs ys us vs (omega (arith, long)) first.rest in
    (ap (λ z. z ∷ xs) first.same ∙ ap (λ zs. y ∷ zs) others.0, others.1)
elements_told words told [] (y ∷ ys) us vs long h = absurd (omega (arith, long))
elements_told words told (x ∷ xs) [] us vs long h = absurd (omega (arith, long))

list_told : {A : Type 0} (words : A → List ℕ) → ToldFirst words → ToldFirst (list_words words)
list_told words told xs ys us vs h =
    let long : length xs ≡ length ys = cc in
    let others : flat_map words xs ++ us ≡ flat_map words ys ++ vs = cc in
    let both = elements_told words told xs ys us vs long others in
    record { same = both.0; rest = both.1 }

-- ---- the parts

priority_first : ToldFirst priority_words
priority_first a b us vs h =
    let number : importance a ≡ importance b = cc in
    record { same = priority_told a b number; rest = cc }

cell_first : ToldFirst (λ (value : ℕ). value ∷ [])
cell_first a b us vs h = record { same = cc; rest = cc }

running_first : ToldFirst running_words
running_first None None us vs h = record { same = refl; rest = cc }
running_first (Some v) (Some w) us vs h =
    let next : v.task + 1 ≡ w.task + 1 = cc in
    let task : v.task ≡ w.task = omega (arith, next) in
    let home : v.home ≡ w.home = cc in
    let found : v.found ≡ w.found = cc in
    let main : share v.is_main ≡ share w.is_main = cc in
    record {
      same = ap (λ x. Some (record { task = x; home = v.home; found = v.found; is_main = v.is_main })) task
          ∙ ap (λ x. Some (record { task = w.task; home = x; found = v.found; is_main = v.is_main })) home
          ∙ ap (λ x. Some (record { task = w.task; home = w.home; found = x; is_main = v.is_main })) found
          ∙ ap (λ x. Some (record { task = w.task; home = w.home; found = w.found; is_main = x })) (answer_told v.is_main w.is_main main);
      rest = cc;
    }
running_first None (Some w) us vs h = let none : 0 ≡ w.task + 1 = cc in absurd (omega (arith, none))
running_first (Some v) None us vs h = let none : v.task + 1 ≡ 0 = cc in absurd (omega (arith, none))

scope_first : ToldFirst scope_words
scope_first None None us vs h = record { same = refl; rest = cc }
scope_first (Some m) (Some n) us vs h = record { same = cc; rest = cc }
scope_first None (Some n) us vs h = absurd cc
scope_first (Some m) None us vs h = absurd cc

seat_first : ToldFirst seat_words
seat_first a b us vs h =
    let runs = running_first a.runs b.runs ((scope_words a.scope ++ seat_rest_words a) ++ us) ((scope_words b.scope ++ seat_rest_words b) ++ vs)
    (sym (append_assoc (running_words a.runs) (scope_words a.scope ++ seat_rest_words a) us) ∙ h
    ∙ append_assoc (running_words b.runs) (scope_words b.scope ++ seat_rest_words b) vs) in
    let scope = scope_first a.scope b.scope (seat_rest_words a ++ us) (seat_rest_words b ++ vs)
    (sym (append_assoc (scope_words a.scope) (seat_rest_words a) us) ∙ runs.rest ∙ append_assoc (scope_words b.scope) (seat_rest_words b) vs) in
    let others : seat_rest_words a ++ us ≡ seat_rest_words b ++ vs = scope.rest in
    let acts : a.acts ≡ b.acts = cc in
    let taken : number_if importance a.taken ≡ number_if importance b.taken = cc in
    let behaviour : number_if behaviour_number a.behaviour ≡ number_if behaviour_number b.behaviour = cc in
    let job : number_if (λ n. n) a.job ≡ number_if (λ n. n) b.job = cc in
    record {
      same = seat_is a b runs.same acts (option_told importance priority_told a.taken b.taken taken) scope.same
          (option_told behaviour_number behaviour_told a.behaviour b.behaviour behaviour) (option_told (λ n. n) (λ m n e. e) a.job b.job job);
      rest = cc;
    }

waiter_first : ToldFirst waiter_words
waiter_first (Task t h d) (Task u i e) us vs same =
    let task : t ≡ u = cc in
    let home : h ≡ i = cc in
    let delay : d ≡ e = cc in
    record { same = ap (λ x. Task x h d) task ∙ ap (λ x. Task u x d) home ∙ ap (Task u i) delay; rest = cc }
waiter_first (OfJob j) (OfJob k) us vs same = let job : j ≡ k = cc in record { same = ap OfJob job; rest = cc }
waiter_first (Task t h d) (OfJob k) us vs same = absurd cc
waiter_first (OfJob j) (Task u i e) us vs same = absurd cc

unripe_first : ToldFirst unripe_words
unripe_first a b us vs h =
    let task : a.task ≡ b.task = cc in
    let home : a.home ≡ b.home = cc in
    let delay : a.delay ≡ b.delay = cc in
    let ripe : a.ripe ≡ b.ripe = cc in
    record {
      same = ap (λ x. record { task = x; home = a.home; delay = a.delay; ripe = a.ripe }) task
          ∙ ap (λ x. record { task = b.task; home = x; delay = a.delay; ripe = a.ripe }) home
          ∙ ap (λ x. record { task = b.task; home = b.home; delay = x; ripe = a.ripe }) delay
          ∙ ap (λ x. record { task = b.task; home = b.home; delay = b.delay; ripe = x }) ripe;
      rest = cc;
    }

job_first : ToldFirst job_words
job_first a b us vs h =
    let reply : number_if share a.reply ≡ number_if share b.reply = cc in
    let cancelled : share a.cancelled ≡ share b.cancelled = cc in
    let claims : a.claims ≡ b.claims = cc in
    record {
      same = ap (λ x. record { reply = x; cancelled = a.cancelled; claims = a.claims }) (option_told share answer_told a.reply b.reply reply)
          ∙ ap (λ x. record { reply = b.reply; cancelled = x; claims = a.claims }) (answer_told a.cancelled b.cancelled cancelled)
          ∙ ap (λ x. record { reply = b.reply; cancelled = b.cancelled; claims = x }) claims;
      rest = cc;
    }

-- ---- all together

pub told_by_key : (a b : Situation) → key_of a ≡ key_of b → a ≡ b
unfolding key_of
told_by_key a b h =
    let left : a.driver.left ≡ b.driver.left = cc in
    let made : a.driver.made ≡ b.driver.made = cc in
    let now : a.now ≡ b.now = cc in
    let phase : phase_number a.phase ≡ phase_number b.phase = cc in
    let policy : policy_number a.policy ≡ policy_number b.policy = cc in
    let blocks : a.blocks ≡ b.blocks = cc in
    let skips : a.skips ≡ b.skips = cc in
    let levels = list_told priority_words priority_first a.priorities b.priorities (behind_priorities a) (behind_priorities b) cc in
    let seats = list_told seat_words seat_first a.seats b.seats (behind_seats a) (behind_seats b) levels.rest in
    let line = list_told waiter_words waiter_first a.line b.line (behind_line a) (behind_line b) seats.rest in
    let unripe = list_told unripe_words unripe_first a.unripe b.unripe (behind_unripe a) (behind_unripe b) line.rest in
    let jobs = list_told job_words job_first a.jobs b.jobs (cell_words a) (cell_words b) unripe.rest in
    let cells = list_told (λ (value : ℕ). value ∷ []) cell_first a.cells b.cells [] []
    (append-nil (cell_words a) ∙ jobs.rest ∙ sym (append-nil (cell_words b))) in
    situation_is a b (driver_is a.driver b.driver left made) now (phase_told a.phase b.phase phase) (policy_told a.policy b.policy policy)
    levels.same seats.same line.same unripe.same jobs.same cells.same blocks skips
  where
    cell_words : Situation → List ℕ
    cell_words s = list_words (λ (value : ℕ). value ∷ []) s.cells

    behind_unripe : Situation → List ℕ
    behind_unripe s = list_words job_words s.jobs ++ cell_words s

    behind_line : Situation → List ℕ
    behind_line s = list_words unripe_words s.unripe ++ behind_unripe s

    behind_seats : Situation → List ℕ
    behind_seats s = list_words waiter_words s.line ++ behind_line s

    behind_priorities : Situation → List ℕ
    behind_priorities s = list_words seat_words s.seats ++ behind_seats s
