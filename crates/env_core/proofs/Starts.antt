-- The driver posts each job once, and before it joins or cancels it.
-- Cited by `JobCalls`, `JobEntries`.
use Rattle.hist_model.proofs.Laws.Agenda.{agenda_push, current_is_first}
use Rattle.hist_model.proofs.Laws.Choice.{found}
use Rattle.hist_model.proofs.Laws.JobEntries.{none_is}
use Rattle.hist_model.proofs.Laws.Legal.{legal_induction}
use Rattle.hist_model.proofs.Laws.Open.{closed_enters, closed_leaves, closed_main, closed_post}
use Rattle.hist_model.proofs.Laws.OneThing.{job_step_holds, legal_does_one_thing, wanted_by}
use Rattle.hist_model.proofs.Laws.Own.{own_entries_push}
use Rattle.hist_model.proofs.Laws.Takes.{by_driver, end_is, job_take_is, main_end_is, take_is}
use Rattle.hist_model.specs.Allowed.{IsAllowed, by_script, by_task, enters, may_come}
use Rattle.hist_model.specs.Laws.Agenda.{agenda, agenda_from, completes, first_of, next_agenda}
use Rattle.hist_model.specs.Laws.Consistent.{DoesOneThing, is_join, is_pump}
use Rattle.hist_model.specs.Legal.{IsLegal}
use Rattle.hist_model.specs.Open.{IsClosed}
use Rattle.hist_model.specs.Script.{Current, behind_action, current, wants}
use Rattle.hist_model.specs.Views.{own_entries}
use Rattle.list_laws.proofs.Counts.{count-append, count-cons}
use Rattle.list_laws.proofs.Places.{count-push, none_from_count, slice_get_seam}
use Rattle.list_laws.specs.Lists.{count, holds_of}
use Rattle.script_model.specs.Draft.{is_start_of}
use Rattle.script_model.specs.Laws.Sound.{IsInOrder, IsSound}
use Rattle.std.proofs.Common.{Bool, List, None, Option, Some, [], ap, arith, cond, eqb, false, leb, length, refl, subst, sym, take, true, zero, ℕ}
use Rattle.std.proofs.Common.{inl, inr, ⊎_elim, ◌⊎◌, ◌++◌, ◌+◌, ◌∙◌, ◌∷◌, ◌≡◌, ◌≤◌}
use Rattle.std.proofs.Math.Bool.{or-true}
use Rattle.std.proofs.Math.Seq.{take-append_seam}
use Rattle.std.proofs.lemmas.Bool.{and_parts, cond-true, eq-eqb, eqb-false, eqb-true, ne_eqb, or_cases, true≢false}
use Rattle.std.proofs.lemmas.Option.{none-some, same_Some}
use Rattle.std.specs.List.{list_any}
use Rattle.std.specs.Option.{option_map_or}
use Rattle.std.specs.Prelude.{is_none, slice_get, ◌||◌}
use Rattle.task_base.specs.Plan.{Plan}
use Rattle.task_base.specs.declared.entry.Entry.{Entry}
use Rattle.task_base.specs.declared.entry.Kind.{Kind}
use Rattle.task_base.specs.declared.script.Action.{Action}
use Rattle.task_model.proofs.Growth.{job_post_of_push}
use Rattle.task_model.specs.Jobs.{JobPosted, job_post_after, job_post_of}
use Rattle.task_model.specs.Past.{fold_past}
use Rattle.task_model.specs.Seats.{Holding, Running, holding, next_act, running}
use Rattle.task_base.specs.declared.entry.Kind.TheVariants as kinds
use Rattle.task_base.specs.declared.script.Action.TheVariants as actions

-- the entry posts the job
abbrev pub posts_job : ℕ → Kind → Bool
posts_job j (kinds.JobPost job ok) = eqb job j
posts_job j kind = false

-- how often the job was posted
abbrev pub job_posts : List Entry → ℕ → ℕ
job_posts past j = count (λ e. posts_job j e.kind) past

-- how often the actions that the driver has left start the job
abbrev pub starts_left : Plan → List Entry → ℕ → ℕ
starts_left script past j = count (is_start_of j) (agenda script (own_entries 0 past)).actions

-- the driver is at the start of the job
abbrev pub starts_now : Plan → List Entry → ℕ → Bool
starts_now script past j = holds_of (λ c. is_start_of j c.action) (current script (own_entries 0 past))

-- Each entry of the driver is by the script, or of a task or an item.

-- the entry is one that a task makes, or its end, or the end of an item
abbrev pub is_of_work : Kind → Bool
is_of_work (kinds.Post task runner delay ok) = true
is_of_work (kinds.Main task queue delay ok) = true
is_of_work (kinds.Enter task scope) = true
is_of_work (kinds.Leave task) = true
is_of_work (kinds.End task left) = true
is_of_work (kinds.MainEnd task left) = true
is_of_work (kinds.JobStep job id item value next) = true
is_of_work kind = false

-- the action runs main tasks, or joins a job
abbrev pub is_busy : Action → Bool
is_busy action = is_pump action || is_join action

-- the driver is at a pump or a join, and the entry is of the task that it runs or of the item that it holds
pub record IsAtWork (script : Plan) (past : List Entry) (kind : Kind) : Type 0 where
  pub now : Current
  pub is : current script (own_entries 0 past) ≡ Some now
  pub busy : is_busy now.action ≡ true
  pub of_work : is_of_work kind ≡ true

-- a driver that runs a task is at a pump, and one that holds an item at a join
runs_at : (script : Plan) (past : List Entry) (kind : Kind) (w : Running) → IsClosed script → DoesOneThing script past → is_of_work kind ≡ true
    → running past 0 ≡ Some w → IsAtWork script past kind
runs_at script past kind w closed d of runs =
    let (c, is, pump) = d.pumps closed w runs in record { now = c; is = is; busy = rw pump refl; of_work = of }

holds_at : (script : Plan) (past : List Entry) (kind : Kind) (h : Holding) → IsClosed script → DoesOneThing script past → is_of_work kind ≡ true
    → holding past 0 ≡ Some h → IsAtWork script past kind
holds_at script past kind h closed d of holds =
    let (c, is, join) = d.joins closed h holds in record { now = c; is = is; busy = rw join (or-true (is_pump c.action)); of_work = of }

task_at : (script : Plan) (past : List Entry) (kind : Kind) → IsClosed script → DoesOneThing script past → is_of_work kind ≡ true
    → by_task script past 0 kind ≡ true → IsAtWork script past kind
unfolding by_task
task_at script past kind closed d of h =
    let w = found (λ (w : Running). holds_of (λ step. enters w.task step kind) (next_act script past 0)) (running past 0) h in
    runs_at script past kind w.value closed d of w.is

pub driver_entry : (script : Plan) (past : List Entry) (kind : Kind) → IsClosed script → DoesOneThing script past → may_come script past 0 kind ≡ true
    → (by_script script past 0 kind ≡ true) ⊎ IsAtWork script past kind
unfolding may_come
driver_entry script past kind closed d may = by_kind kind may
  where
    no_worker : 1 ≤ 0 → ⊥
    no_worker low = omega (arith, low)

    either : (k : Kind) → is_of_work k ≡ true → (by_script script past 0 k || by_task script past 0 k) ≡ true
        → (by_script script past 0 k ≡ true) ⊎ IsAtWork script past k
    either k of h = ⊎_elim inl (λ task. inr (task_at script past k closed d of task)) (or_cases _ _ h)

    by_kind : (k : Kind) → may_come script past 0 k ≡ true → (by_script script past 0 k ≡ true) ⊎ IsAtWork script past k
    by_kind (kinds.Post task runner delay ok) h = either (kinds.Post task runner delay ok) refl
        (and_parts _ _ (sym (closed_post script past 0 task runner delay ok closed) ∙ h)).0
    by_kind (kinds.Main task queue delay ok) h = either (kinds.Main task queue delay ok) refl
        (and_parts _ _ (sym (closed_main script past 0 task queue delay ok closed) ∙ h)).0
    by_kind (kinds.Tick now) h = inl (and_parts _ _ (and_parts _ _ h).0).0
    by_kind (kinds.Take task runner value) h = absurd (no_worker (take_is script past 0 task runner value h).worker)
    by_kind (kinds.End task left) h = let w = end_is script past 0 task left h in
        inr (runs_at script past (kinds.End task left) w.0 closed d refl w.1)
    by_kind (kinds.Enter task scope) h = inr (task_at script past (kinds.Enter task scope) closed d refl
        (sym (closed_enters script past 0 task scope closed) ∙ h))
    by_kind (kinds.Leave task) h = inr (task_at script past (kinds.Leave task) closed d refl (sym (closed_leaves script past 0 task closed) ∙ h))
    by_kind (kinds.MainTake task queue value) h = inl (and_parts _ _ (and_parts _ _ h).0).0
    by_kind (kinds.MainEnd task left) h = let w = main_end_is script past 0 task left h in
        inr (runs_at script past (kinds.MainEnd task left) w.0 closed d refl w.1)
    by_kind kinds.MainNone h = inl (and_parts _ _ h).0
    by_kind (kinds.JobPost job ok) h = inl (and_parts _ _ h).0
    by_kind (kinds.JobTake job id item) h = ⊎_elim (λ k. absurd (no_worker k.0.worker)) (λ k. inl k.0) (job_take_is script past 0 job id item h)
    by_kind (kinds.JobStep job id item value next) h =
        let held = job_step_holds script past 0 job id item value next h in
        inr (holds_at script past (kinds.JobStep job id item value next) held.0 closed d refl held.1)
    by_kind (kinds.Cancelled job) h = inl (and_parts _ _ (and_parts _ _ h).0).0
    by_kind (kinds.Joined job reply) h = inl (and_parts _ _ (and_parts _ _ h).0).0
    by_kind kinds.Idle h = inl (and_parts _ _ (and_parts _ _ h).0).0
    by_kind kinds.Done h = inl (and_parts _ _ (and_parts _ _ h).0).0
    by_kind k h = inl h

-- An entry of the driver posts a job exactly where the driver is at the start of it.

-- an action wants the post of a job exactly where it starts the job
wanted_starts : (j : ℕ) (own : List Entry) (x : Action) (made : List Entry) (kind : Kind) → wants own x made kind ≡ true → posts_job j kind ≡ is_start_of j x
wanted_starts j own (actions.StartJob i) made (kinds.JobPost job ok) h = ap (λ n. eqb n j) (eqb-true job i h)
wanted_starts j own (actions.StartJob i) made kind h = absurd cc
wanted_starts j own x made (kinds.JobPost job ok) h = absurd cc
wanted_starts j own x made kind h = refl

by_script_starts : (script : Plan) (past : List Entry) (seat j : ℕ) (kind : Kind) → IsClosed script → by_script script past seat kind ≡ true
    → posts_job j kind ≡ starts_now script past j
by_script_starts script past seat j kind closed h =
    let c = wanted_by script past seat kind closed h in
    rw (c.is) (wanted_starts j (own_entries 0 past) c.value.action c.value.made kind c.passes)

-- a pump starts no job, and a join none
busy_starts : (j : ℕ) (x : Action) → is_busy x ≡ true → is_start_of j x ≡ false
busy_starts j (actions.StartJob i) h = absurd cc
busy_starts j x h = refl

-- what is of a task or of an item posts no job
work_posts : (j : ℕ) (kind : Kind) → is_of_work kind ≡ true → posts_job j kind ≡ false
work_posts j (kinds.JobPost job ok) h = absurd cc
work_posts j kind h = refl

driver_starts : (script : Plan) (past : List Entry) (j : ℕ) (kind : Kind) → IsClosed script → DoesOneThing script past → may_come script past 0 kind ≡ true
    → posts_job j kind ≡ starts_now script past j
driver_starts script past j kind closed d may = ⊎_elim (by_script_starts script past 0 j kind closed)
    (λ w. rw (w.is, busy_starts j w.now.action w.busy) (work_posts j kind w.of_work)) (driver_entry script past kind closed d may)

-- a worker posts no job
worker_posts : (script : Plan) (past : List Entry) (seat j : ℕ) (kind : Kind) → may_come script past seat kind ≡ true → eqb seat 0 ≡ false
    → posts_job j kind ≡ false
unfolding may_come
worker_posts script past seat j (kinds.JobPost job ok) h other =
    absurd (eqb-false seat 0 other (by_driver script past seat (kinds.JobPost job ok) (and_parts _ _ h).0))
worker_posts script past seat j kind h other = refl

-- What was posted and what is left to be started are together the script's starts.

-- an agenda that begins anew leaves out no start
fresh_starts : (j : ℕ) (xs : List Action) → count (is_start_of j) (agenda_from xs []).actions ≡ count (is_start_of j) xs
fresh_starts j [] = refl
fresh_starts j (actions.Tick zero ∷ xs) = fresh_starts j xs
fresh_starts j (x ∷ xs) = refl

-- what goes on starts no job: a start is complete with its first entry
goes_on_starts : (j : ℕ) (x : Action) (made : List Entry) (kind : Kind) → completes x made kind ≡ false → is_start_of j x ≡ false
goes_on_starts j (actions.StartJob i) made kind h = absurd cc
goes_on_starts j x made kind h = refl

next_starts : (j : ℕ) (xs : List Action) (made : List Entry) (e : Entry)
    → posts_job j e.kind ≡ holds_of (λ c. is_start_of j c.action) (first_of xs made)
    → cond (posts_job j e.kind) 1 0 + count (is_start_of j) (next_agenda xs made e).actions ≡ count (is_start_of j) xs
next_starts j [] made e same = rw same (omega arith)
next_starts j (x ∷ xs) made e same = rw same (by_completes (completes x made e.kind) refl)
  where
    by_completes : (b : Bool) → completes x made e.kind ≡ b
        → cond (is_start_of j x) 1 0 + count (is_start_of j) (cond b (agenda_from xs []) (record { actions = x ∷ xs; made = made ++ e ∷ [] })).actions
        ≡ count (is_start_of j) (x ∷ xs)
    by_completes true is = omega (arith, fresh_starts j xs, count-cons (is_start_of j) x xs)
    by_completes false is = rw (goes_on_starts j x made e.kind is) (omega arith)

-- how often a job was posted and is left to be started
law_next : (script : Plan) (past : List Entry) (e : Entry) (j : ℕ) → IsClosed script → IsLegal script past → IsAllowed script past e
    → cond (posts_job j e.kind) 1 0 + starts_left script (past ++ e ∷ []) j ≡ starts_left script past j
law_next script past e j closed legal allowed = by_seat (eqb e.seat 0) refl
  where
    own : List Entry
    own = own_entries 0 past

    may : may_come script past e.seat e.kind ≡ true
    may = (and_parts (leb e.seat script.workers) (may_come script past e.seat e.kind) allowed).1

    posts_here : e.seat ≡ 0 → posts_job j e.kind ≡ starts_now script past j
    posts_here driver = driver_starts script past j e.kind closed (legal_does_one_thing script past legal)
        (subst (λ s. may_come script past s e.kind ≡ true) driver may)

    by_seat : (b : Bool) → eqb e.seat 0 ≡ b → cond (posts_job j e.kind) 1 0 + starts_left script (past ++ e ∷ []) j ≡ starts_left script past j
    by_seat false other = rw (own_entries_push past e 0, other, worker_posts script past e.seat j e.kind may other) (omega arith)
    by_seat true driver = rw (own_entries_push past e 0, driver, agenda_push script own e)
        (next_starts j (agenda script own).actions (agenda script own).made e
        (posts_here (eqb-true e.seat 0 driver) ∙ ap (holds_of (λ c. is_start_of j c.action)) (current_is_first script own)))

-- the posts of a job and the starts of it that the driver has left are together those of the script
pub posts_and_starts : (script : Plan) (past : List Entry) (j : ℕ) → IsClosed script → IsLegal script past
    → job_posts past j + starts_left script past j ≡ count (is_start_of j) script.actions
unfolding agenda
posts_and_starts script past j closed = legal_induction script
    (λ before. job_posts before j + starts_left script before j ≡ count (is_start_of j) script.actions) nothing next past
  where
    nothing : job_posts [] j + starts_left script [] j ≡ count (is_start_of j) script.actions
    nothing = omega (arith, fresh_starts j script.actions)

    next : (before : List Entry) (e : Entry) → IsLegal script before → IsAllowed script before e
        → job_posts before j + starts_left script before j ≡ count (is_start_of j) script.actions
        → job_posts (before ++ e ∷ []) j + starts_left script (before ++ e ∷ []) j ≡ count (is_start_of j) script.actions
    next before e legal allowed known =
        omega (arith, known, count-push (λ x. posts_job j x.kind) before e, law_next script before e j closed legal allowed)

-- a job has no post exactly where it was not posted
pub no_post_is : (script : Plan) (past : List Entry) (j : ℕ) → IsLegal script past → is_none (job_post_of past j) ≡ eqb (job_posts past j) 0
unfolding job_post_of fold_past
no_post_is script past j = legal_induction script (λ before. is_none (job_post_of before j) ≡ eqb (job_posts before j) 0) nothing next past
  where
    nothing : is_none (job_post_of [] j) ≡ eqb (job_posts [] j) 0
    nothing = refl

    next : (before : List Entry) (e : Entry) → IsLegal script before → IsAllowed script before e
        → is_none (job_post_of before j) ≡ eqb (job_posts before j) 0 → is_none (job_post_of (before ++ e ∷ []) j) ≡ eqb (job_posts (before ++ e ∷ []) j) 0
    next before e legal allowed known = rw (job_post_of_push before e j, count-push (λ x. posts_job j x.kind) before e)
        (by_job_post (job_post_of before j) e.kind (job_posts before j) known)
      where
        more : (n : ℕ) → false ≡ eqb (n + 1) 0
        more n = sym (ne_eqb (n + 1) 0 (λ is. omega (arith, is)))

        by_job_post : (o : Option JobPosted) (kind : Kind) (n : ℕ) → is_none o ≡ eqb n 0
            → is_none (job_post_after j before o kind) ≡ eqb (n + cond (posts_job j kind) 1 0) 0
        by_job_post None (kinds.JobPost job ok) n k = new (eqb job j)
          where
            new : (b : Bool) → is_none {T = JobPosted} (cond b (Some (record { place = length before; ok = ok })) None) ≡ eqb (n + cond b 1 0) 0
            new true = more n
            new false = let same : n + 0 ≡ n = omega arith in rw same k
        by_job_post (Some p) (kinds.JobPost job ok) n k = again (eqb job j)
          where
            again : (b : Bool) → false ≡ eqb (n + cond b 1 0) 0
            again true = more n
            again false = let same : n + 0 ≡ n = omega arith in rw same k
        by_job_post o kind n k = let same : n + 0 ≡ n = omega arith in rw same k

-- What follows for the job that the driver posts, joins or cancels.

-- what the driver is at, it has left
now_is_left : (script : Plan) (past : List Entry) (j : ℕ) → starts_now script past j ≡ true → 1 ≤ starts_left script past j
now_is_left script past j h = first (agenda script own).actions (agenda script own).made
    (ap (holds_of (λ c. is_start_of j c.action)) (sym (current_is_first script own)) ∙ h)
  where
    own : List Entry
    own = own_entries 0 past

    first : (xs : List Action) (made : List Entry) → holds_of (λ c. is_start_of j c.action) (first_of xs made) ≡ true → 1 ≤ count (is_start_of j) xs
    first [] made k = absurd cc
    first (x ∷ xs) made k = omega (arith, count-cons (is_start_of j) x xs, cond-true {A = ℕ} (is_start_of j x) 1 0 k)

-- a job that the script wants to be posted next was not posted
pub job_is_new : (script : Plan) (past : List Entry) (seat j : ℕ) (ok : Bool) → IsSound script → IsLegal script past
    → by_script script past seat (kinds.JobPost j ok) ≡ true → job_post_of past j ≡ None
job_is_new script past seat j ok sound legal wanted =
    let now : starts_now script past j ≡ true = sym (by_script_starts script past seat j (kinds.JobPost j ok) sound.closed wanted) ∙ eq-eqb j j refl in
    let none : job_posts past j ≡ 0 = omega (
      arith,
      posts_and_starts script past j sound.closed legal,
      now_is_left script past j now,
      sound.once.started_once j,
    ) in
    none_is (job_post_of past j) (no_post_is script past j legal ∙ eq-eqb _ _ none)

-- the action joins or cancels the job
abbrev pub follows_start : ℕ → Action → Bool
follows_start j (actions.Join job) = eqb job j
follows_start j (actions.Cancel job) = eqb job j
follows_start j action = false

-- such an action stands behind a start
start_before : (j : ℕ) (front : List Action) (x : Action) → IsInOrder front x → follows_start j x ≡ true → list_any (is_start_of j) front ≡ true
start_before j front (actions.Join job) order h = subst (λ i. list_any (is_start_of i) front ≡ true) (eqb-true job j h) order
start_before j front (actions.Cancel job) order h = subst (λ i. list_any (is_start_of i) front ≡ true) (eqb-true job j h) order
start_before j front x order h = absurd cc

-- what the driver has left is behind the actions that are complete
agenda_front : (xs : List Action) (own : List Entry) → (front : List Action) × (xs ≡ front ++ (agenda_from xs own).actions)
agenda_front [] own = ([], refl)
agenda_front (x ∷ xs) own = by_behind_action (behind_action x own) (agenda_front xs)
  where
    by_behind_action : (o : Option (List Entry)) → ((left : List Entry) → (front : List Action) × (xs ≡ front ++ (agenda_from xs left).actions))
        → (front : List Action)
        × (x ∷ xs ≡ front ++ (option_map_or (λ left. agenda_from xs left) o (record { actions = x ∷ xs; made = own })).actions)
    by_behind_action None next = ([], refl)
    by_behind_action (Some left) next = let (front, is) = next left in (x ∷ front, ap (λ ys. x ∷ ys) is)

first_is : (xs : List Action) (made : List Entry) (c : Current) → first_of xs made ≡ Some c → (rest : List Action) × (xs ≡ c.action ∷ rest)
first_is [] made c h = absurd (none-some c h)
first_is (x ∷ rest) made c h = (rest, ap (λ (d : Current). d.action ∷ rest) (same_Some _ c h))

-- a job that the driver joins or cancels was posted
pub joined_was_posted : (script : Plan) (past : List Entry) (j : ℕ) (c : Current) → IsSound script → IsLegal script past
    → current script (own_entries 0 past) ≡ Some c → follows_start j c.action ≡ true → (p : JobPosted) × (job_post_of past j ≡ Some p)
unfolding agenda
joined_was_posted script past j c sound legal now follows = by_job_post (job_post_of past j) refl
  where
    own : List Entry
    own = own_entries 0 past

    before : (front : List Action) × (script.actions ≡ front ++ (agenda script own).actions)
    before = agenda_front script.actions own

    here : (rest : List Action) × ((agenda script own).actions ≡ c.action ∷ rest)
    here = first_is (agenda script own).actions (agenda script own).made c (sym (current_is_first script own) ∙ now)

    all : script.actions ≡ before.0 ++ c.action ∷ here.0
    all = before.1 ∙ ap (λ ys. before.0 ++ ys) here.1

    order : IsInOrder before.0 c.action
    order = subst (λ front. IsInOrder front c.action) (ap (take (length before.0)) all ∙ take-append_seam before.0 (c.action ∷ here.0))
        (sound.actions.in_order (length before.0) c.action
        (ap (λ xs. slice_get xs (length before.0)) all ∙ slice_get_seam before.0 c.action here.0))

    by_job_post : (o : Option JobPosted) → job_post_of past j ≡ o → (p : JobPosted) × (job_post_of past j ≡ Some p)
    by_job_post (Some p) is = (p, is)
    by_job_post None is =
        let none : job_posts past j ≡ 0 = eqb-true _ _ (sym (no_post_is script past j legal) ∙ ap is_none is) in
        let starts : count (is_start_of j) before.0 ≡ 0 = omega (
          arith,
          none,
          posts_and_starts script past j sound.closed legal,
          ap (count (is_start_of j)) before.1,
          count-append (is_start_of j) before.0 (agenda script own).actions,
        ) in
        absurd (true≢false (sym (start_before j before.0 c.action order follows) ∙ none_from_count (is_start_of j) before.0 starts))
