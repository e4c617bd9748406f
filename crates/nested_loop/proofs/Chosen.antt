-- The front and the first of the deferred tasks: they were posted, and have not started.
-- Cited by `Deferrals`, `Left`, `LegalNests`, `Made`.
use Rattle.sequence_manager.proofs.Lists.{any_contains}
use Rattle.std.proofs.Common.{◌≡◌, ℕ, length, Bool, true, false, eqb, List, [], ◌∷◌, ◌++◌, refl, sym, ap, ◌∙◌, subst, Option, Some, None, arith}
use Rattle.std.specs.Prelude.{◌&&◌, ◌||◌, not, nat_lt, slice_get, Contains}
use Rattle.std.specs.List.{filter_map, list_any}
use Rattle.std.specs.Option.{option_map}
use Rattle.std.proofs.lemmas.Bool.{and_parts, true≢false, eq-eqb, eqb-true}
use Rattle.std.proofs.Math.Bool.{not-not, or-false}
use Rattle.std.proofs.lemmas.Option.{none-some, same_Some}
use Rattle.std.proofs.lemmas.List.Folds.{list_any-append}
use Rattle.list_laws.specs.Lists.{least, Ranks}
use Rattle.list_laws.proofs.Values.{some-injective}
use Rattle.list_laws.proofs.Least.{least_is_least}
use Rattle.list_laws.proofs.Made.{filter_contains, filter_map_contains}
use Rattle.list_laws.proofs.Ranks.{ranks_by, ranks_then_by}
use Rattle.nested_loop.specs.Plan.{NestPlan}
use Rattle.nested_loop.specs.Nest.{IsNestPast, Nesting, NestPosted, class_of_post, deferred_by, deferred_tasks, front_task, runs_before}
use Rattle.nested_loop.specs.Nest.{is_started, posted_tasks, waiting_tasks, was_deferred, defers, posted_by, next_event, nesting_of}
use Rattle.nested_loop.specs.NestLaws.{was_posted}
use Rattle.nested_loop.proofs.Comes.{Comes, IsChosen, resumed, waited, nested, defer, comes, past_induction}
use Rattle.nested_loop.proofs.Growth.{posted_tasks_push, was_deferred_push}
use Rattle.nested_loop.specs.declared.event.Event.{Event}
use Rattle.nested_loop.specs.declared.event.Event.TheVariants as events

pub ranks_goes_before : (nest : NestPlan) → Ranks (runs_before nest)
ranks_goes_before nest = ranks_then_by (class_of_post nest) (λ p q. nat_lt p.place q.place) (ranks_by (λ p. p.place))

-- the task was posted, and neither deferred nor started
pub record Waits (past : List Event) (t : ℕ) : Type 0 where
  pub posted : NestPosted
  pub among : Contains (posted_tasks past) posted
  pub task_is : posted.task ≡ t
  pub not_deferred : was_deferred past t ≡ false
  pub not_started : is_started past t ≡ false

not_is_true : (b : Bool) → not b ≡ true → b ≡ false
not_is_true b h = sym (not-not b) ∙ ap not h

pub waits : (past : List Event) (p : NestPosted) → Contains (waiting_tasks past) p → Waits past p.task
unfolding waiting_tasks
waits past p among =
    let parts = filter_contains (λ q. not (was_deferred past q.task) && not (is_started past q.task)) (posted_tasks past) p among in
    let tests = and_parts (not (was_deferred past p.task)) (not (is_started past p.task)) parts.1 in
    record {
      posted = p;
      among = parts.0;
      task_is = refl;
      not_deferred = not_is_true (was_deferred past p.task) tests.0;
      not_started = not_is_true (is_started past p.task) tests.1;
    }

-- the front waits
pub front_waits : (nest : NestPlan) (past : List Event) (t : ℕ) → front_task nest past ≡ Some t → Waits past t
unfolding front_task
front_waits nest past t h = by_least (least (runs_before nest) (waiting_tasks past)) refl h
  where
    by_least : (o : Option NestPosted) → least (runs_before nest) (waiting_tasks past) ≡ o → option_map (λ p. p.task) o ≡ Some t → Waits past t
    by_least None is k = absurd (none-some t k)
    by_least (Some p) is k = subst (Waits past) (some-injective k)
        (waits past p (least_is_least (runs_before nest) (ranks_goes_before nest) (waiting_tasks past) p is).member)

first_contained : {A : Type 0} (xs : List A) (x : A) → slice_get xs 0 ≡ Some x → Contains xs x
first_contained [] x h = absurd (none-some x h)
first_contained (y ∷ ys) x h = (0, omega arith, same_Some y x h)

defers_it : (event : Event) (t : ℕ) → deferred_by event ≡ Some t → defers t event ≡ true
defers_it (events.Defer task) t h = eq-eqb task t (some-injective h)
defers_it (events.Post task queue) t h = absurd (none-some t h)
defers_it (events.Loop depth) t h = absurd (none-some t h)
defers_it (events.Quit depth) t h = absurd (none-some t h)
defers_it (events.Start task depth) t h = absurd (none-some t h)
defers_it (events.End task) t h = absurd (none-some t h)
defers_it (events.Say value) t h = absurd (none-some t h)

-- a task that is deferred was deferred, and has not started
pub deferred_is : (past : List Event) (t : ℕ) → Contains (deferred_tasks past) t → (was_deferred past t ≡ true) × (is_started past t ≡ false)
unfolding deferred_tasks was_deferred
deferred_is past t among =
    let parts = filter_contains (λ u. not (is_started past u)) (filter_map deferred_by past) t among in
    let found = filter_map_contains deferred_by past t parts.0 in
    (any_contains (defers t) past found.0 found.1 (defers_it found.0 t found.2), not_is_true (is_started past t) parts.1)

pub first_deferred_is : (past : List Event) (t : ℕ) → slice_get (deferred_tasks past) 0 ≡ Some t → (was_deferred past t ≡ true) × (is_started past t ≡ false)
first_deferred_is past t h = deferred_is past t (first_contained (deferred_tasks past) t h)

-- a chosen task has not started
pub chosen_not_started : {nest : NestPlan} {past : List Event} {depth t : ℕ} → IsChosen nest past depth t → is_started past t ≡ false
chosen_not_started {past = past} {t = t} (resumed h) = (first_deferred_is past t h).1
chosen_not_started {nest} {past} {t = t} (waited none h) = (front_waits nest past t h).not_started
chosen_not_started {nest} {past} {t = t} (nested deep h may) = (front_waits nest past t h).not_started

-- a task that waits was posted
pub waits_posted : (past : List Event) (t : ℕ) → Waits past t → was_posted past t ≡ true
waits_posted past t w = any_contains (λ p. eqb p.task t) (posted_tasks past) w.posted w.among (eq-eqb w.posted.task t w.task_is)

was_posted_push : (past : List Event) (event : Event) (t : ℕ)
    → was_posted (past ++ event ∷ []) t ≡ (was_posted past t || list_any (λ p. eqb p.task t) (posted_by (length past) event))
was_posted_push past event t = ap (list_any (λ p. eqb p.task t)) (posted_tasks_push past event)
    ∙ list_any-append (λ p. eqb p.task t) (posted_tasks past) (posted_by (length past) event)

pub was_posted_stays : (past : List Event) (event : Event) (t : ℕ) → was_posted past t ≡ true → was_posted (past ++ event ∷ []) t ≡ true
was_posted_stays past event t h = was_posted_push past event t ∙ ap (λ b. b || list_any (λ p. eqb p.task t) (posted_by (length past) event)) h

none_deferred : (t : ℕ) → was_deferred [] t ≡ true → ⊥
unfolding was_deferred
none_deferred t k = true≢false (sym k)

-- a task that was deferred was posted
pub deferred_posted : (nest : NestPlan) (past : List Event) → IsNestPast nest past → (t : ℕ) → was_deferred past t ≡ true → was_posted past t ≡ true
deferred_posted nest past h t = past_induction nest (λ before. was_deferred before t ≡ true → was_posted before t ≡ true)
    (λ k. absurd (none_deferred t k)) step past h
  where
    at : (before : List Event) (event : Event) (now after : Nesting) → Comes nest before now event after
        → (was_deferred before t ≡ true → was_posted before t ≡ true)
        → (was_deferred before t || defers t event) ≡ true → was_posted before t ≡ true
    at before event now after (defer {task = task} deep front not_may) known k = by_deferred (was_deferred before t) (eqb task t) refl refl k
      where
        by_deferred : (b c : Bool) → was_deferred before t ≡ b → eqb task t ≡ c → (b || c) ≡ true → was_posted before t ≡ true
        by_deferred true c is same j = known is
        by_deferred false true is same j = waits_posted before t (subst (Waits before) (eqb-true task t same) (front_waits nest before task front))
        by_deferred false false is same j = absurd (true≢false (sym j))
    at before event now after other known k = known (sym (or-false (was_deferred before t)) ∙ k)

    step : (before : List Event) (event : Event) → IsNestPast nest before → next_event nest before ≡ Some event
        → (was_deferred before t ≡ true → was_posted before t ≡ true) → was_deferred (before ++ event ∷ []) t ≡ true → was_posted (before ++ event ∷ []) t
        ≡ true
    step before event fits is known k = was_posted_stays before event t
        (at before event (nesting_of nest before) (nesting_of nest (before ++ event ∷ [])) (comes nest before event is) known
        (sym (was_deferred_push before event t) ∙ k))

-- a chosen task was posted
pub chosen_posted : (nest : NestPlan) (past : List Event) (depth t : ℕ) → IsNestPast nest past → IsChosen nest past depth t → was_posted past t ≡ true
chosen_posted nest past depth t h (resumed first) = deferred_posted nest past h t (first_deferred_is past t first).0
chosen_posted nest past depth t h (waited none front) = waits_posted past t (front_waits nest past t front)
chosen_posted nest past depth t h (nested deep front may) = waits_posted past t (front_waits nest past t front)
