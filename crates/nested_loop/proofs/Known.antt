-- What a sound nest posts: tasks and queues that are declared, no task twice, and so no more events than there is room for.
-- Cited by `run_nest`, `Kept`, `Made`, `MainScript`, `Parts`.
use Rattle.std.proofs.Common.{◌≡◌, ℕ, ◌+◌, ◌*◌, ◌<◌, ◌≤◌, length, Bool, true, false, cond, eqb, List, [], ◌∷◌}
use Rattle.std.proofs.Common.{◌++◌, refl, sym, ap, subst, Option, Some, None, arith, length-append}
use Rattle.std.specs.Prelude.{◌||◌, slice_get, sum_by, flat_map}
use Rattle.std.specs.List.{AllByRecursion, list_any}
use Rattle.std.specs.Option.{IfSome, option_map_or}
use Rattle.std.proofs.lemmas.Bool.{eqb-true, eq-eqb, true≢false}
use Rattle.std.proofs.lemmas.Option.{none-some, slice_get_within}
use Rattle.std.proofs.lemmas.List.Sums.{sum_by-cons, sum_by_push}
use Rattle.list_laws.specs.Lists.{count}
use Rattle.list_laws.proofs.Counts.{count-append, count_step}
use Rattle.list_laws.proofs.Elements.{AllByRecursion-append, push_induction, slice_get_all}
use Rattle.script_model.specs.Laws.Postings.{times}
use Rattle.nested_loop.specs.Plan.{NestPlan, NestTaskPlan}
use Rattle.nested_loop.specs.Nest.{IsNestPast, Nesting, NestPosted, is_started, nesting_of, next_event, posted_by, posted_tasks, steps_of, was_deferred}
use Rattle.nested_loop.specs.NestLaws.{was_posted}
use Rattle.nested_loop.specs.Room.{events_bound}
use Rattle.nested_loop.specs.Sound.{IsSoundNest, IsNestStepSound, IsNestActionSound, nest_postings, posts_of_nest_action, posts_of_nest_step, posts_of_task}
use Rattle.nested_loop.specs.declared.event.Event.{Event}
use Rattle.nested_loop.specs.declared.event.Event.TheVariants as events
use Rattle.nested_loop.specs.declared.nest.NestAction.{NestAction}
use Rattle.nested_loop.specs.declared.nest.NestAction.TheVariants as actions
use Rattle.nested_loop.specs.declared.nest.NestStep.{NestStep}
use Rattle.nested_loop.specs.declared.nest.NestStep.TheVariants as steps
use Rattle.nested_loop.proofs.Comes.{Comes, act, post, comes, past_grows, past_induction}
use Rattle.nested_loop.proofs.Growth.{posted_tasks_push}
use Rattle.nested_loop.proofs.Left.{Weights, Weighs, event_takes, left_of, sum_from, task_left}

-- what is posted is declared
abbrev pub IsDeclared : NestPlan → NestPosted → Type 0
IsDeclared nest p = (p.task < length nest.tasks) × (p.queue < length nest.classes)

-- a task with a step is declared
pub has_steps : (nest : NestPlan) (t done : ℕ) (step : NestStep) → slice_get (steps_of nest t) done ≡ Some step
    → (task : NestTaskPlan) × (slice_get nest.tasks t ≡ Some task) × (slice_get task.steps done ≡ Some step)
has_steps nest t done step h = by_task (slice_get nest.tasks t) refl h
  where
    by_task : (o : Option NestTaskPlan) → slice_get nest.tasks t ≡ o → slice_get (option_map_or (λ task. task.steps) o []) done ≡ Some step
        → (task : NestTaskPlan) × (slice_get nest.tasks t ≡ Some task) × (slice_get task.steps done ≡ Some step)
    by_task None is k = absurd (none-some step k)
    by_task (Some task) is k = (task, is, k)

action_is_sound : (nest : NestPlan) → IsSoundNest nest → (begun : ℕ) (action : NestAction) → slice_get nest.actions begun ≡ Some action
    → IsNestActionSound nest action
action_is_sound nest sound begun action h =
    subst (λ o. IfSome o (IsNestActionSound nest)) h (slice_get_all (IsNestActionSound nest) nest.actions begun sound.actions_sound)

step_is_sound : (nest : NestPlan) → IsSoundNest nest → (t done : ℕ) (step : NestStep) → slice_get (steps_of nest t) done ≡ Some step
    → (t < length nest.tasks) × IsNestStepSound nest t step
step_is_sound nest sound t done step h =
    let found = has_steps nest t done step h in (
      slice_get_within nest.tasks t found.0 found.1,
      subst (λ o. IfSome o (IsNestStepSound nest t)) found.2 (slice_get_all (IsNestStepSound nest t) found.0.steps done (sound.tasks_sound t found.0 found.1)),
    )

-- every event that comes next posts what is declared
posts_declared : (nest : NestPlan) → IsSoundNest nest → (past : List Event) (now : Nesting) (event : Event) (after : Nesting) → Comes nest past now event after
    → AllByRecursion (IsDeclared nest) (posted_by (length past) event)
posts_declared nest sound past now event after (act {begun} {task} {queue} h) = (action_is_sound nest sound begun (actions.Post task queue) h, tt)
posts_declared nest sound past now event after (post {begun} {task} {done} {posted} {queue} h) =
    let there = step_is_sound nest sound task done (steps.Post posted queue) h in
    ((omega (arith, there.0, there.1.0), there.1.1), tt)
posts_declared nest sound past now event after other = tt

pub posted_declared : (nest : NestPlan) → IsSoundNest nest → (past : List Event) → IsNestPast nest past → AllByRecursion (IsDeclared nest) (posted_tasks past)
unfolding posted_tasks
posted_declared nest sound = past_induction nest (λ past. AllByRecursion (IsDeclared nest) (posted_tasks past)) tt (λ past event fits next all.
    subst (AllByRecursion (IsDeclared nest)) (sym (posted_tasks_push past event)) (AllByRecursion-append (IsDeclared nest) (posted_tasks past)
    (posted_by (length past) event) all
    (posts_declared nest sound past (nesting_of nest past) event (nesting_of nest (past ++ event ∷ [])) (comes nest past event next))))

one_declared : (nest : NestPlan) (ps : List NestPosted) (t : ℕ) → AllByRecursion (IsDeclared nest) ps → list_any (λ p. eqb p.task t) ps ≡ true
    → t < length nest.tasks
one_declared nest [] t all h = absurd (true≢false (sym h))
one_declared nest (p ∷ ps) t all h = by_task (eqb p.task t) refl h (one_declared nest ps t all.1)
  where
    by_task : (b : Bool) → eqb p.task t ≡ b → (b || list_any (λ q. eqb q.task t) ps) ≡ true
        → (list_any (λ q. eqb q.task t) ps ≡ true → t < length nest.tasks) → t < length nest.tasks
    by_task true is k rest = subst (λ u. u < length nest.tasks) (eqb-true p.task t is) all.0.0
    by_task false is k rest = rest k

-- a task that was posted is declared
pub was_posted_declared : (nest : NestPlan) → IsSoundNest nest → (past : List Event) → IsNestPast nest past → (t : ℕ) → was_posted past t ≡ true
    → t < length nest.tasks
was_posted_declared nest sound past fits t h = one_declared nest (posted_tasks past) t (posted_declared nest sound past fits) h

-- what all weighs
total : Weights → NestPlan → ℕ
total w nest = sum_by w.action nest.actions + sum_by (λ task. sum_by w.step task.steps + 3 * w.each) nest.tasks

sum_from-places : {A : Type 0} (f : A → ℕ) (i : ℕ) (xs : List A) → sum_from (λ t. f) i xs ≡ sum_by f xs
sum_from-places f i [] = refl
sum_from-places f i (x ∷ xs) = let rest = sum_from-places f (i + 1) xs in let both = sum_by-cons f x xs in omega (arith, rest, both)

left_at_start : (w : Weights) (nest : NestPlan) → left_of w nest [] (nesting_of nest []) ≡ total w nest
unfolding total nesting_of is_started was_deferred
left_at_start w nest = let tasks = sum_from-places (λ task. task_left w false false task) 0 nest.tasks in omega (arith, tasks)

-- what the events of a past weigh, with what is left, is no more than what all weighs
spent : (weight : Event → ℕ) (w : Weights) → Weighs weight w → (nest : NestPlan) → IsSoundNest nest → (past : List Event) → IsNestPast nest past
    → sum_by weight past + left_of w nest past (nesting_of nest past) ≤ total w nest
spent weight w weighs nest sound = past_induction nest (λ past. sum_by weight past + left_of w nest past (nesting_of nest past) ≤ total w nest)
    (let first = left_at_start w nest in omega (arith, first))
    (λ past event fits next within.
    let takes = event_takes weight w weighs nest past fits (was_posted_declared nest sound past fits) (nesting_of nest past) event
    (nesting_of nest (past ++ event ∷ [])) (comes nest past event next) in
    let more = sum_by_push weight past event in
    omega (arith, takes, more, within))

-- ---- how many events there are

sum_by-const : {A : Type 0} (n : ℕ) (xs : List A) → sum_by (λ x. n) xs ≡ n * length xs
sum_by-const n [] = omega arith
sum_by-const {A = A} n (x ∷ xs) = let rest = sum_by-const n xs in let both = sum_by-cons {X = A} (λ y. n) x xs in grind (arith, rest, both)

sum_by-congr : {A : Type 0} (f g : A → ℕ) (xs : List A) → ((x : A) → f x ≡ g x) → sum_by f xs ≡ sum_by g xs
sum_by-congr f g [] h = refl
sum_by-congr f g (x ∷ xs) h =
    let rest = sum_by-congr f g xs h in
    let both = sum_by-cons f x xs in
    let other = sum_by-cons g x xs in
    let here = h x in
    omega (arith, rest, both, other, here)

-- each event weighs one
ones : Weights
ones = record { step = λ step. 2; action = λ action. 2; each = 1 }

ones_weigh : Weighs (λ event. 1) ones
unfolding ones
ones_weigh = record {
  act = λ task queue. omega arith;
  run = λ depth bound. omega arith;
  say = λ value. omega arith;
  post = λ task queue. omega arith;
  loop = λ depth bound. omega arith;
  quit = λ depth. omega arith;
  start = λ task depth. omega arith;
  end = λ task. omega arith;
  defer = λ task. omega arith;
}

ones_total : (nest : NestPlan) → total ones nest ≡ events_bound nest
unfolding ones total
ones_total nest =
    let acts = sum_by-const 2 nest.actions in
    let tasks = sum_by-congr {A = NestTaskPlan} (λ task. sum_by (λ step. 2) task.steps + 3) (λ task. 2 * length task.steps + 3) nest.tasks
    (λ task. let steps = sum_by-const 2 task.steps in omega (arith, steps)) in
    omega (arith, acts, tasks)

-- a past has no more events than there is room for
pub past_within : (nest : NestPlan) → IsSoundNest nest → (past : List Event) → IsNestPast nest past → length past ≤ events_bound nest
past_within nest sound past fits =
    let within = spent (λ event. 1) ones ones_weigh nest sound past fits in
    let many = sum_by-const 1 past in
    omega (arith, within, many, ones_total nest)

-- where an event comes next, there is room for it
pub next_within : (nest : NestPlan) → IsSoundNest nest → (past : List Event) (event : Event) → IsNestPast nest past → next_event nest past ≡ Some event
    → length past < events_bound nest
next_within nest sound past event fits next =
    let within = past_within nest sound (past ++ event ∷ []) (past_grows nest past event fits next) in
    omega (arith, within, length-append past (event ∷ []))

-- ---- that no task is posted twice

-- each post of the task weighs one
posts_it : ℕ → Event → ℕ
posts_it t event = count (λ p. eqb p.task t) (posted_by 0 event)

posts_of : ℕ → Weights
posts_of t = record { step = λ step. times t (posts_of_nest_step step); action = λ action. times t (posts_of_nest_action action); each = 0 }

posts_weigh : (t : ℕ) → Weighs (posts_it t) (posts_of t)
unfolding posts_it posts_of
posts_weigh t = record {
  act = λ task queue. one task queue (eqb task t) refl;
  run = λ depth bound. omega arith;
  say = λ value. omega arith;
  post = λ task queue. one task queue (eqb task t) refl;
  loop = λ depth bound. omega arith;
  quit = λ depth. omega arith;
  start = λ task depth. omega arith;
  end = λ task. omega arith;
  defer = λ task. omega arith;
}
  where
    one : (task queue : ℕ) (b : Bool) → eqb task t ≡ b → count (λ (p : NestPosted). eqb p.task t) (record { task = task; queue = queue; place = 0 } ∷ [])
        ≤ count (λ u. eqb u t) (task ∷ [])
    one task queue true is = rw is (omega arith)
    one task queue false is = rw is (omega arith)

times-flat_map : {A : Type 0} (t : ℕ) (f : A → List ℕ) (xs : List A) → times t (flat_map f xs) ≡ sum_by (λ x. times t (f x)) xs
times-flat_map t f [] = refl
times-flat_map t f (x ∷ xs) =
    let rest = times-flat_map t f xs in
    let both = sum_by-cons (λ y. times t (f y)) x xs in
    let parts = count-append (λ u. eqb u t) (f x) (flat_map f xs) in
    omega (arith, rest, both, parts)

posts_total : (nest : NestPlan) (t : ℕ) → total (posts_of t) nest ≡ times t (nest_postings nest)
unfolding posts_of total
posts_total nest t =
    let parts = count-append (λ u. eqb u t) (flat_map posts_of_task nest.tasks) (flat_map posts_of_nest_action nest.actions) in
    let acts = times-flat_map t posts_of_nest_action nest.actions in
    let tasks = times-flat_map t posts_of_task nest.tasks in
    let each = sum_by-congr {A = NestTaskPlan} (λ task. sum_by (λ step. times t (posts_of_nest_step step)) task.steps + 0)
    (λ task. times t (posts_of_task task)) nest.tasks
    (λ task. let steps = times-flat_map t posts_of_nest_step task.steps in omega (arith, steps)) in
    omega (arith, parts, acts, tasks, each)

posts_counted : (t place : ℕ) (event : Event) → count (λ p. eqb p.task t) (posted_by place event) ≡ posts_it t event
unfolding posts_it
posts_counted t place (events.Post task queue) = by_task (eqb task t)
  where
    by_task : (b : Bool) → length {A = NestPosted} (cond b (record { task = task; queue = queue; place = place } ∷ []) [])
        ≡ length {A = NestPosted} (cond b (record { task = task; queue = queue; place = 0 } ∷ []) [])
    by_task true = refl
    by_task false = refl
posts_counted t place event = refl

posted_counts : (t : ℕ) (past : List Event) → count (λ p. eqb p.task t) (posted_tasks past) ≡ sum_by (posts_it t) past
unfolding posted_tasks
posted_counts t = push_induction (λ past. count (λ p. eqb p.task t) (posted_tasks past) ≡ sum_by (posts_it t) past) refl (λ past event same.
    let grown = ap (count (λ p. eqb p.task t)) (posted_tasks_push past event) in
    let parts = count-append (λ p. eqb p.task t) (posted_tasks past) (posted_by (length past) event) in
    let one = posts_counted t (length past) event in
    let more = sum_by_push (posts_it t) past event in
    omega (arith, same, grown, parts, one, more))

-- no task was posted twice
pub posted_once : (nest : NestPlan) → IsSoundNest nest → (past : List Event) → IsNestPast nest past → (t : ℕ)
    → count (λ p. eqb p.task t) (posted_tasks past) ≤ 1
posted_once nest sound past fits t =
    let within = spent (posts_it t) (posts_of t) (posts_weigh t) nest sound past fits in
    omega (arith, within, posts_total nest t, posted_counts t past, sound.posted_once t)

-- a task that is posted next was not posted before
pub posts_new : (nest : NestPlan) → IsSoundNest nest → (past : List Event) (task queue : ℕ) → IsNestPast nest past
    → next_event nest past ≡ Some (events.Post task queue) → count (λ p. eqb p.task task) (posted_tasks past) ≡ 0
posts_new nest sound past task queue fits next =
    let event = events.Post task queue in
    let once = posted_once nest sound (past ++ event ∷ []) (past_grows nest past event fits next) task in
    let grown = ap (count (λ p. eqb p.task task)) (posted_tasks_push past event) in
    let parts = count-append (λ p. eqb p.task task) (posted_tasks past) (posted_by (length past) event) in
    let one = count_step {A = NestPosted} (λ p. eqb p.task task) (record { task = task; queue = queue; place = length past }) [] true (eq-eqb task task refl) in
    omega (arith, once, grown, parts, one)
