-- What is left to do: each event takes its weight from it.
-- Cited by `Known`.
use Rattle.std.proofs.Common.{◌≡◌, ℕ, zero, suc, ◌+◌, ◌*◌, ◌<◌, ◌≤◌, length, Bool, true, false, cond}
use Rattle.std.proofs.Common.{List, [], ◌∷◌, ◌++◌, drop, refl, sym, ap, ◌∙◌, Some, arith, add-one}
use Rattle.std.specs.Prelude.{◌||◌, slice_get, sum_by}
use Rattle.std.specs.Option.{option_map_or}
use Rattle.std.proofs.lemmas.Bool.{eq-eqb, ne_eqb}
use Rattle.std.proofs.Math.Bool.{or-false, or-true}
use Rattle.std.proofs.lemmas.Option.{none-some, same_Some}
use Rattle.std.proofs.lemmas.List.Sums.{sum_by-cons}
use Rattle.nested_loop.specs.Plan.{NestPlan, NestTaskPlan}
use Rattle.nested_loop.specs.Nest.{IsNestPast, Nesting, defers, is_started, starts, steps_of, depth_of, task_ended, was_deferred}
use Rattle.nested_loop.specs.NestLaws.{was_posted}
use Rattle.nested_loop.specs.declared.event.Event.{Event}
use Rattle.nested_loop.specs.declared.event.Event.TheVariants as events
use Rattle.nested_loop.specs.declared.frame.Frame.{Frame}
use Rattle.nested_loop.specs.declared.frame.Frame.TheVariants as frames
use Rattle.nested_loop.specs.declared.nest.NestAction.{NestAction}
use Rattle.nested_loop.specs.declared.nest.NestAction.TheVariants as actions
use Rattle.nested_loop.specs.declared.nest.NestStep.{NestStep}
use Rattle.nested_loop.specs.declared.nest.NestStep.TheVariants as steps
use Rattle.nested_loop.proofs.Comes.{Comes, act, run, say, post, loop, end, quit, start, defer}
use Rattle.nested_loop.proofs.Growth.{is_started_push, was_deferred_push}
use Rattle.nested_loop.proofs.Chosen.{chosen_not_started, chosen_posted, front_waits, waits_posted}

-- how much a step, an action, and each start, end, deferral and quit weigh
pub record Weights : Type 0 where
  pub step : NestStep → ℕ
  pub action : NestAction → ℕ
  pub each : ℕ

-- no event weighs more than what it does
pub record Weighs (weight : Event → ℕ) (w : Weights) : Type 0 where
  pub act : (task queue : ℕ) → weight (events.Post task queue) ≤ w.action (actions.Post task queue)
  pub run : (depth bound : ℕ) → weight (events.Loop depth) + w.each ≤ w.action (actions.Run bound)
  pub say : (value : ℕ) → weight (events.Say value) ≤ w.step (steps.Say value)
  pub post : (task queue : ℕ) → weight (events.Post task queue) ≤ w.step (steps.Post task queue)
  pub loop : (depth bound : ℕ) → weight (events.Loop depth) + w.each ≤ w.step (steps.Loop bound)
  pub quit : (depth : ℕ) → weight (events.Quit depth) ≤ w.each
  pub start : (task depth : ℕ) → weight (events.Start task depth) ≤ w.each
  pub end : (task : ℕ) → weight (events.End task) ≤ w.each
  pub defer : (task : ℕ) → weight (events.Defer task) ≤ w.each

-- what is left of an open loop or task
abbrev pub frame_left : Weights → NestPlan → Frame → ℕ
frame_left w nest (frames.Loop bound ended) = w.each
frame_left w nest (frames.Task task done) = w.each + sum_by w.step (drop done (steps_of nest task))

-- what is left of a task that has not started, by whether it has, and whether it was deferred
abbrev pub task_left : Weights → Bool → Bool → NestTaskPlan → ℕ
task_left w started deferred task = cond started 0 (sum_by w.step task.steps + cond deferred (2 * w.each) (3 * w.each))

-- a sum over a list that also sees the places, from one on
abbrev pub sum_from : {A : Type 0} → (ℕ → A → ℕ) → ℕ → List A → ℕ
sum_from f i [] = 0
sum_from f i (x ∷ xs) = f i x + sum_from f (i + 1) xs

-- what is left of the tasks that have not started
abbrev pub tasks_left : Weights → NestPlan → List Event → ℕ
tasks_left w nest past = sum_from (λ t. task_left w (is_started past t) (was_deferred past t)) 0 nest.tasks

-- what is left of all
abbrev pub left_of : Weights → NestPlan → List Event → Nesting → ℕ
left_of w nest past now = sum_by w.action (drop now.begun nest.actions) + sum_by (frame_left w nest) now.frames + tasks_left w nest past

-- the sum from a place on
sum-drop_suc : {A : Type 0} (f : A → ℕ) (xs : List A) (i : ℕ) (x : A) → slice_get xs i ≡ Some x → sum_by f (drop i xs) ≡ f x + sum_by f (drop (suc i) xs)
sum-drop_suc f [] i x h = absurd (none-some x h)
sum-drop_suc f (y ∷ ys) zero x h = sum_by-cons f y ys ∙ ap (λ z. f z + sum_by f ys) (same_Some y x h)
sum-drop_suc f (y ∷ ys) (suc i) x h = sum-drop_suc f ys i x h

sum-drop : {A : Type 0} (f : A → ℕ) (xs : List A) (i : ℕ) (x : A) → slice_get xs i ≡ Some x → sum_by f (drop i xs) ≡ f x + sum_by f (drop (i + 1) xs)
sum-drop f xs i x h = sum-drop_suc f xs i x h ∙ ap (λ n. f x + sum_by f (drop n xs)) (sym (add-one i))

sum_from-congr : {A : Type 0} (f g : ℕ → A → ℕ) (i : ℕ) (xs : List A) → ((t : ℕ) (x : A) → f t x ≡ g t x) → sum_from f i xs ≡ sum_from g i xs
sum_from-congr f g i [] h = refl
sum_from-congr f g i (x ∷ xs) h = let here = h i x in let rest = sum_from-congr f g (i + 1) xs h in omega (arith, here, rest)

-- before the place of the change
sum_from-behind : {A : Type 0} (f g : ℕ → A → ℕ) (i t : ℕ) (xs : List A) → ((u : ℕ) (y : A) → (t ≡ u → ⊥) → f u y ≡ g u y) → t < i
    → sum_from f i xs ≡ sum_from g i xs
sum_from-behind f g i t [] h lt = refl
sum_from-behind f g i t (x ∷ xs) h lt =
    let here = h i x (λ same. omega (arith, same, lt)) in
    let rest = sum_from-behind f g (i + 1) t xs h (omega (arith, lt)) in
    omega (arith, here, rest)

-- the sum where one place changes
sum_from-change : {A : Type 0} (f g : ℕ → A → ℕ) (i t k : ℕ) (xs : List A) (x : A) → ((u : ℕ) (y : A) → (t ≡ u → ⊥) → f u y ≡ g u y) → t ≡ i + k
    → slice_get xs k ≡ Some x → sum_from f i xs + g t x ≡ sum_from g i xs + f t x
sum_from-change f g i t k [] x h at here = absurd (none-some x here)
sum_from-change f g i t zero (y ∷ ys) x h at here =
    let same = same_Some y x here in
    let place : t ≡ i = omega (arith, at) in
    let rest = sum_from-behind f g (i + 1) t ys h (omega (arith, place)) in
    let of_f : f i y ≡ f t x = ap (λ z. f i z) same ∙ ap (λ j. f j x) (sym place) in
    let of_g : g i y ≡ g t x = ap (λ z. g i z) same ∙ ap (λ j. g j x) (sym place) in
    omega (arith, rest, of_f, of_g)
sum_from-change f g i t (suc k) (y ∷ ys) x h at here =
    let head = h i y (λ same. omega (arith, same, at)) in
    let rest = sum_from-change f g (i + 1) t k ys x h (omega (arith, at)) here in
    omega (arith, head, rest)

-- what is left of the tasks, where the event starts none and defers none
tasks_kept : (w : Weights) (nest : NestPlan) (past : List Event) (event : Event) → ((t : ℕ) → starts t event ≡ false) → ((t : ℕ) → defers t event ≡ false)
    → tasks_left w nest (past ++ event ∷ []) ≡ tasks_left w nest past
tasks_kept w nest past event no_start no_defer =
    sum_from-congr (λ t. task_left w (is_started (past ++ event ∷ []) t) (was_deferred (past ++ event ∷ []) t))
    (λ t. task_left w (is_started past t) (was_deferred past t)) 0 nest.tasks (λ t task.
    ap (λ b. task_left w b (was_deferred (past ++ event ∷ []) t) task)
    (is_started_push past event t ∙ ap (λ b. is_started past t || b) (no_start t) ∙ or-false (is_started past t))
    ∙ ap (λ b. task_left w (is_started past t) b task)
    (was_deferred_push past event t ∙ ap (λ b. was_deferred past t || b) (no_defer t) ∙ or-false (was_deferred past t)))

-- the declared task of this number
declared : {A : Type 0} (xs : List A) (t : ℕ) → t < length xs → (x : A) × (slice_get xs t ≡ Some x)
declared [] t lt = absurd (omega (arith, lt))
declared (x ∷ xs) zero lt = (x, refl)
declared (x ∷ xs) (suc t) lt = declared xs t (omega (arith, lt))

at_least_twice : (w : Weights) (b : Bool) → 2 * w.each ≤ cond b (2 * w.each) (3 * w.each)
at_least_twice w true = omega arith
at_least_twice w false = omega arith

-- a task that starts takes its steps from what is left of the tasks
task_starts : (w : Weights) (nest : NestPlan) (past : List Event) (t depth : ℕ) → t < length nest.tasks → is_started past t ≡ false
    → tasks_left w nest (past ++ events.Start t depth ∷ []) + (sum_by w.step (steps_of nest t) + 2 * w.each) ≤ tasks_left w nest past
task_starts w nest past t depth there not_started =
    let found = declared nest.tasks t there in
    let changed = sum_from-change after before 0 t t nest.tasks found.0 same (omega arith) found.1 in
    let none : after t found.0 ≡ 0 = ap (λ b. task_left w b (was_deferred (past ++ event ∷ []) t) found.0)
    (is_started_push past event t ∙ ap (λ b. is_started past t || b) (eq-eqb t t refl) ∙ or-true (is_started past t)) in
    let all : before t found.0 ≡ sum_by w.step found.0.steps + cond (was_deferred past t) (2 * w.each) (3 * w.each) =
    ap (λ b. task_left w b (was_deferred past t) found.0) not_started in
    let steps_are : steps_of nest t ≡ found.0.steps = ap (λ o. option_map_or (λ task. task.steps) o []) found.1 in
    let summed = ap (sum_by w.step) steps_are in
    let twice = at_least_twice w (was_deferred past t) in
    omega (arith, changed, none, all, summed, twice)
  where
    event : Event
    event = events.Start t depth

    after : ℕ → NestTaskPlan → ℕ
    after u = task_left w (is_started (past ++ event ∷ []) u) (was_deferred (past ++ event ∷ []) u)

    before : ℕ → NestTaskPlan → ℕ
    before u = task_left w (is_started past u) (was_deferred past u)

    same : (u : ℕ) (task : NestTaskPlan) → (t ≡ u → ⊥) → after u task ≡ before u task
    same u task other =
        ap (λ b. task_left w b (was_deferred (past ++ event ∷ []) u) task)
        (is_started_push past event u ∙ ap (λ b. is_started past u || b) (ne_eqb t u other) ∙ or-false (is_started past u))
        ∙ ap (λ b. task_left w (is_started past u) b task) (was_deferred_push past event u ∙ or-false (was_deferred past u))

-- a deferral takes its weight from what is left of the tasks
task_deferred : (w : Weights) (nest : NestPlan) (past : List Event) (t : ℕ) → t < length nest.tasks → is_started past t ≡ false → was_deferred past t ≡ false
    → tasks_left w nest (past ++ events.Defer t ∷ []) + w.each ≤ tasks_left w nest past
task_deferred w nest past t there not_started not_deferred =
    let found = declared nest.tasks t there in
    let changed = sum_from-change after before 0 t t nest.tasks found.0 same (omega arith) found.1 in
    let less : after t found.0 ≡ sum_by w.step found.0.steps + 2 * w.each =
    ap (λ b. task_left w b (was_deferred (past ++ event ∷ []) t) found.0) (is_started_push past event t ∙ or-false (is_started past t) ∙ not_started)
    ∙ ap (λ b. task_left w false b found.0)
    (was_deferred_push past event t ∙ ap (λ b. was_deferred past t || b) (eq-eqb t t refl) ∙ or-true (was_deferred past t)) in
    let all : before t found.0 ≡ sum_by w.step found.0.steps + 3 * w.each =
    ap (λ b. task_left w b (was_deferred past t) found.0) not_started ∙ ap (λ b. task_left w false b found.0) not_deferred in
    omega (arith, changed, less, all)
  where
    event : Event
    event = events.Defer t

    after : ℕ → NestTaskPlan → ℕ
    after u = task_left w (is_started (past ++ event ∷ []) u) (was_deferred (past ++ event ∷ []) u)

    before : ℕ → NestTaskPlan → ℕ
    before u = task_left w (is_started past u) (was_deferred past u)

    same : (u : ℕ) (task : NestTaskPlan) → (t ≡ u → ⊥) → after u task ≡ before u task
    same u task other =
        ap (λ b. task_left w b (was_deferred (past ++ event ∷ []) u) task) (is_started_push past event u ∙ or-false (is_started past u))
        ∙ ap (λ b. task_left w (is_started past u) b task)
        (was_deferred_push past event u ∙ ap (λ b. was_deferred past u || b) (ne_eqb t u other) ∙ or-false (was_deferred past u))

task_ended_left : (w : Weights) (nest : NestPlan) (frames : List Frame) → sum_by (frame_left w nest) (task_ended frames) ≡ sum_by (frame_left w nest) frames
task_ended_left w nest [] = refl
task_ended_left w nest (frames.Task task done ∷ outer) = refl
task_ended_left w nest (frames.Loop bound ended ∷ outer) = refl

-- what is left of a task whose next step is begun
step_left : (w : Weights) (nest : NestPlan) (task done : ℕ) (outer : List Frame) (step : NestStep) → slice_get (steps_of nest task) done ≡ Some step
    → sum_by (frame_left w nest) (frames.Task task done ∷ outer) ≡ w.step step + sum_by (frame_left w nest) (frames.Task task (done + 1) ∷ outer)
step_left w nest task done outer step h =
    let before = sum_by-cons (frame_left w nest) (frames.Task task done) outer in
    let after = sum_by-cons (frame_left w nest) (frames.Task task (done + 1)) outer in
    let one = sum-drop w.step (steps_of nest task) done step h in
    omega (arith, before, after, one)

-- each event takes its weight from what is left
pub event_takes : (weight : Event → ℕ) (w : Weights) → Weighs weight w → (nest : NestPlan) (past : List Event) → IsNestPast nest past
    → ((t : ℕ) → was_posted past t ≡ true → t < length nest.tasks) → (now : Nesting) (event : Event) (after : Nesting) → Comes nest past now event after
    → weight event + left_of w nest (past ++ event ∷ []) after ≤ left_of w nest past now
event_takes weight w weighs nest past fits there now event after (act {begun} {task} {queue} h) =
    let same = tasks_kept w nest past (events.Post task queue) (λ t. refl) (λ t. refl) in
    omega (arith, same, weighs.act task queue, sum-drop w.action nest.actions begun (actions.Post task queue) h)
event_takes weight w weighs nest past fits there now event after (run {begun} {bound} h) =
    let same = tasks_kept w nest past (events.Loop 1) (λ t. refl) (λ t. refl) in
    omega (arith, same, weighs.run 1 bound, sum-drop w.action nest.actions begun (actions.Run bound) h)
event_takes weight w weighs nest past fits there now event after (say {begun} {task} {done} {value} {outer} h) =
    let same = tasks_kept w nest past (events.Say value) (λ t. refl) (λ t. refl) in
    let one = step_left w nest task done outer (steps.Say value) h in
    omega (arith, same, weighs.say value, one)
event_takes weight w weighs nest past fits there now event after (post {begun} {task} {done} {posted} {queue} {outer} h) =
    let same = tasks_kept w nest past (events.Post posted queue) (λ t. refl) (λ t. refl) in
    let one = step_left w nest task done outer (steps.Post posted queue) h in
    omega (arith, same, weighs.post posted queue, one)
event_takes weight w weighs nest past fits there now event after (loop {begun} {task} {done} {bound} {outer} h) =
    let same = tasks_kept w nest past event (λ t. refl) (λ t. refl) in
    let one = step_left w nest task done outer (steps.Loop bound) h in
    let more = sum_by-cons (frame_left w nest) (frames.Loop bound 0) (frames.Task task (done + 1) ∷ outer) in
    omega (arith, same, weighs.loop (depth_of past + 1) bound, one, more)
event_takes weight w weighs nest past fits there now event after (end {begun} {task} {done} {outer} h) =
    let same = tasks_kept w nest past (events.End task) (λ t. refl) (λ t. refl) in
    let before = sum_by-cons (frame_left w nest) (frames.Task task done) outer in
    omega (arith, same, weighs.end task, before, task_ended_left w nest outer)
event_takes weight w weighs nest past fits there now event after (quit {begun} {bound} {ended} {depth} {outer} h) =
    let same = tasks_kept w nest past (events.Quit depth) (λ t. refl) (λ t. refl) in
    let before = sum_by-cons (frame_left w nest) (frames.Loop bound ended) outer in
    omega (arith, same, weighs.quit depth, before)
event_takes weight w weighs nest past fits there now event after (start {begun} {bound} {ended} {depth} {task} {outer} h chosen) =
    let less = task_starts w nest past task depth (there task (chosen_posted nest past depth task fits chosen)) (chosen_not_started chosen) in
    let more = sum_by-cons (frame_left w nest) (frames.Task task 0) (frames.Loop bound ended ∷ outer) in
    omega (arith, less, more, weighs.start task depth)
event_takes weight w weighs nest past fits there now event after (defer {begun} {bound} {ended} {task} {outer} deep front not_may) =
    let waits = front_waits nest past task front in
    let less = task_deferred w nest past task (there task (waits_posted past task waits)) waits.not_started waits.not_deferred in
    omega (arith, less, weighs.defer task)
