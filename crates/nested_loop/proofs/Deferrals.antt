-- What one more event does to the deferred tasks, and to the depth.
-- Cited by `Made`.
use Rattle.std.proofs.Common.{◌≡◌, ℕ, ◌+◌, ◌-◌, ◌≤◌, length, Bool, true, false, cond, eqb, List, [], ◌∷◌}
use Rattle.std.proofs.Common.{◌++◌, drop, refl, sym, ap, ◌∙◌, subst, Some, None, arith, append-nil}
use Rattle.std.specs.Prelude.{◌||◌, ◌&&◌, not, slice_get, filter}
use Rattle.std.specs.List.{AllByRecursion, filter_map, list_any}
use Rattle.std.specs.Option.{option_to_list}
use Rattle.std.proofs.Math.Bool.{or-false}
use Rattle.std.proofs.lemmas.Bool.{eq-eqb}
use Rattle.std.proofs.lemmas.Option.{none-some, same_Some}
use Rattle.std.proofs.lemmas.List.Elements.{filter-append}
use Rattle.std.proofs.lemmas.List.Folds.{list_any-append}
use Rattle.list_laws.specs.Lists.{count}
use Rattle.list_laws.proofs.Counts.{count-append, count_step}
use Rattle.list_laws.proofs.Elements.{AllByRecursion-map, push_induction}
use Rattle.list_laws.proofs.Filters.{filter-filter, filter_all, filter_congr}
use Rattle.list_laws.proofs.Finds.{none_counted}
use Rattle.list_laws.proofs.Places.{count-push, count_none}
use Rattle.list_laws.proofs.Values.{eqb-turned}
use Rattle.nested_loop.specs.Plan.{NestPlan}
use Rattle.nested_loop.specs.Nest.{IsNestPast, Nesting, defers, deferred_by, deferred_tasks, depth_of, is_loop, is_quit}
use Rattle.nested_loop.specs.Nest.{is_started, nesting_of, next_event, starts, task_ended, was_deferred}
use Rattle.nested_loop.specs.Ended.{HasEnded}
use Rattle.nested_loop.specs.declared.event.Event.{Event}
use Rattle.nested_loop.specs.declared.event.Event.TheVariants as events
use Rattle.nested_loop.specs.declared.frame.Frame.{Frame}
use Rattle.nested_loop.specs.declared.frame.Frame.TheVariants as frames
use Rattle.nested_loop.proofs.Comes.{Comes, act, run, say, post, loop, end, quit, start, defer, comes, past_induction}
use Rattle.nested_loop.proofs.Growth.{deferrals_push, is_started_push, was_deferred_push}
use Rattle.nested_loop.proofs.Chosen.{front_waits}

-- ---- deferred tasks

-- how an event changes the test of what has not started
not_started_push : (past : List Event) (event : Event) (t : ℕ) → not (is_started (past ++ event ∷ []) t) ≡ (not (is_started past t) && not (starts t event))
not_started_push past event t = ap not (is_started_push past event t) ∙ neither (is_started past t) (starts t event)
  where
    neither : (a b : Bool) → not (a || b) ≡ (not a && not b)
    neither true b = refl
    neither false b = refl

-- the deferred tasks, after an event that starts what it may start
deferred_push : (past : List Event) (event : Event) → deferred_tasks (past ++ event ∷ [])
    ≡ filter (λ t. not (starts t event)) (filter (λ t. not (is_started past t)) (filter_map deferred_by past ++ option_to_list (deferred_by event)))
unfolding deferred_tasks
deferred_push past event =
    filter_congr (λ t. not (is_started (past ++ event ∷ []) t)) (λ t. not (is_started past t) && not (starts t event))
    (filter_map deferred_by (past ++ event ∷ []))
    (not_started_push past event)
    ∙ ap (filter (λ t. not (is_started past t) && not (starts t event))) (deferrals_push past event)
    ∙ sym (filter-filter (λ t. not (starts t event)) (λ t. not (is_started past t)) (filter_map deferred_by past ++ option_to_list (deferred_by event)))

filter_every : (test : ℕ → Bool) (xs : List ℕ) → ((x : ℕ) → test x ≡ true) → filter test xs ≡ xs
filter_every test xs h = Rattle.list_laws.proofs.Filters.filter_always test xs h

-- other events leave them
pub deferred_kept : (past : List Event) (event : Event) → ((t : ℕ) → starts t event ≡ false) → deferred_by event ≡ None
    → deferred_tasks (past ++ event ∷ []) ≡ deferred_tasks past
unfolding deferred_tasks
deferred_kept past event no_start no_defer =
    deferred_push past event
    ∙ filter_every (λ t. not (starts t event)) (filter (λ t. not (is_started past t)) (filter_map deferred_by past ++ option_to_list (deferred_by event)))
    (λ t. ap not (no_start t))
    ∙ ap (λ o. filter (λ t. not (is_started past t)) (filter_map deferred_by past ++ option_to_list o)) no_defer
    ∙ ap (filter (λ t. not (is_started past t))) (append-nil (filter_map deferred_by past))

-- a deferral puts its task at their end
pub deferred_more : (past : List Event) (t : ℕ) → is_started past t ≡ false → deferred_tasks (past ++ events.Defer t ∷ []) ≡ deferred_tasks past ++ t ∷ []
unfolding deferred_tasks
deferred_more past t not_started =
    deferred_push past (events.Defer t)
    ∙ filter_every (λ u. true) (filter (λ u. not (is_started past u)) (filter_map deferred_by past ++ t ∷ [])) (λ u. refl)
    ∙ filter-append (λ u. not (is_started past u)) (filter_map deferred_by past) (t ∷ [])
    ∙ ap (λ b. filter (λ u. not (is_started past u)) (filter_map deferred_by past) ++ cond (not b) (t ∷ []) []) not_started

-- was it deferred, by the list of those that were
deferrals_any : (t : ℕ) (past : List Event) → list_any (λ u. eqb u t) (filter_map deferred_by past) ≡ was_deferred past t
unfolding was_deferred
deferrals_any t = push_induction (λ past. list_any (λ u. eqb u t) (filter_map deferred_by past) ≡ was_deferred past t) refl (λ past event same.
    ap (list_any (λ u. eqb u t)) (deferrals_push past event)
    ∙ list_any-append (λ u. eqb u t) (filter_map deferred_by past) (option_to_list (deferred_by event))
    ∙ ap (λ b. b || list_any (λ u. eqb u t) (option_to_list (deferred_by event))) same
    ∙ ap (λ b. was_deferred past t || b) (one event)
    ∙ sym (was_deferred_push past event t))
  where
    one : (event : Event) → list_any (λ u. eqb u t) (option_to_list (deferred_by event)) ≡ defers t event
    one (events.Defer task) = or-false (eqb task t)
    one event = refl

-- no task is deferred twice
deferred_once : (nest : NestPlan) (t : ℕ) (past : List Event) → IsNestPast nest past → count (λ u. eqb u t) (filter_map deferred_by past) ≤ 1
deferred_once nest t = past_induction nest (λ past. count (λ u. eqb u t) (filter_map deferred_by past) ≤ 1) (omega arith) step
  where
    at : (past : List Event) (event : Event) (now after : Nesting) → Comes nest past now event after → count (λ u. eqb u t) (filter_map deferred_by past) ≤ 1
        → count (λ u. eqb u t) (filter_map deferred_by past) + count (λ u. eqb u t) (option_to_list (deferred_by event)) ≤ 1
    at past event now after (defer {task = task} deep front not_may) once = by_task (eqb task t) refl
      where
        by_task : (b : Bool) → eqb task t ≡ b → count (λ u. eqb u t) (filter_map deferred_by past) + length (cond b (task ∷ []) []) ≤ 1
        by_task true is =
            let fresh = (front_waits nest past task front).not_deferred in
            let none = count_none (λ u. eqb u t) (filter_map deferred_by past)
            (deferrals_any t past ∙ ap (was_deferred past) (sym (Rattle.std.proofs.lemmas.Bool.eqb-true task t is)) ∙ fresh) in
            omega (arith, none)
        by_task false is = omega (arith, once)
    at past event now after other once = omega (arith, once)

    step : (past : List Event) (event : Event) → IsNestPast nest past → next_event nest past ≡ Some event
        → count (λ u. eqb u t) (filter_map deferred_by past) ≤ 1 → count (λ u. eqb u t) (filter_map deferred_by (past ++ event ∷ [])) ≤ 1
    step past event fits next once =
        let within = at past event (nesting_of nest past) (nesting_of nest (past ++ event ∷ [])) (comes nest past event next) once in
        let grown = ap (count (λ u. eqb u t)) (deferrals_push past event) in
        let parts = count-append (λ u. eqb u t) (filter_map deferred_by past) (option_to_list (deferred_by event)) in
        omega (arith, within, grown, parts)

-- the first of a list without the others of its kind
without_first : (t : ℕ) (xs : List ℕ) → slice_get xs 0 ≡ Some t → count (λ u. eqb u t) xs ≤ 1 → filter (λ u. not (eqb t u)) xs ≡ drop 1 xs
without_first t [] h once = absurd (none-some t h)
without_first t (x ∷ xs) h once =
    let same = same_Some x t h in
    let counted = count_step {A = ℕ} (λ u. eqb u t) x xs true (eq-eqb x t same) in
    let none = none_counted (λ u. eqb u t) xs (omega (arith, once, counted)) in
    ap (λ b. cond (not b) (x ∷ filter (λ u. not (eqb t u)) xs) (filter (λ u. not (eqb t u)) xs)) (eq-eqb t x (sym same))
    ∙ filter_all (λ u. not (eqb t u)) xs (AllByRecursion-map (λ u. eqb u t ≡ false) (λ u. not (eqb t u) ≡ true) xs
    (λ u other. ap not (eqb-turned t u ∙ other)) none)

count_filter : (p q : ℕ → Bool) (xs : List ℕ) → count p (filter q xs) ≤ count p xs
count_filter p q [] = omega arith
count_filter p q (x ∷ xs) = by_test (q x) (p x) (count_filter p q xs) (Rattle.list_laws.proofs.Counts.count-cons p x (filter q xs))
    (Rattle.list_laws.proofs.Counts.count-cons p x xs)
  where
    by_test : (b c : Bool) → count p (filter q xs) ≤ count p xs → count p (x ∷ filter q xs) ≡ count p (filter q xs) + cond (p x) 1 0
        → count p (x ∷ xs) ≡ count p xs + cond (p x) 1 0 → count p (cond b (x ∷ filter q xs) (filter q xs)) ≤ count p (x ∷ xs)
    by_test true c le kept all = omega (arith, le, kept, all)
    by_test false c le kept all = omega (arith, le, all)

-- the first of them leaves them where it starts
pub deferred_less : (nest : NestPlan) (past : List Event) (t depth : ℕ) → IsNestPast nest past → slice_get (deferred_tasks past) 0 ≡ Some t
    → deferred_tasks (past ++ events.Start t depth ∷ []) ≡ drop 1 (deferred_tasks past)
unfolding deferred_tasks
deferred_less nest past t depth fits first =
    deferred_push past (events.Start t depth)
    ∙ ap (λ ts. filter (λ u. not (eqb t u)) (filter (λ u. not (is_started past u)) ts)) (append-nil (filter_map deferred_by past))
    ∙ without_first t (filter (λ u. not (is_started past u)) (filter_map deferred_by past)) first
    (omega (arith, deferred_once nest t past fits, count_filter (λ u. eqb u t) (λ u. not (is_started past u)) (filter_map deferred_by past)))

-- a task that was not deferred leaves them where it starts
pub deferred_same : (past : List Event) (t depth : ℕ) → was_deferred past t ≡ false → deferred_tasks (past ++ events.Start t depth ∷ []) ≡ deferred_tasks past
unfolding deferred_tasks
deferred_same past t depth not_deferred =
    let none = none_counted (λ u. eqb u t) (filter_map deferred_by past)
    (count_none (λ u. eqb u t) (filter_map deferred_by past) (deferrals_any t past ∙ not_deferred)) in
    deferred_push past (events.Start t depth)
    ∙ ap (λ ts. filter (λ u. not (eqb t u)) (filter (λ u. not (is_started past u)) ts)) (append-nil (filter_map deferred_by past))
    ∙ filter_all (λ u. not (eqb t u)) (filter (λ u. not (is_started past u)) (filter_map deferred_by past))
    (Rattle.list_laws.proofs.Elements.AllByRecursion-filter (λ u. not (eqb t u) ≡ true) (λ u. not (is_started past u)) (filter_map deferred_by past)
    (AllByRecursion-map (λ u. eqb u t ≡ false) (λ u. not (eqb t u) ≡ true) (filter_map deferred_by past) (λ u other. ap not (eqb-turned t u ∙ other)) none))

-- ---- depth

-- it is a loop
abbrev is_loop_frame : Frame → Bool
is_loop_frame (frames.Loop bound ended) = true
is_loop_frame (frames.Task task done) = false

ended_loops : (outer : List Frame) → count is_loop_frame (task_ended outer) ≡ count is_loop_frame outer
ended_loops [] = refl
ended_loops (frames.Task task done ∷ outer) = refl
ended_loops (frames.Loop bound ended ∷ outer) = refl

-- the loops that opened are those that quit and those that are open
AreCounted : NestPlan → List Event → Type 0
AreCounted nest past = count is_loop past ≡ count is_quit past + count is_loop_frame (nesting_of nest past).frames

loops_counted : (nest : NestPlan) (past : List Event) → IsNestPast nest past → AreCounted nest past
unfolding AreCounted nesting_of
loops_counted nest = past_induction nest (AreCounted nest) refl (λ past event fits next known.
    let more = at past event (nesting_of nest past) (nesting_of nest (past ++ event ∷ [])) (comes nest past event next) in
    omega (arith, known, more, count-push is_loop past event, count-push is_quit past event))
  where
    at : (past : List Event) (event : Event) (now after : Nesting) → Comes nest past now event after
        → cond (is_loop event) 1 0 + count is_loop_frame now.frames ≡ cond (is_quit event) 1 0 + count is_loop_frame after.frames
    at past event now after (act h) = refl
    at past event now after (run h) = refl
    at past event now after (say h) = refl
    at past event now after (post h) = refl
    at past event now after (loop h) = omega arith
    at past event now after (end {outer = outer} h) = omega (arith, ended_loops outer)
    at past event now after (quit h) = omega arith
    at past event now after (start h chosen) = refl
    at past event now after (defer deep front not_may) = refl

-- the depth is how many loops are open
depth_counts : (nest : NestPlan) (past : List Event) → IsNestPast nest past → depth_of past ≡ count is_loop_frame (nesting_of nest past).frames
unfolding depth_of AreCounted
depth_counts nest past fits = let known = loops_counted nest past fits in omega (arith, known)

-- it is one more where a loop opens
pub depth_more : (nest : NestPlan) (past : List Event) (depth : ℕ) → IsNestPast nest past → depth_of (past ++ events.Loop depth ∷ []) ≡ depth_of past + 1
unfolding depth_of AreCounted
depth_more nest past depth fits =
    let known = loops_counted nest past fits in
    omega (arith, known, count-push is_loop past (events.Loop depth), count-push is_quit past (events.Loop depth))

-- one less where a loop quits
pub depth_less : (nest : NestPlan) (past : List Event) (depth : ℕ) → IsNestPast nest past → depth_of (past ++ events.Quit depth ∷ []) ≡ depth_of past - 1
unfolding depth_of
depth_less nest past depth fits = omega (arith, count-push is_loop past (events.Quit depth), count-push is_quit past (events.Quit depth))

-- and otherwise the same
pub depth_kept : (past : List Event) (event : Event) → is_loop event ≡ false → is_quit event ≡ false → depth_of (past ++ event ∷ []) ≡ depth_of past
unfolding depth_of
depth_kept past event no_loop no_quit =
    let opened : count is_loop (past ++ event ∷ []) ≡ count is_loop past + 0 = count-push is_loop past event
    ∙ ap (λ b. count is_loop past + cond b 1 0) no_loop in
    let quits : count is_quit (past ++ event ∷ []) ≡ count is_quit past + 0 = count-push is_quit past event
    ∙ ap (λ b. count is_quit past + cond b 1 0) no_quit in
    omega (arith, opened, quits)

-- inside of a loop it is above 0
pub depth_inside : (nest : NestPlan) (past : List Event) (bound ended : ℕ) (outer : List Frame) → IsNestPast nest past
    → (nesting_of nest past).frames ≡ frames.Loop bound ended ∷ outer → 1 ≤ depth_of past
depth_inside nest past bound ended outer fits is = let n = depth_counts nest past fits ∙ ap (count is_loop_frame) is in omega (arith, n)

-- it is no more than there are events
pub depth_few : (past : List Event) → depth_of past ≤ length past
unfolding depth_of
depth_few past = let few = Rattle.list_laws.proofs.Counts.count_le is_loop past in omega (arith, few)

-- ---- ended tasks

more_ended : (n : ℕ) (frame : Frame) → HasEnded n frame → HasEnded (n + 1) frame
more_ended n (frames.Loop bound ended) h = omega (arith, h)
more_ended n (frames.Task task done) h = tt

-- no loop has seen more tasks end than there are events
pub ended_few : (nest : NestPlan) (past : List Event) → IsNestPast nest past → AllByRecursion (HasEnded (length past)) (nesting_of nest past).frames
unfolding nesting_of
ended_few nest = past_induction nest (λ past. AllByRecursion (HasEnded (length past)) (nesting_of nest past).frames) tt (λ past event fits next all.
    subst (λ n. AllByRecursion (HasEnded n) (nesting_of nest (past ++ event ∷ [])).frames) (sym (Rattle.std.proofs.Common.length-append past (event ∷ [])))
    (at past event (nesting_of nest past) (nesting_of nest (past ++ event ∷ [])) (comes nest past event next)
    (AllByRecursion-map (HasEnded (length past)) (HasEnded (length past + 1)) (nesting_of nest past).frames (more_ended (length past)) all) all))
  where
    ended_one : (n : ℕ) (outer : List Frame) → AllByRecursion (HasEnded n) outer → AllByRecursion (HasEnded (n + 1)) outer
        → AllByRecursion (HasEnded (n + 1)) (task_ended outer)
    ended_one n [] few more = tt
    ended_one n (frames.Task task done ∷ outer) few more = more
    ended_one n (frames.Loop bound ended ∷ outer) few more = (omega (arith, few.0), more.1)

    at : (past : List Event) (event : Event) (now after : Nesting) → Comes nest past now event after → AllByRecursion (HasEnded (length past + 1)) now.frames
        → AllByRecursion (HasEnded (length past)) now.frames → AllByRecursion (HasEnded (length past + 1)) after.frames
    at past event now after (act h) more few = tt
    at past event now after (run h) more few = (omega arith, tt)
    at past event now after (say h) more few = more
    at past event now after (post h) more few = more
    at past event now after (loop h) more few = (omega arith, more)
    at past event now after (end {outer = outer} h) more few = ended_one (length past) outer few.1 more.1
    at past event now after (quit h) more few = more.1
    at past event now after (start h chosen) more few = (tt, more)
    at past event now after (defer deep front not_may) more few = more
