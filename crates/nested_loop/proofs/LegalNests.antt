-- What every legal log of a nest is like.
-- Cited by `laws.rt`.
use Rattle.std.proofs.Common.{◌≡◌, ℕ, ◌<◌, ◌≤◌, true, false, eqb, List, [], ◌∷◌, ◌++◌, refl, sym, ap}
use Rattle.std.proofs.Common.{◌∙◌, subst, Option, Some, None, arith, append-nil, append_assoc}
use Rattle.std.specs.Prelude.{slice_get}
use Rattle.std.specs.List.{filter_map, list_any}
use Rattle.std.proofs.lemmas.Bool.{and_from, eq-eqb, eqb-true, true≢false}
use Rattle.std.proofs.lemmas.Option.{none-some}
use Rattle.list_laws.specs.Lists.{count}
use Rattle.list_laws.proofs.Places.{count_once-push}
use Rattle.nested_loop.specs.Plan.{NestPlan}
use Rattle.nested_loop.specs.Nest.{ComesAfter, IsLegalNest, IsNestPast, Nesting, asked_by, deferred_tasks, depth_of, is_nestable}
use Rattle.nested_loop.specs.Nest.{is_started, nesting_of, next_event, starts, task_ended, was_deferred}
use Rattle.nested_loop.specs.NestLaws.{DeferredTasksStartInOrder, NestedTasksAreNestable, StartsBehind, TasksAreNested, TasksStartOnce, close_in_order}
use Rattle.nested_loop.specs.declared.event.Event.{Event}
use Rattle.nested_loop.specs.declared.event.Event.TheVariants as events
use Rattle.nested_loop.specs.declared.frame.Frame.{Frame}
use Rattle.nested_loop.specs.declared.frame.Frame.TheVariants as frames
use Rattle.nested_loop.proofs.Chosen.{chosen_not_started, chosen_posted, first_deferred_is, front_waits}
use Rattle.nested_loop.proofs.Comes.{Comes, IsChosen, resumed, waited, nested, act, run, say, post, loop}
use Rattle.nested_loop.proofs.Comes.{end, quit, start, defer, comes, part_of_past, past_induction}

-- what is known where a task starts
StartsAs : NestPlan → List Event → Event → Type 0
StartsAs nest past (events.Start task depth) = IsChosen nest past depth task
StartsAs nest past event = Unit {0}

starts_as : (nest : NestPlan) (past : List Event) (now : Nesting) (event : Event) (after : Nesting) → Comes nest past now event after → StartsAs nest past event
unfolding StartsAs
starts_as nest past now event after (start h chosen) = chosen
starts_as nest past now event after other = tt

-- a task that starts behind a past is one that was chosen
chosen_at : (nest : NestPlan) (past : List Event) (task depth : ℕ) → next_event nest past ≡ Some (events.Start task depth) → IsChosen nest past depth task
unfolding StartsAs
chosen_at nest past task depth next = starts_as nest past (nesting_of nest past) (events.Start task depth)
    (nesting_of nest (past ++ events.Start task depth ∷ []))
    (comes nest past (events.Start task depth) next)

-- so it is at each place of a legal log
chosen_behind : (nest : NestPlan) (log past : List Event) (task depth : ℕ) → IsNestPast nest log → StartsBehind log past task depth
    → IsNestPast nest past × IsChosen nest past depth task
chosen_behind nest log past task depth fits behind =
    let parts = part_of_past nest past behind.rest (events.Start task depth) (subst (IsNestPast nest) behind.parts fits) in
    (parts.0, chosen_at nest past task depth parts.1)

-- a task that starts has not started before
starts_first : (nest : NestPlan) (t : ℕ) (past : List Event) (event : Event) → next_event nest past ≡ Some event → starts t event ≡ true
    → list_any (starts t) past ≡ false
unfolding is_started
starts_first nest t past (events.Start task depth) next it =
    subst (λ u. is_started past u ≡ false) (eqb-true task t it) (chosen_not_started (chosen_at nest past task depth next))
starts_first nest t past (events.Post task queue) next it = absurd (true≢false (sym it))
starts_first nest t past (events.Loop depth) next it = absurd (true≢false (sym it))
starts_first nest t past (events.Quit depth) next it = absurd (true≢false (sym it))
starts_first nest t past (events.End task) next it = absurd (true≢false (sym it))
starts_first nest t past (events.Defer task) next it = absurd (true≢false (sym it))
starts_first nest t past (events.Say value) next it = absurd (true≢false (sym it))

once : (nest : NestPlan) (t : ℕ) (log : List Event) → IsNestPast nest log → count (starts t) log ≤ 1
once nest t = past_induction nest (λ past. count (starts t) past ≤ 1) (omega arith) (λ past event fits next before.
    count_once-push (starts t) past event before (starts_first nest t past event next))

pub tasks_start_once : (nest : NestPlan) (log : List Event) → IsLegalNest nest log → TasksStartOnce log
tasks_start_once nest log legal = record {
  once = λ t. once nest t log legal.is_past;
  posted_before = λ past task depth behind.
      let at = chosen_behind nest log past task depth legal.is_past behind in
      chosen_posted nest past depth task at.0 at.1;
}

-- the tasks that are open, the innermost first
open_task : Frame → Option ℕ
open_task (frames.Task task begun) = Some task
open_task (frames.Loop bound ended) = None

open_tasks : List Frame → List ℕ
open_tasks frames = filter_map open_task frames

ended_tasks : (outer : List Frame) → open_tasks (task_ended outer) ≡ open_tasks outer
unfolding open_tasks open_task
ended_tasks [] = refl
ended_tasks (frames.Task task begun ∷ outer) = refl
ended_tasks (frames.Loop bound ended ∷ outer) = refl

opens : (open_ones : List ℕ) (task depth : ℕ) (rest : List Event)
    → close_in_order open_ones (events.Start task depth ∷ rest) ≡ close_in_order (task ∷ open_ones) rest
opens [] task depth rest = refl
opens (x ∷ xs) task depth rest = refl

-- an event that neither starts nor ends a task
passes : (open_ones : List ℕ) (event : Event) (rest : List Event) → Type 0
passes open_ones event rest = close_in_order open_ones rest ≡ true → close_in_order open_ones (event ∷ rest) ≡ true

passes_post : (open_ones : List ℕ) (task queue : ℕ) (rest : List Event) → passes open_ones (events.Post task queue) rest
unfolding passes
passes_post [] task queue rest h = h
passes_post (x ∷ xs) task queue rest h = h

passes_loop : (open_ones : List ℕ) (depth : ℕ) (rest : List Event) → passes open_ones (events.Loop depth) rest
unfolding passes
passes_loop [] depth rest h = h
passes_loop (x ∷ xs) depth rest h = h

passes_quit : (open_ones : List ℕ) (depth : ℕ) (rest : List Event) → passes open_ones (events.Quit depth) rest
unfolding passes
passes_quit [] depth rest h = h
passes_quit (x ∷ xs) depth rest h = h

passes_say : (open_ones : List ℕ) (value : ℕ) (rest : List Event) → passes open_ones (events.Say value) rest
unfolding passes
passes_say [] value rest h = h
passes_say (x ∷ xs) value rest h = h

passes_defer : (open_ones : List ℕ) (task : ℕ) (rest : List Event) → passes open_ones (events.Defer task) rest
unfolding passes
passes_defer [] task rest h = h
passes_defer (x ∷ xs) task rest h = h

-- one event, where what follows closes what is then open
closes : (nest : NestPlan) (past : List Event) (now : Nesting) (event : Event) (after : Nesting) (rest : List Event) → Comes nest past now event after
    → close_in_order (open_tasks after.frames) rest ≡ true → close_in_order (open_tasks now.frames) (event ∷ rest) ≡ true
unfolding open_tasks open_task passes
closes nest past now event after rest (act {begun} {task} {queue} h) k = passes_post [] task queue rest k
closes nest past now event after rest (run h) k = passes_loop [] 1 rest k
closes nest past now event after rest (say {task = task} {value = value} {outer = outer} h) k = passes_say
    (open_tasks (frames.Task task 0 ∷ outer)) value rest k
closes nest past now event after rest (post {task = task} {posted = posted} {queue = queue} {outer = outer} h) k =
    passes_post (open_tasks (frames.Task task 0 ∷ outer)) posted queue rest k
closes nest past now event after rest (loop {task = task} {outer = outer} h) k = passes_loop (open_tasks (frames.Task task 0 ∷ outer))
    (Rattle.std.proofs.Common.◌+◌ (depth_of past) 1) rest k
closes nest past now event after rest (end {task = task} {outer = outer} h) k =
    and_from (eqb task task) (close_in_order (open_tasks outer) rest) (eq-eqb task task refl) (ap (λ os. close_in_order os rest) (sym (ended_tasks outer)) ∙ k)
closes nest past now event after rest (quit {depth = depth} {outer = outer} h) k = passes_quit (open_tasks outer) depth rest k
closes nest past now event after rest (start {depth = depth} {task = task} {outer = outer} h chosen) k = opens (open_tasks outer) task depth rest ∙ k
closes nest past now event after rest (defer {task = task} {outer = outer} deep front not_may) k = passes_defer (open_tasks outer) task rest k

none_open : (nest : NestPlan) (past : List Event) (begun : ℕ) (open_frames : List Frame) → asked_by nest past begun open_frames ≡ None
    → close_in_order (open_tasks open_frames) [] ≡ true
unfolding open_tasks
none_open nest past begun [] h = refl
none_open nest past begun (frames.Task task done ∷ outer) h = absurd (none-some _ (sym h))
none_open nest past begun (frames.Loop bound ended ∷ outer) h = absurd (none-some _ (sym h))

closed_from : (nest : NestPlan) (past rest : List Event) → ComesAfter nest past rest → next_event nest (past ++ rest) ≡ None
    → close_in_order (open_tasks (nesting_of nest past).frames) rest ≡ true
unfolding next_event
closed_from nest past [] h ends = none_open nest past (nesting_of nest past).begun (nesting_of nest past).frames
    (ap (next_event nest) (sym (append-nil past)) ∙ ends)
closed_from nest past (event ∷ rest) h ends = closes nest past (nesting_of nest past) event (nesting_of nest (past ++ event ∷ [])) rest
    (comes nest past event h.0)
    (closed_from nest (past ++ event ∷ []) rest h.1 (ap (next_event nest) (append_assoc past (event ∷ []) rest) ∙ ends))

pub tasks_are_nested : (nest : NestPlan) (log : List Event) → IsLegalNest nest log → TasksAreNested log
unfolding nesting_of open_tasks
tasks_are_nested nest log legal = closed_from nest [] log legal.is_past.each legal.ends

nestable_below : (nest : NestPlan) (past : List Event) (depth task : ℕ) → IsChosen nest past depth task → 1 < depth → is_nestable nest task ≡ true
nestable_below nest past depth task (resumed first) deep = absurd (omega (arith, deep))
nestable_below nest past depth task (waited none front) deep = absurd (omega (arith, deep))
nestable_below nest past depth task (nested not_one front may) deep = may

pub nested_are_nestable : (nest : NestPlan) (log : List Event) → IsLegalNest nest log → NestedTasksAreNestable nest log
nested_are_nestable nest log legal = record {
  nestable = λ past task depth behind. nestable_below nest past depth task (chosen_behind nest log past task depth legal.is_past behind).1;
}

first_of_deferred : (nest : NestPlan) (past : List Event) (depth task : ℕ) → IsChosen nest past depth task → was_deferred past task ≡ true
    → slice_get (deferred_tasks past) 0 ≡ Some task
first_of_deferred nest past depth task (resumed first) deferred = first
first_of_deferred nest past depth task (waited none front) deferred = absurd (true≢false (sym deferred ∙ (front_waits nest past task front).not_deferred))
first_of_deferred nest past depth task (nested deep front may) deferred = absurd (true≢false (sym deferred ∙ (front_waits nest past task front).not_deferred))

empty_list : (xs : List ℕ) → slice_get xs 0 ≡ None → xs ≡ []
empty_list [] h = refl
empty_list (x ∷ xs) h = absurd (none-some x (sym h))

none_deferred : (nest : NestPlan) (past : List Event) (depth task : ℕ) → depth ≡ 1 → IsChosen nest past depth task → was_deferred past task ≡ false
    → deferred_tasks past ≡ []
none_deferred nest past depth task one (resumed first) waits = absurd (true≢false (sym (first_deferred_is past task first).0 ∙ waits))
none_deferred nest past depth task one (waited none front) waits = empty_list (deferred_tasks past) none
none_deferred nest past depth task one (nested deep front may) waits = absurd (true≢false (sym (eq-eqb depth 1 one) ∙ deep))

pub deferred_start_in_order : (nest : NestPlan) (log : List Event) → IsLegalNest nest log → DeferredTasksStartInOrder log
deferred_start_in_order nest log legal = record {
  first = λ past task depth behind. first_of_deferred nest past depth task (chosen_behind nest log past task depth legal.is_past behind).1;
  before_waiting = λ past task behind. none_deferred nest past 1 task refl (chosen_behind nest log past task 1 legal.is_past behind).1;
}
