-- The script of a sound nest is one that the manager of the main queues can be made with.
-- Cited by `Waiting::new`, `most_events`, `Kept`, `Made`.
use Rattle.std.proofs.Common.{◌≡◌, ℕ, zero, suc, ◌+◌, ◌*◌, ◌<◌, ◌≤◌, ◌^◌, length, List, [], ◌∷◌, ◌++◌}
use Rattle.std.proofs.Common.{map, refl, sym, ap, subst, Option, Some, None, inl, arith, length-append}
use Rattle.std.proofs.lemmas.Bool.{false≢true}
use Rattle.std.specs.Prelude.{slice_get, flat_map, sum_by, Contains}
use Rattle.std.specs.List.{AllByRecursion, cons_option, filter_map}
use Rattle.std.specs.Option.{IfSome}
use Rattle.std.proofs.lemmas.List.{length-map}
use Rattle.std.proofs.lemmas.List.Elements.{Contains-append_left, Contains-append_right}
use Rattle.std.proofs.lemmas.List.Sums.{sum_by-cons}
use Rattle.list_laws.proofs.Elements.{AllByRecursion-append, AllByRecursion-filter_map, AllByRecursion-map, AllByRecursion-mapped, AllByRecursion-flat_map}
use Rattle.list_laws.proofs.Made.{contains_filter_map}
use Rattle.task_base.specs.declared.limits.TheConstants.{MOST_QUEUES}
use Rattle.task_base.specs.declared.script.Action.{Action}
use Rattle.task_base.specs.declared.script.Action.TheVariants as script_actions
use Rattle.sequence_manager.specs.Pasts.{IsMainScript, IsPostedTo, IsQueueWithin}
use Rattle.sequence_manager.specs.Postings.{main_postings, posting_of_action, postings_of_tasks}
use Rattle.nested_loop.specs.Nest.{Nesting, nesting_of, next_event}
use Rattle.nested_loop.specs.Plan.{NestPlan, NestTaskPlan}
use Rattle.nested_loop.specs.Room.{events_bound}
use Rattle.nested_loop.specs.Sound.{IsNestActionSound, IsNestStepSound, IsSoundNest}
use Rattle.nested_loop.specs.Waiting.{main_of_action, main_of_step, main_of_task, queue_of_class, nest_script}
use Rattle.nested_loop.specs.declared.event.Event.{Event}
use Rattle.nested_loop.specs.declared.event.Event.TheVariants as events
use Rattle.nested_loop.specs.declared.nest.NestAction.{NestAction}
use Rattle.nested_loop.specs.declared.nest.NestAction.TheVariants as actions
use Rattle.nested_loop.specs.declared.nest.NestStep.{NestStep}
use Rattle.nested_loop.specs.declared.nest.NestStep.TheVariants as steps
use Rattle.nested_loop.proofs.Comes.{Comes, act, post, comes}
use Rattle.nested_loop.proofs.Known.{has_steps}

-- an action posts to a queue that is declared
abbrev PostsThere : NestPlan → Action → Type 0
PostsThere nest action = IfSome (posting_of_action action) (λ p. p.queue < length (map queue_of_class nest.classes))

there_in_script : (nest : NestPlan) (q : ℕ) → q < length nest.classes → q < length (map queue_of_class nest.classes)
there_in_script nest q lt = subst (λ n. q < n) (sym (length-map nest.classes queue_of_class)) lt

of_action : (nest : NestPlan) (action : NestAction) → IsNestActionSound nest action → AllByRecursion (PostsThere nest) (main_of_action action)
of_action nest (actions.Post task queue) sound = (there_in_script nest queue sound.1, tt)
of_action nest (actions.Run bound) sound = tt

of_step : (nest : NestPlan) (t : ℕ) (step : NestStep) → IsNestStepSound nest t step → AllByRecursion (PostsThere nest) (main_of_step step)
of_step nest t (steps.Post task queue) sound = (there_in_script nest queue sound.1, tt)
of_step nest t (steps.Say value) sound = tt
of_step nest t (steps.Loop bound) sound = tt

-- the tasks from one on
tasks_from : (nest : NestPlan) (i : ℕ) (tasks : List NestTaskPlan)
    → ((t : ℕ) (task : NestTaskPlan) → slice_get tasks t ≡ Some task → AllByRecursion (IsNestStepSound nest (i + t)) task.steps)
    → AllByRecursion (PostsThere nest) (flat_map main_of_task tasks)
tasks_from nest i [] h = tt
tasks_from nest i (task ∷ tasks) h = AllByRecursion-append (PostsThere nest) (main_of_task task) (flat_map main_of_task tasks)
    (AllByRecursion-flat_map (PostsThere nest) (IsNestStepSound nest (i + 0)) main_of_step task.steps (of_step nest (i + 0)) (h 0 task refl))
    (tasks_from nest (i + 1) tasks
    (λ t other is. subst (λ n. AllByRecursion (IsNestStepSound nest n) other.steps) (omega arith) (h (t + 1) other (rw Rattle.std.proofs.Common.add-one is))))

no_steps : (tasks : List NestTaskPlan) → postings_of_tasks (map (λ task. []) tasks) ≡ []
no_steps [] = refl
no_steps (task ∷ tasks) = no_steps tasks

length-filter_map : {A B : Type 0} (f : A → Option B) (xs : List A) → length (filter_map f xs) ≤ length xs
length-filter_map f [] = omega arith
length-filter_map {B = B} f (x ∷ xs) = by_image (f x) (length-filter_map f xs)
  where
    by_image : (o : Option B) → length (filter_map f xs) ≤ length xs → length (cons_option o (filter_map f xs)) ≤ length (x ∷ xs)
    by_image None h = omega (arith, h)
    by_image (Some y) h = omega (arith, h)

one_of_action : (acts : List NestAction) → length (flat_map main_of_action acts) ≤ length acts
one_of_action [] = omega arith
one_of_action (actions.Post task queue ∷ acts) = let rest = one_of_action acts in omega (arith, rest)
one_of_action (actions.Run bound ∷ acts) = let rest = one_of_action acts in omega (arith, rest)

one_of_step : (ss : List NestStep) → length (flat_map main_of_step ss) ≤ length ss
one_of_step [] = omega arith
one_of_step (steps.Post task queue ∷ ss) = let rest = one_of_step ss in omega (arith, rest)
one_of_step (steps.Say value ∷ ss) = let rest = one_of_step ss in omega (arith, rest)
one_of_step (steps.Loop bound ∷ ss) = let rest = one_of_step ss in omega (arith, rest)

few_of_tasks : (tasks : List NestTaskPlan) → length (flat_map main_of_task tasks) ≤ sum_by (λ task. length task.steps) tasks
few_of_tasks [] = omega arith
few_of_tasks (task ∷ tasks) =
    let rest = few_of_tasks tasks in
    let here = one_of_step task.steps in
    let both = length-append (main_of_task task) (flat_map main_of_task tasks) in
    let all = sum_by-cons {X = NestTaskPlan} (λ task. length task.steps) task tasks in
    omega (arith, rest, here, both, all)

pub is_main_script : (nest : NestPlan) → IsSoundNest nest → IsMainScript (nest_script nest)
unfolding main_postings
is_main_script nest sound = record {
  queues_fit = subst (λ n. n ≤ MOST_QUEUES) (sym (length-map nest.classes queue_of_class)) sound.limits.few_queues;
  queues_within = AllByRecursion-mapped IsQueueWithin queue_of_class nest.classes
      (AllByRecursion-map (λ class. class ≤ 7) (λ class. IsQueueWithin (queue_of_class class)) nest.classes
      (λ class le. record { class_fits = le; voters_fit = omega arith }) sound.classes_within);
  postings_fit =
      let made = length-filter_map posting_of_action (flat_map main_of_action nest.actions ++ flat_map main_of_task nest.tasks) in
      let parts = length-append (flat_map main_of_action nest.actions) (flat_map main_of_task nest.tasks) in
      let acts = one_of_action nest.actions in
      let tasks = few_of_tasks nest.tasks in
      let none = ap length (no_steps nest.tasks) in
      let all = length-append (postings_of_tasks (map (λ task. []) nest.tasks))
      (filter_map posting_of_action (flat_map main_of_action nest.actions ++ flat_map main_of_task nest.tasks)) in
      omega (arith, made, parts, acts, tasks, none, all, sound.limits.few_actions, sound.limits.few_steps);
  homes_there = AllByRecursion-append (λ p. p.queue < length (map queue_of_class nest.classes)) (postings_of_tasks (map (λ task. []) nest.tasks))
      (filter_map posting_of_action (flat_map main_of_action nest.actions ++ flat_map main_of_task nest.tasks))
      (subst (AllByRecursion (λ p. p.queue < length (map queue_of_class nest.classes))) (sym (no_steps nest.tasks)) tt)
      (AllByRecursion-filter_map (λ p. p.queue < length (map queue_of_class nest.classes)) posting_of_action
      (flat_map main_of_action nest.actions ++ flat_map main_of_task nest.tasks)
      (AllByRecursion-append (PostsThere nest) (flat_map main_of_action nest.actions) (flat_map main_of_task nest.tasks)
      (AllByRecursion-flat_map (PostsThere nest) (IsNestActionSound nest) main_of_action nest.actions (of_action nest) sound.actions_sound)
      (tasks_from nest 0 nest.tasks
      (λ t task is. subst (λ n. AllByRecursion (IsNestStepSound nest n) task.steps) (omega arith) (sound.tasks_sound t task is)))));
  tasks_fit = λ is_open. absurd (false≢true is_open);
}

in_lists : {A B : Type 0} (f : A → List B) (xs : List A) (i : ℕ) (x : A) (y : B) → slice_get xs i ≡ Some x → Contains (f x) y → Contains (flat_map f xs) y
in_lists f [] i x y is within = absurd (Rattle.std.proofs.lemmas.Option.none-some x is)
in_lists f (z ∷ zs) zero x y is within = Contains-append_left (f z) (flat_map f zs) y
    (subst (λ w. Contains (f w) y) (sym (Rattle.std.proofs.lemmas.Option.same_Some z x is)) within)
in_lists f (z ∷ zs) (suc i) x y is within = Contains-append_right (f z) (flat_map f zs) y (in_lists f zs i x y is within)

-- what is posted next is one of the script's posts
pub posted_to : (nest : NestPlan) (past : List Event) (task queue : ℕ) → next_event nest past ≡ Some (events.Post task queue)
    → IsPostedTo (nest_script nest) task queue
unfolding main_postings
posted_to nest past task queue next = inl (record {
  closed = refl;
  among = Contains-append_right (postings_of_tasks (map (λ t. []) nest.tasks))
      (filter_map posting_of_action (flat_map main_of_action nest.actions ++ flat_map main_of_task nest.tasks))
      (record { task = task; queue = queue })
      (contains_filter_map posting_of_action (flat_map main_of_action nest.actions ++ flat_map main_of_task nest.tasks) (script_actions.Main task queue 0)
      (record { task = task; queue = queue })
      (at (nesting_of nest past) (events.Post task queue) (nesting_of nest (past ++ events.Post task queue ∷ []))
      (comes nest past (events.Post task queue) next) refl) refl);
})
  where
    Posts : Event → Type 0
    Posts (events.Post t q) = Contains (flat_map main_of_action nest.actions ++ flat_map main_of_task nest.tasks) (script_actions.Main t q 0)
    Posts event = Unit {0}

    among : (now : Nesting) (event : Event) (after : Nesting) → Comes nest past now event after → Posts event
    among now event after (act {begun = begun} {task = t} {queue = q} h) = Contains-append_left (flat_map main_of_action nest.actions)
        (flat_map main_of_task nest.tasks)
        (script_actions.Main t q 0) (in_lists main_of_action nest.actions begun (actions.Post t q) (script_actions.Main t q 0) h (0, omega arith, refl))
    among now event after (post {task = t} {done = done} {posted = posted} {queue = q} h) =
        let found = has_steps nest t done (steps.Post posted q) h in
        Contains-append_right (flat_map main_of_action nest.actions) (flat_map main_of_task nest.tasks) (script_actions.Main posted q 0)
        (in_lists main_of_task nest.tasks t found.0 (script_actions.Main posted q 0) found.1
        (in_lists main_of_step found.0.steps done (steps.Post posted q) (script_actions.Main posted q 0) found.2 (0, omega arith, refl)))
    among now event after other = tt

    at : (now : Nesting) (event : Event) (after : Nesting) → Comes nest past now event after → event ≡ events.Post task queue
        → Contains (flat_map main_of_action nest.actions ++ flat_map main_of_task nest.tasks) (script_actions.Main task queue 0)
    at now event after comes_next is = subst Posts is (among now event after comes_next)

-- the events bound is small
bound_of_tasks : (tasks : List NestTaskPlan)
    → sum_by (λ task. 2 * length task.steps + 3) tasks ≡ 2 * sum_by (λ task. length task.steps) tasks + 3 * length tasks
bound_of_tasks [] = refl
bound_of_tasks (task ∷ tasks) =
    let rest = bound_of_tasks tasks in
    let bounds = sum_by-cons {X = NestTaskPlan} (λ task. 2 * length task.steps + 3) task tasks in
    let lengths = sum_by-cons {X = NestTaskPlan} (λ task. length task.steps) task tasks in
    omega (arith, rest, bounds, lengths)

pub events_most : (nest : NestPlan) → IsSoundNest nest → events_bound nest ≤ 68608
events_most nest sound =
    let tasks = bound_of_tasks nest.tasks in
    omega (arith, tasks, sound.limits.few_actions, sound.limits.few_steps, sound.limits.few_tasks)

pub events_few : (nest : NestPlan) → IsSoundNest nest → events_bound nest < 2 ^ 20
events_few nest sound = let most = events_most nest sound in omega (arith, most)
