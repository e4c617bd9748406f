-- What a script posts to its main queues: it is as the main queues ask, and so is what was accepted.
-- Cited by `Env::open`, `Acts`, `Declared`, `Taking`.
use Rattle.list_laws.proofs.Elements.{AllByRecursion-append, AllByRecursion-contains, AllByRecursion-map}
use Rattle.list_laws.proofs.Made.{contains_filter_map}
use Rattle.script_model.specs.Bound.{events_of_action}
use Rattle.script_model.specs.Draft.{has_bad_scopes, is_block}
use Rattle.script_model.specs.Laws.Sound.{IsActionSound, IsQueuePost, IsSound, IsStepSound}
use Rattle.script_model.specs.Laws.Sound as sounds
use Rattle.sequence_manager.specs.Pasts.{IsMainPast, IsMainScript, IsPostedTo, IsQueueWithin}
use Rattle.sequence_manager.specs.Postings.{MainPosting, main_postings, posting_of_action, posting_of_step, postings_of_tasks}
use Rattle.std.proofs.Common.{◌≡◌, ℕ, zero, suc, ◌+◌, ◌<◌, ◌≤◌, ◌^◌, Bool, true, false, List, [], ◌∷◌, length, length-append, refl}
use Rattle.std.proofs.Common.{Some, arith, inl, inr, sym, ◌∙◌}
use Rattle.std.proofs.lemmas.Bool.{false≢true}
use Rattle.std.proofs.lemmas.List.Elements.{Contains-append_left, Contains-append_right}
use Rattle.std.proofs.lemmas.List.Sums.{sum_by-cons}
use Rattle.std.proofs.lemmas.Option.{none-some, slice_get-get_or}
use Rattle.std.specs.List.{AllByRecursion, filter_map, list_any, sum_by}
use Rattle.std.specs.Prelude.{Contains, slice_get, slice_index_or}
use Rattle.task_base.specs.Plan.{Plan}
use Rattle.task_base.specs.declared.entry.Entry.{Entry}
use Rattle.task_base.specs.declared.script.Action.{Action}
use Rattle.task_base.specs.declared.script.Action.TheVariants as actions
use Rattle.task_base.specs.declared.step.Step.{Step}
use Rattle.task_base.specs.declared.step.Step.TheVariants as steps
use Rattle.task_model.specs.Posts.{Posted, main_posts}
use Rattle.task_model.specs.Seats.{steps_of}

-- Each posting is declared, and of a task that opens no scope.

-- the posting is sound
abbrev IsRight : Plan → MainPosting → Type 0
IsRight script p = IsQueuePost script p.task p.queue

-- what the steps of a task post to main queues is right
steps_right : (script : Plan) (t : ℕ) (xs : List Step) → AllByRecursion (IsStepSound script t) xs
    → AllByRecursion (IsRight script) (filter_map posting_of_step xs)
steps_right script t [] sound = tt
steps_right script t (steps.Main task queue delay ∷ xs) sound = (sound.0.1, steps_right script t xs sound.1)
steps_right script t (x ∷ xs) sound = steps_right script t xs sound.1

-- what the actions post to main queues is right
actions_right : (script : Plan) (xs : List Action) → AllByRecursion (IsActionSound script) xs
    → AllByRecursion (IsRight script) (filter_map posting_of_action xs)
actions_right script [] sound = tt
actions_right script (actions.Main task queue delay ∷ xs) sound = (sound.0.0, actions_right script xs sound.1)
actions_right script (x ∷ xs) sound = actions_right script xs sound.1

-- what the tasks post to main queues is right
tasks_right : (script : Plan) (tasks : List (List Step)) (from : ℕ)
    → ((t : ℕ) (xs : List Step) → slice_get tasks t ≡ Some xs → AllByRecursion (IsStepSound script (from + t)) xs)
    → AllByRecursion (IsRight script) (postings_of_tasks tasks)
tasks_right script [] from sound = tt
tasks_right script (xs ∷ tasks) from sound = AllByRecursion-append (IsRight script) (filter_map posting_of_step xs) (postings_of_tasks tasks)
    (steps_right script (from + 0) xs (sound 0 xs refl))
    (tasks_right script tasks (from + 1) (λ t ys is. let same : from + suc t ≡ from + 1 + t = omega arith in rw (← same) (sound (suc t) ys is)))

-- each posting of the script to a main queue is right
postings_right : (script : Plan) → IsSound script → AllByRecursion (IsRight script) (main_postings script)
unfolding main_postings
postings_right script plan = AllByRecursion-append (IsRight script) (postings_of_tasks script.tasks) (filter_map posting_of_action script.actions)
    (tasks_right script script.tasks 0 (λ t xs is. let same : 0 + t ≡ t = omega arith in rw same (plan.declarations.tasks_sound t xs is).steps_sound))
    (actions_right script script.actions plan.actions.each_sound)

-- There are few.

-- steps post no more than there are
steps_few : (xs : List Step) → length (filter_map posting_of_step xs) ≤ length xs
steps_few [] = omega arith
steps_few (steps.Main task queue delay ∷ xs) = omega (arith, steps_few xs)
steps_few (x ∷ xs) = omega (arith, steps_few xs)

-- tasks post no more than they have steps
tasks_few : (tasks : List (List Step)) → length (postings_of_tasks tasks) ≤ sum_by (λ xs. length xs) tasks
tasks_few [] = omega arith
tasks_few (xs ∷ tasks) = omega (
  arith,
  length-append (filter_map posting_of_step xs) (postings_of_tasks tasks),
  steps_few xs,
  tasks_few tasks,
  sum_by-cons (λ (x : List Step). length x) xs tasks,
)

-- actions post no more than they make entries
actions_few : (xs : List Action) → length (filter_map posting_of_action xs) ≤ sum_by events_of_action xs
actions_few [] = omega arith
actions_few (actions.Main task queue delay ∷ xs) = omega (arith, actions_few xs, sum_by-cons events_of_action (actions.Main task queue delay) xs)
actions_few (x ∷ xs) = omega (arith, actions_few xs, sum_by-cons events_of_action x xs)

-- the postings of a script to main queues can be counted in 31 bits
postings_few : (script : Plan) → IsSound script → length (main_postings script) < 2 ^ 31
unfolding main_postings
postings_few script plan = omega (
  arith,
  length-append (postings_of_tasks script.tasks) (filter_map posting_of_action script.actions),
  tasks_few script.tasks,
  actions_few script.actions,
  plan.limits.few_steps,
  plan.limits.few_events,
)

-- the main queues of such a script can be made
pub main_script : (script : Plan) → IsSound script → IsMainScript script
main_script script plan = record {
  queues_fit = plan.limits.few_queues;
  queues_within = AllByRecursion-map sounds.IsQueueWithin IsQueueWithin script.queues
      (λ q within. record { class_fits = within.class_within; voters_fit = within.voters_within }) plan.declarations.queues_within;
  postings_fit = postings_few script plan;
  homes_there = AllByRecursion-map (IsRight script) (λ p. p.queue < length script.queues) (main_postings script) (λ p right. right.queue_declared)
      (postings_right script plan);
  tasks_fit = λ is_open. absurd (false≢true (sym plan.closed ∙ is_open));
}

-- what was accepted is declared, and of a task that opens no scope
pub accepted_right : (script : Plan) (past : List Entry) (p : Posted) → IsSound script → IsMainPast script past → Contains (main_posts past) p
    → IsQueuePost script p.task p.home
accepted_right script past p plan fits accepted = by_plan
    (AllByRecursion-contains (λ q. IsPostedTo script q.task q.home) (main_posts past) p fits.posted accepted)
  where
    by_plan : IsPostedTo script p.task p.home → IsQueuePost script p.task p.home
    by_plan (inl posting) = AllByRecursion-contains (IsRight script) (main_postings script) (record { task = p.task; queue = p.home })
        (postings_right script plan) posting.among
    by_plan (inr posting) = absurd (false≢true (sym plan.closed ∙ posting.opened))

-- What an action or a step posts is among the postings.

-- what an action posts to a main queue is a posting of the script
pub action_posts : (script : Plan) (task queue delay : ℕ) → script.is_open ≡ false → Contains script.actions (actions.Main task queue delay)
    → IsPostedTo script task queue
unfolding main_postings
action_posts script task queue delay closed there = inl (record {
  closed = closed;
  among = Contains-append_right (postings_of_tasks script.tasks) (filter_map posting_of_action script.actions) (record { task = task; queue = queue })
      (contains_filter_map posting_of_action script.actions (actions.Main task queue delay) (record { task = task; queue = queue }) there refl);
})

-- what a step posts is among the postings of the tasks
of_task_posts : (tasks : List (List Step)) (t task queue delay : ℕ) (xs : List Step) → slice_get tasks t ≡ Some xs
    → Contains xs (steps.Main task queue delay) → Contains (postings_of_tasks tasks) (record { task = task; queue = queue })
of_task_posts [] t task queue delay xs is there = absurd (none-some xs is)
of_task_posts (ys ∷ tasks) zero task queue delay xs is there =
    let same : ys ≡ xs = cc in
    Contains-append_left (filter_map posting_of_step ys) (postings_of_tasks tasks) (record { task = task; queue = queue })
    (rw same (contains_filter_map posting_of_step xs (steps.Main task queue delay) (record { task = task; queue = queue }) there refl))
of_task_posts (ys ∷ tasks) (suc t) task queue delay xs is there =
    Contains-append_right (filter_map posting_of_step ys) (postings_of_tasks tasks) (record { task = task; queue = queue })
    (of_task_posts tasks t task queue delay xs is there)

-- what a step posts to a main queue is a posting of the script
pub step_posts : (script : Plan) (t task queue delay : ℕ) (xs : List Step) → script.is_open ≡ false → slice_get script.tasks t ≡ Some xs
    → Contains xs (steps.Main task queue delay) → IsPostedTo script task queue
unfolding main_postings
step_posts script t task queue delay xs closed is there = inl (record {
  closed = closed;
  among = Contains-append_left (postings_of_tasks script.tasks) (filter_map posting_of_action script.actions) (record { task = task; queue = queue })
      (of_task_posts script.tasks t task queue delay xs is there);
})

-- A task that opens no scope has no step of one.

-- the step opens or closes a scope
abbrev pub is_scope : Step → Bool
is_scope (steps.Block scope) = true
is_scope steps.Unblock = true
is_scope step = false

-- steps of which none opens a scope, and whose scopes open and close in turn, close none either
scopeless : (xs : List Step) → list_any is_block xs ≡ false → has_bad_scopes false xs ≡ false → AllByRecursion (λ s. is_scope s ≡ false) xs
scopeless [] none turn = tt
scopeless (steps.Block scope ∷ xs) none turn = absurd cc
scopeless (steps.Unblock ∷ xs) none turn = absurd cc
scopeless (steps.Add by ∷ xs) none turn = (refl, scopeless xs none turn)
scopeless (steps.Mul by ∷ xs) none turn = (refl, scopeless xs none turn)
scopeless (steps.Set to ∷ xs) none turn = (refl, scopeless xs none turn)
scopeless (steps.Post task runner delay ∷ xs) none turn = (refl, scopeless xs none turn)
scopeless (steps.Main task queue delay ∷ xs) none turn = (refl, scopeless xs none turn)

-- a task that is rightly posted to a main queue has no step of a scope
pub no_scope_steps : (script : Plan) (task queue : ℕ) → IsSound script → IsQueuePost script task queue
    → AllByRecursion (λ s. is_scope s ≡ false) (steps_of script task)
no_scope_steps script task queue plan post =
    let here = slice_get-get_or script.tasks task [] post.task_declared in
    let xs = slice_index_or script.tasks task [] in
    rw here (scopeless xs post.no_scope (plan.declarations.tasks_sound task xs here).scopes_in_turn)

-- Where nothing is chosen, no front is open.
