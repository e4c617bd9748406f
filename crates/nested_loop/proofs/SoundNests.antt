-- Every nest that is read is sound: each line keeps it so.
-- Cited by `read_nest`.
use Rattle.std.proofs.Common.{◌≡◌, ℕ, ◌+◌, ◌<◌, ◌≤◌, true, eqb, List, [], ◌∷◌, ◌++◌, length, refl}
use Rattle.std.proofs.Common.{sym, subst, inl, inr, Option, Some, None, Result, Ok, Err, arith}
use Rattle.std.specs.Prelude.{not, nat_lt, flat_map, IfSome}
use Rattle.std.specs.List.{list_all, AllByRecursion}
use Rattle.std.proofs.lemmas.Bool.{and_parts, ltb-false, ltb-true, not-false}
use Rattle.std.proofs.lemmas.List.{length_push}
use Rattle.std.proofs.lemmas.List.Sums.{sum_by_push}
use Rattle.list_laws.proofs.Counts.{count-append}
use Rattle.list_laws.proofs.Elements.{AllByRecursion-map}
use Rattle.list_laws.proofs.Places.{AllByRecursion-push, slice_get_push}
use Rattle.script_model.specs.Words.{lines_of}
use Rattle.script_model.specs.Reasons.{◌>>=◌}
use Rattle.script_model.specs.Grammar.{at_line}
use Rattle.script_model.specs.Draft.{is_any_posted}
use Rattle.script_model.specs.Laws.Postings.{times}
use Rattle.script_model.proofs.Laws.Faults.{ok_same}
use Rattle.script_model.proofs.Laws.Parts.{behind_ok, nothing}
use Rattle.script_model.proofs.Laws.Postings.{times_fresh, times_push}
use Rattle.nested_loop.specs.Plan.{NestPlan, NestTaskPlan}
use Rattle.task_base.specs.declared.limits.TheConstants.{MOST_QUEUES}
use Rattle.nested_loop.specs.declared.limits.TheConstants.{MOST_NEST_TASKS, MOST_NEST_STEPS, MOST_NEST_ACTIONS}
use Rattle.nested_loop.specs.declared.nest.NestStep.{NestStep}
use Rattle.nested_loop.specs.declared.nest.NestStep.TheVariants as steps
use Rattle.nested_loop.specs.declared.nest.NestAction.{NestAction}
use Rattle.nested_loop.specs.declared.nest.NestAction.TheVariants as actions
use Rattle.nested_loop.specs.declared.line.NestLine.{NestLine}
use Rattle.nested_loop.specs.declared.line.NestLine.TheVariants.{Nothing, Queue, Task, Act}
use Rattle.nested_loop.specs.Sound.{posts_of_task, posts_of_nest_action, nest_postings, nest_steps_in, IsNestStepSound, IsNestActionSound, IsSoundNest}
use Rattle.nested_loop.specs.NestReasons.{nest_out_of_order, nest_undeclared, nest_posted_twice, late, nest_too_many}
use Rattle.nested_loop.specs.NestWords.{nest_line_said}
use Rattle.nested_loop.specs.NestLines.{nest_has_no_actions, are_declared, is_declared_step, is_declared_action}
use Rattle.nested_loop.specs.NestLines.{queue_added, task_added, action_added, added, nest_line_read}
use Rattle.nested_loop.specs.NestGrammar.{empty_nest, nest_lines_read, nest_read, ReadsNest}
use Rattle.nested_loop.proofs.Ranges.{IsStepWithin, IsActionWithin, IsLineWithin, line_within}

-- ---- what is declared

-- the task and the queue are below their numbers
both_there : (nest : NestPlan) (task queue : ℕ) → are_declared nest task queue ≡ true → (task < length nest.tasks) × (queue < length nest.classes)
both_there nest task queue e =
    let parts = and_parts (nat_lt task (length nest.tasks)) (nat_lt queue (length nest.classes)) e in
    (ltb-true _ _ parts.0, ltb-true _ _ parts.1)

step_declared : (nest : NestPlan) (step : NestStep) → is_declared_step nest step ≡ true → IsStepWithin step → IsNestStepSound nest (length nest.tasks) step
step_declared nest (steps.Say value) e within = within
step_declared nest (steps.Post task queue) e within = both_there nest task queue e
step_declared nest (steps.Loop bound) e within = within

steps_declared : (nest : NestPlan) (all : List NestStep) → list_all (is_declared_step nest) all ≡ true → AllByRecursion IsStepWithin all
    → AllByRecursion (IsNestStepSound nest (length nest.tasks)) all
steps_declared nest [] e within = tt
steps_declared nest (step ∷ all) e within =
    let parts = and_parts (is_declared_step nest step) (list_all (is_declared_step nest) all) e in
    (step_declared nest step parts.0 within.0, steps_declared nest all parts.1 within.1)

action_declared : (nest : NestPlan) (action : NestAction) → is_declared_action nest action ≡ true → IsActionWithin action → IsNestActionSound nest action
action_declared nest (actions.Post task queue) e within = both_there nest task queue e
action_declared nest (actions.Run bound) e within = within

-- ---- what stays

-- a step stays sound where no queue is taken away
step_stays : (nest next : NestPlan) (t : ℕ) → length nest.classes ≤ length next.classes → (step : NestStep) → IsNestStepSound nest t step
    → IsNestStepSound next t step
step_stays nest next t more (steps.Say value) h = h
step_stays nest next t more (steps.Post task queue) h = (h.0, omega (arith, h.1, more))
step_stays nest next t more (steps.Loop bound) h = h

steps_stay : (nest next : NestPlan) (t : ℕ) → length nest.classes ≤ length next.classes → (all : List NestStep) → AllByRecursion (IsNestStepSound nest t) all
    → AllByRecursion (IsNestStepSound next t) all
steps_stay nest next t more all h = AllByRecursion-map (IsNestStepSound nest t) (IsNestStepSound next t) all (step_stays nest next t more) h

-- an action stays sound behind more actions
action_stays : (nest : NestPlan) (more : List NestAction) (action : NestAction) → IsNestActionSound nest action
    → IsNestActionSound (record nest { actions = more }) action
action_stays nest more (actions.Post task queue) h = h
action_stays nest more (actions.Run bound) h = h

-- where nothing is done, the actions are sound
no_actions : (nest : NestPlan) (all : List NestAction) → eqb (length all) 0 ≡ true → AllByRecursion (IsNestActionSound nest) all
no_actions nest all none = rw (nothing all none) tt

-- how often a nest posts a task
times_parts : (nest : NestPlan) (t : ℕ)
    → times t (nest_postings nest) ≡ times t (flat_map posts_of_task nest.tasks) + times t (flat_map posts_of_nest_action nest.actions)
times_parts nest t = count-append (λ u. eqb u t) (flat_map posts_of_task nest.tasks) (flat_map posts_of_nest_action nest.actions)

-- ---- what one line adds

with_queue : (nest : NestPlan) (number class : ℕ) (next : NestPlan) → class ≤ 7 → IsSoundNest nest → queue_added nest number class ≡ Ok next → IsSoundNest next
unfolding queue_added
with_queue nest number class next within sound e =
    let made = record nest { classes = nest.classes ++ class ∷ [] } in
    let passed = behind_ok ((not (eqb number (length nest.classes)), nest_out_of_order) ∷ (not (nest_has_no_actions nest), late)
    ∷ (nat_lt MOST_QUEUES (length nest.classes + 1), nest_too_many) ∷ []) (Ok made) next e in
    let longer = length_push nest.classes class in
    let few = ltb-false MOST_QUEUES (length nest.classes + 1) passed.0.1.1.0 in
    subst IsSoundNest (ok_same {E = ℕ} made next passed.1) (record {
      limits = record {
        few_queues = omega (arith, longer, few);
        few_tasks = sound.limits.few_tasks;
        few_steps = sound.limits.few_steps;
        few_actions = sound.limits.few_actions;
      };
      classes_within = AllByRecursion-push (λ c. c ≤ 7) nest.classes class sound.classes_within within;
      tasks_sound = λ t task at. steps_stay nest made t (omega (arith, longer)) task.steps (sound.tasks_sound t task at);
      actions_sound = no_actions made nest.actions (not-false (nest_has_no_actions nest) passed.0.1.0);
      posted_once = sound.posted_once;
    })

with_task : (nest : NestPlan) (number : ℕ) (task : NestTaskPlan) (next : NestPlan) → AllByRecursion IsStepWithin task.steps → IsSoundNest nest
    → task_added nest number task ≡ Ok next → IsSoundNest next
unfolding task_added
with_task nest number task next within sound e =
    let made = record nest { tasks = nest.tasks ++ task ∷ [] } in
    let passed = behind_ok ((not (eqb number (length nest.tasks)), nest_out_of_order) ∷ (not (list_all (is_declared_step nest) task.steps), nest_undeclared)
    ∷ (is_any_posted (nest_postings nest) (posts_of_task task), nest_posted_twice) ∷ (not (nest_has_no_actions nest), late)
    ∷ (nat_lt MOST_NEST_TASKS (length nest.tasks + 1), nest_too_many) ∷ (nat_lt MOST_NEST_STEPS (nest_steps_in nest + length task.steps), nest_too_many) ∷ [])
    (Ok made) next e in
    let declared = steps_declared nest task.steps (not-false (list_all (is_declared_step nest) task.steps) passed.0.1.0) within in
    let longer = length_push nest.tasks task in
    let few = ltb-false MOST_NEST_TASKS (length nest.tasks + 1) passed.0.1.1.1.1.0 in
    let few_steps = ltb-false MOST_NEST_STEPS (nest_steps_in nest + length task.steps) passed.0.1.1.1.1.1.0 in
    let more_steps = sum_by_push (λ (x : NestTaskPlan). length x.steps) nest.tasks task in
    subst IsSoundNest (ok_same {E = ℕ} made next passed.1) (record {
      limits = record {
        few_queues = sound.limits.few_queues;
        few_tasks = omega (arith, longer, few);
        few_steps = omega (arith, more_steps, few_steps);
        few_actions = sound.limits.few_actions;
      };
      classes_within = sound.classes_within;
      tasks_sound = λ t other at. elim (slice_get_push nest.tasks task t other at) [
        | inl old ↦ steps_stay nest made t (omega arith) other.steps (sound.tasks_sound t other old.1)
        | inr new ↦ subst (λ (x : NestTaskPlan). AllByRecursion (IsNestStepSound made t) x.steps) new.1
            (subst (λ (n : ℕ). AllByRecursion (IsNestStepSound made n) task.steps) (sym new.0)
            (steps_stay nest made (length nest.tasks) (omega arith) task.steps declared))
      ];
      actions_sound = no_actions made nest.actions (not-false (nest_has_no_actions nest) passed.0.1.1.1.0);
      posted_once = λ t.
          let fresh = times_fresh (nest_postings nest) (posts_of_task task) t passed.0.1.1.0 (sound.posted_once t) in
          omega (arith, times_parts nest t, times_parts made t, times_push posts_of_task nest.tasks task t, fresh);
    })

with_action : (nest : NestPlan) (action : NestAction) (next : NestPlan) → IsActionWithin action → IsSoundNest nest → action_added nest action ≡ Ok next
    → IsSoundNest next
unfolding action_added
with_action nest action next within sound e =
    let more = nest.actions ++ action ∷ [] in
    let made = record nest { actions = more } in
    let passed = behind_ok ((not (is_declared_action nest action), nest_undeclared)
    ∷ (is_any_posted (nest_postings nest) (posts_of_nest_action action), nest_posted_twice)
    ∷ (nat_lt MOST_NEST_ACTIONS (length nest.actions + 1), nest_too_many) ∷ []) (Ok made) next e in
    let declared = action_declared nest action (not-false (is_declared_action nest action) passed.0.0) within in
    let longer = length_push nest.actions action in
    let few = ltb-false MOST_NEST_ACTIONS (length nest.actions + 1) passed.0.1.1.0 in
    subst IsSoundNest (ok_same {E = ℕ} made next passed.1) (record {
      limits = record {
        few_queues = sound.limits.few_queues;
        few_tasks = sound.limits.few_tasks;
        few_steps = sound.limits.few_steps;
        few_actions = omega (arith, longer, few);
      };
      classes_within = sound.classes_within;
      tasks_sound = λ t task at. steps_stay nest made t (omega arith) task.steps (sound.tasks_sound t task at);
      actions_sound = AllByRecursion-push (IsNestActionSound made) nest.actions action
          (AllByRecursion-map (IsNestActionSound nest) (IsNestActionSound made) nest.actions (action_stays nest more) sound.actions_sound)
          (action_stays nest more action declared);
      posted_once = λ t.
          let fresh = times_fresh (nest_postings nest) (posts_of_nest_action action) t passed.0.1.0 (sound.posted_once t) in
          omega (arith, times_parts nest t, times_parts made t, times_push posts_of_nest_action nest.actions action t, fresh);
    })

-- ---- all lines

with_said : (nest : NestPlan) (said : Option NestLine) (next : NestPlan) → IfSome said IsLineWithin → IsSoundNest nest → added nest said ≡ Ok next
    → IsSoundNest next
unfolding added
with_said nest None next within sound e = absurd cc
with_said nest (Some Nothing) next within sound e = subst IsSoundNest (ok_same {E = ℕ} nest next e) sound
with_said nest (Some (Queue number class)) next within sound e = with_queue nest number class next within sound e
with_said nest (Some (Task number task)) next within sound e = with_task nest number task next within sound e
with_said nest (Some (Act action)) next within sound e = with_action nest action next within sound e

-- the first line and the others of lines that give a nest
first_ok : (n : ℕ) (r : Result NestPlan ℕ) (go : NestPlan → Result NestPlan (ℕ × ℕ)) (nest : NestPlan) → (at_line n r >>= go) ≡ Ok nest
    → (next : NestPlan) × (r ≡ Ok next) × (go next ≡ Ok nest)
first_ok n (Ok next) go nest e = (next, refl, e)
first_ok n (Err reason) go nest e = absurd cc

with_lines : (nest : NestPlan) (n : ℕ) (lines : List (List ℕ)) (next : NestPlan) → IsSoundNest nest → nest_lines_read nest n lines ≡ Ok next → IsSoundNest next
unfolding nest_lines_read
with_lines nest n [] next sound e = subst IsSoundNest (ok_same {E = ℕ × ℕ} nest next e) sound
with_lines nest n (line ∷ lines) next sound e =
    let first = first_ok n (nest_line_read nest line) (λ here. nest_lines_read here (n + 1) lines) next e in
    with_lines first.0 (n + 1) lines next (with_said nest (nest_line_said line) first.0 (line_within line) sound first.1) first.2

-- what no line gives is sound
empty_sound : IsSoundNest empty_nest
empty_sound = record {
  limits = record { few_queues = omega arith; few_tasks = omega arith; few_steps = omega arith; few_actions = omega arith };
  classes_within = tt;
  tasks_sound = λ t task at. absurd cc;
  actions_sound = tt;
  posted_once = λ t. omega arith;
}

pub reads_sound_nest : (bytes : List ℕ) (nest : NestPlan) → ReadsNest bytes nest → IsSoundNest nest
unfolding nest_read
reads_sound_nest bytes nest e = with_lines empty_nest 1 (lines_of bytes) nest empty_sound e
