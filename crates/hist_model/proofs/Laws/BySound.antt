-- What comes by a sound script, or by a task of one: a sound action wants it, or a sound step of the task enters it.
-- Cited by `Laws/Fitting/Entries`, `Laws/Whole/Workers`, `env_core`, `run_summary`, `situation`.
use Rattle.std.proofs.Common.{◌≡◌, ℕ, true, List, [], ◌∷◌, refl, sym, ap, subst, ◌∙◌, Option, Some, None}
use Rattle.std.specs.Prelude.{filter, slice_get, option_and_then}
use Rattle.std.specs.Option.{IfSome, option_map_or}
use Rattle.std.specs.List.{AllByRecursion}
use Rattle.std.proofs.lemmas.Option.{none-some, same_Some}
use Rattle.task_base.specs.Plan.{Plan}
use Rattle.task_base.specs.Steps.{is_act}
use Rattle.task_base.specs.declared.entry.Entry.{Entry}
use Rattle.task_base.specs.declared.entry.Kind.{Kind}
use Rattle.task_base.specs.declared.script.Action.{Action}
use Rattle.task_base.specs.declared.step.Step.{Step}
use Rattle.list_laws.specs.Lists.{holds_of}
use Rattle.list_laws.proofs.Elements.{AllByRecursion-both, AllByRecursion-filter, slice_get_all}
use Rattle.script_model.specs.Laws.Sound.{IsStepWithin, IsStepSound, IsTaskSound, IsActionSound, IsSound}
use Rattle.task_model.specs.Seats.{Running, running, steps_of, acts_done, next_act}
use Rattle.hist_model.specs.Views.{own_entries}
use Rattle.hist_model.specs.Script.{Current, behind_action, current_from, current, wants}
use Rattle.hist_model.specs.Allowed.{by_script, by_task, enters}
use Rattle.hist_model.proofs.Laws.Choice.{found}
use Rattle.hist_model.proofs.Laws.OneThing.{wanted_by}

-- ---- by the script

-- the action that the driver is at is one of the script's
pub current_from_is_one : (P : Action → Type 0) (xs : List Action) (made : List Entry) (c : Current) → AllByRecursion P xs → current_from xs made ≡ Some c
    → P c.action
current_from_is_one P [] made c all is = absurd (none-some c is)
current_from_is_one P (x ∷ rest) made c all is = at (behind_action x made) is (λ left k. current_from_is_one P rest left c all.1 k)
  where
    at : (o : Option (List Entry)) → option_map_or (λ left. current_from rest left) o (Some (record { action = x; made = made })) ≡ Some c
        → ((left : List Entry) → current_from rest left ≡ Some c → P c.action) → P c.action
    at None k later = subst (λ (d : Current). P d.action) (same_Some (record { action = x; made = made }) c k) all.0
    at (Some left) k later = later left k

-- so what holds of each action of a script holds of the current one
pub current_is_one : (P : Action → Type 0) (script : Plan) (own : List Entry) (c : Current) → AllByRecursion P script.actions → current script own ≡ Some c
    → P c.action
unfolding current
current_is_one P script own c all is = current_from_is_one P script.actions own c all is

-- a sound action, with what it has made so far, wants this kind of entry
pub record IsWantedSoundly (script : Plan) (past : List Entry) (kind : Kind) : Type 0 where
  pub action : Action
  pub made : List Entry
  pub sound : IsActionSound script action
  pub wanted : wants (own_entries 0 past) action made kind ≡ true

pub wanted_soundly : (script : Plan) (past : List Entry) (seat : ℕ) (kind : Kind) → IsSound script → by_script script past seat kind ≡ true
    → IsWantedSoundly script past kind
unfolding current
wanted_soundly script past seat kind sound h =
    let c = wanted_by script past seat kind sound.closed h in
    record {
      action = c.value.action;
      made = c.value.made;
      sound = current_from_is_one (IsActionSound script) script.actions (own_entries 0 past) c.value sound.actions.each_sound c.is;
      wanted = c.passes;
    }

-- ---- by a task

-- each task is sound, also one that is not declared, which has no steps
pub task_is_sound : (script : Plan) (task : ℕ) → IsSound script → IsTaskSound script task (steps_of script task)
task_is_sound script task sound = by_task (slice_get script.tasks task) refl
  where
    by_task : (o : Option (List Step)) → slice_get script.tasks task ≡ o → IsTaskSound script task (option_map_or (λ steps. steps) o [])
    by_task None is = record { steps_within = tt; steps_sound = tt; scopes_in_turn = refl }
    by_task (Some steps) is = sound.declarations.tasks_sound task steps is

-- a sound step of the task that the seat runs enters this kind of entry
pub record IsEnteredSoundly (script : Plan) (past : List Entry) (seat : ℕ) (kind : Kind) : Type 0 where
  pub now : Running
  pub step : Step
  pub runs : running past seat ≡ Some now
  pub within : IsStepWithin step
  pub sound : IsStepSound script now.task step
  pub entered : enters now.task step kind ≡ true

pub entered_soundly : (script : Plan) (past : List Entry) (seat : ℕ) (kind : Kind) → IsSound script → by_task script past seat kind ≡ true
    → IsEnteredSoundly script past seat kind
unfolding by_task
entered_soundly script past seat kind sound h =
    let w = found (λ (x : Running). holds_of (λ step. enters x.task step kind) (next_act script past seat)) (running past seat) h in
    let step = found (λ s. enters w.value.task s kind) (next_act script past seat) w.passes in
    let steps = steps_of script w.value.task in
    let at : slice_get (filter is_act steps) (acts_done past seat) ≡ Some step.value = ap
    (option_and_then (λ (x : Running). slice_get (filter is_act (steps_of script x.task)) (acts_done past seat))) (sym w.is) ∙ step.is in
    let task = task_is_sound script w.value.task sound in
    let both : IsStepWithin step.value × IsStepSound script w.value.task step.value =
    subst (λ o. IfSome o (λ s. IsStepWithin s × IsStepSound script w.value.task s)) at
    (slice_get_all (λ s. IsStepWithin s × IsStepSound script w.value.task s) (filter is_act steps) (acts_done past seat)
    (AllByRecursion-filter (λ s. IsStepWithin s × IsStepSound script w.value.task s) is_act steps
    (AllByRecursion-both IsStepWithin (IsStepSound script w.value.task) steps task.steps_within task.steps_sound))) in
    record { now = w.value; step = step.value; runs = w.is; within = both.0; sound = both.1; entered = step.passes }
