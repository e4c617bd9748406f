-- Where a seat waits, the rules allow no entry of it.
-- Cited by `Behind`, `env_explain`.
use Rattle.std.proofs.Common.{◌≡◌, ℕ, true, false, List, sym, subst, ◌∙◌, inl, inr, ⊎_elim}
use Rattle.std.proofs.lemmas.Bool.{both_ways, false_from_ne_true}
use Rattle.std.proofs.lemmas.Option.{none-some}
use Rattle.std.specs.Prelude.{◌⊎◌}
use Rattle.task_base.specs.Plan.{Plan}
use Rattle.task_base.specs.declared.entry.Entry.{Entry}
use Rattle.task_base.specs.declared.entry.Kind.{Kind}
use Rattle.task_base.specs.declared.script.Action.{Action}
use Rattle.task_model.specs.Seats.{is_free}
use Rattle.pool_laws.proofs.Room.Capacity.{free_parts}
use Rattle.hist_model.specs.Allowed.{by_script, may_come}
use Rattle.hist_model.specs.Open.{IsClosed}
use Rattle.hist_model.specs.Script.{current, is_finished}
use Rattle.hist_model.specs.Views.{own_entries}
use Rattle.hist_model.proofs.Laws.JobEntries.{none_is}
use Rattle.hist_model.proofs.Laws.OneThing.{wanted_by}
use Rattle.hist_model.proofs.Laws.Open.{closed_finished}
use Rattle.hist_model.proofs.Laws.Progress.Coming.{comes_by}
use Rattle.hist_model.proofs.Laws.Takes.{IsReadyWorker}
use Rattle.env_core.proofs.Waiting.{driver_enters_nothing, worker_enters_nothing}
use Rattle.env_step.specs.Steps.{WaitsAt, WaitsFor}
use Rattle.env_step.specs.declared.wait.Wait.{Wait}
use Rattle.env_step.specs.declared.wait.Wait.TheVariants as waits

module _ (script : Plan) (past : List Entry) (seat : ℕ) (closed : IsClosed script) where
  -- where the script is finished, nothing comes of a seat that is free
  pub finished_only : (kind : Kind) → is_free past seat ≡ true → is_finished script past ≡ true → may_come script past seat kind ≡ false
  finished_only kind free finished = false_from_ne_true (may_come script past seat kind) (λ may.
      by_comes (comes_by script past seat kind closed may
      (λ w runs. none-some w (sym (free_parts past seat free).0 ∙ runs)) (λ h holds. none-some h (sym (free_parts past seat free).1 ∙ holds))))
    where
      by_comes : (by_script script past seat kind ≡ true) ⊎ IsReadyWorker script past seat → ⊥
      by_comes (inl wanted) = let c = wanted_by script past seat kind closed wanted in
          none-some c.value (sym (none_is (current script (own_entries 0 past)) (sym (closed_finished script past closed) ∙ finished)) ∙ c.is)
      by_comes (inr worker) = both_ways (is_finished script past) worker.goes_on finished

  -- where the driver waits, nothing comes of it
  pub waiting_only : {action : Action} (kind : Kind) → WaitsAt script past seat action → may_come script past seat kind ≡ false
  waiting_only kind w = subst (λ s. may_come script past s kind ≡ false) (sym w.at.driver) (driver_enters_nothing script past closed kind w.at.free w.waits)

  -- so wherever the seat waits
  pub nothing_comes : (wait : Wait) → WaitsFor wait script past seat → (kind : Kind) → may_come script past seat kind ≡ false
  nothing_comes waits.Over h kind = finished_only kind h.0 h.1
  nothing_comes waits.NoSource h kind = worker_enters_nothing script past closed seat kind h.0.0 h.0.1 h.2
  nothing_comes (waits.NotIdle running ready) h kind = waiting_only kind h.0
  nothing_comes (waits.Inside job seats) h kind = ⊎_elim (λ w. waiting_only kind w) (λ w. waiting_only kind w) h.0
  nothing_comes (waits.Blocked count) h kind = waiting_only kind h.0

  -- who waits at an action is free
  driver_free : {action : Action} → WaitsAt script past seat action → is_free past seat ≡ true
  driver_free w = subst (λ s. is_free past s ≡ true) (sym w.at.driver) w.at.free

  -- and it is free there
  pub waits_free : (wait : Wait) → WaitsFor wait script past seat → is_free past seat ≡ true
  waits_free waits.Over h = h.0
  waits_free waits.NoSource h = h.0.1
  waits_free (waits.NotIdle running ready) h = driver_free h.0
  waits_free (waits.Inside job seats) h = ⊎_elim (λ w. driver_free w) (λ w. driver_free w) h.0
  waits_free (waits.Blocked count) h = driver_free h.0
