-- Where the driver waits, since what its action waits for has not come.
-- Cited by `cancel`, `flush`, `join`, `shutdown`.
use Rattle.std.proofs.Common.{◌≡◌, ℕ, zero, suc, ◌≤◌, Bool, true, false, List, [], ◌∷◌, refl, ap, ◌∙◌, Option, Some, None, length, arith}
use Rattle.std.proofs.lemmas.Bool.{ne_eqb}
use Rattle.std.proofs.lemmas.Option.{none-some, same_Some}
use Rattle.std.specs.Option.{IfSome, option_map, option_map_or}
use Rattle.std.specs.Prelude.{◌==◌, ◌&&◌, not, is_some, if◌then◌else◌}
use Rattle.task_base.specs.declared.entry.Entry.{Entry}
use Rattle.task_base.specs.declared.entry.JobReply.{JobReply}
use Rattle.task_base.specs.declared.script.Action.{Action}
use Rattle.task_base.specs.declared.script.Action.TheVariants as actions
use Rattle.task_model.specs.Blockers.{blockers_of}
use Rattle.task_model.specs.Jobs.{is_empty, may_enter, reply_of}
use Rattle.hist_model.specs.Script.{Current, current}
use Rattle.hist_model.specs.Views.{own_entries}
use Rattle.pool_core.specs.Calls.{running_tasks, is_any_ready}
use Rattle.env_core.specs.Agenda.{counted}
use Rattle.env_core.specs.Calls.{IsIdle}
use Rattle.env_core.specs.Views.{EnvView}
use Rattle.env_core.specs.Waits.{has_come, may_go_on}
use Rattle.env_step.specs.Steps.{IsAtAction, WaitsAt}
use Rattle.env_step.proofs.Wants.{two_made}

module _ {view : EnvView} where
  -- the driver waits at its action where what that waits for has not come
  waits_at : {action : Action} → IsAtAction view.script view.history 0 action
      → ((made : List Entry) → current view.script (own_entries 0 view.history) ≡ Some (record { action = action; made = made })
      → has_come view.script view.history action (length made) ≡ false) → WaitsAt view.script view.history 0 action
  unfolding may_go_on
  waits_at {action} at not_yet = record { at = at; waits = by_current (current view.script (own_entries 0 view.history)) refl at.action_is }
    where
      by_current : (o : Option Current) → current view.script (own_entries 0 view.history) ≡ o → option_map (λ (c : Current). c.action) o ≡ Some action
          → option_map_or (λ c. has_come view.script view.history c.action (length c.made)) o true ≡ false
      by_current None now is = absurd (none-some action is)
      by_current (Some c) now is =
          let same : c.action ≡ action = same_Some c.action action is in
          ap (λ x. has_come view.script view.history x (length c.made)) same
          ∙ not_yet c.made (now ∙ ap (λ x. Some (record { action = x; made = c.made })) same)

  -- at a flush, where the pool is not idle
  pub waits_for_idle : IsAtAction view.script view.history 0 actions.Flush → (IsIdle view → ⊥) → WaitsAt view.script view.history 0 actions.Flush
  waits_for_idle at busy = waits_at at (λ made now. not_idle (running_tasks view.script view.history) (is_any_ready view.script view.history) busy)
    where
      not_idle : (running : ℕ) (ready : Bool) → ((running ≡ 0) × (ready ≡ false) → ⊥) → (running == 0 && not ready) ≡ false
      not_idle zero true busy = refl
      not_idle zero false busy = absurd (busy (refl, refl))
      not_idle (suc n) ready busy = rw (ne_eqb (suc n) 0 (λ none. omega (arith, none))) refl

  -- at a join, where the driver may not go in and gets no reply
  pub waits_for_job : (job : ℕ) → IsAtAction view.script view.history 0 (actions.Join job) → may_enter view.script view.history job ≡ false
      → (is_empty view.script view.history job ≡ true → reply_of view.script view.history job ≡ None)
      → WaitsAt view.script view.history 0 (actions.Join job)
  waits_for_job job at barred unanswered =
      waits_at at (λ made now. rw barred (none_told (is_empty view.script view.history job) (reply_of view.script view.history job) unanswered))
    where
      none_told : (empty : Bool) (o : Option JobReply) → (empty ≡ true → o ≡ None) → is_some (if empty then o else None) ≡ false
      none_told true o none = ap is_some (none refl)
      none_told false o none = refl

  module _ (n : ℕ) (counts : IfSome (current view.script (own_entries 0 view.history)) (λ c. n ≡ counted (c.action ∷ []) c.made)) (some : 1 ≤ n) where
    -- at a cancel that has told the job, where somebody is inside
    pub waits_for_seats : (job : ℕ) → IsAtAction view.script view.history 0 (actions.Cancel job) → is_empty view.script view.history job ≡ false
        → WaitsAt view.script view.history 0 (actions.Cancel job)
    waits_for_seats job at busy = waits_at at (λ made now.
        let so_many = two_made view.script (own_entries 0 view.history) made (actions.Cancel job) n (λ e. refl) (λ e. refl) now counts in
        rw (so_many.1 some, busy) refl)

    -- at a shutdown that has started, where something blocks it
    pub waits_for_blockers : IsAtAction view.script view.history 0 actions.Shutdown → (blockers_of view.script view.history ≡ 0 → ⊥)
        → WaitsAt view.script view.history 0 actions.Shutdown
    waits_for_blockers at blocked = waits_at at (λ made now.
        let so_many = two_made view.script (own_entries 0 view.history) made actions.Shutdown n (λ e. refl) (λ e. refl) now counts in
        rw (so_many.1 some, ne_eqb (blockers_of view.script view.history) 0 blocked) refl)
