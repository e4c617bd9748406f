-- What the driver's action wants of a driver that is free.
-- Cited by 7 functions of `driver`, `Waits`.
use Rattle.hist_model.proofs.Laws.Progress.Actions.{same_policy_now, same_fence_now}
use Rattle.hist_model.proofs.Laws.Progress.Driver.{current_waits}
use Rattle.std.proofs.Common.{◌≡◌, ◌⊎◌, inl, inr, ℕ, zero, suc, ◌≤◌, Bool, true, false, List, [], ◌∷◌}
use Rattle.std.proofs.Common.{length, refl, sym, ap, subst, ◌∙◌, Option, Some, None, arith}
use Rattle.std.proofs.lemmas.Option.{none-some, same_Some}
use Rattle.std.specs.Option.{IfSome, option_map}
use Rattle.std.specs.Prelude.{is_none, not, if◌then◌else◌}
use Rattle.list_laws.proofs.Values.{eqb-same}
use Rattle.list_laws.specs.Lists.{holds_of}
use Rattle.task_base.specs.Groups.{importance}
use Rattle.task_base.specs.Plan.{Plan}
use Rattle.task_base.specs.declared.entry.Entry.{Entry}
use Rattle.task_base.specs.declared.entry.JobReply.{JobReply}
use Rattle.task_base.specs.declared.entry.Kind.{Kind}
use Rattle.task_base.specs.declared.entry.Kind.TheVariants as kinds
use Rattle.task_base.specs.declared.policy.Policy.{Policy}
use Rattle.task_base.specs.declared.script.Action.{Action}
use Rattle.task_base.specs.declared.script.Action.TheVariants as actions
use Rattle.task_base.specs.declared.script.FenceAt.{FenceAt}
use Rattle.task_traits.specs.declared.traits.Priority.{Priority}
use Rattle.task_model.specs.Seats.{holding, running}
use Rattle.pool_laws.proofs.Room.Capacity.{free_parts}
use Rattle.hist_model.specs.Open.{IsClosed}
use Rattle.hist_model.specs.Script.{Current, behind, behind_action, current, is_finished}
use Rattle.hist_model.specs.Script.{wants}
use Rattle.hist_model.specs.Views.{own_entries}
use Rattle.hist_model.proofs.Laws.Open.{closed_finished, closed_wanted}
use Rattle.hist_model.proofs.Laws.Own.{holding_own, running_own}
use Rattle.env_core.specs.Agenda.{counted}
use Rattle.env_core.specs.Calls.{IsWantedNext}
use Rattle.env_core.specs.Views.{EnvView}
use Rattle.env_step.specs.Steps.{IsAtAction}

-- What an action wants.

-- the script wants what the action at which the driver is wants of a driver that is free
pub wanted_at : {view : EnvView} {action : Action} (kind : Kind) → IsAtAction view.script view.history 0 action
    → ((made : List Entry) → running (own_entries 0 view.history) 0 ≡ None → holding (own_entries 0 view.history) 0 ≡ None
    → current view.script (own_entries 0 view.history) ≡ Some (record { action = action; made = made })
    → wants (own_entries 0 view.history) action made kind ≡ true)
    → IsWantedNext view 0 kind
wanted_at {view} {action} kind at says = record {
  driver = refl;
  wanted = closed_wanted view.script own kind at.closed ∙ by_current (current view.script own) refl at.action_is;
}
  where
    own : List Entry
    own = own_entries 0 view.history

    parts : (running view.history 0 ≡ None) × (holding view.history 0 ≡ None)
    parts = free_parts view.history 0 at.free

    by_current : (o : Option Current) → current view.script own ≡ o → option_map (λ (c : Current). c.action) o ≡ Some action
        → holds_of (λ c. wants own c.action c.made kind) o ≡ true
    by_current None now is = absurd (none-some action is)
    by_current (Some c) now is =
        let same : c.action ≡ action = same_Some c.action action is in
        ap (λ x. wants own x c.made kind) same ∙ says c.made (running_own view.history 0 ∙ parts.0) (holding_own view.history 0 ∙ parts.1)
        (now ∙ ap (λ x. Some (record { action = x; made = c.made })) same)

-- a vote is for what it is for
vote_same : (on : Bool) → (if on then on else not on) ≡ true
vote_same true = refl
vote_same false = refl

-- a post
pub wants_post : {view : EnvView} (task runner delay : ℕ) (ok : Bool) → IsAtAction view.script view.history 0 (actions.Post task runner delay)
    → IsWantedNext view 0 (kinds.Post task runner delay ok)
wants_post task runner delay ok at = wanted_at (kinds.Post task runner delay ok) at
    (λ made runs holds now. rw (eqb-same task, eqb-same runner, eqb-same delay) refl)

-- a post to a main queue
pub wants_main : {view : EnvView} (task queue delay : ℕ) (ok : Bool) → IsAtAction view.script view.history 0 (actions.Main task queue delay)
    → IsWantedNext view 0 (kinds.Main task queue delay ok)
wants_main task queue delay ok at = wanted_at (kinds.Main task queue delay ok) at
    (λ made runs holds now. rw (eqb-same task, eqb-same queue, eqb-same delay) refl)

-- a tick
pub wants_tick : {view : EnvView} (count moment : ℕ) → IsAtAction view.script view.history 0 (actions.Tick count) → IsWantedNext view 0 (kinds.Tick moment)
wants_tick count moment at = wanted_at (kinds.Tick moment) at (λ made runs holds now. refl)

-- a policy
pub wants_policy : {view : EnvView} (policy : Policy) → IsAtAction view.script view.history 0 (actions.Policy policy)
    → IsWantedNext view 0 (kinds.Policy policy)
wants_policy policy at = wanted_at (kinds.Policy policy) at (λ made runs holds now. same_policy_now policy)

-- a priority
pub wants_reprio : {view : EnvView} (runner : ℕ) (priority : Priority) → IsAtAction view.script view.history 0 (actions.Reprio runner priority)
    → IsWantedNext view 0 (kinds.Reprio runner priority)
wants_reprio runner priority at = wanted_at (kinds.Reprio runner priority) at
    (λ made runs holds now. rw (eqb-same runner, eqb-same (importance priority)) refl)

-- a fence
pub wants_fence : {view : EnvView} (queue : ℕ) (place : FenceAt) → IsAtAction view.script view.history 0 (actions.Fence queue place)
    → IsWantedNext view 0 (kinds.Fence queue place)
wants_fence queue place at = wanted_at (kinds.Fence queue place) at (λ made runs holds now. rw (eqb-same queue, same_fence_now place) refl)

-- none
pub wants_unfence : {view : EnvView} (queue : ℕ) → IsAtAction view.script view.history 0 (actions.Unfence queue) → IsWantedNext view 0 (kinds.Unfence queue)
wants_unfence queue at = wanted_at (kinds.Unfence queue) at (λ made runs holds now. eqb-same queue)

-- a vote
pub wants_vote : {view : EnvView} (queue voter : ℕ) (on : Bool) → IsAtAction view.script view.history 0 (actions.Vote queue voter on)
    → IsWantedNext view 0 (kinds.Vote queue voter on)
wants_vote queue voter on at =
    wanted_at (kinds.Vote queue voter on) at (λ made runs holds now. rw (eqb-same queue, eqb-same voter, vote_same on) refl)

-- a class
pub wants_rank : {view : EnvView} (queue class : ℕ) → IsAtAction view.script view.history 0 (actions.Rank queue class)
    → IsWantedNext view 0 (kinds.Rank queue class)
wants_rank queue class at = wanted_at (kinds.Rank queue class) at (λ made runs holds now. rw (eqb-same queue, eqb-same class) refl)

-- a close
pub wants_close : {view : EnvView} (queue : ℕ) → IsAtAction view.script view.history 0 (actions.Close queue) → IsWantedNext view 0 (kinds.Close queue)
wants_close queue at = wanted_at (kinds.Close queue) at (λ made runs holds now. eqb-same queue)

-- the post of a job
pub wants_job_post : {view : EnvView} (job : ℕ) (ok : Bool) → IsAtAction view.script view.history 0 (actions.StartJob job)
    → IsWantedNext view 0 (kinds.JobPost job ok)
wants_job_post job ok at = wanted_at (kinds.JobPost job ok) at (λ made runs holds now. eqb-same job)

-- a main task, or none
pub wants_front : {view : EnvView} (count : ℕ) → IsAtAction view.script view.history 0 (actions.Pump count) → IsWantedNext view 0 kinds.MainNone
wants_front count at = wanted_at kinds.MainNone at (λ made runs holds now. ap is_none runs)

-- an idle pool
pub wants_idle : {view : EnvView} → IsAtAction view.script view.history 0 actions.Flush → IsWantedNext view 0 kinds.Idle
wants_idle at = wanted_at kinds.Idle at (λ made runs holds now. refl)

-- a reply of a job
pub wants_joined : {view : EnvView} (job : ℕ) (reply : JobReply) → IsAtAction view.script view.history 0 (actions.Join job)
    → IsWantedNext view 0 (kinds.Joined job reply)
wants_joined job reply at = wanted_at (kinds.Joined job reply) at (λ made runs holds now. rw (eqb-same job, holds) refl)

-- an item of the job
pub wants_item : {view : EnvView} (job id item : ℕ) → IsAtAction view.script view.history 0 (actions.Join job)
    → IsWantedNext view 0 (kinds.JobTake job id item)
wants_item job id item at = wanted_at (kinds.JobTake job id item) at (λ made runs holds now. rw (eqb-same job, holds) refl)

-- What it has made.

-- the part of two entries of an action that has made one, but not two
one_made : (n : ℕ) (made : List Entry) → n ≡ length made → 1 ≤ n → behind 2 made ≡ None → length made ≡ 1
one_made n [] is some open_yet = omega (arith, is, some)
one_made n (e ∷ []) is some open_yet = refl
one_made n (e ∷ f ∷ more) is some open_yet = absurd cc

-- an action of two entries has made so many
pub two_made : (script : Plan) (own made : List Entry) (action : Action) (n : ℕ) → ((entries : List Entry) → behind_action action entries ≡ behind 2 entries)
    → ((entries : List Entry) → counted (action ∷ []) entries ≡ length entries) → current script own ≡ Some (record { action = action; made = made })
    → IfSome (current script own) (λ c. n ≡ counted (c.action ∷ []) c.made) → (n ≡ length made) × (1 ≤ n → length made ≡ 1)
unfolding current
two_made script own made action n two all is counts =
    let so_many : n ≡ length made = subst (λ o. IfSome o (λ (c : Current). n ≡ counted (c.action ∷ []) c.made)) is counts ∙ all made in
    (so_many, λ some. one_made n made so_many some (sym (two made) ∙ current_waits script.actions own (record { action = action; made = made }) is))

module _ {view : EnvView} (n : ℕ)
    (counts : IfSome (current view.script (own_entries 0 view.history)) (λ c. n ≡ counted (c.action ∷ []) c.made)) where
  -- a cancel wants to tell the job first
  pub wants_cancel : (job : ℕ) → IsAtAction view.script view.history 0 (actions.Cancel job) → n ≡ 0 → IsWantedNext view 0 (kinds.JobCancel job)
  wants_cancel job at none = wanted_at (kinds.JobCancel job) at (λ made runs holds now.
      let so_many = two_made view.script (own_entries 0 view.history) made (actions.Cancel job) n (λ e. refl) (λ e. refl) now counts in
      rw (eqb-same job, ← so_many.0, none) refl)

  -- and then that nobody is inside
  pub wants_cancelled : (job : ℕ) → IsAtAction view.script view.history 0 (actions.Cancel job) → 1 ≤ n → IsWantedNext view 0 (kinds.Cancelled job)
  wants_cancelled job at some = wanted_at (kinds.Cancelled job) at (λ made runs holds now.
      let so_many = two_made view.script (own_entries 0 view.history) made (actions.Cancel job) n (λ e. refl) (λ e. refl) now counts in
      rw (eqb-same job, so_many.1 some) refl)

  -- a shutdown wants to start
  pub wants_shutdown : IsAtAction view.script view.history 0 actions.Shutdown → n ≡ 0 → IsWantedNext view 0 kinds.Shutdown
  wants_shutdown at none = wanted_at kinds.Shutdown at (λ made runs holds now.
      let so_many = two_made view.script (own_entries 0 view.history) made actions.Shutdown n (λ e. refl) (λ e. refl) now counts in
      rw (← so_many.0, none) refl)

  -- and then to be done
  pub wants_done : IsAtAction view.script view.history 0 actions.Shutdown → 1 ≤ n → IsWantedNext view 0 kinds.Done
  wants_done at some = wanted_at kinds.Done at (λ made runs holds now.
      let so_many = two_made view.script (own_entries 0 view.history) made actions.Shutdown n (λ e. refl) (λ e. refl) now counts in
      rw (so_many.1 some) refl)

-- What it waits for.

-- where there is no action to be told the script is finished
pub finished_at : (script : Plan) (past : List Entry) → IsClosed script
    → None ≡ option_map (λ (c : Current). c.action) (current script (own_entries 0 past)) → is_finished script past ≡ true
finished_at script past closed none = closed_finished script past closed ∙ by_current (current script (own_entries 0 past)) (sym none)
  where
    by_current : (o : Option Current) → option_map (λ (c : Current). c.action) o ≡ None → is_none o ≡ true
    by_current None is = refl
    by_current (Some c) is = absurd cc

-- what is not idle runs something, or is ready for more
pub not_idle_yet : (running : ℕ) (ready : Bool) → ((running ≡ 0) × (ready ≡ false) → ⊥) → (1 ≤ running) ⊎ (ready ≡ true)
not_idle_yet running true busy = inr refl
not_idle_yet zero false busy = absurd (busy (refl, refl))
not_idle_yet (suc n) false busy = inl (omega arith)

-- what is not none is some
pub some_are : (n : ℕ) → (n ≡ 0 → ⊥) → 1 ≤ n
some_are zero none = absurd (none refl)
some_are (suc n) none = omega arith
