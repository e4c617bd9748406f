-- What closed plans and open plans let come, told apart.
-- Cited by `Laws/Due`, `Laws/Entries/Bound`, `Laws/Entries/Driver`, `Laws/Fitting/Entries`, `Laws/JobEntries`, `Laws/OneThing`,
-- `Laws/OpenPlans`, `Laws/Postings/Counts`, `Laws/Postings/Driver`, `Laws/Progress/Actions`, `Laws/Progress/Coming`, `Laws/Progress/Ends`,
-- `Laws/Progress/Made`, `Laws/Progress/Tasks`, `Laws/Progress/Ways`, `Laws/Rising`, `Laws/Ways`, `Laws/Whole/Workers`, `open.rt`,
-- `env_core`, `env_crew`, `env_explain`, `env_step`, `env_threads`, `live_core`, `log_count`, `log_replay`, `run_summary`, `situation`,
-- `task_reply`.
use Rattle.std.proofs.Common.{◌≡◌, ℕ, Bool, true, false, cond, eqb, List, refl, sym, ap, ◌∙◌, ◌⊎◌, inl, inr}
use Rattle.std.specs.Prelude.{nat_le, not, ◌&&◌, ◌||◌, is_none, length, filter}
use Rattle.std.proofs.Math.Bool.{and-true}
use Rattle.std.proofs.lemmas.Bool.{and_parts, not-true}
use Rattle.task_base.specs.Plan.{Plan}
use Rattle.task_base.specs.Steps.{is_act}
use Rattle.task_base.specs.declared.entry.Entry.{Entry}
use Rattle.task_base.specs.declared.entry.Kind.{Kind}
use Rattle.task_base.specs.declared.entry.Kind.TheVariants as kinds
use Rattle.task_base.specs.declared.step.Scope.{Scope}
use Rattle.list_laws.specs.Lists.{holds_of}
use Rattle.task_model.specs.Phase.{phase_of}
use Rattle.task_model.specs.Refusal.{is_closed, is_refused}
use Rattle.task_model.specs.Seats.{Running, acts_done, is_free, steps_of}
use Rattle.hist_model.specs.Views.{own_entries}
use Rattle.hist_model.specs.Open.{IsClosed, IsOpen, is_done, is_guest, is_in_order, is_kept, is_poster, is_post_within, is_tick, serves, was_posted}
use Rattle.hist_model.specs.Script.{current, is_wanted, wants, is_finished}
use Rattle.hist_model.specs.Allowed.{by_own_step, by_script, by_task, has_acted, is_posted_by, is_ready_worker, is_reply, may_come, may_post}

-- a plan is closed or open
pub closed_or_open : (script : Plan) → IsClosed script ⊎ IsOpen script
closed_or_open script = by_mode script.is_open refl
  where
    by_mode : (b : Bool) → script.is_open ≡ b → IsClosed script ⊎ IsOpen script
    by_mode false is = inl is
    by_mode true is = inr is

-- ---- closed plans

pub closed_wanted : (script : Plan) (own : List Entry) (kind : Kind) → IsClosed script
    → is_wanted script own kind ≡ holds_of (λ c. wants own c.action c.made kind) (current script own)
unfolding is_wanted
closed_wanted script own kind closed = rw closed refl

pub closed_finished : (script : Plan) (past : List Entry) → IsClosed script → is_finished script past ≡ is_none (current script (own_entries 0 past))
unfolding is_finished
closed_finished script past closed = rw closed refl

pub closed_post : (script : Plan) (past : List Entry) (seat task runner delay : ℕ) (ok : Bool) → IsClosed script
    → may_come script past seat (kinds.Post task runner delay ok)
    ≡ ((by_script script past seat (kinds.Post task runner delay ok) || by_task script past seat (kinds.Post task runner delay ok))
    && is_reply (is_refused script past runner delay) ok)
unfolding may_come
closed_post script past seat task runner delay ok closed = rw closed refl

pub closed_main : (script : Plan) (past : List Entry) (seat task queue delay : ℕ) (ok : Bool) → IsClosed script
    → may_come script past seat (kinds.Main task queue delay ok)
    ≡ ((by_script script past seat (kinds.Main task queue delay ok) || by_task script past seat (kinds.Main task queue delay ok))
    && is_reply (is_closed past queue) ok)
unfolding may_come
closed_main script past seat task queue delay ok closed = rw closed refl

pub closed_enters : (script : Plan) (past : List Entry) (seat task : ℕ) (scope : Scope) → IsClosed script
    → may_come script past seat (kinds.Enter task scope) ≡ by_task script past seat (kinds.Enter task scope)
unfolding may_come
closed_enters script past seat task scope closed = rw closed refl

pub closed_leaves : (script : Plan) (past : List Entry) (seat task : ℕ) → IsClosed script
    → may_come script past seat (kinds.Leave task) ≡ by_task script past seat (kinds.Leave task)
unfolding may_come
closed_leaves script past seat task closed = rw closed refl

pub closed_acts : (script : Plan) (past : List Entry) (seat : ℕ) (w : Running) → IsClosed script
    → has_acted script past seat w ≡ eqb (acts_done past seat) (length (filter is_act (steps_of script w.task)))
closed_acts script past seat w closed = rw closed refl

pub closed_workers : (script : Plan) (past : List Entry) (seat : ℕ) → IsClosed script
    → is_ready_worker script past seat ≡ (nat_le 1 seat && nat_le seat script.workers && is_free past seat && not (is_finished script past))
closed_workers script past seat closed = rw closed (and-true _)

pub closed_guest : (script : Plan) (seat : ℕ) → IsClosed script → is_guest script seat ≡ false
closed_guest script seat closed = rw closed refl

-- ---- open plans

pub open_finished : (script : Plan) (past : List Entry) → IsOpen script → is_finished script past ≡ is_done (phase_of (own_entries 0 past))
unfolding is_finished
open_finished script past opened = rw opened refl

-- what an open plan lets its driver enter
pub record IsServed (script : Plan) (own : List Entry) (kind : Kind) : Type 0 where
  pub opened : IsOpen script
  pub not_done : is_done (phase_of own) ≡ false
  pub free : (is_tick kind || is_free own 0) ≡ true
  pub in_order : is_in_order script own kind ≡ true

pub open_wanted : (script : Plan) (own : List Entry) (kind : Kind) → IsOpen script → is_wanted script own kind ≡ true → IsServed script own kind
unfolding is_wanted
open_wanted script own kind opened h =
    let all = and_parts (not (is_done (phase_of own)) && (is_tick kind || is_free own 0)) (is_in_order script own kind)
    (ap (λ b. cond b (serves script own kind) (holds_of (λ c. wants own c.action c.made kind) (current script own))) (sym opened) ∙ h) in
    let front = and_parts (not (is_done (phase_of own))) (is_tick kind || is_free own 0) all.0 in
    record { opened = opened; not_done = not-true (is_done (phase_of own)) front.0; free = front.1; in_order = all.1 }

-- what an open plan lets be posted
pub record IsPostedFreely (script : Plan) (past : List Entry) (seat task : ℕ) (kind : Kind) : Type 0 where
  pub within : is_post_within script kind ≡ true
  pub fresh : was_posted past task ≡ false
  pub poster : cond (is_kept script task) (by_own_step script past seat kind) (is_poster script past seat) ≡ true

pub open_posts : (script : Plan) (past : List Entry) (seat task : ℕ) (kind : Kind) → IsOpen script → is_posted_by script past seat task kind ≡ true
    → IsPostedFreely script past seat task kind
open_posts script past seat task kind opened h =
    let all = and_parts (is_post_within script kind && not (was_posted past task)) _
    (ap (λ b. cond b (may_post script past seat task kind) (by_script script past seat kind || by_task script past seat kind)) (sym opened) ∙ h) in
    let front = and_parts (is_post_within script kind) (not (was_posted past task)) all.0 in
    record { within = front.0; fresh = not-true (was_posted past task) front.1; poster = all.1 }
