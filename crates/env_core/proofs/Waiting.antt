-- What may not come where it is waited for; and who waits may enter nothing.
-- Cited by `who_waits_may_enter_nothing`, `env_step`.
use Rattle.std.proofs.Common.{◌≡◌, ℕ, ◌≤◌, Bool, true, false, List, [], ◌∷◌, length, Option, Some, None, refl, sym, subst, arith, ◌∙◌}
use Rattle.std.proofs.lemmas.Bool.{and_left, and_parts, and_right, eqb-true, false_from_ne_true, ne_eqb, or_parts, true≢false}
use Rattle.std.specs.List.{list_all, list_any}
use Rattle.std.specs.Option.{option_map_or}
use Rattle.std.specs.Prelude.{is_none, is_some, not, ◌&&◌, ◌||◌, ◌==◌}
use Rattle.list_laws.proofs.Places.{count_none}
use Rattle.list_laws.proofs.Ranges.{AllByRecursion-range}
use Rattle.list_laws.proofs.Tests.{list_any_none}
use Rattle.list_laws.specs.Lists.{holds_of}
use Rattle.pool_core.specs.Calls.{is_any_ready, is_working, running_tasks}
use Rattle.pool_core.specs.JobCalls.{joined_of}
use Rattle.pool_laws.proofs.Room.Capacity.{free_parts}
use Rattle.pool_laws.proofs.Seats.Running.{quiet_is_free}
use Rattle.task_base.specs.Plan.{Plan}
use Rattle.task_base.specs.declared.entry.Entry.{Entry}
use Rattle.task_base.specs.declared.entry.JobReply.{JobReply}
use Rattle.task_base.specs.declared.entry.Kind.{Kind}
use Rattle.task_base.specs.declared.entry.Kind.TheVariants as kinds
use Rattle.task_base.specs.declared.script.Action.{Action}
use Rattle.task_base.specs.declared.script.Action.TheVariants as actions
use Rattle.task_model.specs.Blockers.{blockers_of}
use Rattle.task_model.specs.Jobs.{is_cancelled, is_empty, may_enter, reply_of}
use Rattle.task_model.specs.Phase.{is_started, phase_of}
use Rattle.task_model.specs.Seats.{Holding, Running, holding, is_free, is_quiet, running, worker_seats}
use Rattle.task_model.specs.Sources.{Candidate, best_of}
use Rattle.hist_model.proofs.Laws.Open.{closed_enters, closed_leaves, closed_main, closed_post, closed_wanted}
use Rattle.hist_model.specs.Allowed.{by_script, by_task, is_head_of, is_job, is_ready_worker, may_come, same_reply}
use Rattle.hist_model.specs.Open.{IsClosed}
use Rattle.hist_model.specs.Script.{Current, current, is_wanted, wants}
use Rattle.hist_model.specs.Views.{own_entries}
use Rattle.env_core.specs.Calls.{IsIdle}
use Rattle.env_core.specs.Views.{EnvView}
use Rattle.env_core.specs.Waits.{has_come, may_go_on}

-- What may not come where it is waited for.

-- a free seat does no work of the pool
free_rests : (past : List Entry) (seat : ℕ) → is_free past seat ≡ true → is_working past seat ≡ false
free_rests past seat free = by_running (running past seat) (holding past seat) free
  where
    by_running : (r : Option Running) (h : Option Holding) → (is_none r && is_none h) ≡ true → (holds_of (λ w. not w.is_main) r || is_some h) ≡ false
    by_running None None none = refl
    by_running None (Some h) none = absurd cc
    by_running (Some w) h none = absurd cc

-- where each is none, there is none that is some
none_some : {A B : Type 0} (f : A → Option B) (xs : List A) → list_all (λ x. is_none (f x)) xs ≡ true → list_any (λ x. is_some (f x)) xs ≡ false
none_some f [] none = refl
none_some f (x ∷ xs) none = by_image (f x) none (none_some f xs)
  where
    by_image : {B : Type 0} (o : Option B) → (is_none o && list_all (λ y. is_none (f y)) xs) ≡ true
        → (list_all (λ y. is_none (f y)) xs ≡ true → list_any (λ y. is_some (f y)) xs ≡ false)
        → (is_some o || list_any (λ y. is_some (f y)) xs) ≡ false
    by_image None rest next = next rest
    by_image (Some y) rest next = absurd cc

-- where the pool may be idle, no worker works and none may take a source
idle_at : (script : Plan) (past : List Entry) (seat : ℕ) → may_come script past seat kinds.Idle ≡ true
    → (running_tasks script past ≡ 0) × (is_any_ready script past ≡ false)
unfolding may_come
idle_at script past seat may =
    let outer = and_parts (by_script script past seat kinds.Idle && is_quiet script past)
    (list_all (λ worker. is_none (best_of script past worker)) (worker_seats script)) may in
    let inner = and_parts (by_script script past seat kinds.Idle) (is_quiet script past) outer.0 in (
      count_none (is_working past) (worker_seats script) (list_any_none (is_working past) (worker_seats script)
          (AllByRecursion-range (λ s. is_working past s ≡ false) 1 script.workers
          (λ s from to. free_rests past s (quiet_is_free script past s inner.1 (omega (arith, to)))))),
      none_some (best_of script past) (worker_seats script) outer.1,
    )

-- so it may be idle only where it is
pub not_idle : (view : EnvView) (seat : ℕ) → (IsIdle view → ⊥) → may_come view.script view.history seat kinds.Idle ≡ false
not_idle view seat busy = false_from_ne_true (may_come view.script view.history seat kinds.Idle) (λ may. busy (idle_at view.script view.history seat may))

-- shutdown may be done only where nothing blocks it
pub not_done : (script : Plan) (past : List Entry) (seat : ℕ) → (blockers_of script past ≡ 0 → ⊥) → may_come script past seat kinds.Done ≡ false
unfolding may_come
not_done script past seat blocked = false_from_ne_true (may_come script past seat kinds.Done) (λ may. blocked (eqb-true (blockers_of script past) 0
    (and_parts (by_script script past seat kinds.Done && is_started (phase_of past)) (blockers_of script past == 0) may).1))

-- a cancelled job is left only where nobody is inside
pub not_cancelled : (script : Plan) (past : List Entry) (seat job : ℕ) → is_empty script past job ≡ false
    → may_come script past seat (kinds.Cancelled job) ≡ false
unfolding may_come
not_cancelled script past seat job busy =
    and_right (by_script script past seat (kinds.Cancelled job) && is_cancelled past job) (is_empty script past job) busy

-- a join ends only where nobody is inside and the job has a reply
pub not_joined : (script : Plan) (past : List Entry) (seat job : ℕ) (reply : JobReply)
    → (is_empty script past job ≡ true → reply_of script past job ≡ None) → may_come script past seat (kinds.Joined job reply) ≡ false
unfolding may_come
not_joined script past seat job reply unanswered = false_from_ne_true (may_come script past seat (kinds.Joined job reply)) (λ may.
    let outer = and_parts (by_script script past seat (kinds.Joined job reply) && is_empty script past job)
    (holds_of (same_reply reply) (reply_of script past job)) may in
    let inner = and_parts (by_script script past seat (kinds.Joined job reply)) (is_empty script past job) outer.0 in
    true≢false (sym (subst (λ o. holds_of (same_reply reply) o ≡ true) (unanswered inner.1) outer.1)))

-- Who waits may enter nothing.

module _ (script : Plan) (past : List Entry) (closed : IsClosed script) where
  -- a seat that runs nothing, and takes nothing, enters only what the script wants
  enters_nothing : (seat : ℕ) (kind : Kind) → is_free past seat ≡ true
      → ((fits : Candidate → Bool) → (is_ready_worker script past seat && holds_of fits (best_of script past seat)) ≡ false)
      → by_script script past seat kind ≡ false → may_come script past seat kind ≡ false
  unfolding may_come by_task
  enters_nothing seat (kinds.Post task runner delay ok) free takes none =
      closed_post script past seat task runner delay ok closed ∙ rw (none, (free_parts past seat free).0) refl
  enters_nothing seat (kinds.Main task queue delay ok) free takes none =
      closed_main script past seat task queue delay ok closed ∙ rw (none, (free_parts past seat free).0) refl
  enters_nothing seat (kinds.Tick now) free takes none = rw none refl
  enters_nothing seat (kinds.Take task runner found) free takes none = takes (λ c. is_head_of script past task runner found c.source)
  enters_nothing seat (kinds.End task left) free takes none = rw (free_parts past seat free).0 refl
  enters_nothing seat (kinds.Enter task scope) free takes none =
      closed_enters script past seat task scope closed ∙ rw (free_parts past seat free).0 refl
  enters_nothing seat (kinds.Leave task) free takes none = closed_leaves script past seat task closed ∙ rw (free_parts past seat free).0 refl
  enters_nothing seat (kinds.MainTake task queue found) free takes none = rw none refl
  enters_nothing seat (kinds.MainEnd task left) free takes none = and_right (seat == 0) _ (rw (free_parts past seat free).0 refl)
  enters_nothing seat kinds.MainNone free takes none = rw none refl
  enters_nothing seat (kinds.JobPost job ok) free takes none = rw none refl
  enters_nothing seat (kinds.JobTake job id item) free takes none = rw (takes (λ c. is_job job c.source), none) refl
  enters_nothing seat (kinds.JobStep job id item value next) free takes none = rw (free_parts past seat free).1 refl
  enters_nothing seat (kinds.Cancelled job) free takes none = rw none refl
  enters_nothing seat (kinds.Joined job reply) free takes none = rw none refl
  enters_nothing seat kinds.Idle free takes none = rw none refl
  enters_nothing seat kinds.Done free takes none = rw none refl
  enters_nothing seat kind free takes none = none

  -- what the driver's action wants may not come where what it waits for has not
  nothing_wanted : (x : Action) (made : List Entry) (kind : Kind) → has_come script past x (length made) ≡ false
      → wants (own_entries 0 past) x made kind ≡ true → may_come script past 0 kind ≡ false
  unfolding may_come
  nothing_wanted actions.Flush made kinds.Idle waits wanted = false_from_ne_true (may_come script past 0 kinds.Idle)
      (λ may. let at = idle_at script past 0 may in true≢false (rw (at.0, at.1) at waits))
  nothing_wanted (actions.Join j) made (kinds.JobTake job id item) waits wanted =
      let here = eqb-true job j (and_parts (job == j) (is_none (holding (own_entries 0 past) 0)) wanted).0 in
      rw (here, (or_parts (may_enter script past j) (is_some (joined_of script past j)) waits).0)
      (and_left _ _ (and_left _ _ (and_right _ false refl)))
  nothing_wanted (actions.Join j) made (kinds.Joined job reply) waits wanted =
      let here = eqb-true job j (and_parts (job == j) (is_none (holding (own_entries 0 past) 0)) wanted).0 in
      not_joined script past 0 job reply (rw here (λ empty. unanswered (reply_of script past j)
      (rw empty at (or_parts (may_enter script past j) (is_some (joined_of script past j)) waits).1)))
    where
      unanswered : (o : Option JobReply) → is_some o ≡ false → o ≡ None
      unanswered None is = refl
      unanswered (Some reply) is = absurd cc
  nothing_wanted (actions.Cancel j) made (kinds.JobCancel job) waits wanted =
      absurd (true≢false (sym (and_parts (job == j) (length made == 0) wanted).1 ∙ (or_parts (length made == 0) (is_empty script past j) waits).0))
  nothing_wanted (actions.Cancel j) made (kinds.Cancelled job) waits wanted =
      let here = eqb-true job j (and_parts (job == j) (length made == 1) wanted).0 in
      not_cancelled script past 0 job (rw here (or_parts (length made == 0) (is_empty script past j) waits).1)
  nothing_wanted actions.Shutdown made kinds.Shutdown waits wanted =
      absurd (true≢false (sym wanted ∙ (or_parts (length made == 0) (blockers_of script past == 0) waits).0))
  nothing_wanted actions.Shutdown made kinds.Done waits wanted =
      not_done script past 0 (λ none. true≢false (sym (rw none refl) ∙ (or_parts (length made == 0) (blockers_of script past == 0) waits).1))
  nothing_wanted x made kind waits wanted = absurd cc

  -- the driver runs nothing, and what it waits for has not come
  pub driver_enters_nothing : (kind : Kind) → is_free past 0 ≡ true → may_go_on script past ≡ false → may_come script past 0 kind ≡ false
  unfolding may_go_on by_script
  driver_enters_nothing kind free waits = by_current (current script (own_entries 0 past)) refl waits
    where
      by_current : (o : Option Current) → current script (own_entries 0 past) ≡ o
          → option_map_or (λ c. has_come script past c.action (length c.made)) o true ≡ false → may_come script past 0 kind ≡ false
      by_current None is come = absurd cc
      by_current (Some c) is come = wanted (wants (own_entries 0 past) c.action c.made kind) refl
        where
          wanted : (b : Bool) → wants (own_entries 0 past) c.action c.made kind ≡ b → may_come script past 0 kind ≡ false
          wanted true wants_it = nothing_wanted c.action c.made kind come wants_it
          wanted false wants_not = enters_nothing 0 kind free (λ fits. refl)
              (closed_wanted script (own_entries 0 past) kind closed ∙ rw is wants_not)

  -- the worker runs nothing, and may take no source
  pub worker_enters_nothing : (seat : ℕ) (kind : Kind) → 1 ≤ seat → is_free past seat ≡ true → best_of script past seat ≡ None
      → may_come script past seat kind ≡ false
  unfolding by_script
  worker_enters_nothing seat kind worker free none = enters_nothing seat kind free
      (λ fits. rw none (and_right (is_ready_worker script past seat) false refl)) (and_left (seat == 0) _ (ne_eqb seat 0 (λ is. omega (arith, worker, is))))
