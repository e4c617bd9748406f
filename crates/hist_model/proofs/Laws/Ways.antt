-- Each seat has at most one way on.
-- Cited by `Laws/Due`, `Laws/OpenPlans`, `Laws/Told`, `ways.rt`, `live_core`, `simulation`, `situation`, `told_context`.
use Rattle.std.proofs.Common.{◌≡◌, ℕ, ◌≤◌, ◌<◌, Bool, true, false, cond, eqb, List, [], ◌∷◌, length, refl, sym, ap, ◌∙◌, Option, Some, None, ⊎_elim, arith}
use Rattle.std.specs.Prelude.{◌&&◌, ◌||◌, not, nat_lt, is_none, filter}
use Rattle.std.proofs.lemmas.Bool.{and_parts, eqb-true, or_cases, not-true, ne_eqb, ltb-true, false_from_ne_true}
use Rattle.std.proofs.lemmas.Option.{none-some, same_Some, slice_get_past}
use Rattle.task_base.specs.Plan.{Plan}
use Rattle.task_base.specs.Groups.{importance}
use Rattle.task_base.specs.Steps.{is_act, after}
use Rattle.task_traits.specs.declared.traits.Priority.{Priority}
use Rattle.task_traits.specs.declared.traits.Priority.TheVariants.{BestEffort, UserVisible, UserBlocking}
use Rattle.task_base.specs.declared.policy.Policy.{Policy}
use Rattle.task_base.specs.declared.policy.Policy.TheVariants.{All, Foreground, Nothing}
use Rattle.task_base.specs.declared.script.FenceAt.{FenceAt}
use Rattle.task_base.specs.declared.script.FenceAt.TheVariants.{Now, Start}
use Rattle.task_base.specs.declared.step.Scope.{Scope}
use Rattle.task_base.specs.declared.step.Scope.TheVariants.{May, Will}
use Rattle.task_base.specs.declared.step.Step.{Step}
use Rattle.task_base.specs.declared.step.Step.TheVariants as steps
use Rattle.task_base.specs.declared.source.TaskSource.{TaskSource}
use Rattle.task_base.specs.declared.source.TaskSource.TheVariants.{Sequence, Job}
use Rattle.task_base.specs.declared.entry.JobReply.{JobReply}
use Rattle.task_base.specs.declared.entry.Entry.{Entry}
use Rattle.task_base.specs.declared.entry.Kind.{Kind}
use Rattle.task_base.specs.declared.entry.Kind.TheVariants as kinds
use Rattle.task_base.specs.declared.script.Action.{Action}
use Rattle.task_base.specs.declared.script.Action.TheVariants as actions
use Rattle.list_laws.specs.Lists.{holds_of, least}
use Rattle.task_model.specs.Refusal.{is_refused, is_job_forbidden, is_closed}
use Rattle.task_model.specs.Sequences.{head_of}
use Rattle.task_model.specs.Keys.{Ready}
use Rattle.task_model.specs.Seats.{Running, running, Holding, holding, steps_of, acts_done, inside}
use Rattle.task_model.specs.Cells.{cell_of, main_cell_of}
use Rattle.task_model.specs.Jobs.{JobPosted, job_post_of, claimed, done, may_enter, free_id, reply_of, is_cancelled, is_job_accepted, has_unclaimed, concurrency, items_of, is_empty}
use Rattle.task_model.specs.Sources.{Candidate, best_of}
use Rattle.task_model.specs.MainQueues.{Front, choice_among, chosen_of, immediate_of_least_class, is_starved, of_least_class, open_fronts, order_below, streak_of}
use Rattle.hist_model.specs.Views.{own_entries}
use Rattle.hist_model.specs.Open.{IsClosed}
use Rattle.hist_model.specs.Script.{wants, same_policy, same_fence}
use Rattle.hist_model.specs.Allowed.{has_acted, by_script, by_task, enters, has_done, is_front, is_head_of, is_job, is_ready_worker, is_reply, may_come, same_scope}
use Rattle.hist_model.specs.Legal.{IsLegal}
use Rattle.hist_model.specs.Laws.Consistent.{is_pump}
use Rattle.hist_model.specs.Laws.Progress.{end_of, step_of}
use Rattle.hist_model.specs.Laws.Ways.{but_moment, way_into, way_to_take, way_to_front, way_of_action, way_of_step, way_of_task, way_of_free, way_on}
use Rattle.hist_model.proofs.Laws.Open.{closed_acts, closed_enters, closed_leaves, closed_main, closed_post}
use Rattle.hist_model.proofs.Laws.Choice.{found}
use Rattle.hist_model.proofs.Laws.Claims.{claimed_is}
use Rattle.hist_model.proofs.Laws.JobEntries.{entering_is, job_step_is, join_is, none_is}
use Rattle.hist_model.proofs.Laws.OneThing.{legal_does_one_thing, wanted_by}
use Rattle.hist_model.proofs.Laws.Wants.{driver_holds_nothing, driver_runs_nothing, entered_by, enters_main, enters_post, wants_main, wants_post}
use Rattle.hist_model.proofs.Laws.Takes.{IsReadyWorker, by_driver, job_take_is, ready_worker}

-- ---- what is the same by a test

same_policy_is : (a b : Policy) → same_policy a b ≡ true → a ≡ b
same_policy_is All All h = refl
same_policy_is Foreground Foreground h = refl
same_policy_is Nothing Nothing h = refl
same_policy_is a b h = absurd cc

same_priority_is : (a b : Priority) → importance a ≡ importance b → a ≡ b
same_priority_is BestEffort BestEffort h = refl
same_priority_is UserVisible UserVisible h = refl
same_priority_is UserBlocking UserBlocking h = refl
same_priority_is a b h = absurd (omega (arith, h))

same_fence_is : (a b : FenceAt) → same_fence a b ≡ true → a ≡ b
same_fence_is Now Now h = refl
same_fence_is Start Start h = refl
same_fence_is a b h = absurd cc

same_scope_is : (a b : Scope) → same_scope a b ≡ true → a ≡ b
same_scope_is May May h = refl
same_scope_is Will Will h = refl
same_scope_is a b h = absurd cc

voted_is : (on o : Bool) → cond o on (not on) ≡ true → on ≡ o
voted_is on true h = h
voted_is true false h = absurd cc
voted_is false false h = refl

-- only one reply fits
only_reply : (refused ok : Bool) → is_reply refused ok ≡ true → ok ≡ not refused
only_reply true true fits = absurd cc
only_reply true false fits = refl
only_reply false ok fits = fits

-- ---- the way on, by what the seat is at

way_at_task : (script : Plan) (past : List Entry) (seat : ℕ) (w : Running) → running past seat ≡ Some w
    → way_on script past seat ≡ way_of_task script past seat w
unfolding way_on
way_at_task script past seat w runs = rw runs refl

way_at_item : (script : Plan) (past : List Entry) (seat : ℕ) (h : Holding) → running past seat ≡ None → holding past seat ≡ Some h
    → way_on script past seat ≡ Some (step_of script past seat h)
unfolding way_on
way_at_item script past seat h runs holds = rw (runs, holds) refl

pub way_at_nothing : (script : Plan) (past : List Entry) (seat : ℕ) → running past seat ≡ None → holding past seat ≡ None
    → way_on script past seat ≡ way_of_free script past seat
unfolding way_on
way_at_nothing script past seat runs holds = rw (runs, holds) refl

-- ---- by a worker

module _ (script : Plan) (past : List Entry) where
  way_in : (job id item : ℕ) → free_id script past job ≡ Some id → item ≡ claimed past job → way_into script past job ≡ Some (kinds.JobTake job id item)
  way_in job id item number is = rw (number, is) refl

  no_driver : (seat : ℕ) → 1 ≤ seat → eqb seat 0 ≡ false
  no_driver seat worker = ne_eqb seat 0 (λ same. absurd (omega (arith, worker, same)))

  -- what takes the best source of a free worker
  taken : (seat : ℕ) (best : Candidate) (way : Kind) → IsReadyWorker script past seat → best_of script past seat ≡ Some best
      → way_to_take script past best.source ≡ Some way → way_on script past seat ≡ Some way
  taken seat best way ready is takes =
      let parts = and_parts (is_none (running past seat)) (is_none (holding past seat)) ready.free in
      way_at_nothing script past seat (none_is (running past seat) parts.0) (none_is (holding past seat) parts.1)
      ∙ rw (no_driver seat ready.worker, is) takes

  head_taken : (task runner value : ℕ) (source : TaskSource) → is_head_of script past task runner value source ≡ true
      → way_to_take script past source ≡ Some (kinds.Take task runner value)
  head_taken task runner value (Job j) h = absurd cc
  head_taken task runner value (Sequence s) h =
      let parts = and_parts (holds_of (λ (r : Ready). eqb r.posted.task task && eqb r.posted.home runner) (head_of script past s))
      (eqb value (cell_of script past s)) h in
      let head = found (λ (r : Ready). eqb r.posted.task task && eqb r.posted.home runner) (head_of script past s) parts.0 in
      let same = and_parts (eqb head.value.posted.task task) (eqb head.value.posted.home runner) head.passes in
      rw (head.is, eqb-true _ _ same.0, eqb-true _ _ same.1, eqb-true value (cell_of script past s) parts.1) refl

  job_taken : (job id item : ℕ) (source : TaskSource) → is_job job source ≡ true → free_id script past job ≡ Some id → item ≡ claimed past job
      → way_to_take script past source ≡ Some (kinds.JobTake job id item)
  job_taken job id item (Sequence s) h number is = absurd cc
  job_taken job id item (Job j) h number is = rw (eqb-true j job h) (way_in job id item number is)

  pub take_way : (seat task runner value : ℕ) → may_come script past seat (kinds.Take task runner value) ≡ true
      → way_on script past seat ≡ Some (kinds.Take task runner value)
  unfolding may_come
  take_way seat task runner value may =
      let parts = and_parts (is_ready_worker script past seat)
      (holds_of (λ (c : Candidate). is_head_of script past task runner value c.source) (best_of script past seat)) may in
      let c = found (λ (c : Candidate). is_head_of script past task runner value c.source) (best_of script past seat) parts.1 in
      taken seat c.value (kinds.Take task runner value) (ready_worker script past seat parts.0) c.is (head_taken task runner value c.value.source c.passes)

  pub worker_job_way : (seat job id item : ℕ) (ready : IsReadyWorker script past seat)
      → holds_of (λ (c : Candidate). is_job job c.source) (best_of script past seat) ≡ true → may_come script past seat (kinds.JobTake job id item) ≡ true
      → way_on script past seat ≡ Some (kinds.JobTake job id item)
  worker_job_way seat job id item ready best may =
      let e = entering_is script past seat job id item may in
      let c = found (λ (c : Candidate). is_job job c.source) (best_of script past seat) best in
      taken seat c.value (kinds.JobTake job id item) ready c.is (job_taken job id item c.value.source c.passes e.number_is e.item_is)

  pub job_step_way : (seat job id item value : ℕ) (next : Option ℕ) → IsLegal script past
      → may_come script past seat (kinds.JobStep job id item value next) ≡ true
      → way_on script past seat ≡ Some (kinds.JobStep job id item value next)
  job_step_way seat job id item value next legal may =
      let s = job_step_is script past seat job id item value next may in
      way_at_item script past seat (record { job = job; id = id; item = item }) (runs_none (running past seat) refl s.held) s.held
      ∙ rw (s.value_is, s.next_is) refl
    where
      runs_none : (o : Option Running) → running past seat ≡ o → holding past seat ≡ Some (record { job = job; id = id; item = item })
          → running past seat ≡ None
      runs_none None is held = is
      runs_none (Some w) is held =
          absurd ((legal_does_one_thing script past legal).one_thing seat w (record { job = job; id = id; item = item }) is held)

-- ---- by the script

module _ (script : Plan) (past : List Entry) (closed : IsClosed script) (legal : IsLegal script past) where
  -- what the script wants is the way of the action that the driver is at
  scripted : (seat : ℕ) (kind way : Kind) → by_script script past seat kind ≡ true
      → ((action : Action) (made : List Entry) → wants (own_entries 0 past) action made kind ≡ true → way_of_action script past action made ≡ Some way)
      → way_on script past seat ≡ Some way
  scripted seat kind way by told =
      let driver = by_driver script past seat kind by in
      let c = wanted_by script past seat kind closed by in
      ap (way_on script past) driver ∙ way_at_nothing script past 0 (driver_runs_nothing script past seat kind closed legal by)
      (driver_holds_nothing script past seat kind closed legal by)
      ∙ rw c.is (told c.value.action c.value.made c.passes)

  -- ---- by a task

  -- what a task enters is the way of its next act step
  tasked : (seat : ℕ) (kind way : Kind) → by_task script past seat kind ≡ true
      → ((t : ℕ) (step : Step) → enters t step kind ≡ true → way_of_step script past t step ≡ Some way) → way_on script past seat ≡ Some way
  tasked seat kind way by told =
      let step = entered_by script past seat kind by in
      way_at_task script past seat step.now step.runs ∙ rw step.is_next (told step.now.task step.step step.enters)

  -- the way of a task whose act steps are all entered is its end
  ended : (seat left : ℕ) (w : Running) → running past seat ≡ Some w → has_done script past seat left w ≡ true
      → (way_on script past seat ≡ Some (end_of script w)) × (left ≡ after (steps_of script w.task) w.found)
  ended seat left w runs all =
      let parts = and_parts (has_acted script past seat w) (eqb left (after (steps_of script w.task) w.found)) all in
      let count = eqb-true (acts_done past seat) (length (filter is_act (steps_of script w.task))) (sym (closed_acts script past seat w closed) ∙ parts.0) in (
        way_at_task script past seat w runs
            ∙ rw (slice_get_past (filter is_act (steps_of script w.task)) (acts_done past seat) (omega (arith, count))) refl,
        eqb-true left (after (steps_of script w.task) w.found) parts.1,
      )

  -- ---- posts

  post_step : (task runner delay : ℕ) (ok : Bool) → is_reply (is_refused script past runner delay) ok ≡ true → (t : ℕ) (step : Step)
      → enters t step (kinds.Post task runner delay ok) ≡ true → way_of_step script past t step ≡ Some (kinds.Post task runner delay ok)
  post_step task runner delay ok reply t step h =
      rw (enters_post t step task runner delay ok h, only_reply (is_refused script past runner delay) ok reply) refl

  post_action : (task runner delay : ℕ) (ok : Bool) → is_reply (is_refused script past runner delay) ok ≡ true → (own : List Entry) (action : Action)
      (made : List Entry) → wants own action made (kinds.Post task runner delay ok) ≡ true
      → way_of_action script past action made ≡ Some (kinds.Post task runner delay ok)
  post_action task runner delay ok reply own action made h =
      rw (wants_post own action made task runner delay ok h, only_reply (is_refused script past runner delay) ok reply) refl

  main_step : (task queue delay : ℕ) (ok : Bool) → is_reply (is_closed past queue) ok ≡ true → (t : ℕ) (step : Step)
      → enters t step (kinds.Main task queue delay ok) ≡ true → way_of_step script past t step ≡ Some (kinds.Main task queue delay ok)
  main_step task queue delay ok reply t step h =
      rw (enters_main t step task queue delay ok h, only_reply (is_closed past queue) ok reply) refl

  main_action : (task queue delay : ℕ) (ok : Bool) → is_reply (is_closed past queue) ok ≡ true → (own : List Entry) (action : Action)
      (made : List Entry) → wants own action made (kinds.Main task queue delay ok) ≡ true
      → way_of_action script past action made ≡ Some (kinds.Main task queue delay ok)
  main_action task queue delay ok reply own action made h =
      rw (wants_main own action made task queue delay ok h, only_reply (is_closed past queue) ok reply) refl

  -- ---- scopes

  enter_step : (task : ℕ) (scope : Scope) (t : ℕ) (step : Step) → enters t step (kinds.Enter task scope) ≡ true
      → way_of_step script past t step ≡ Some (kinds.Enter task scope)
  enter_step task scope t (steps.Block s) h =
      let parts = and_parts (eqb task t) (same_scope scope s) h in
      rw (eqb-true task t parts.0, same_scope_is scope s parts.1) refl
  enter_step task scope t step h = absurd cc

  leave_step : (task t : ℕ) (step : Step) → enters t step (kinds.Leave task) ≡ true → way_of_step script past t step ≡ Some (kinds.Leave task)
  leave_step task t steps.Unblock h = rw (eqb-true task t h) refl
  leave_step task t step h = absurd cc

  -- ---- what the driver does by its script

  tick_action : (now : ℕ) (own : List Entry) (action : Action) (made : List Entry) → wants own action made (kinds.Tick now) ≡ true
      → way_of_action script past action made ≡ Some (kinds.Tick 0)
  tick_action now own (actions.Tick count) made h = refl
  tick_action now own action made h = absurd cc

  policy_action : (policy : Policy) (own : List Entry) (action : Action) (made : List Entry) → wants own action made (kinds.Policy policy) ≡ true
      → way_of_action script past action made ≡ Some (kinds.Policy policy)
  policy_action policy own (actions.Policy p) made h = rw (same_policy_is policy p h) refl
  policy_action policy own action made h = absurd cc

  reprio_action : (runner : ℕ) (priority : Priority) (own : List Entry) (action : Action) (made : List Entry)
      → wants own action made (kinds.Reprio runner priority) ≡ true → way_of_action script past action made ≡ Some (kinds.Reprio runner priority)
  reprio_action runner priority own (actions.Reprio r p) made h =
      let parts = and_parts (eqb runner r) (eqb (importance priority) (importance p)) h in
      rw (eqb-true runner r parts.0, same_priority_is priority p (eqb-true (importance priority) (importance p) parts.1)) refl
  reprio_action runner priority own action made h = absurd cc

  fence_action : (queue : ℕ) (at : FenceAt) (own : List Entry) (action : Action) (made : List Entry)
      → wants own action made (kinds.Fence queue at) ≡ true → way_of_action script past action made ≡ Some (kinds.Fence queue at)
  fence_action queue at own (actions.Fence q a) made h =
      let parts = and_parts (eqb queue q) (same_fence at a) h in rw (eqb-true queue q parts.0, same_fence_is at a parts.1) refl
  fence_action queue at own action made h = absurd cc

  unfence_action : (queue : ℕ) (own : List Entry) (action : Action) (made : List Entry) → wants own action made (kinds.Unfence queue) ≡ true
      → way_of_action script past action made ≡ Some (kinds.Unfence queue)
  unfence_action queue own (actions.Unfence q) made h = rw (eqb-true queue q h) refl
  unfence_action queue own action made h = absurd cc

  vote_action : (queue voter : ℕ) (on : Bool) (own : List Entry) (action : Action) (made : List Entry)
      → wants own action made (kinds.Vote queue voter on) ≡ true → way_of_action script past action made ≡ Some (kinds.Vote queue voter on)
  vote_action queue voter on own (actions.Vote q v o) made h =
      let outer = and_parts (eqb queue q && eqb voter v) (cond o on (not on)) h in
      let inner = and_parts (eqb queue q) (eqb voter v) outer.0 in
      rw (eqb-true queue q inner.0, eqb-true voter v inner.1, voted_is on o outer.1) refl
  vote_action queue voter on own action made h = absurd cc

  rank_action : (queue class : ℕ) (own : List Entry) (action : Action) (made : List Entry) → wants own action made (kinds.Rank queue class) ≡ true
      → way_of_action script past action made ≡ Some (kinds.Rank queue class)
  rank_action queue class own (actions.Rank q c) made h =
      let parts = and_parts (eqb queue q) (eqb class c) h in rw (eqb-true queue q parts.0, eqb-true class c parts.1) refl
  rank_action queue class own action made h = absurd cc

  close_action : (queue : ℕ) (own : List Entry) (action : Action) (made : List Entry) → wants own action made (kinds.Close queue) ≡ true
      → way_of_action script past action made ≡ Some (kinds.Close queue)
  close_action queue own (actions.Close q) made h = rw (eqb-true queue q h) refl
  close_action queue own action made h = absurd cc

  idle_action : (own : List Entry) (action : Action) (made : List Entry) → wants own action made kinds.Idle ≡ true
      → way_of_action script past action made ≡ Some kinds.Idle
  idle_action own actions.Flush made h = refl
  idle_action own action made h = absurd cc

  job_post_action : (job : ℕ) (ok : Bool) → is_reply (is_job_forbidden script past job) ok ≡ true → (own : List Entry) (action : Action)
      (made : List Entry) → wants own action made (kinds.JobPost job ok) ≡ true → way_of_action script past action made ≡ Some (kinds.JobPost job ok)
  job_post_action job ok reply own (actions.StartJob j) made h = rw (only_reply (is_job_forbidden script past job) ok reply, eqb-true job j h) refl
  job_post_action job ok reply own action made h = absurd cc

  job_cancel_action : (job : ℕ) (own : List Entry) (action : Action) (made : List Entry) → wants own action made (kinds.JobCancel job) ≡ true
      → way_of_action script past action made ≡ Some (kinds.JobCancel job)
  job_cancel_action job own (actions.Cancel j) made h =
      let parts = and_parts (eqb job j) (eqb (length made) 0) h in rw (parts.1, eqb-true job j parts.0) refl
  job_cancel_action job own action made h = absurd cc

  cancelled_action : (job : ℕ) (own : List Entry) (action : Action) (made : List Entry) → wants own action made (kinds.Cancelled job) ≡ true
      → way_of_action script past action made ≡ Some (kinds.Cancelled job)
  cancelled_action job own (actions.Cancel j) made h =
      let parts = and_parts (eqb job j) (eqb (length made) 1) h in
      let one = eqb-true (length made) 1 parts.1 in rw (one, eqb-true job j parts.0) refl
  cancelled_action job own action made h = absurd cc

  shutdown_action : (own : List Entry) (action : Action) (made : List Entry) → wants own action made kinds.Shutdown ≡ true
      → way_of_action script past action made ≡ Some kinds.Shutdown
  shutdown_action own actions.Shutdown made h = rw h refl
  shutdown_action own action made h = absurd cc

  done_action : (own : List Entry) (action : Action) (made : List Entry) → wants own action made kinds.Done ≡ true
      → way_of_action script past action made ≡ Some kinds.Done
  done_action own actions.Shutdown made h = let one = eqb-true (length made) 1 h in rw one refl
  done_action own action made h = absurd cc

  -- ---- main queues

  front_action : (way : Kind) → way_to_front past (chosen_of script past) ≡ way → (own : List Entry) (action : Action) (made : List Entry)
      → is_pump action ≡ true → way_of_action script past action made ≡ Some way
  front_action way is own (actions.Pump n) made pump = ap Some is
  front_action way is own action made pump = absurd cc

  main_take_wants : (task queue value : ℕ) (own : List Entry) (action : Action) (made : List Entry)
      → wants own action made (kinds.MainTake task queue value) ≡ true → is_pump action ≡ true
  main_take_wants task queue value own (actions.Pump n) made h = refl
  main_take_wants task queue value own action made h = absurd cc

  main_none_wants : (own : List Entry) (action : Action) (made : List Entry) → wants own action made kinds.MainNone ≡ true → is_pump action ≡ true
  main_none_wants own (actions.Pump n) made h = refl
  main_none_wants own action made h = absurd cc

  none_among : (streak : ℕ) → choice_among [] streak ≡ None
  unfolding choice_among of_least_class
  none_among streak = either (is_starved [] streak)
    where
      either : (b : Bool) → least order_below (cond b (immediate_of_least_class []) (of_least_class [])) ≡ None
      either true = refl
      either false = refl

  none_chosen : (fronts : List Front) → length fronts ≡ 0 → choice_among fronts (streak_of script past) ≡ None
  none_chosen [] is = none_among (streak_of script past)
  none_chosen (f ∷ fronts) is = absurd (omega (arith, is))

  -- ---- jobs

  -- a job that may be entered has no reply
  unanswered : (job : ℕ) → may_enter script past job ≡ true → reply_of script past job ≡ None
  unfolding may_enter
  unanswered job may =
      let p4 = and_parts _ (nat_lt (length (inside script past job)) (concurrency script past job)) may in
      let p3 = and_parts _ (has_unclaimed script past job) p4.0 in
      let p2 = and_parts _ (not (is_job_forbidden script past job)) p3.0 in
      let p1 = and_parts (is_job_accepted past job) (not (is_cancelled past job)) p2.0 in
      let below : claimed past job < items_of script job = ltb-true (claimed past job) (items_of script job) p3.1 in
      let claims = claimed_is script past job legal in
      rw (
        accepted (job_post_of past job) p1.0,
        ne_eqb (done past job) (items_of script job) (λ same. absurd (omega (arith, same, below, claims))),
        not-true (is_cancelled past job) p1.1,
        not-true (is_job_forbidden script past job) p2.1,
      ) refl
    where
      accepted : (o : Option JobPosted) → holds_of (λ (p : JobPosted). p.ok) o ≡ true → holds_of (λ (p : JobPosted). not p.ok) o ≡ false
      accepted None h = absurd cc
      accepted (Some p) h = rw h refl

  join_in_action : (job id item : ℕ) → may_enter script past job ≡ true → free_id script past job ≡ Some id → item ≡ claimed past job
      → (own : List Entry) (action : Action) (made : List Entry) → wants own action made (kinds.JobTake job id item) ≡ true
      → way_of_action script past action made ≡ Some (kinds.JobTake job id item)
  join_in_action job id item may number is own (actions.Join j) made h =
      let same = eqb-true job j (and_parts (eqb job j) (is_none (holding own 0)) h).0 in
      rw (← same, may) (way_in script past job id item number is)
  join_in_action job id item may number is own action made h = absurd cc

  joined_action : (job : ℕ) (reply : JobReply) → reply_of script past job ≡ Some reply → (own : List Entry) (action : Action) (made : List Entry)
      → wants own action made (kinds.Joined job reply) ≡ true → way_of_action script past action made ≡ Some (kinds.Joined job reply)
  joined_action job reply is own (actions.Join j) made h =
      let same = eqb-true job j (and_parts (eqb job j) (is_none (holding own 0)) h).0 in
      rw (← same, false_from_ne_true (may_enter script past job) (λ may. none-some reply (sym (unanswered job may) ∙ is)), is) refl
  joined_action job reply is own action made h = absurd cc

  -- ---- all together

  job_take_way : (seat job id item : ℕ) → may_come script past seat (kinds.JobTake job id item) ≡ true
      → way_on script past seat ≡ Some (kinds.JobTake job id item)
  job_take_way seat job id item may =
      let e = entering_is script past seat job id item may in
      ⊎_elim (λ k. worker_job_way script past seat job id item k.0 k.1 may)
      (λ k. scripted seat (kinds.JobTake job id item) (kinds.JobTake job id item) k.0
      (join_in_action job id item k.1 e.number_is e.item_is (own_entries 0 past)))
      (job_take_is script past seat job id item may)

  pool_end : (w : Running) (task left : ℕ) → w.is_main ≡ false → w.task ≡ task → left ≡ after (steps_of script w.task) w.found
      → Some (end_of script w) ≡ Some (kinds.End task left)
  pool_end w task left pool same leaves = rw (pool, leaves, ← same) refl

  main_end : (w : Running) (task left : ℕ) → w.is_main ≡ true → w.task ≡ task → left ≡ after (steps_of script w.task) w.found
      → Some (end_of script w) ≡ Some (kinds.MainEnd task left)
  main_end w task left main same leaves = rw (main, leaves, ← same) refl

  end_way : (seat task left : ℕ) → may_come script past seat (kinds.End task left) ≡ true → way_on script past seat ≡ Some (kinds.End task left)
  unfolding may_come
  end_way seat task left may =
      let w = found (λ (w : Running). not w.is_main && eqb w.task task && has_done script past seat left w) (running past seat) may in
      let outer = and_parts (not w.value.is_main && eqb w.value.task task) (has_done script past seat left w.value) w.passes in
      let inner = and_parts (not w.value.is_main) (eqb w.value.task task) outer.0 in
      let e = ended seat left w.value w.is outer.1 in
      e.0 ∙ pool_end w.value task left (not-true w.value.is_main inner.0) (eqb-true w.value.task task inner.1) e.1

  main_end_way : (seat task left : ℕ) → may_come script past seat (kinds.MainEnd task left) ≡ true
      → way_on script past seat ≡ Some (kinds.MainEnd task left)
  unfolding may_come
  main_end_way seat task left may =
      let runs = and_parts (eqb seat 0)
      (holds_of (λ (w : Running). w.is_main && eqb w.task task && has_done script past seat left w) (running past seat)) may in
      let w = found (λ (w : Running). w.is_main && eqb w.task task && has_done script past seat left w) (running past seat) runs.1 in
      let outer = and_parts (w.value.is_main && eqb w.value.task task) (has_done script past seat left w.value) w.passes in
      let inner = and_parts w.value.is_main (eqb w.value.task task) outer.0 in
      let e = ended seat left w.value w.is outer.1 in
      e.0 ∙ main_end w.value task left inner.0 (eqb-true w.value.task task inner.1) e.1

  main_take_way : (seat task queue value : ℕ) → may_come script past seat (kinds.MainTake task queue value) ≡ true
      → way_on script past seat ≡ Some (kinds.MainTake task queue value)
  unfolding may_come
  main_take_way seat task queue value may =
      let outer = and_parts (by_script script past seat (kinds.MainTake task queue value) && holds_of (is_front task queue) (chosen_of script past))
      (eqb value (main_cell_of past queue)) may in
      let inner = and_parts (by_script script past seat (kinds.MainTake task queue value)) (holds_of (is_front task queue) (chosen_of script past)) outer.0 in
      let front = found (is_front task queue) (chosen_of script past) inner.1 in
      let same = and_parts (eqb front.value.task task) (eqb front.value.queue queue) front.passes in
      let is : way_to_front past (chosen_of script past) ≡ kinds.MainTake task queue value =
      rw (front.is, eqb-true _ _ same.0, eqb-true _ _ same.1, eqb-true value (main_cell_of past queue) outer.1) refl in
      scripted seat (kinds.MainTake task queue value) (kinds.MainTake task queue value) inner.0
      (λ action made h. front_action (kinds.MainTake task queue value) is (own_entries 0 past) action made
      (main_take_wants task queue value (own_entries 0 past) action made h))

  main_none_way : (seat : ℕ) → may_come script past seat kinds.MainNone ≡ true → way_on script past seat ≡ Some kinds.MainNone
  unfolding may_come
  main_none_way seat may =
      let parts = and_parts (by_script script past seat kinds.MainNone) (eqb (length (open_fronts script past)) 0) may in
      let is : way_to_front past (chosen_of script past) ≡ kinds.MainNone =
      rw (none_chosen (open_fronts script past) (eqb-true (length (open_fronts script past)) 0 parts.1)) refl in
      scripted seat kinds.MainNone kinds.MainNone parts.0
      (λ action made h. front_action kinds.MainNone is (own_entries 0 past) action made (main_none_wants (own_entries 0 past) action made h))

  post_way : (seat task runner delay : ℕ) (ok : Bool) → may_come script past seat (kinds.Post task runner delay ok) ≡ true
      → way_on script past seat ≡ Some (kinds.Post task runner delay ok)
  unfolding may_come
  post_way seat task runner delay ok may =
      let kind : Kind = kinds.Post task runner delay ok in
      let parts = and_parts (by_script script past seat kind || by_task script past seat kind) (is_reply (is_refused script past runner delay) ok)
      (sym (closed_post script past seat task runner delay ok closed) ∙ may) in
      ⊎_elim (λ by. scripted seat kind kind by (post_action task runner delay ok parts.1 (own_entries 0 past)))
      (λ by. tasked seat kind kind by (post_step task runner delay ok parts.1))
      (or_cases (by_script script past seat kind) (by_task script past seat kind) parts.0)

  main_way : (seat task queue delay : ℕ) (ok : Bool) → may_come script past seat (kinds.Main task queue delay ok) ≡ true
      → way_on script past seat ≡ Some (kinds.Main task queue delay ok)
  unfolding may_come
  main_way seat task queue delay ok may =
      let kind : Kind = kinds.Main task queue delay ok in
      let parts = and_parts (by_script script past seat kind || by_task script past seat kind) (is_reply (is_closed past queue) ok)
      (sym (closed_main script past seat task queue delay ok closed) ∙ may) in
      ⊎_elim (λ by. scripted seat kind kind by (main_action task queue delay ok parts.1 (own_entries 0 past)))
      (λ by. tasked seat kind kind by (main_step task queue delay ok parts.1))
      (or_cases (by_script script past seat kind) (by_task script past seat kind) parts.0)

  joined_way : (seat job : ℕ) (reply : JobReply) → may_come script past seat (kinds.Joined job reply) ≡ true
      → way_on script past seat ≡ Some (kinds.Joined job reply)
  unfolding may_come
  joined_way seat job reply may =
      let by = (and_parts (by_script script past seat (kinds.Joined job reply)) (is_empty script past job) (and_parts _ _ may).0).0 in
      scripted seat (kinds.Joined job reply) (kinds.Joined job reply) by
      (joined_action job reply (join_is script past seat job reply may).reply_is (own_entries 0 past))

-- what may come in a closed plan is the way on, but for the moment of a tick
pub way_is : (script : Plan) (past : List Entry) (seat : ℕ) (kind : Kind) → IsClosed script → IsLegal script past → may_come script past seat kind ≡ true
    → way_on script past seat ≡ Some (but_moment kind)
unfolding may_come
way_is script past seat (kinds.Post task runner delay ok) closed legal may = post_way script past closed legal seat task runner delay ok may
way_is script past seat (kinds.Main task queue delay ok) closed legal may = main_way script past closed legal seat task queue delay ok may
way_is script past seat (kinds.Tick now) closed legal may =
    scripted script past closed legal seat (kinds.Tick now) (kinds.Tick 0) (and_parts (by_script script past seat (kinds.Tick now)) _ (and_parts _ _ may).0).0
    (tick_action script past closed legal now (own_entries 0 past))
way_is script past seat (kinds.Take task runner value) closed legal may = take_way script past seat task runner value may
way_is script past seat (kinds.End task left) closed legal may = end_way script past closed legal seat task left may
way_is script past seat (kinds.Enter task scope) closed legal may =
    tasked script past closed legal seat (kinds.Enter task scope) (kinds.Enter task scope)
    (sym (closed_enters script past seat task scope closed) ∙ may) (enter_step script past closed legal task scope)
way_is script past seat (kinds.Leave task) closed legal may =
    tasked script past closed legal seat (kinds.Leave task) (kinds.Leave task)
    (sym (closed_leaves script past seat task closed) ∙ may) (leave_step script past closed legal task)
way_is script past seat (kinds.Policy policy) closed legal may =
    scripted script past closed legal seat (kinds.Policy policy) (kinds.Policy policy) may (policy_action script past closed legal policy (own_entries 0 past))
way_is script past seat (kinds.Reprio runner priority) closed legal may =
    scripted script past closed legal seat (kinds.Reprio runner priority) (kinds.Reprio runner priority) may
    (reprio_action script past closed legal runner priority (own_entries 0 past))
way_is script past seat (kinds.Fence queue at) closed legal may =
    scripted script past closed legal seat (kinds.Fence queue at) (kinds.Fence queue at) may
    (fence_action script past closed legal queue at (own_entries 0 past))
way_is script past seat (kinds.Unfence queue) closed legal may =
    scripted script past closed legal seat (kinds.Unfence queue) (kinds.Unfence queue) may (unfence_action script past closed legal queue (own_entries 0 past))
way_is script past seat (kinds.Vote queue voter on) closed legal may =
    scripted script past closed legal seat (kinds.Vote queue voter on) (kinds.Vote queue voter on) may
    (vote_action script past closed legal queue voter on (own_entries 0 past))
way_is script past seat (kinds.Rank queue class) closed legal may =
    scripted script past closed legal seat (kinds.Rank queue class) (kinds.Rank queue class) may
    (rank_action script past closed legal queue class (own_entries 0 past))
way_is script past seat (kinds.Close queue) closed legal may =
    scripted script past closed legal seat (kinds.Close queue) (kinds.Close queue) may (close_action script past closed legal queue (own_entries 0 past))
way_is script past seat (kinds.MainTake task queue value) closed legal may = main_take_way script past closed legal seat task queue value may
way_is script past seat (kinds.MainEnd task left) closed legal may = main_end_way script past closed legal seat task left may
way_is script past seat kinds.MainNone closed legal may = main_none_way script past closed legal seat may
way_is script past seat (kinds.JobPost job ok) closed legal may =
    let parts = and_parts (by_script script past seat (kinds.JobPost job ok)) (is_reply (is_job_forbidden script past job) ok) may in
    scripted script past closed legal seat (kinds.JobPost job ok) (kinds.JobPost job ok) parts.0
    (job_post_action script past closed legal job ok parts.1 (own_entries 0 past))
way_is script past seat (kinds.JobTake job id item) closed legal may = job_take_way script past closed legal seat job id item may
way_is script past seat (kinds.JobStep job id item value next) closed legal may = job_step_way script past seat job id item value next legal may
way_is script past seat (kinds.JobCancel job) closed legal may =
    scripted script past closed legal seat (kinds.JobCancel job) (kinds.JobCancel job) may (job_cancel_action script past closed legal job (own_entries 0 past))
way_is script past seat (kinds.Cancelled job) closed legal may =
    scripted script past closed legal seat (kinds.Cancelled job) (kinds.Cancelled job)
    (and_parts (by_script script past seat (kinds.Cancelled job)) _ (and_parts _ _ may).0).0
    (cancelled_action script past closed legal job (own_entries 0 past))
way_is script past seat (kinds.Joined job reply) closed legal may = joined_way script past closed legal seat job reply may
way_is script past seat kinds.Idle closed legal may =
    scripted script past closed legal seat kinds.Idle kinds.Idle (and_parts (by_script script past seat kinds.Idle) _ (and_parts _ _ may).0).0
    (idle_action script past closed legal (own_entries 0 past))
way_is script past seat kinds.Shutdown closed legal may =
    scripted script past closed legal seat kinds.Shutdown kinds.Shutdown may (shutdown_action script past closed legal (own_entries 0 past))
way_is script past seat kinds.Done closed legal may =
    scripted script past closed legal seat kinds.Done kinds.Done (and_parts (by_script script past seat kinds.Done) _ (and_parts _ _ may).0).0
    (done_action script past closed legal (own_entries 0 past))

-- so there is at most one
pub one_way : (script : Plan) (past : List Entry) (seat : ℕ) (a b : Kind) → IsClosed script → IsLegal script past → may_come script past seat a ≡ true
    → may_come script past seat b ≡ true → but_moment a ≡ but_moment b
one_way script past seat a b closed legal may also =
    same_Some (but_moment a) (but_moment b) (sym (way_is script past seat a closed legal may) ∙ way_is script past seat b closed legal also)

-- who may go into a job finds none answered
pub in_or_joined : (script : Plan) (past : List Entry) (seat job id item other : ℕ) (reply : JobReply) → IsClosed script → IsLegal script past
    → may_come script past seat (kinds.JobTake job id item) ≡ true → may_come script past seat (kinds.Joined other reply) ≡ true → ⊥
in_or_joined script past seat job id item other reply closed legal may also =
    let same = one_way script past seat (kinds.JobTake job id item) (kinds.Joined other reply) closed legal may also in absurd cc
