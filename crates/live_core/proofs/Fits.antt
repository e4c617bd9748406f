-- What may come of a call: only where the call fits and lacks nothing, and one kind alone.
-- Cited by `Exact`.
use Rattle.std.proofs.Common.{◌≡◌, ℕ, ◌+◌, ◌<◌, Bool, true, false, cond, eqb, length, List, [], ◌∷◌, refl, sym, ap, ◌∙◌, Option, Some, None}
use Rattle.std.proofs.Common.{inl, inr, ⊎_elim, arith}
use Rattle.std.specs.Prelude.{◌&&◌, ◌||◌, filter, is_none, is_some, nat_le, nat_lt, not}
use Rattle.std.specs.List.{list_all, list_any}
use Rattle.std.specs.Option.{option_map}
use Rattle.std.proofs.lemmas.Bool.{and_from, and_parts, both_ways, cases_lt, cond-false, eq-eqb, eqb-true, false≢true, le-leb, lt-ltb, not-true}
use Rattle.std.proofs.lemmas.Bool.{not_from_false, true≢false}
use Rattle.std.proofs.lemmas.Option.{none-some}
use Rattle.list_laws.proofs.Places.{count_none}
use Rattle.list_laws.proofs.Ranges.{AllByRecursion-range, range_all_at}
use Rattle.list_laws.proofs.Tests.{list_any_none}
use Rattle.list_laws.proofs.Values.{some-injective}
use Rattle.list_laws.proofs.Values.{some-injective}
use Rattle.list_laws.specs.Lists.{holds_of, least}
use Rattle.script_model.specs.Draft.{may_block_on}
use Rattle.task_base.specs.Plan.{Plan}
use Rattle.task_base.specs.Steps.{after, is_act}
use Rattle.task_base.specs.declared.entry.Entry.{Entry}
use Rattle.task_base.specs.declared.entry.Kind.{Kind}
use Rattle.task_base.specs.declared.entry.Kind.TheVariants as kinds
use Rattle.task_base.specs.declared.limits.TheConstants.{MOST_MICROSECONDS}
use Rattle.task_model.specs.Blockers.{blockers_of}
use Rattle.task_model.specs.Capacity.{open_scope}
use Rattle.task_model.specs.Cells.{main_cell_of}
use Rattle.task_model.specs.Jobs.{JobPosted, is_cancelled, is_empty, is_job_accepted, job_post_of, may_enter, reply_of}
use Rattle.task_model.specs.MainQueues.{Front, chosen_of, choice_among, immediate_of_least_class, is_starved, of_least_class, open_fronts}
use Rattle.task_model.specs.MainQueues.{order_below, streak_of}
use Rattle.task_model.specs.Phase.{is_started, phase_of}
use Rattle.task_model.specs.Refusal.{is_closed, is_job_forbidden, is_refused}
use Rattle.task_model.specs.Seats.{Holding, Running, acts_done, holding, is_free, is_quiet, running, steps_of, worker_seats}
use Rattle.task_model.specs.Sources.{best_of}
use Rattle.task_model.specs.Time.{now_of}
use Rattle.hist_model.proofs.Laws.Choice.{found}
use Rattle.hist_model.proofs.Laws.HoldsApart.{legal_holds_apart}
use Rattle.hist_model.proofs.Laws.JobEntries.{entering_is, job_step_is, join_is, none_is}
use Rattle.hist_model.proofs.Laws.OneThing.{job_step_holds, served_by, served_free}
use Rattle.hist_model.proofs.Laws.Open.{open_finished}
use Rattle.hist_model.proofs.Laws.OpenPlans.{phase_own}
use Rattle.hist_model.proofs.Laws.Rising.{opens_as_running}
use Rattle.hist_model.proofs.Laws.Takes.{IsReadyWorker, by_driver, job_take_is, ready_worker}
use Rattle.hist_model.proofs.Laws.Ways.{take_way, worker_job_way}
use Rattle.hist_model.specs.Allowed.{by_own_step, by_script, by_task, has_acted, has_done, is_front, is_head_of, is_job, is_ready_worker, is_reply, may_come}
use Rattle.hist_model.specs.Laws.Progress.{step_of}
use Rattle.hist_model.specs.Laws.Ways.{way_into, way_on, way_to_front}
use Rattle.hist_model.specs.Legal.{IsLegal}
use Rattle.hist_model.specs.Moments.{moment_behind}
use Rattle.hist_model.specs.Open.{IsOpen, is_before, is_done, is_guest, is_in_order, is_kept, is_poster, is_tick, may_close_scope, may_open_scope, was_posted}
use Rattle.hist_model.specs.Script.{is_finished}
use Rattle.hist_model.specs.Views.{own_entries}
use Rattle.pool_core.specs.Calls.{is_any_ready, is_working, running_tasks}
use Rattle.pool_core.specs.JobCalls.{joined_of}
use Rattle.live_core.proofs.Entered.{found_first}
use Rattle.live_core.proofs.Posted.{cancelled_was_posted, job_declared}
use Rattle.live_core.proofs.Posting.{any_main_reply, any_reply, is_free_post, new_post, new_post_known, runs_known}
use Rattle.live_core.proofs.Scopes.{main_is_closed}
use Rattle.live_core.proofs.Serving.{job_own}
use Rattle.live_core.specs.Answers.{IsMadeBy, LacksFor}
use Rattle.live_core.specs.Calls.{fits, is_driving, is_posting, is_spare, is_taker, seat_of, spare_task, task_of}
use Rattle.live_core.specs.declared.call.Call.{Call}
use Rattle.live_core.specs.declared.call.Call.TheVariants as calls
use Rattle.live_core.specs.declared.unmade.Unmade.{Unmade}
use Rattle.live_core.specs.declared.unmade.Unmade.TheVariants as unmade

-- ---- what a call that may come has at hand

module _ (plan : Plan) (past : List Entry) (opened : IsOpen plan) (legal : IsLegal plan past) where
  -- the driver of an open plan enters what is no tick while it does nothing, before shutdown is done
  record Drives (kind : Kind) : Type 0 where
    driving : is_driving past ≡ true
    order : is_in_order plan (own_entries 0 past) kind ≡ true

  going : (kind : Kind) → by_script plan past 0 kind ≡ true → not (is_done (phase_of past)) ≡ true
  going kind by = not_from_false (is_done (phase_of past)) (ap is_done (sym (phase_own plan past legal)) ∙ (served_by plan past 0 kind opened by).not_done)

  drives : (kind : Kind) → is_tick kind ≡ false → by_script plan past 0 kind ≡ true → Drives kind
  drives kind no_tick by = record {
    driving = and_from (not (is_done (phase_of past))) (is_free past 0) (going kind by) (served_free plan past 0 kind opened no_tick by);
    order = (served_by plan past 0 kind opened by).in_order;
  }

  -- so a call that names what its entry does fits
  driven : {named : Bool} (kind : Kind) → is_tick kind ≡ false → by_script plan past 0 kind ≡ true
      → (is_in_order plan (own_entries 0 past) kind ≡ true → named ≡ true) → (is_driving past && named) ≡ true
  driven {named = named} kind no_tick by names_it =
      let d = drives kind no_tick by in and_from (is_driving past) named d.driving (names_it d.order)

  -- a task that has acted has no scope open
  acted_closed : (seat : ℕ) (w : Running) → has_acted plan past seat w ≡ true → is_none (open_scope past w.task) ≡ true
  acted_closed seat w acted =
      ap (λ o. cond o (is_none (open_scope past w.task)) (eqb (acts_done past seat) (length (filter is_act (steps_of plan w.task))))) (sym opened) ∙ acted

  -- a worker that may take is no guest
  taker : (seat : ℕ) → IsReadyWorker plan past seat → is_taker plan past seat ≡ true
  taker seat ready = and_from (nat_le 1 seat && nat_lt seat plan.workers) (is_free past seat)
      (and_from (nat_le 1 seat) (nat_lt seat plan.workers) (le-leb 1 seat ready.worker) (lt-ltb seat plan.workers below)) ready.free
    where
      below : seat < plan.workers
      below = elim (cases_lt seat plan.workers) [
        | inl less ↦ less
        | inr beyond ↦ absurd (both_ways (is_guest plan seat) ready.no_guest
            (and_from plan.is_open (eqb seat plan.workers) opened (eq-eqb seat plan.workers (omega (arith, beyond, ready.known)))))
      ]

  -- a job that may be entered was accepted, and so declared
  entered_declared : (job : ℕ) → may_enter plan past job ≡ true → nat_lt job (length plan.jobs) ≡ true
  unfolding may_enter
  entered_declared job may = job_declared plan past job opened legal (by_post (job_post_of past job) accepted)
    where
      accepted : is_job_accepted past job ≡ true
      accepted = (and_parts _ _ (and_parts _ _ (and_parts _ _ (and_parts _ _ may).0).0).0).0

      by_post : (o : Option JobPosted) → holds_of (λ (p : JobPosted). p.ok) o ≡ true → is_some o ≡ true
      by_post None h = absurd cc
      by_post (Some p) h = refl

  -- a task that is handed out is posted by nobody's step
  spare_is_free : (task : ℕ) → spare_task plan past ≡ Some task → is_kept plan task ≡ false
  spare_is_free task is = not-true (is_kept plan task)
      (and_parts (not (is_kept plan task)) (not (was_posted past task)) (found_first (is_spare plan past) 0 (length plan.tasks) task is).passes).0

  -- ---- where an entry of the call may come, the call fits

  pub comes_fit : (call : Call) (kind : Kind) → IsMadeBy plan past call kind → may_come plan past (seat_of call) kind ≡ true → fits plan past call ≡ true
  unfolding may_come
  comes_fit (calls.Post seat (Some it) r d) (kinds.Post task runner delay ok) made may =
      let posted = is_free_post plan past seat task (kinds.Post task runner delay ok) opened (and_parts _ _ may).0 in
      let known = new_post_known plan past seat task (kinds.Post task runner delay ok) legal (new_post plan past seat task _ posted) in
      rw (some-injective made.0, ← made.1, ← made.2) (and_from (nat_le seat plan.workers) _ known (any_reply plan past seat task runner delay true ok ∙ posted))
  comes_fit (calls.Post seat None r d) (kinds.Post task runner delay ok) made may =
      let posted = is_free_post plan past seat task (kinds.Post task runner delay ok) opened (and_parts _ _ may).0 in
      let new = new_post plan past seat task (kinds.Post task runner delay ok) posted in
      let within = and_parts (nat_lt task (length plan.tasks) && nat_lt runner (length plan.runners)) (nat_le delay MOST_MICROSECONDS) new.within in
      let runner_there = (and_parts (nat_lt task (length plan.tasks)) (nat_lt runner (length plan.runners)) within.0).1 in
      let poster : is_poster plan past seat ≡ true =
      sym (cond-false (is_kept plan task) (by_own_step plan past seat (kinds.Post task runner delay ok)) (is_poster plan past seat) (spare_is_free task made.0))
      ∙ new.poster in
      rw (← made.1, ← made.2) (and_from _ (nat_le delay MOST_MICROSECONDS) (and_from (is_posting plan past seat) (nat_lt runner (length plan.runners))
      (and_from (nat_le seat plan.workers) (is_poster plan past seat) (new_post_known plan past seat task _ legal new) poster) runner_there) within.1)
  comes_fit (calls.Main seat (Some it) q d) (kinds.Main task queue delay ok) made may =
      let posted = is_free_post plan past seat task (kinds.Main task queue delay ok) opened (and_parts _ _ may).0 in
      let known = new_post_known plan past seat task (kinds.Main task queue delay ok) legal (new_post plan past seat task _ posted) in
      rw (some-injective made.0, ← made.1, ← made.2)
      (and_from (nat_le seat plan.workers) _ known (any_main_reply plan past seat task queue delay true ok ∙ posted))
  comes_fit (calls.Main seat None q d) (kinds.Main task queue delay ok) made may =
      let posted = is_free_post plan past seat task (kinds.Main task queue delay ok) opened (and_parts _ _ may).0 in
      let new = new_post plan past seat task (kinds.Main task queue delay ok) posted in
      let within = and_parts (nat_lt task (length plan.tasks) && nat_lt queue (length plan.queues)) (nat_le delay MOST_MICROSECONDS) new.within in
      let queue_there = (and_parts (nat_lt task (length plan.tasks)) (nat_lt queue (length plan.queues)) within.0).1 in
      let poster : is_poster plan past seat ≡ true =
      sym (cond-false (is_kept plan task) (by_own_step plan past seat (kinds.Main task queue delay ok)) (is_poster plan past seat) (spare_is_free task made.0))
      ∙ new.poster in
      rw (← made.1, ← made.2) (and_from _ (nat_le delay MOST_MICROSECONDS) (and_from (is_posting plan past seat) (nat_lt queue (length plan.queues))
      (and_from (nat_le seat plan.workers) (is_poster plan past seat) (new_post_known plan past seat task _ legal new) poster) queue_there) within.1)
  comes_fit (calls.Tick reading) (kinds.Tick now) made may = going (kinds.Tick now)
      (and_parts (by_script plan past 0 (kinds.Tick now)) _ (and_parts _ _ may).0).0
  comes_fit (calls.Take seat) (kinds.Take task runner value) made may = taker seat
      (ready_worker plan past seat (and_parts (is_ready_worker plan past seat) _ may).0)
  comes_fit (calls.Take seat) (kinds.JobTake job id item) made may = ⊎_elim (λ k. taker seat k.0)
      (λ k. absurd (omega (arith, made, by_driver plan past seat (kinds.JobTake job id item) k.0)))
      (job_take_is plan past seat job id item may)
  comes_fit (calls.End seat) (kinds.End task left) made may =
      let w = found (λ w. not w.is_main && eqb w.task task && has_done plan past seat left w) (running past seat) may in
      let parts = and_parts (not w.value.is_main && eqb w.value.task task) (has_done plan past seat left w.value) w.passes in
      let pool = (and_parts (not w.value.is_main) (eqb w.value.task task) parts.0).0 in
      let closed = acted_closed seat w.value (and_parts (has_acted plan past seat w.value) _ parts.1).0 in
      and_from (nat_le seat plan.workers) _ (runs_known plan past seat w.value legal w.is) (rw w.is (and_from (not w.value.is_main) _ pool closed))
  comes_fit (calls.Enter seat s) (kinds.Enter task scope) made may =
      let opens = and_parts _ (is_none (open_scope past task))
      (ap (λ o. cond o (may_open_scope plan past seat task) (by_task plan past seat (kinds.Enter task scope))) (sym opened) ∙ may) in
      let w = found (λ (x : Running). eqb x.task task && not x.is_main && may_block_on plan.runners x.home) (running past seat) opens.0 in
      let parts = and_parts (eqb w.value.task task && not w.value.is_main) (may_block_on plan.runners w.value.home) w.passes in
      let front = and_parts (eqb w.value.task task) (not w.value.is_main) parts.0 in
      let closed : is_none (open_scope past w.value.task) ≡ true = ap (λ t. is_none (open_scope past t)) (eqb-true w.value.task task front.0) ∙ opens.1 in
      and_from (nat_le seat plan.workers) _ (runs_known plan past seat w.value legal w.is)
      (rw w.is (and_from (not w.value.is_main && may_block_on plan.runners w.value.home) _ (and_from (not w.value.is_main) _ front.1 parts.1) closed))
  comes_fit (calls.Leave seat) (kinds.Leave task) made may =
      let closes = and_parts _ (is_some (open_scope past task))
      (ap (λ o. cond o (may_close_scope past seat task) (by_task plan past seat (kinds.Leave task))) (sym opened) ∙ may) in
      let w = found (λ (x : Running). eqb x.task task) (running past seat) closes.0 in
      let inside : is_some (open_scope past w.value.task) ≡ true = ap (λ t. is_some (open_scope past t)) (eqb-true w.value.task task w.passes) ∙ closes.1 in
      let pool = not_from_false w.value.is_main (main_is_closed plan past seat w.value opened legal w.is inside) in
      and_from (nat_le seat plan.workers) _ (runs_known plan past seat w.value legal w.is) (rw w.is (and_from (not w.value.is_main) _ pool inside))
  comes_fit (calls.Policy p) (kinds.Policy policy) made may = driven (kinds.Policy policy) refl may (λ order. refl)
  comes_fit (calls.Reprio r p) (kinds.Reprio runner priority) made may =
      driven (kinds.Reprio runner priority) refl may (λ order. ap (λ x. nat_lt x (length plan.runners)) (sym made.0) ∙ order)
  comes_fit (calls.Fence q a) (kinds.Fence queue at) made may =
      driven (kinds.Fence queue at) refl may (λ order. ap (λ x. nat_lt x (length plan.queues)) (sym made.0) ∙ order)
  comes_fit (calls.Unfence q) (kinds.Unfence queue) made may =
      driven (kinds.Unfence queue) refl may (λ order. ap (λ x. nat_lt x (length plan.queues)) (sym made) ∙ order)
  comes_fit (calls.Vote q v o) (kinds.Vote queue voter on) made may =
      driven (kinds.Vote queue voter on) refl may (λ order. rw (← made.0, ← made.1) order)
  comes_fit (calls.Rank q c) (kinds.Rank queue class) made may =
      driven (kinds.Rank queue class) refl may (λ order. rw (← made.0, ← made.1) order)
  comes_fit (calls.Close q) (kinds.Close queue) made may =
      driven (kinds.Close queue) refl may (λ order. ap (λ x. nat_lt x (length plan.queues)) (sym made) ∙ order)
  comes_fit calls.MainTake (kinds.MainTake task queue value) made may =
      driven (kinds.MainTake task queue value) refl (and_parts (by_script plan past 0 (kinds.MainTake task queue value)) _ (and_parts _ _ may).0).0
      (λ order. refl)
  comes_fit calls.MainTake kinds.MainNone made may = driven kinds.MainNone refl (and_parts (by_script plan past 0 kinds.MainNone) _ may).0 (λ order. refl)
  comes_fit calls.MainEnd (kinds.MainEnd task left) made may =
      let w = found (λ w. w.is_main && eqb w.task task && has_done plan past 0 left w) (running past 0) may in
      let parts = and_parts (w.value.is_main && eqb w.value.task task) (has_done plan past 0 left w.value) w.passes in
      let main = (and_parts w.value.is_main (eqb w.value.task task) parts.0).0 in
      rw w.is (and_from w.value.is_main _ main (acted_closed 0 w.value (and_parts (has_acted plan past 0 w.value) _ parts.1).0))
  comes_fit (calls.JobPost j) (kinds.JobPost job ok) made may =
      driven (kinds.JobPost job ok) refl (and_parts (by_script plan past 0 (kinds.JobPost job ok)) _ may).0 (λ order.
      let parts = and_parts (nat_lt job (length plan.jobs)) (is_none (job_post_of (own_entries 0 past) job)) order in
      rw (← made) (and_from (nat_lt job (length plan.jobs)) _ parts.0
      (not_posted (job_post_of past job) (job_post_of (own_entries 0 past) job) (job_own plan past job legal) parts.1)))
    where
      not_posted : (a b : Option JobPosted) → is_some b ≡ is_some a → is_none b ≡ true → is_none a ≡ true
      not_posted None b same none = refl
      not_posted (Some x) None same none = absurd cc
      not_posted (Some x) (Some y) same none = absurd cc
  comes_fit (calls.JobTake j) (kinds.JobTake job id item) made may = ⊎_elim (λ k. absurd (omega (arith, k.0.worker)))
      (λ k. driven (kinds.JobTake job id item) refl k.0 (λ order. rw (← made) (and_from (nat_lt job (length plan.jobs)) true (entered_declared job k.1) refl)))
      (job_take_is plan past 0 job id item may)
  comes_fit (calls.JobStep seat) (kinds.JobStep job id item value next) made may =
      let held = job_step_holds plan past seat job id item value next may in
      and_from (nat_le seat plan.workers) _ (le-leb seat plan.workers ((legal_holds_apart plan past legal).known seat held.0 held.1)) (rw held.1 refl)
  comes_fit (calls.JobCancel j) (kinds.JobCancel job) made may = driven (kinds.JobCancel job) refl may (λ order.
      let posted = sym (job_own plan past job legal) ∙ order in
      rw (← made) (and_from (nat_lt job (length plan.jobs)) _ (job_declared plan past job opened legal posted) posted))
  comes_fit (calls.Cancelled j) (kinds.Cancelled job) made may =
      let front = and_parts (by_script plan past 0 (kinds.Cancelled job)) (is_cancelled past job) (and_parts _ (is_empty plan past job) may).0 in
      driven (kinds.Cancelled job) refl front.0 (λ order.
      rw (← made) (and_from (nat_lt job (length plan.jobs)) _
      (job_declared plan past job opened legal (cancelled_was_posted plan past job opened legal front.1)) front.1))
  comes_fit (calls.Joined j) (kinds.Joined job reply) made may =
      driven (kinds.Joined job reply) refl (and_parts (by_script plan past 0 (kinds.Joined job reply)) (is_empty plan past job) (and_parts _ _ may).0).0
      (λ order.
      let posted = sym (job_own plan past job legal) ∙ order in
      rw (← made) (and_from (nat_lt job (length plan.jobs)) _ (job_declared plan past job opened legal posted) posted))
  comes_fit calls.Idle kinds.Idle made may =
      driven kinds.Idle refl (and_parts (by_script plan past 0 kinds.Idle) (is_quiet plan past) (and_parts _ _ may).0).0 (λ order. refl)
  comes_fit calls.Shutdown kinds.Shutdown made may = driven kinds.Shutdown refl may (λ order. ap is_before (sym (phase_own plan past legal)) ∙ order)
  comes_fit calls.Done kinds.Done made may =
      let front = and_parts (by_script plan past 0 kinds.Done) (is_started (phase_of past)) (and_parts _ _ may).0 in
      driven kinds.Done refl front.0 (λ order. front.1)
  comes_fit call kind made may = absurd made

  -- ---- and lacks nothing

  ready_lacks : (seat : ℕ) (why : Unmade) → IsReadyWorker plan past seat → LacksFor plan past (calls.Take seat) why
      → (why ≡ unmade.Nothing) × (best_of plan past seat ≡ None)
  ready_lacks seat unmade.Over ready lacks = absurd (both_ways (is_finished plan past) ready.goes_on
      (open_finished plan past opened ∙ ap is_done (phase_own plan past legal) ∙ lacks))
  ready_lacks seat unmade.Nothing ready lacks = (refl, lacks.1)
  ready_lacks seat why ready lacks = absurd lacks

  quiet_is_idle : is_quiet plan past ≡ true → running_tasks plan past ≡ 0
  unfolding is_quiet
  quiet_is_idle quiet = count_none (is_working past) (worker_seats plan)
      (list_any_none (is_working past) (worker_seats plan) (AllByRecursion-range _ 1 plan.workers (λ seat from to.
      at (running past seat) (holding past seat)
      (and_parts _ _ (range_all_at (is_free past) 0 (plan.workers + 1) seat quiet (omega arith) (omega (arith, to)))))))
    where
      at : (r : Option Running) (h : Option Holding) → (is_none r ≡ true) × (is_none h ≡ true)
          → (holds_of (λ (w : Running). not w.is_main) r || is_some h) ≡ false
      at None None free = refl
      at (Some w) h free = absurd (true≢false (sym free.0))
      at None (Some h) free = absurd (true≢false (sym free.1))

  none_is_ready : list_all (λ worker. is_none (best_of plan past worker)) (worker_seats plan) ≡ true → is_any_ready plan past ≡ false
  none_is_ready none = at (worker_seats plan) none
    where
      at : (seats : List ℕ) → list_all (λ worker. is_none (best_of plan past worker)) seats ≡ true
          → list_any (λ worker. is_some (best_of plan past worker)) seats ≡ false
      at [] h = refl
      at (seat ∷ seats) h =
          let parts = and_parts (is_none (best_of plan past seat)) (list_all (λ worker. is_none (best_of plan past worker)) seats) h in
          rw (none_is (best_of plan past seat) parts.0) (at seats parts.1)

  pub comes_not_lacking : (call : Call) (why : Unmade) (kind : Kind) → LacksFor plan past call why → IsMadeBy plan past call kind
      → may_come plan past (seat_of call) kind ≡ true → ⊥
  unfolding may_come
  comes_not_lacking (calls.Take seat) why (kinds.Take task runner value) lacks made may =
      let parts = and_parts (is_ready_worker plan past seat) (holds_of (λ c. is_head_of plan past task runner value c.source) (best_of plan past seat)) may in
      let none = (ready_lacks seat why (ready_worker plan past seat parts.0) lacks).1 in
      false≢true (ap (holds_of (λ c. is_head_of plan past task runner value c.source)) (sym none) ∙ parts.1)
  comes_not_lacking (calls.Take seat) why (kinds.JobTake job id item) lacks made may = ⊎_elim
      (λ k. false≢true (ap (holds_of (λ c. is_job job c.source)) (sym (ready_lacks seat why k.0 lacks).1) ∙ k.1))
      (λ k. absurd (omega (arith, made, by_driver plan past seat (kinds.JobTake job id item) k.0)))
      (job_take_is plan past seat job id item may)
  comes_not_lacking (calls.JobTake j) unmade.Nothing (kinds.JobTake job id item) lacks made may = ⊎_elim (λ k. absurd (omega (arith, k.0.worker)))
      (λ k. both_ways (may_enter plan past job) (rw made lacks) k.1) (job_take_is plan past 0 job id item may)
  comes_not_lacking (calls.Cancelled j) (unmade.NotYet not_yet) (kinds.Cancelled job) lacks made may =
      both_ways (is_empty plan past job) (rw made lacks.0) (and_parts _ (is_empty plan past job) may).1
  comes_not_lacking (calls.Joined j) (unmade.NotYet not_yet) (kinds.Joined job reply) lacks made may =
      let empty = (and_parts (by_script plan past 0 (kinds.Joined job reply)) (is_empty plan past job) (and_parts _ _ may).0).1 in
      let none : joined_of plan past job ≡ None = rw made lacks.0 in
      none-some reply (sym none ∙ rw empty (join_is plan past 0 job reply may).reply_is)
  comes_not_lacking calls.Idle (unmade.NotYet not_yet) kinds.Idle lacks made may =
      let parts = and_parts (by_script plan past 0 kinds.Idle && is_quiet plan past)
      (list_all (λ worker. is_none (best_of plan past worker)) (worker_seats plan)) may in
      lacks.0 (quiet_is_idle (and_parts (by_script plan past 0 kinds.Idle) (is_quiet plan past) parts.0).1, none_is_ready parts.1)
  comes_not_lacking calls.Done (unmade.Blocked blocked) kinds.Done lacks made may =
      lacks.0 (lacks.1 ∙ eqb-true (blockers_of plan past) 0 (and_parts _ (eqb (blockers_of plan past) 0) may).1)
  comes_not_lacking (calls.Take seat) why kind lacks made may = absurd made
  comes_not_lacking (calls.JobTake j) unmade.Nothing kind lacks made may = absurd made
  comes_not_lacking (calls.Cancelled j) (unmade.NotYet not_yet) kind lacks made may = absurd made
  comes_not_lacking (calls.Joined j) (unmade.NotYet not_yet) kind lacks made may = absurd made
  comes_not_lacking calls.Idle (unmade.NotYet not_yet) kind lacks made may = absurd made
  comes_not_lacking calls.Done (unmade.Blocked blocked) kind lacks made may = absurd made
  comes_not_lacking call why kind lacks made may = absurd lacks

  -- ---- and is the one that the rules tell

  reply_is : (refused ok : Bool) → is_reply refused ok ≡ true → ok ≡ not refused
  reply_is true true h = absurd cc
  reply_is true false h = refl
  reply_is false ok h = h

  none_among : choice_among [] (streak_of plan past) ≡ None
  unfolding choice_among of_least_class
  none_among = either (is_starved [] (streak_of plan past))
    where
      either : (b : Bool) → least order_below (cond b (immediate_of_least_class []) (of_least_class [])) ≡ None
      either true = refl
      either false = refl

  none_chosen : (fronts : List Front) → length fronts ≡ 0 → choice_among fronts (streak_of plan past) ≡ None
  none_chosen [] is = none_among
  none_chosen (f ∷ fronts) is = absurd (omega (arith, is))

  ended : (end : ℕ → ℕ → Kind) (w : Running) (task left : ℕ) → w.task ≡ task → left ≡ after (steps_of plan w.task) w.found
      → end w.task (after (steps_of plan w.task) w.found) ≡ end task left
  ended end w task left same leaves = rw (leaves, ← same) refl

  -- the kind that may come of the call, if one does
  abbrev the_kind : Call → Option Kind
  the_kind (calls.Post seat named r d) = option_map (λ t. kinds.Post t r d (not (is_refused plan past r d))) (task_of plan past named)
  the_kind (calls.Main seat named q d) = option_map (λ t. kinds.Main t q d (not (is_closed past q))) (task_of plan past named)
  the_kind (calls.Tick reading) = Some (kinds.Tick (moment_behind (now_of past) reading))
  the_kind (calls.Take seat) = way_on plan past seat
  the_kind (calls.End seat) = option_map (λ w. kinds.End w.task (after (steps_of plan w.task) w.found)) (running past seat)
  the_kind (calls.Enter seat s) = option_map (λ w. kinds.Enter w.task s) (running past seat)
  the_kind (calls.Leave seat) = option_map (λ w. kinds.Leave w.task) (running past seat)
  the_kind (calls.Policy p) = Some (kinds.Policy p)
  the_kind (calls.Reprio r p) = Some (kinds.Reprio r p)
  the_kind (calls.Fence q a) = Some (kinds.Fence q a)
  the_kind (calls.Unfence q) = Some (kinds.Unfence q)
  the_kind (calls.Vote q v o) = Some (kinds.Vote q v o)
  the_kind (calls.Rank q c) = Some (kinds.Rank q c)
  the_kind (calls.Close q) = Some (kinds.Close q)
  the_kind calls.MainTake = Some (way_to_front past (chosen_of plan past))
  the_kind calls.MainEnd = option_map (λ w. kinds.MainEnd w.task (after (steps_of plan w.task) w.found)) (running past 0)
  the_kind (calls.JobPost j) = Some (kinds.JobPost j (not (is_job_forbidden plan past j)))
  the_kind (calls.JobTake j) = way_into plan past j
  the_kind (calls.JobStep seat) = option_map (step_of plan past seat) (holding past seat)
  the_kind (calls.JobCancel j) = Some (kinds.JobCancel j)
  the_kind (calls.Cancelled j) = Some (kinds.Cancelled j)
  the_kind (calls.Joined j) = option_map (kinds.Joined j) (reply_of plan past j)
  the_kind calls.Idle = Some kinds.Idle
  the_kind calls.Shutdown = Some kinds.Shutdown
  the_kind calls.Done = Some kinds.Done

  pub is_the_kind : (call : Call) (kind : Kind) → IsMadeBy plan past call kind → may_come plan past (seat_of call) kind ≡ true → the_kind call ≡ Some kind
  unfolding may_come
  is_the_kind (calls.Post seat named r d) (kinds.Post task runner delay ok) made may =
      let reply = reply_is (is_refused plan past runner delay) ok (and_parts _ (is_reply (is_refused plan past runner delay) ok) may).1 in
      rw (made.0, ← made.1, ← made.2, reply) refl
  is_the_kind (calls.Main seat named q d) (kinds.Main task queue delay ok) made may =
      let reply = reply_is (is_closed past queue) ok (and_parts _ (is_reply (is_closed past queue) ok) may).1 in
      rw (made.0, ← made.1, ← made.2, reply) refl
  is_the_kind (calls.Tick reading) (kinds.Tick now) made may = ap (λ x. Some (kinds.Tick x)) (sym made)
  is_the_kind (calls.Take seat) (kinds.Take task runner value) made may = take_way plan past seat task runner value may
  is_the_kind (calls.Take seat) (kinds.JobTake job id item) made may = ⊎_elim (λ k. worker_job_way plan past seat job id item k.0 k.1 may)
      (λ k. absurd (omega (arith, made, by_driver plan past seat (kinds.JobTake job id item) k.0)))
      (job_take_is plan past seat job id item may)
  is_the_kind (calls.End seat) (kinds.End task left) made may =
      let w = found (λ w. not w.is_main && eqb w.task task && has_done plan past seat left w) (running past seat) may in
      let parts = and_parts (not w.value.is_main && eqb w.value.task task) (has_done plan past seat left w.value) w.passes in
      let same = eqb-true w.value.task task (and_parts (not w.value.is_main) (eqb w.value.task task) parts.0).1 in
      let leaves = eqb-true left (after (steps_of plan w.value.task) w.value.found) (and_parts (has_acted plan past seat w.value) _ parts.1).1 in
      ap (option_map (λ v. kinds.End v.task (after (steps_of plan v.task) v.found))) w.is ∙ ap Some (ended kinds.End w.value task left same leaves)
  is_the_kind (calls.Enter seat s) (kinds.Enter task scope) made may =
      let w = opens_as_running plan past seat task scope may in rw (w.1, w.2, made) refl
  is_the_kind (calls.Leave seat) (kinds.Leave task) made may =
      let closes = and_parts _ (is_some (open_scope past task))
      (ap (λ o. cond o (may_close_scope past seat task) (by_task plan past seat (kinds.Leave task))) (sym opened) ∙ may) in
      let w = found (λ (x : Running). eqb x.task task) (running past seat) closes.0 in
      rw (w.is, eqb-true w.value.task task w.passes) refl
  is_the_kind (calls.Policy p) (kinds.Policy policy) made may = rw made refl
  is_the_kind (calls.Reprio r p) (kinds.Reprio runner priority) made may = rw (made.0, made.1) refl
  is_the_kind (calls.Fence q a) (kinds.Fence queue at) made may = rw (made.0, made.1) refl
  is_the_kind (calls.Unfence q) (kinds.Unfence queue) made may = rw made refl
  is_the_kind (calls.Vote q v o) (kinds.Vote queue voter on) made may = rw (made.0, made.1, made.2) refl
  is_the_kind (calls.Rank q c) (kinds.Rank queue class) made may = rw (made.0, made.1) refl
  is_the_kind (calls.Close q) (kinds.Close queue) made may = rw made refl
  is_the_kind calls.MainTake (kinds.MainTake task queue value) made may =
      let outer = and_parts (by_script plan past 0 (kinds.MainTake task queue value) && holds_of (is_front task queue) (chosen_of plan past))
      (eqb value (main_cell_of past queue)) may in
      let front = found (is_front task queue) (chosen_of plan past) (and_parts _ (holds_of (is_front task queue) (chosen_of plan past)) outer.0).1 in
      let same = and_parts (eqb front.value.task task) (eqb front.value.queue queue) front.passes in
      rw (front.is, eqb-true _ _ same.0, eqb-true _ _ same.1, eqb-true value (main_cell_of past queue) outer.1) refl
  is_the_kind calls.MainTake kinds.MainNone made may =
      rw (none_chosen (open_fronts plan past) (eqb-true (length (open_fronts plan past)) 0 (and_parts (by_script plan past 0 kinds.MainNone) _ may).1)) refl
  is_the_kind calls.MainEnd (kinds.MainEnd task left) made may =
      let w = found (λ w. w.is_main && eqb w.task task && has_done plan past 0 left w) (running past 0) may in
      let parts = and_parts (w.value.is_main && eqb w.value.task task) (has_done plan past 0 left w.value) w.passes in
      let same = eqb-true w.value.task task (and_parts w.value.is_main (eqb w.value.task task) parts.0).1 in
      let leaves = eqb-true left (after (steps_of plan w.value.task) w.value.found) (and_parts (has_acted plan past 0 w.value) _ parts.1).1 in
      ap (option_map (λ v. kinds.MainEnd v.task (after (steps_of plan v.task) v.found))) w.is ∙ ap Some (ended kinds.MainEnd w.value task left same leaves)
  is_the_kind (calls.JobPost j) (kinds.JobPost job ok) made may =
      let reply = reply_is (is_job_forbidden plan past job) ok (and_parts _ (is_reply (is_job_forbidden plan past job) ok) may).1 in
      rw (← made, reply) refl
  is_the_kind (calls.JobTake j) (kinds.JobTake job id item) made may =
      let enters = entering_is plan past 0 job id item may in rw (← made, enters.number_is, enters.item_is) refl
  is_the_kind (calls.JobStep seat) (kinds.JobStep job id item value next) made may =
      let is = job_step_is plan past seat job id item value next may in rw (is.held, is.value_is, is.next_is) refl
  is_the_kind (calls.JobCancel j) (kinds.JobCancel job) made may = rw made refl
  is_the_kind (calls.Cancelled j) (kinds.Cancelled job) made may = rw made refl
  is_the_kind (calls.Joined j) (kinds.Joined job reply) made may = rw (← made, (join_is plan past 0 job reply may).reply_is) refl
  is_the_kind calls.Idle kinds.Idle made may = refl
  is_the_kind calls.Shutdown kinds.Shutdown made may = refl
  is_the_kind calls.Done kinds.Done made may = refl
  is_the_kind call kind made may = absurd made
