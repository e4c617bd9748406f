-- What is the way on of a seat is allowed when what it waits for has come.
-- Cited by `ways.rt`, `log_count`, `log_replay`, `simulation`, `situation`.
use Rattle.std.proofs.Common.{◌≡◌, ℕ, zero, suc, ◌≤◌, Bool, true, false, cond, eqb, leb, List, [], ◌∷◌, refl, sym, ap, subst, ◌∙◌, Option, Some, None, ⊎_elim, arith}
use Rattle.std.specs.Prelude.{◌&&◌, ◌↔◌, not, is_none, option_and_then}
use Rattle.std.specs.List.{list_all}
use Rattle.std.specs.Option.{option_map}
use Rattle.std.proofs.lemmas.Bool.{and_parts, and_from, or_left, or_right, eqb-true, eq-eqb, le-leb, leb-true}
use Rattle.std.proofs.lemmas.Option.{none-some, same_Some}
use Rattle.task_base.specs.Plan.{Plan}
use Rattle.task_base.specs.declared.limits.TheConstants.{LAST_MOMENT}
use Rattle.task_base.specs.declared.source.TaskSource.{TaskSource}
use Rattle.task_base.specs.declared.source.TaskSource.TheVariants.{Sequence, Job}
use Rattle.task_base.specs.declared.entry.JobReply.{JobReply}
use Rattle.task_base.specs.declared.entry.JobReply.TheVariants.{Refused, Finished, Cancelled, Stopped}
use Rattle.task_base.specs.declared.entry.Entry.{Entry}
use Rattle.task_base.specs.declared.entry.Kind.{Kind}
use Rattle.task_base.specs.declared.entry.Kind.TheVariants as kinds
use Rattle.task_base.specs.declared.script.Action.{Action}
use Rattle.task_base.specs.declared.script.Action.TheVariants as actions
use Rattle.list_laws.specs.Lists.{holds_of}
use Rattle.task_model.specs.Blockers.{blockers_of}
use Rattle.task_model.specs.Cells.{cell_of}
use Rattle.task_model.specs.Jobs.{claimed, free_id, is_cancelled, is_empty, may_enter, reply_of}
use Rattle.task_model.specs.Keys.{Ready}
use Rattle.task_model.specs.Phase.{phase_of, is_started}
use Rattle.task_model.specs.Seats.{Running, running, Holding, holding, is_quiet, worker_seats}
use Rattle.task_model.specs.Sequences.{head_of}
use Rattle.task_model.specs.Sources.{Candidate, best_of}
use Rattle.task_model.specs.Time.{now_of}
use Rattle.hist_model.specs.Views.{own_entries}
use Rattle.hist_model.specs.Open.{IsClosed, is_tick}
use Rattle.hist_model.specs.Script.{Current, behind_action, current, is_finished, wants}
use Rattle.hist_model.specs.Allowed.{by_script, is_head_of, is_job, is_ready_worker, may_come, same_number, same_reply}
use Rattle.hist_model.specs.Legal.{IsLegal}
use Rattle.hist_model.specs.Moments.{moment_behind}
use Rattle.hist_model.specs.Laws.Progress.{MayMake, TaskGoesOn, step_of, end_of}
use Rattle.hist_model.specs.Laws.Progress.TaskGoesOn.{ByStep, Ends}
use Rattle.hist_model.specs.Laws.Ways.{but_moment, is_due, way_into, way_of_action, way_of_free, way_on, way_to_take}
use Rattle.hist_model.proofs.Laws.OneThing.{served_by, wanted_by}
use Rattle.hist_model.proofs.Laws.Open.{closed_finished, closed_or_open, open_finished}
use Rattle.hist_model.proofs.Laws.Own.{holding_own}
use Rattle.hist_model.proofs.Laws.Progress.Actions.{action_goes_on}
use Rattle.hist_model.proofs.Laws.Progress.Driver.{current_waits}
use Rattle.hist_model.proofs.Laws.Progress.Made.{wanted_now}
use Rattle.hist_model.proofs.Laws.Progress.Tasks.{item_goes_on, task_goes_on}
use Rattle.hist_model.proofs.Laws.Takes.{by_driver, job_take_is, ready_worker}
use Rattle.hist_model.proofs.Laws.Told.{untimed}
use Rattle.hist_model.proofs.Laws.Ways.{one_way, way_at_nothing, way_is}

-- the seat makes the entry
may_be : (script : Plan) (past : List Entry) (seat : ℕ) (kind : Kind) → MayMake script past seat kind → may_come script past seat kind ≡ true
may_be script past seat kind may = (and_parts (leb seat script.workers) (may_come script past seat kind) may).1

-- ---- what is allowed is due

goes_on : (script : Plan) (past : List Entry) (seat : ℕ) (kind : Kind) → by_script script past seat kind ≡ true → is_finished script past ≡ false
goes_on script past seat kind by = ⊎_elim
    (λ closed. closed_finished script past closed ∙ ap is_none (wanted_by script past seat kind closed by).is)
    (λ opened. open_finished script past opened ∙ (served_by script past seat kind opened by).not_done) (closed_or_open script)

pub due_is : (script : Plan) (past : List Entry) (seat : ℕ) (kind : Kind) → may_come script past seat kind ≡ true → is_due script past kind ≡ true
unfolding may_come
due_is script past seat (kinds.Tick now) may =
    let outer = and_parts (by_script script past seat (kinds.Tick now) && leb (now_of past) now) (leb now LAST_MOMENT) may in
    and_from _ _ (and_parts (by_script script past seat (kinds.Tick now)) (leb (now_of past) now) outer.0).1 outer.1
due_is script past seat (kinds.Take task runner found) may =
    ap not (ready_worker script past seat (and_parts (is_ready_worker script past seat) _ may).0).goes_on
due_is script past seat (kinds.JobTake job id item) may = ⊎_elim (λ k. ap not k.0.goes_on)
    (λ k. ap not (goes_on script past seat (kinds.JobTake job id item) k.0)) (job_take_is script past seat job id item may)
due_is script past seat (kinds.Cancelled job) may =
    let outer = and_parts (by_script script past seat (kinds.Cancelled job) && is_cancelled past job) (is_empty script past job) may in
    and_from _ _ (and_parts (by_script script past seat (kinds.Cancelled job)) (is_cancelled past job) outer.0).1 outer.1
due_is script past seat (kinds.Joined job reply) may =
    (and_parts (by_script script past seat (kinds.Joined job reply)) (is_empty script past job) (and_parts _ _ may).0).1
due_is script past seat kinds.Idle may =
    let outer = and_parts (by_script script past seat kinds.Idle && is_quiet script past)
    (list_all (λ worker. is_none (best_of script past worker)) (worker_seats script)) may in
    and_from _ _ (and_parts (by_script script past seat kinds.Idle) (is_quiet script past) outer.0).1 outer.1
due_is script past seat kinds.Done may =
    let outer = and_parts (by_script script past seat kinds.Done && is_started (phase_of past)) (eqb (blockers_of script past) 0) may in
    and_from _ _ (and_parts (by_script script past seat kinds.Done) (is_started (phase_of past)) outer.0).1 outer.1
due_is script past seat kind may = refl

-- ---- what is due is allowed

tick_is : (kind : Kind) → but_moment kind ≡ kinds.Tick 0 → (now : ℕ) × (kind ≡ kinds.Tick now)
tick_is (kinds.Tick now) same = (now, refl)
tick_is kind same = absurd cc

-- the action that the driver is at is not complete
waits_now : (script : Plan) (own : List Entry) (c : Current) → current script own ≡ Some c → behind_action c.action c.made ≡ None
unfolding current
waits_now script own c is = current_waits script.actions own c is

positive : (n : ℕ) → eqb n 0 ≡ false → 1 ≤ n
positive zero h = absurd cc
positive (suc n) h = omega arith

module _ (script : Plan) (past : List Entry) (closed : IsClosed script) (legal : IsLegal script past) where
  -- a tick is wanted at any moment
  ticks : (seat now other : ℕ) → by_script script past seat (kinds.Tick other) ≡ true → by_script script past seat (kinds.Tick now) ≡ true
  ticks seat now other by =
      let c = wanted_by script past seat (kinds.Tick other) closed by in
      subst (λ s. by_script script past s (kinds.Tick now) ≡ true) (sym (by_driver script past seat (kinds.Tick other) by))
      (wanted_now script past c.value (kinds.Tick now) closed c.is (alike (own_entries 0 past) c.value.action c.value.made c.passes))
    where
      alike : (own : List Entry) (action : Action) (made : List Entry) → wants own action made (kinds.Tick other) ≡ true
          → wants own action made (kinds.Tick now) ≡ true
      alike own (actions.Tick count) made h = refl
      alike own action made h = absurd cc

  -- an entry that is the same but for its moment is allowed too when it is due
  from_same : (seat : ℕ) (allowed kind : Kind) → may_come script past seat allowed ≡ true → but_moment allowed ≡ but_moment kind
      → is_due script past kind ≡ true → may_come script past seat kind ≡ true
  unfolding may_come
  from_same seat allowed (kinds.Tick now) may same due =
      let (other, is) = tick_is allowed same in
      let by = (and_parts (by_script script past seat (kinds.Tick other)) _ (and_parts _ _ (ap (may_come script past seat) (sym is) ∙ may)).0).0 in
      let parts = and_parts (leb (now_of past) now) (leb now LAST_MOMENT) due in
      and_from _ _ (and_from _ _ (ticks seat now other by) parts.0) parts.1
  from_same seat allowed kind may same due = subst (λ k. may_come script past seat k ≡ true) (untimed allowed kind refl same) may

  -- so is the way on where some entry is allowed
  from_allowed : (seat : ℕ) (allowed kind : Kind) → may_come script past seat allowed ≡ true → way_on script past seat ≡ Some (but_moment kind)
      → is_due script past kind ≡ true → may_come script past seat kind ≡ true
  from_allowed seat allowed kind may way due = from_same seat allowed kind may
      (same_Some (but_moment allowed) (but_moment kind) (sym (way_is script past seat allowed closed legal may) ∙ way)) due

  -- a way that is no tick
  at_way : (seat : ℕ) (way kind : Kind) → is_tick way ≡ false → Some way ≡ Some (but_moment kind)
      → (is_due script past way ≡ true → may_come script past seat way ≡ true) → is_due script past kind ≡ true → may_come script past seat kind ≡ true
  at_way seat way kind no_tick is told due =
      subst (λ k. is_due script past k ≡ true → may_come script past seat k ≡ true)
      (sym (untimed kind way no_tick (sym (same_Some way (but_moment kind) is)))) told due

  -- ---- the driver

  same_reply_now : (reply : JobReply) → same_reply reply reply ≡ true
  same_reply_now Refused = refl
  same_reply_now (Finished sum) = eq-eqb sum sum refl
  same_reply_now Cancelled = refl
  same_reply_now Stopped = refl

  idle_due : (made : List Entry) → current script (own_entries 0 past) ≡ Some (record { action = actions.Flush; made = made })
      → is_due script past kinds.Idle ≡ true → may_come script past 0 kinds.Idle ≡ true
  unfolding may_come
  idle_due made is due =
      let parts = and_parts (is_quiet script past) (list_all (λ worker. is_none (best_of script past worker)) (worker_seats script)) due in
      and_from _ _ (and_from _ _ (wanted_now script past (record { action = actions.Flush; made = made }) kinds.Idle closed is refl) parts.0) parts.1

  done_due : (x : Entry) → current script (own_entries 0 past) ≡ Some (record { action = actions.Shutdown; made = x ∷ [] })
      → is_due script past kinds.Done ≡ true → may_come script past 0 kinds.Done ≡ true
  unfolding may_come
  done_due x is due =
      let parts = and_parts (is_started (phase_of past)) (eqb (blockers_of script past) 0) due in
      and_from _ _ (and_from _ _ (wanted_now script past (record { action = actions.Shutdown; made = x ∷ [] }) kinds.Done closed is refl) parts.0) parts.1

  cancelled_due : (j : ℕ) (x : Entry) → current script (own_entries 0 past) ≡ Some (record { action = actions.Cancel j; made = x ∷ [] })
      → is_due script past (kinds.Cancelled j) ≡ true → may_come script past 0 (kinds.Cancelled j) ≡ true
  unfolding may_come
  cancelled_due j x is due =
      let parts = and_parts (is_cancelled past j) (is_empty script past j) due in
      and_from _ _ (and_from _ _ (wanted_now script past (record { action = actions.Cancel j; made = x ∷ [] }) (kinds.Cancelled j) closed is
      (and_from _ _ (eq-eqb j j refl) refl)) parts.0) parts.1

  module _ (runs : running past 0 ≡ None) (holds : holding past 0 ≡ None) where
    join_wanted : (j : ℕ) → (eqb j j && is_none (holding (own_entries 0 past) 0)) ≡ true
    join_wanted j = and_from _ _ (eq-eqb j j refl) (ap is_none (holding_own past 0 ∙ holds))

    joined_due : (j : ℕ) (made : List Entry) (reply : JobReply) → current script (own_entries 0 past) ≡ Some (record { action = actions.Join j; made = made })
        → reply_of script past j ≡ Some reply → is_due script past (kinds.Joined j reply) ≡ true → may_come script past 0 (kinds.Joined j reply) ≡ true
    unfolding may_come
    joined_due j made reply is said due = and_from _ _ (and_from _ _
        (wanted_now script past (record { action = actions.Join j; made = made }) (kinds.Joined j reply) closed is (join_wanted j)) due)
        (ap (holds_of (same_reply reply)) said ∙ same_reply_now reply)

    enters_due : (j : ℕ) (made : List Entry) (id : ℕ) → current script (own_entries 0 past) ≡ Some (record { action = actions.Join j; made = made })
        → may_enter script past j ≡ true → free_id script past j ≡ Some id → may_come script past 0 (kinds.JobTake j id (claimed past j)) ≡ true
    unfolding may_come
    enters_due j made id is may number = and_from _ _ (and_from _ _
        (or_right (is_ready_worker script past 0 && holds_of (λ (c : Candidate). is_job j c.source) (best_of script past 0)) _
        (and_from _ _ (wanted_now script past (record { action = actions.Join j; made = made }) (kinds.JobTake j id (claimed past j)) closed is
        (join_wanted j)) may))
        (ap (λ o. same_number o (Some id)) number ∙ eq-eqb id id refl)) (eq-eqb (claimed past j) (claimed past j) refl)

    join_due : (j : ℕ) (made : List Entry) (kind : Kind) → current script (own_entries 0 past) ≡ Some (record { action = actions.Join j; made = made })
        → way_of_action script past (actions.Join j) made ≡ Some (but_moment kind) → is_due script past kind ≡ true → may_come script past 0 kind ≡ true
    join_due j made kind is way due = by_enter (may_enter script past j) refl way
      where
        by_reply : (o : Option JobReply) → reply_of script past j ≡ o → option_map (kinds.Joined j) o ≡ Some (but_moment kind)
            → may_come script past 0 kind ≡ true
        by_reply None said k = absurd (none-some (but_moment kind) k)
        by_reply (Some reply) said k = at_way 0 (kinds.Joined j reply) kind refl k (joined_due j made reply is said) due

        by_id : (o : Option ℕ) → may_enter script past j ≡ true → free_id script past j ≡ o
            → option_map (λ id. kinds.JobTake j id (claimed past j)) o ≡ Some (but_moment kind) → may_come script past 0 kind ≡ true
        by_id None may number k = absurd (none-some (but_moment kind) k)
        by_id (Some id) may number k =
            at_way 0 (kinds.JobTake j id (claimed past j)) kind refl k (λ d. enters_due j made id is may number) due

        by_enter : (b : Bool) → may_enter script past j ≡ b
            → cond b (way_into script past j) (option_map (kinds.Joined j) (reply_of script past j)) ≡ Some (but_moment kind)
            → may_come script past 0 kind ≡ true
        by_enter true may k = by_id (free_id script past j) may refl k
        by_enter false may k = by_reply (reply_of script past j) refl k

    action_due : (action : Action) (made : List Entry) (kind : Kind) → current script (own_entries 0 past) ≡ Some (record { action = action; made = made })
        → way_on script past 0 ≡ Some (but_moment kind) → way_of_action script past action made ≡ Some (but_moment kind)
        → is_due script past kind ≡ true → may_come script past 0 kind ≡ true
    action_due actions.Flush made kind is on way due = at_way 0 kinds.Idle kind refl way (idle_due made is) due
    action_due (actions.Join j) made kind is on way due = join_due j made kind is way due
    action_due (actions.Cancel j) (x ∷ []) kind is on way due = at_way 0 (kinds.Cancelled j) kind refl way (cancelled_due j x is) due
    action_due (actions.Cancel j) (x ∷ y ∷ made) kind is on way due =
        absurd (none-some made (sym (waits_now script (own_entries 0 past) (record { action = actions.Cancel j; made = x ∷ y ∷ made }) is)))
    action_due actions.Shutdown (x ∷ []) kind is on way due = at_way 0 kinds.Done kind refl way (done_due x is) due
    action_due actions.Shutdown (x ∷ y ∷ made) kind is on way due =
        absurd (none-some made (sym (waits_now script (own_entries 0 past) (record { action = actions.Shutdown; made = x ∷ y ∷ made }) is)))
    action_due action made kind is on way due =
        let w = action_goes_on script past action made closed legal runs is refl in
        from_allowed 0 w.kind kind (may_be script past 0 w.kind w.may) on due

    driver_due : (kind : Kind) → way_on script past 0 ≡ Some (but_moment kind) → is_due script past kind ≡ true → may_come script past 0 kind ≡ true
    driver_due kind on due = by_current (current script (own_entries 0 past)) refl (sym (way_at_nothing script past 0 runs holds) ∙ on)
      where
        by_current : (o : Option Current) → current script (own_entries 0 past) ≡ o
            → option_and_then (λ (c : Current). way_of_action script past c.action c.made) o ≡ Some (but_moment kind) → may_come script past 0 kind ≡ true
        by_current None is k = absurd (none-some (but_moment kind) k)
        by_current (Some c) is k = action_due c.action c.made kind is on k due

  -- ---- workers

  module _ (seat : ℕ) (worker : eqb seat 0 ≡ false) (known : seat ≤ script.workers) (runs : running past seat ≡ None) (holds : holding past seat ≡ None) where
    ready : is_finished script past ≡ false → is_ready_worker script past seat ≡ true
    ready going = rw (le-leb 1 seat (positive seat worker), le-leb seat script.workers known, runs, holds, going, closed) refl

    going_on : (b : Bool) → not b ≡ true → b ≡ false
    going_on true h = absurd cc
    going_on false h = refl

    take_due : (c : Candidate) (s : ℕ) (r : Ready) → best_of script past seat ≡ Some c → c.source ≡ Sequence s → head_of script past s ≡ Some r
        → is_finished script past ≡ false → may_come script past seat (kinds.Take r.posted.task r.posted.home (cell_of script past s)) ≡ true
    unfolding may_come
    take_due c s r best source head going = and_from _ _ (ready going)
        (ap (holds_of (λ (c : Candidate). is_head_of script past r.posted.task r.posted.home (cell_of script past s) c.source)) best
        ∙ ap (is_head_of script past r.posted.task r.posted.home (cell_of script past s)) source
        ∙ rw (
          head,
          eq-eqb r.posted.task r.posted.task refl,
          eq-eqb r.posted.home r.posted.home refl,
          eq-eqb (cell_of script past s) (cell_of script past s) refl,
        ) refl)

    job_due : (c : Candidate) (j id : ℕ) → best_of script past seat ≡ Some c → c.source ≡ Job j → free_id script past j ≡ Some id
        → is_finished script past ≡ false → may_come script past seat (kinds.JobTake j id (claimed past j)) ≡ true
    unfolding may_come
    job_due c j id best source number going = and_from _ _ (and_from _ _
        (or_left (is_ready_worker script past seat && holds_of (λ (c : Candidate). is_job j c.source) (best_of script past seat)) _ (and_from _ _ (ready going)
        (ap (holds_of (λ (c : Candidate). is_job j c.source)) best ∙ ap (is_job j) source ∙ eq-eqb j j refl)))
        (ap (λ o. same_number o (Some id)) number ∙ eq-eqb id id refl)) (eq-eqb (claimed past j) (claimed past j) refl)

    source_due : (c : Candidate) (source : TaskSource) (kind : Kind) → best_of script past seat ≡ Some c → c.source ≡ source
        → way_to_take script past source ≡ Some (but_moment kind) → is_due script past kind ≡ true → may_come script past seat kind ≡ true
    source_due c (Sequence s) kind best source way due = by_head (head_of script past s) refl way
      where
        by_head : (o : Option Ready) → head_of script past s ≡ o
            → option_map (λ (r : Ready). kinds.Take r.posted.task r.posted.home (cell_of script past s)) o ≡ Some (but_moment kind)
            → may_come script past seat kind ≡ true
        by_head None head k = absurd (none-some (but_moment kind) k)
        by_head (Some r) head k = at_way seat (kinds.Take r.posted.task r.posted.home (cell_of script past s)) kind refl k
            (λ d. take_due c s r best source head (going_on (is_finished script past) d)) due
    source_due c (Job j) kind best source way due = by_id (free_id script past j) refl way
      where
        by_id : (o : Option ℕ) → free_id script past j ≡ o
            → option_map (λ id. kinds.JobTake j id (claimed past j)) o ≡ Some (but_moment kind) → may_come script past seat kind ≡ true
        by_id None number k = absurd (none-some (but_moment kind) k)
        by_id (Some id) number k = at_way seat (kinds.JobTake j id (claimed past j)) kind refl k
            (λ d. job_due c j id best source number (going_on (is_finished script past) d)) due

    worker_due : (kind : Kind) → way_on script past seat ≡ Some (but_moment kind) → is_due script past kind ≡ true → may_come script past seat kind ≡ true
    worker_due kind on due = by_best (best_of script past seat) refl (here ∙ sym (way_at_nothing script past seat runs holds) ∙ on)
      where
        here : option_and_then (λ (c : Candidate). way_to_take script past c.source) (best_of script past seat) ≡ way_of_free script past seat
        here = rw worker refl

        by_best : (o : Option Candidate) → best_of script past seat ≡ o
            → option_and_then (λ (c : Candidate). way_to_take script past c.source) o ≡ Some (but_moment kind) → may_come script past seat kind ≡ true
        by_best None best k = absurd (none-some (but_moment kind) k)
        by_best (Some c) best k = source_due c c.source kind best refl k due

  -- ---- all together

  way_due : (seat : ℕ) (kind : Kind) → seat ≤ script.workers → way_on script past seat ≡ Some (but_moment kind) → is_due script past kind ≡ true
      → may_come script past seat kind ≡ true
  way_due seat kind known on due = by_running (running past seat) refl
    where
      by_task : (w : Running) → TaskGoesOn script past seat w → may_come script past seat kind ≡ true
      by_task w (ByStep step made next enters may) = from_allowed seat made kind (may_be script past seat made may) on due
      by_task w (Ends none may) = from_allowed seat (end_of script w) kind (may_be script past seat (end_of script w) may) on due

      by_seat : (b : Bool) → eqb seat 0 ≡ b → running past seat ≡ None → holding past seat ≡ None → may_come script past seat kind ≡ true
      by_seat true is runs holds =
          let driver : seat ≡ 0 = eqb-true seat 0 is in
          subst (λ s. may_come script past s kind ≡ true) (sym driver)
          (driver_due (ap (running past) (sym driver) ∙ runs) (ap (holding past) (sym driver) ∙ holds) kind (ap (way_on script past) (sym driver) ∙ on) due)
      by_seat false is runs holds = worker_due seat is known runs holds kind on due

      by_holding : (o : Option Holding) → running past seat ≡ None → holding past seat ≡ o → may_come script past seat kind ≡ true
      by_holding None runs holds = by_seat (eqb seat 0) refl runs holds
      by_holding (Some h) runs holds = from_allowed seat (step_of script past seat h) kind
          (may_be script past seat (step_of script past seat h) (item_goes_on script past seat h legal holds)) on due

      by_running : (o : Option Running) → running past seat ≡ o → may_come script past seat kind ≡ true
      by_running None runs = by_holding (holding past seat) runs refl
      by_running (Some w) runs = by_task w (task_goes_on script past seat w closed legal runs)

-- an entry of a seat of the script is allowed exactly where it is the way on and is due
pub allowed_exactly : (script : Plan) (past : List Entry) (seat : ℕ) (kind : Kind) → IsClosed script → IsLegal script past → seat ≤ script.workers
    → (may_come script past seat kind ≡ true) ↔ ((way_on script past seat ≡ Some (but_moment kind)) × (is_due script past kind ≡ true))
allowed_exactly script past seat kind closed legal known =
    (λ may. (way_is script past seat kind closed legal may, due_is script past seat kind may), λ k. way_due script past closed legal seat kind known k.0 k.1)

-- a moment that a tick may have is what it would become as a reading
own_moment : (before now : ℕ) → before ≤ now → now ≤ LAST_MOMENT → moment_behind before now ≡ now
own_moment before now low high = omega (arith, low, high)

-- where one entry is allowed, another one is exactly where it is the same; a tick is made of the other's moment as a reading
pub judged : (script : Plan) (past : List Entry) (seat : ℕ) (given asked : Kind) → IsClosed script → IsLegal script past
    → may_come script past seat given ≡ true
    → ((other now : ℕ) → given ≡ kinds.Tick other → asked ≡ kinds.Tick now → other ≡ moment_behind (now_of past) now)
    → (may_come script past seat asked ≡ true) ↔ (given ≡ asked)
judged script past seat given asked closed legal may reads = (
  λ also. same asked (one_way script past seat given asked closed legal may also) also reads,
  λ is.
      ap (may_come script past seat) (sym is) ∙ may,
)
  where
    same : (k : Kind) → but_moment given ≡ but_moment k → may_come script past seat k ≡ true
        → ((other now : ℕ) → given ≡ kinds.Tick other → k ≡ kinds.Tick now → other ≡ moment_behind (now_of past) now) → given ≡ k
    same (kinds.Tick now) e also becomes =
        let (other, is) = tick_is given e in
        let parts = and_parts (leb (now_of past) now) (leb now LAST_MOMENT) (due_is script past seat (kinds.Tick now) also) in
        let low = leb-true (now_of past) now parts.0 in
        let high = leb-true now LAST_MOMENT parts.1 in
        let read = becomes other now is refl in
        is ∙ ap kinds.Tick (read ∙ own_moment (now_of past) now low high)
    same k e also becomes = untimed given k refl e
