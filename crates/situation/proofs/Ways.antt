-- Pasts in the same situation have the same ways on.
-- Cited by `Coming`, `Onward/Scopes`, `log_count`.
use Rattle.std.proofs.Common.{◌≡◌, ℕ, ◌≤◌, Bool, true, false, cond, eqb, List, [], ◌∷◌, length, refl, sym, ap, subst, ◌∙◌, Option, Some, None, ⊎_elim}
use Rattle.std.specs.Prelude.{◌&&◌, not, nat_le, is_none, filter, slice_get, option_and_then}
use Rattle.std.specs.Option.{option_map, option_map_or, IfSome}
use Rattle.std.specs.List.{AllByRecursion, list_all}
use Rattle.std.proofs.lemmas.Bool.{and_parts, cases_lt}
use Rattle.std.proofs.lemmas.Option.{none-some, same_Some}
use Rattle.task_base.specs.Plan.{Plan}
use Rattle.task_base.specs.Steps.{is_act}
use Rattle.task_base.specs.declared.entry.Entry.{Entry}
use Rattle.task_base.specs.declared.entry.JobReply.TheVariants.{Refused, Finished, Cancelled, Stopped}
use Rattle.task_base.specs.declared.entry.Kind.{Kind}
use Rattle.task_base.specs.declared.entry.Kind.TheVariants as kinds
use Rattle.task_base.specs.declared.script.Action.{Action}
use Rattle.task_base.specs.declared.script.Action.TheVariants as actions
use Rattle.task_base.specs.declared.source.TaskSource.{TaskSource}
use Rattle.task_base.specs.declared.source.TaskSource.TheVariants.{Sequence, Job}
use Rattle.task_base.specs.declared.step.Step.{Step}
use Rattle.task_base.specs.declared.step.Step.TheVariants as steps
use Rattle.list_laws.specs.Lists.{holds_of}
use Rattle.list_laws.proofs.Elements.{AllByRecursion-filter, slice_get_all}
use Rattle.list_laws.proofs.Tests.{list_all_congr}
use Rattle.script_model.specs.Laws.Sound.{IsSound}
use Rattle.task_model.specs.Keys.{Ready}
use Rattle.task_model.specs.Seats.{Running, running, Holding, holding, steps_of, acts_done, is_free, is_quiet, all_seats, worker_seats}
use Rattle.task_model.specs.Sequences.{head_of}
use Rattle.task_model.specs.Cells.{cell_of}
use Rattle.task_model.specs.Jobs.{JobPosted, job_post_of, job_sum, may_enter, reply_of, is_empty, is_finished_job, is_cancelled}
use Rattle.task_model.specs.Refusal.{is_job_forbidden}
use Rattle.task_model.specs.Sources.{Candidate, best_of, next_item}
use Rattle.pool_laws.specs.Choice.{source_waiting}
use Rattle.pool_laws.proofs.Choice.Candidates.{waiting_sequence, sequence_within, waiting_is_free}
use Rattle.pool_laws.proofs.Choice.Least.{best_is_best}
use Rattle.pool_laws.proofs.Jobs.Numbers.{free_id_is_first}
use Rattle.hist_model.specs.Legal.{IsLegal}
use Rattle.hist_model.specs.Script.{Current, current, is_finished, is_whole}
use Rattle.hist_model.specs.Views.{own_entries}
use Rattle.hist_model.specs.Laws.Agenda.{first_of}
use Rattle.hist_model.specs.Laws.Progress.{end_of, step_of}
use Rattle.hist_model.specs.Laws.Ways.{way_into, way_to_take, way_of_action, way_of_step, way_of_task, way_of_free, way_on, is_due}
use Rattle.hist_model.proofs.Laws.Agenda.{current_is_first}
use Rattle.hist_model.proofs.Laws.BySound.{current_is_one}
use Rattle.hist_model.proofs.Laws.Open.{closed_finished}
use Rattle.task_base.specs.declared.limits.TheConstants.{LAST_MOMENT}
use Rattle.task_model.specs.Blockers.{blockers_of, block_part, skip_part, open_jobs, is_open_job, seats_in_skip_jobs, is_in_skip_job, is_skip}
use Rattle.std.specs.List.{range_with_len}
use Rattle.list_laws.proofs.Counts.{filter_length_congr}
use Rattle.task_model.specs.Refusal.{behaviour_of_job}
use Rattle.situation.proofs.Choice.{accepted_same}
use Rattle.hist_model.specs.Allowed.{may_come}
use Rattle.hist_model.specs.Open.{is_tick}
use Rattle.hist_model.specs.Laws.Ways.{but_moment}
use Rattle.hist_model.proofs.Laws.Choice.{option_map_some}
use Rattle.hist_model.proofs.Laws.Due.{allowed_exactly}
use Rattle.situation.specs.Alike.{without_items}
use Rattle.situation.specs.Line.{waiter_of, TaskStands}
use Rattle.situation.specs.Situation.{agenda_after_past, progress, progress_of_first, is_pool_action, is_pool_step, is_pool_script}
use Rattle.situation.specs.Same.{SameWork}
use Rattle.situation.proofs.Choice.{turned, done_same, may_enter_same, inside_same, head_also, best_also, leaves_same}
use Rattle.situation.proofs.Cells.{head_cell}

-- ---- scripts without main queues

all_pass : {A : Type 0} (test : A → Bool) (xs : List A) → list_all test xs ≡ true → AllByRecursion (λ x. test x ≡ true) xs
all_pass test [] h = tt
all_pass test (x ∷ xs) h = let parts = and_parts (test x) (list_all test xs) h in (parts.0, all_pass test xs parts.1)

pub pool_step : (script : Plan) → is_pool_script script ≡ true → (task n : ℕ) (step : Step) → slice_get (filter is_act (steps_of script task)) n ≡ Some step
    → is_pool_step step ≡ true
pool_step script pool task n step is =
    subst (λ o. IfSome o (λ s. is_pool_step s ≡ true)) is (slice_get_all (λ s. is_pool_step s ≡ true) (filter is_act (steps_of script task)) n
    (AllByRecursion-filter (λ s. is_pool_step s ≡ true) is_act (steps_of script task) (by_task (slice_get script.tasks task) refl)))
  where
    by_task : (o : Option (List Step)) → slice_get script.tasks task ≡ o → AllByRecursion (λ s. is_pool_step s ≡ true) (option_map_or (λ steps. steps) o [])
    by_task None none = tt
    by_task (Some steps) some = all_pass is_pool_step steps (subst (λ o. IfSome o (λ xs. list_all is_pool_step xs ≡ true)) some
        (slice_get_all (λ xs. list_all is_pool_step xs ≡ true) script.tasks task
        (all_pass (list_all is_pool_step) script.tasks (and_parts (list_all is_pool_action script.actions) _ pool).1)))

pub pool_action : (script : Plan) → is_pool_script script ≡ true → (own : List Entry) (c : Current) → current script own ≡ Some c
    → is_pool_action c.action ≡ true
pool_action script pool own c is = current_is_one (λ action. is_pool_action action ≡ true) script own c
    (all_pass is_pool_action script.actions (and_parts (list_all is_pool_action script.actions) _ pool).0) is

-- a way on at the moment of a kind that comes by it
abbrev at_moment_of : Kind → Kind → Kind
at_moment_of (kinds.Tick now) way = kinds.Tick now
at_moment_of kind way = way

at_its_moment : (kind way : Kind) → without_items way ≡ without_items (but_moment kind) → without_items kind ≡ without_items (at_moment_of kind way)
at_its_moment (kinds.Tick now) way is = refl
at_its_moment kind way is = sym is

ticks_told : (kind : Kind) → is_tick (without_items kind) ≡ is_tick kind
ticks_told (kinds.Joined j (Finished sum)) = refl
ticks_told (kinds.Joined j reply) = refl
ticks_told kind = refl

but_its_moment : (kind way : Kind) → without_items way ≡ without_items (but_moment kind) → way ≡ but_moment (at_moment_of kind way)
but_its_moment (kinds.Tick now) way is = tick_only way is
  where
    tick_only : (way : Kind) → without_items way ≡ kinds.Tick 0 → way ≡ kinds.Tick 0
    tick_only (kinds.Tick other) same = same
    tick_only (kinds.Joined j (Finished sum)) same = absurd cc
    tick_only (kinds.Joined j reply) same = absurd cc
    tick_only way same = absurd cc
but_its_moment kind way is = stays way (sym (ticks_told way) ∙ ap is_tick is ∙ ticks_told kind)
  where
    stays : (way : Kind) → is_tick way ≡ false → way ≡ but_moment way
    stays (kinds.Tick other) no_tick = absurd cc
    stays way no_tick = refl

-- a way on, with what tells one item of a job from another left out
abbrev pub told : Option Kind → Option Kind
told o = option_map without_items o

module _ (script : Plan) (past other : List Entry) (sound : IsSound script) (pool : is_pool_script script ≡ true) (legal : IsLegal script past)
    (legal_other : IsLegal script other) (same : SameWork script past other) where
  -- ---- tasks and items

  step_told : (t : ℕ) (step : Step) → is_pool_step step ≡ true → told (way_of_step script past t step) ≡ told (way_of_step script other t step)
  step_told t (steps.Post u r d) of_pool = rw same.phase refl
  step_told t (steps.Main u q d) of_pool = absurd cc
  step_told t step of_pool = refl

  task_told : (seat : ℕ) (w : Running) → running past seat ≡ Some w → told (way_of_task script past seat w) ≡ told (way_of_task script other seat w)
  task_told seat w runs = rw (same.acts seat w runs) (by_step (slice_get (filter is_act (steps_of script w.task)) (acts_done other seat)) refl)
    where
      by_step : (o : Option Step) → slice_get (filter is_act (steps_of script w.task)) (acts_done other seat) ≡ o
          → told (option_map_or (way_of_step script past w.task) o (Some (end_of script w)))
          ≡ told (option_map_or (way_of_step script other w.task) o (Some (end_of script w)))
      by_step None is = refl
      by_step (Some step) is = step_told w.task step (pool_step script pool w.task (acts_done other seat) step is)

  next_told : (seat j : ℕ) → option_map {U = ℕ} (λ n. 0) (next_item script past seat j) ≡ option_map {U = ℕ} (λ n. 0) (next_item script other seat j)
  next_told seat j = rw (leaves_same script past other same legal legal_other seat j, same.claims j) refl

  item_told : (seat : ℕ) (h k : Holding) → h.job ≡ k.job → told (Some (step_of script past seat h)) ≡ told (Some (step_of script other seat k))
  item_told seat h k is = ap (λ o. Some (kinds.JobStep h.job 0 0 0 o)) (next_told seat h.job)
      ∙ ap (λ j. Some (kinds.JobStep j 0 0 0 (option_map {U = ℕ} (λ n. 0) (next_item script other seat j)))) is

  -- ---- into a job, and out of a join

  into_told : (j : ℕ) → told (way_into script past j) ≡ told (way_into script other j)
  into_told j = rw ((free_id_is_first script past j).1, (free_id_is_first script other j).1) refl

  refused_same : (j : ℕ) → holds_of (λ (p : JobPosted). not p.ok) (job_post_of past j) ≡ holds_of (λ (p : JobPosted). not p.ok) (job_post_of other j)
  refused_same j = through (job_post_of past j) ∙ ap (holds_of not) (same.replies j) ∙ sym (through (job_post_of other j))
    where
      through : (o : Option JobPosted) → holds_of (λ p. not p.ok) o ≡ holds_of not (option_map (λ (p : JobPosted). p.ok) o)
      through None = refl
      through (Some p) = refl

  reply_told : (j : ℕ) → told (option_map (kinds.Joined j) (reply_of script past j)) ≡ told (option_map (kinds.Joined j) (reply_of script other j))
  reply_told j = rw (refused_same j, done_same script past other same legal legal_other j, same.cancels j, same.phase)
      (by_tests (holds_of (λ (p : JobPosted). not p.ok) (job_post_of other j)) (is_finished_job script other j) (is_cancelled other j)
      (is_job_forbidden script other j))
    where
      by_tests : (refused finished cancelled forbidden : Bool)
          → told (option_map (kinds.Joined j) (cond refused (Some Refused) (cond finished (Some (Finished (job_sum past j)))
          (cond cancelled (Some Cancelled) (cond forbidden (Some Stopped) None)))))
          ≡ told (option_map (kinds.Joined j) (cond refused (Some Refused) (cond finished (Some (Finished (job_sum other j)))
          (cond cancelled (Some Cancelled) (cond forbidden (Some Stopped) None)))))
      by_tests true b c d = refl
      by_tests false true c d = refl
      by_tests false false true d = refl
      by_tests false false false true = refl
      by_tests false false false false = refl

  -- ---- workers

  cell_same : (s : ℕ) (r q : Ready) → head_of script past s ≡ Some r → head_of script other s ≡ Some q → cell_of script past s ≡ cell_of script other s
  cell_same s r q is_r is_q = ⊎_elim (λ within. same.cells s within)
      (λ beyond. head_cell script past s r sound legal beyond is_r ∙ sym (head_cell script other s q sound legal_other beyond is_q))
      (cases_lt s (length script.runners))

  take_told : (source : TaskSource) (c : Candidate) → source_waiting script past source ≡ Some c
      → told (way_to_take script past source) ≡ told (way_to_take script other source)
  take_told (Sequence s) c waits =
      let parts = waiting_sequence script past s c (sequence_within script past s c waits).1 in
      let also = head_also script past other same legal legal_other s parts.0 parts.2 in
      by_heads s parts.0 also.0 parts.2 also.1 also.2
    where
      by_heads : (s : ℕ) (r q : Ready) → head_of script past s ≡ Some r → head_of script other s ≡ Some q → waiter_of (TaskStands r) ≡ waiter_of (TaskStands q)
          → told (way_to_take script past (Sequence s)) ≡ told (way_to_take script other (Sequence s))
      by_heads s r q is_r is_q alike =
          let task : r.posted.task ≡ q.posted.task = cc in
          let home : r.posted.home ≡ q.posted.home = cc in
          rw (is_r, is_q, task, home, cell_same s r q is_r is_q) refl
  take_told (Job j) c waits = into_told j

  worker_told : (seat : ℕ) → told (option_and_then (λ (c : Candidate). way_to_take script past c.source) (best_of script past seat))
      ≡ told (option_and_then (λ (c : Candidate). way_to_take script other c.source) (best_of script other seat))
  worker_told seat = by_best (best_of script past seat) (best_of script other seat) refl refl
    where
      by_best : (a b : Option Candidate) → best_of script past seat ≡ a → best_of script other seat ≡ b
          → told (option_and_then (λ (c : Candidate). way_to_take script past c.source) a)
          ≡ told (option_and_then (λ (c : Candidate). way_to_take script other c.source) b)
      by_best None None is_a is_b = refl
      by_best None (Some d) is_a is_b =
          let also = best_also script other past (turned script past other same) legal_other legal seat d is_b in
          absurd (none-some also.0 (sym is_a ∙ also.1))
      by_best (Some c) b is_a is_b =
          let also = best_also script past other same legal legal_other seat c is_a in
          take_told c.source c (waiting_is_free script past c (best_is_best script past seat c is_a).takeable.0).candidate
          ∙ ap (λ source. told (way_to_take script other source)) also.2.source_is
          ∙ ap (λ o. told (option_and_then (λ (e : Candidate). way_to_take script other e.source) o)) (sym also.1 ∙ is_b)

  -- ---- the driver

  action_told : (action : Action) (made mine : List Entry) → is_pool_action action ≡ true → progress action made ≡ progress action mine
      → told (way_of_action script past action made) ≡ told (way_of_action script other action mine)
  action_told (actions.Post t r d) made mine of_pool is = rw same.phase refl
  action_told (actions.Main t q d) made mine of_pool is = absurd cc
  action_told (actions.Fence q a) made mine of_pool is = absurd cc
  action_told (actions.Unfence q) made mine of_pool is = absurd cc
  action_told (actions.Vote q v o) made mine of_pool is = absurd cc
  action_told (actions.Rank q c) made mine of_pool is = absurd cc
  action_told (actions.Close q) made mine of_pool is = absurd cc
  action_told (actions.Pump n) made mine of_pool is = absurd cc
  action_told (actions.StartJob j) made mine of_pool is = rw same.phase refl
  action_told (actions.Join j) made mine of_pool is =
      rw (may_enter_same script past other same legal legal_other j) (by_enter (may_enter script other j))
    where
      by_enter : (b : Bool) → told (cond b (way_into script past j) (option_map (kinds.Joined j) (reply_of script past j)))
          ≡ told (cond b (way_into script other j) (option_map (kinds.Joined j) (reply_of script other j)))
      by_enter true = into_told j
      by_enter false = reply_told j
  action_told (actions.Cancel j) made mine of_pool is = ap (λ n. told (Some (cond (eqb n 0) (kinds.JobCancel j) (kinds.Cancelled j)))) is
  action_told actions.Shutdown made mine of_pool is = ap (λ n. told (Some (cond (eqb n 0) kinds.Shutdown kinds.Done))) is
  action_told action made mine of_pool is = refl

  -- what the driver is at
  now_at : (before : List Entry) → current script (own_entries 0 before)
      ≡ first_of (agenda_after_past script before).actions (agenda_after_past script before).made
  now_at before = current_is_first script (own_entries 0 before)

  driver_told : told (option_and_then (λ c. way_of_action script past c.action c.made) (current script (own_entries 0 past)))
      ≡ told (option_and_then (λ c. way_of_action script other c.action c.made) (current script (own_entries 0 other)))
  driver_told = by_actions (agenda_after_past script past).actions (agenda_after_past script other).actions same.left same.made (now_at past) (now_at other)
    where
      by_actions : (xs ys : List Action) → xs ≡ ys
          → progress_of_first xs (agenda_after_past script past).made ≡ progress_of_first ys (agenda_after_past script other).made
          → current script (own_entries 0 past) ≡ first_of xs (agenda_after_past script past).made
          → current script (own_entries 0 other) ≡ first_of ys (agenda_after_past script other).made
          → told (option_and_then (λ c. way_of_action script past c.action c.made) (current script (own_entries 0 past)))
          ≡ told (option_and_then (λ c. way_of_action script other c.action c.made) (current script (own_entries 0 other)))
      by_actions [] [] alike made is is_other = rw (is, is_other) refl
      by_actions [] (y ∷ ys) alike made is is_other = absurd cc
      by_actions (x ∷ xs) [] alike made is is_other = absurd cc
      by_actions (x ∷ xs) (y ∷ ys) alike made is is_other =
          let head : x ≡ y = cc in
          let one : progress x (agenda_after_past script past).made ≡ progress x (agenda_after_past script other).made =
          made ∙ ap (λ z. progress z (agenda_after_past script other).made) (sym head) in
          rw (is, is_other) (action_told x (agenda_after_past script past).made (agenda_after_past script other).made
          (pool_action script pool (own_entries 0 past) (record { action = x; made = (agenda_after_past script past).made }) is) one
          ∙ ap (λ z. told (way_of_action script other z (agenda_after_past script other).made)) head)

  -- ---- all together

  free_told : (seat : ℕ) → told (way_of_free script past seat) ≡ told (way_of_free script other seat)
  free_told seat = by_seat (eqb seat 0)
    where
      by_seat : (b : Bool)
          → told (cond b (option_and_then (λ c. way_of_action script past c.action c.made) (current script (own_entries 0 past)))
          (option_and_then (λ c. way_to_take script past c.source) (best_of script past seat)))
          ≡ told (cond b (option_and_then (λ c. way_of_action script other c.action c.made) (current script (own_entries 0 other)))
          (option_and_then (λ c. way_to_take script other c.source) (best_of script other seat)))
      by_seat true = driver_told
      by_seat false = worker_told seat

  pub way_told : (seat : ℕ) → told (way_on script past seat) ≡ told (way_on script other seat)
  unfolding way_on
  way_told seat = by_running (running past seat) refl
    where
      by_holding : (a b : Option Holding) → holding past seat ≡ a → holding other seat ≡ b → option_map (λ h. h.job) a ≡ option_map (λ h. h.job) b
          → told (option_map_or (λ h. Some (step_of script past seat h)) a (way_of_free script past seat))
          ≡ told (option_map_or (λ h. Some (step_of script other seat h)) b (way_of_free script other seat))
      by_holding None None is_a is_b alike = free_told seat
      by_holding (Some h) (Some k) is_a is_b alike = item_told seat h k (same_Some _ _ alike)
      by_holding None (Some k) is_a is_b alike = absurd cc
      by_holding (Some h) None is_a is_b alike = absurd cc

      by_running : (o : Option Running) → running past seat ≡ o → told (way_on script past seat) ≡ told (way_on script other seat)
      by_running (Some w) is = rw (is, sym (same.runs seat) ∙ is) (task_told seat w is)
      by_running None is = rw (is, sym (same.runs seat) ∙ is) (by_holding (holding past seat) (holding other seat) refl refl (same.held seat))

  -- ---- what is due, and whether all is done

  finished_same : is_finished script past ≡ is_finished script other
  finished_same = closed_finished script past sound.closed ∙ ap is_none (now_at past)
      ∙ by_actions (agenda_after_past script past).actions (agenda_after_past script other).actions same.left
      ∙ ap is_none (sym (now_at other)) ∙ sym (closed_finished script other sound.closed)
    where
      by_actions : (xs ys : List Action) → xs ≡ ys
          → is_none (first_of xs (agenda_after_past script past).made) ≡ is_none (first_of ys (agenda_after_past script other).made)
      by_actions [] [] alike = refl
      by_actions (x ∷ xs) (y ∷ ys) alike = refl
      by_actions [] (y ∷ ys) alike = absurd cc
      by_actions (x ∷ xs) [] alike = absurd cc

  free_same : (seat : ℕ) → is_free past seat ≡ is_free other seat
  free_same seat = rw (same.runs seat, by_job (holding past seat) (holding other seat) (same.held seat)) refl
    where
      by_job : (a b : Option Holding) → option_map (λ h. h.job) a ≡ option_map (λ h. h.job) b → is_none a ≡ is_none b
      by_job None None alike = refl
      by_job (Some h) (Some k) alike = refl
      by_job None (Some k) alike = absurd cc
      by_job (Some h) None alike = absurd cc

  quiet_same : is_quiet script past ≡ is_quiet script other
  unfolding is_quiet
  quiet_same = list_all_congr (is_free past) (is_free other) (all_seats script) free_same

  pub whole_same : is_whole script past ≡ is_whole script other
  whole_same = rw (finished_same, quiet_same) refl

  none_best_same : (seat : ℕ) → is_none (best_of script past seat) ≡ is_none (best_of script other seat)
  none_best_same seat = by_best (best_of script past seat) (best_of script other seat) refl refl
    where
      by_best : (a b : Option Candidate) → best_of script past seat ≡ a → best_of script other seat ≡ b → is_none a ≡ is_none b
      by_best None None is_a is_b = refl
      by_best (Some c) (Some d) is_a is_b = refl
      by_best None (Some d) is_a is_b =
          let also = best_also script other past (turned script past other same) legal_other legal seat d is_b in
          absurd (none-some also.0 (sym is_a ∙ also.1))
      by_best (Some c) None is_a is_b =
          let also = best_also script past other same legal legal_other seat c is_a in
          absurd (none-some also.0 (sym is_b ∙ also.1))

  empty_same : (j : ℕ) → is_empty script past j ≡ is_empty script other j
  empty_same j = ap (λ xs. eqb (length xs) 0) (inside_same script past other same j)

  -- what shutdown waits for
  blockers_same : blockers_of script past ≡ blockers_of script other
  unfolding blockers_of block_part skip_part
  blockers_same = rw (same.blocks, same.skips, jobs_same, seats_same) refl
    where
      jobs_same : open_jobs script past ≡ open_jobs script other
      jobs_same = filter_length_congr (is_open_job script past) (is_open_job script other) (range_with_len 0 (length script.jobs))
          (λ j. rw (accepted_same script past other same legal legal_other j, empty_same j, done_same script past other same legal legal_other j, same.cancels j) refl)

      seats_same : seats_in_skip_jobs script past ≡ seats_in_skip_jobs script other
      seats_same = filter_length_congr (is_in_skip_job script past) (is_in_skip_job script other) (all_seats script)
          (λ seat. through (holding past seat) ∙ ap (holds_of (λ j. is_skip (behaviour_of_job script j))) (same.held seat) ∙ sym (through (holding other seat)))
        where
          through : (o : Option Holding) → holds_of (λ h. is_skip (behaviour_of_job script h.job)) o
              ≡ holds_of (λ j. is_skip (behaviour_of_job script j)) (option_map (λ (h : Holding). h.job) o)
          through None = refl
          through (Some h) = refl

  -- what is due goes by the kind without its items
  due_by_told : (before : List Entry) (kind : Kind) → is_due script before kind ≡ is_due script before (without_items kind)
  due_by_told before (kinds.Joined j (Finished sum)) = refl
  due_by_told before (kinds.Joined j reply) = refl
  due_by_told before kind = refl

  due_here : (kind : Kind) → is_due script past kind ≡ is_due script other kind
  due_here (kinds.Tick now) = ap (λ n. nat_le n now && nat_le now LAST_MOMENT) same.now
  due_here (kinds.Take task runner found) = ap not finished_same
  due_here (kinds.JobTake job id item) = ap not finished_same
  due_here (kinds.Cancelled job) = rw (same.cancels job, empty_same job) refl
  due_here (kinds.Joined job reply) = empty_same job
  due_here kinds.Idle = rw (
    quiet_same,
    list_all_congr (λ worker. is_none (best_of script past worker)) (λ worker. is_none (best_of script other worker))
        (worker_seats script) none_best_same,
  ) refl
  due_here kinds.Done = rw (same.phase, blockers_same) refl
  due_here kind = refl

  pub due_same : (kind like : Kind) → without_items kind ≡ without_items like → is_due script past kind ≡ is_due script other like
  due_same kind like alike = due_by_told past kind ∙ due_here (without_items kind) ∙ ap (is_due script other) alike ∙ sym (due_by_told other like)

  -- ---- what may come

  pub comes_alike : (seat : ℕ) (kind : Kind) → seat ≤ script.workers → may_come script past seat kind ≡ true
      → (like : Kind) × (without_items kind ≡ without_items like) × (may_come script other seat like ≡ true)
  comes_alike seat kind known may =
      let here = (allowed_exactly script past seat kind sound.closed legal known).0 may in
      let there = option_map_some without_items (way_on script other seat) (without_items (but_moment kind))
      (sym (way_told seat) ∙ ap told here.0) in
      let alike = at_its_moment kind there.0 there.2 in (
        at_moment_of kind there.0,
        alike,
        (allowed_exactly script other seat (at_moment_of kind there.0) sound.closed legal_other known).1
            (there.1 ∙ ap Some (but_its_moment kind there.0 there.2), sym (due_same kind (at_moment_of kind there.0) alike) ∙ here.1),
      )
