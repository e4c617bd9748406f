-- The ways on of the seats, by the situation.
-- Cited by `Promised`.
use Rattle.std.proofs.Common.{◌≡◌, ℕ, ◌≤◌, Bool, true, false, cond, eqb, leb, List, [], ◌∷◌, length, refl, sym, ap, ◌∙◌, Option, Some, None, ⊎_elim, arith}
use Rattle.std.specs.Prelude.{◌&&◌, not, nat_le, is_none, filter, find, slice_get, option_and_then}
use Rattle.std.specs.Option.{option_map, option_map_or}
use Rattle.std.specs.List.{range_with_len}
use Rattle.std.proofs.lemmas.Bool.{and_parts, and_from, cases_lt, le-leb, ne_eqb}
use Rattle.task_base.specs.Plan.{Plan}
use Rattle.task_base.specs.Steps.{after, is_act}
use Rattle.task_base.specs.declared.entry.Entry.{Entry}
use Rattle.task_base.specs.declared.entry.JobReply.{JobReply}
use Rattle.task_base.specs.declared.entry.JobReply.TheVariants.{Refused, Finished, Cancelled, Stopped}
use Rattle.task_base.specs.declared.entry.Kind.{Kind}
use Rattle.task_base.specs.declared.entry.Kind.TheVariants as kinds
use Rattle.task_base.specs.declared.limits.TheConstants.{LAST_MOMENT}
use Rattle.task_base.specs.declared.script.Action.{Action}
use Rattle.task_base.specs.declared.script.Action.TheVariants as actions
use Rattle.task_base.specs.declared.source.TaskSource.{TaskSource}
use Rattle.task_base.specs.declared.source.TaskSource.TheVariants.{Sequence, Job}
use Rattle.task_base.specs.declared.step.Step.{Step}
use Rattle.task_base.specs.declared.step.Step.TheVariants as steps
use Rattle.task_traits.specs.Behaviour.{forbids}
use Rattle.list_laws.specs.Lists.{count, holds_of}
use Rattle.list_laws.proofs.Counts.{filter_length_congr}
use Rattle.list_laws.proofs.Tests.{list_all_congr}
use Rattle.script_model.specs.Laws.Sound.{IsSound}
use Rattle.task_model.specs.Blockers.{blockers_of, block_part, skip_part, open_jobs, is_open_job, seats_in_skip_jobs, is_in_skip_job, is_skip}
use Rattle.task_model.specs.Cells.{cell_of}
use Rattle.task_model.specs.Jobs.{JobPosted, job_post_of, job_sum, is_empty, items_of, reply_of}
use Rattle.task_model.specs.Keys.{Ready}
use Rattle.task_model.specs.Refusal.{effective_at, behaviour_of_job}
use Rattle.task_model.specs.Seats.{Running, running, Holding, holding, steps_of, is_free, is_quiet, all_seats, worker_seats}
use Rattle.task_model.specs.Sequences.{head_of}
use Rattle.task_model.specs.Sources.{Candidate, best_of, leaves, next_item}
use Rattle.pool_laws.proofs.Jobs.Numbers.{free_id_is_first}
use Rattle.hist_model.specs.Allowed.{is_allowed}
use Rattle.hist_model.specs.Legal.{IsLegal}
use Rattle.hist_model.specs.Script.{current, is_finished, is_whole}
use Rattle.hist_model.specs.Views.{own_entries}
use Rattle.hist_model.specs.Laws.Agenda.{first_of}
use Rattle.hist_model.specs.Laws.Progress.{end_of, step_of}
use Rattle.hist_model.specs.Laws.Ways.{but_moment, way_into, way_to_take, way_of_action, way_of_step, way_of_task, way_of_free, way_on, is_due}
use Rattle.hist_model.proofs.Laws.Agenda.{current_is_first}
use Rattle.hist_model.proofs.Laws.Due.{allowed_exactly}
use Rattle.hist_model.proofs.Laws.Open.{closed_finished}
use Rattle.situation.specs.Alike.{without_items}
use Rattle.situation.specs.Counts.{at_moment, if_allowed, next_of}
use Rattle.situation.specs.Line.{Waiter, Task, OfJob, TaskStands, waiter_of, waits_at}
use Rattle.situation.specs.Situation.{Situation, agenda_after_past, progress, progress_of_first, is_pool_action, is_pool_step, is_pool_script, situation_of}
use Rattle.situation.proofs.Cells.{head_cell}
use Rattle.situation.proofs.Choice.{both_true}
use Rattle.situation.proofs.Counts.{told_at}
use Rattle.situation.proofs.Ways.{pool_action, pool_step, told}
use Rattle.log_count.specs.Parts.{actions_in, runs_in, acts_in, job_in, reply_in, is_cancelled_in, cell_in}
use Rattle.log_count.specs.Sources.{best_in, done_in, may_enter_in, leaves_in}
use Rattle.log_count.specs.Ways.{take_of, take_in, join_reply_in, way_of_action_in, way_of_driver, way_of_step_in, way_of_task_in, way_of_item_in}
use Rattle.log_count.specs.Ways.{way_of_free_in, way_in}
use Rattle.log_count.specs.Ways.{is_finished_in, is_quiet_in, is_whole_in, is_empty_in, is_open_job_in, blockers_in, is_due_in, if_due, next_in}
use Rattle.log_count.proofs.Shows.{Shows}
use Rattle.log_count.proofs.Sources.{accepted_is, best_is, by_place, done_is, first_is, inside_is, leaves_is, may_enter_is}

-- ---- a way on has no moment

untimed_step : (script : Plan) (s : Situation) (t : ℕ) (step : Step) → option_map but_moment (way_of_step_in script s t step) ≡ way_of_step_in script s t step
untimed_step script s t (steps.Post u r d) = refl
untimed_step script s t step = refl

untimed_end : (script : Plan) (w : Running) → option_map but_moment (Some (end_of script w)) ≡ Some (end_of script w)
untimed_end script w = by_main w.is_main (after (steps_of script w.task) w.found)
  where
    by_main : (b : Bool) (v : ℕ) → option_map but_moment (Some (cond b (kinds.MainEnd w.task v) (kinds.End w.task v)))
        ≡ Some (cond b (kinds.MainEnd w.task v) (kinds.End w.task v))
    by_main true v = refl
    by_main false v = refl

untimed_action : (script : Plan) (s : Situation) (action : Action) (n : ℕ)
    → option_map but_moment (way_of_action_in script s action n) ≡ way_of_action_in script s action n
untimed_action script s (actions.Join j) n = by_enter (may_enter_in script s j) (join_reply_in script s j)
  where
    by_enter : (b : Bool) (o : Option JobReply) → option_map but_moment (cond b (Some (kinds.JobTake j 0 0)) (option_map (kinds.Joined j) o))
        ≡ cond b (Some (kinds.JobTake j 0 0)) (option_map (kinds.Joined j) o)
    by_enter true o = refl
    by_enter false None = refl
    by_enter false (Some reply) = refl
untimed_action script s (actions.Cancel j) n = by_made (eqb n 0)
  where
    by_made : (b : Bool) → option_map but_moment (Some (cond b (kinds.JobCancel j) (kinds.Cancelled j))) ≡ Some (cond b (kinds.JobCancel j) (kinds.Cancelled j))
    by_made true = refl
    by_made false = refl
untimed_action script s actions.Shutdown n = by_made (eqb n 0)
  where
    by_made : (b : Bool) → option_map but_moment (Some (cond b kinds.Shutdown kinds.Done)) ≡ Some (cond b kinds.Shutdown kinds.Done)
    by_made true = refl
    by_made false = refl
untimed_action script s action n = refl

untimed_take : (script : Plan) (s : Situation) (source : TaskSource) → option_map but_moment (take_in script s source) ≡ take_in script s source
untimed_take script s (Job j) = refl
untimed_take script s (Sequence q) = by_first (find (waits_at script (Sequence q)) s.line)
  where
    by_first : (o : Option Waiter) → option_map but_moment (option_and_then (take_of s q) o) ≡ option_and_then (take_of s q) o
    by_first None = refl
    by_first (Some (Task t h d)) = refl
    by_first (Some (OfJob j)) = refl

untimed : (script : Plan) (s : Situation) (seat : ℕ) → option_map but_moment (way_in script s seat) ≡ way_in script s seat
unfolding way_in
untimed script s seat = by_running (runs_in s seat)
  where
    by_step : (w : Running) (o : Option Step) → option_map but_moment (option_map_or (way_of_step_in script s w.task) o (Some (end_of script w)))
        ≡ option_map_or (way_of_step_in script s w.task) o (Some (end_of script w))
    by_step w None = untimed_end script w
    by_step w (Some step) = untimed_step script s w.task step

    by_actions : (xs : List Action) → option_map but_moment (way_of_driver script s xs) ≡ way_of_driver script s xs
    by_actions [] = refl
    by_actions (x ∷ xs) = untimed_action script s x s.driver.made

    by_best : (o : Option Candidate) → option_map but_moment (option_and_then (λ c. take_in script s c.source) o)
        ≡ option_and_then (λ c. take_in script s c.source) o
    by_best None = refl
    by_best (Some c) = untimed_take script s c.source

    by_seat : (b : Bool) → option_map but_moment (cond b (way_of_driver script s (actions_in script s)) (option_and_then (λ c. take_in script s c.source)
        (best_in script s seat)))
        ≡ cond b (way_of_driver script s (actions_in script s)) (option_and_then (λ c. take_in script s c.source) (best_in script s seat))
    by_seat true = by_actions (actions_in script s)
    by_seat false = by_best (best_in script s seat)

    by_job : (o : Option ℕ) → option_map but_moment (option_map_or (λ j. Some (way_of_item_in script s seat j)) o (way_of_free_in script s seat))
        ≡ option_map_or (λ j. Some (way_of_item_in script s seat j)) o (way_of_free_in script s seat)
    by_job None = by_seat (eqb seat 0)
    by_job (Some j) = refl

    by_running : (o : Option Running)
        → option_map but_moment (option_map_or (way_of_task_in script s seat) o (option_map_or (λ j. Some (way_of_item_in script s seat j)) (job_in s seat)
        (way_of_free_in script s seat)))
        ≡ option_map_or (way_of_task_in script s seat) o (option_map_or (λ j. Some (way_of_item_in script s seat j)) (job_in s seat)
        (way_of_free_in script s seat))
    by_running None = by_job (job_in s seat)
    by_running (Some w) = by_step w (slice_get (filter is_act (steps_of script w.task)) (acts_in s seat))

-- so a kind that is told as a way on has none
back_untimed : (way : Kind) → but_moment (without_items way) ≡ without_items way → but_moment way ≡ way
back_untimed (kinds.Tick now) is = is
back_untimed way is = refl

at_but : (moment : ℕ) (kind : Kind) → but_moment (at_moment moment kind) ≡ but_moment kind
at_but moment (kinds.Tick now) = refl
at_but moment kind = refl

-- what is due goes by the kind without its items
due_by_told : (script : Plan) (s : Situation) (kind : Kind) → is_due_in script s kind ≡ is_due_in script s (without_items kind)
due_by_told script s (kinds.Joined j (Finished sum)) = refl
due_by_told script s (kinds.Joined j reply) = refl
due_by_told script s kind = refl

module _ (script : Plan) (past : List Entry) (s : Situation) (shown : Shows script past s) (sound : IsSound script)
    (pool : is_pool_script script ≡ true) (legal : IsLegal script past) where
  -- ---- tasks and items

  step_is : (t : ℕ) (step : Step) → is_pool_step step ≡ true → told (way_of_step script past t step) ≡ way_of_step_in script s t step
  step_is t (steps.Post u r d) of_pool = ap (λ p. Some (kinds.Post u r d (not (forbids p (effective_at script r d))))) shown.phase
  step_is t (steps.Main u q d) of_pool = absurd cc
  step_is t step of_pool = refl

  end_is_told : (w : Running) → told (Some (end_of script w)) ≡ Some (end_of script w)
  end_is_told w = by_main w.is_main (after (steps_of script w.task) w.found)
    where
      by_main : (b : Bool) (v : ℕ) → told (Some (cond b (kinds.MainEnd w.task v) (kinds.End w.task v)))
          ≡ Some (cond b (kinds.MainEnd w.task v) (kinds.End w.task v))
      by_main true v = refl
      by_main false v = refl

  task_is : (seat : ℕ) (w : Running) → running past seat ≡ Some w → told (way_of_task script past seat w) ≡ way_of_task_in script s seat w
  task_is seat w runs =
      let acts = rw runs at (shown.acts seat) in
      rw acts (by_step (slice_get (filter is_act (steps_of script w.task)) (acts_in s seat)) refl)
    where
      by_step : (o : Option Step) → slice_get (filter is_act (steps_of script w.task)) (acts_in s seat) ≡ o
          → told (option_map_or (way_of_step script past w.task) o (Some (end_of script w)))
          ≡ option_map_or (way_of_step_in script s w.task) o (Some (end_of script w))
      by_step None is = end_is_told w
      by_step (Some step) is = step_is w.task step (pool_step script pool w.task (acts_in s seat) step is)

  next_item_is : (seat j : ℕ) → option_map {U = ℕ} (λ n. 0) (next_item script past seat j) ≡ cond (leaves_in script s seat j) None (Some 0)
  next_item_is seat j = rw (← leaves_is script past s shown legal seat j) (by_leaves (leaves script past seat j) _)
    where
      by_leaves : (b : Bool) (n : ℕ) → option_map {U = ℕ} (λ k. 0) (cond b None (Some n)) ≡ cond b None (Some 0)
      by_leaves true n = refl
      by_leaves false n = refl

  item_is : (seat : ℕ) (h : Holding) → told (Some (step_of script past seat h)) ≡ Some (way_of_item_in script s seat h.job)
  item_is seat h = ap (λ o. Some (kinds.JobStep h.job 0 0 0 o)) (next_item_is seat h.job)

  -- ---- into a job, and out of a join

  into_is : (j : ℕ) → told (way_into script past j) ≡ Some (kinds.JobTake j 0 0)
  into_is j = rw ((free_id_is_first script past j).1) refl

  refused_is : (j : ℕ) → holds_of (λ (p : JobPosted). not p.ok) (job_post_of past j) ≡ holds_of (λ ok. not ok) (reply_in s j)
  refused_is j = through (job_post_of past j) ∙ ap (holds_of not) (shown.replies j)
    where
      through : (o : Option JobPosted) → holds_of (λ p. not p.ok) o ≡ holds_of not (option_map (λ (p : JobPosted). p.ok) o)
      through None = refl
      through (Some p) = refl

  reply_is : (j : ℕ) → told (option_map (kinds.Joined j) (reply_of script past j)) ≡ option_map (kinds.Joined j) (join_reply_in script s j)
  reply_is j = rw (refused_is j, done_is script past s shown legal j, shown.cancels j, shown.phase)
      (by_tests (holds_of (λ ok. not ok) (reply_in s j)) (eqb (done_in script s j) (items_of script j)) (is_cancelled_in s j)
      (forbids s.phase (behaviour_of_job script j)))
    where
      by_tests : (refused finished cancelled forbidden : Bool)
          → told (option_map (kinds.Joined j) (cond refused (Some Refused) (cond finished (Some (Finished (job_sum past j)))
          (cond cancelled (Some Cancelled) (cond forbidden (Some Stopped) None)))))
          ≡ option_map (kinds.Joined j) (cond refused (Some Refused) (cond finished (Some (Finished 0))
          (cond cancelled (Some Cancelled) (cond forbidden (Some Stopped) None))))
      by_tests true b c d = refl
      by_tests false true c d = refl
      by_tests false false true d = refl
      by_tests false false false true = refl
      by_tests false false false false = refl

  -- ---- workers

  cell_is : (q : ℕ) (r : Ready) → head_of script past q ≡ Some r → cell_of script past q ≡ cell_in s q
  cell_is q r is = ⊎_elim (λ within. shown.cells q within)
      (λ beyond. head_cell script past q r sound legal beyond is ∙ sym (shown.no_cells q beyond)) (cases_lt q (length script.runners))

  take_is : (source : TaskSource) → told (way_to_take script past source) ≡ take_in script s source
  take_is (Job j) = into_is j
  take_is (Sequence q) = rw (first_is script past s shown legal q) (by_head (head_of script past q) refl)
    where
      by_head : (o : Option Ready) → head_of script past q ≡ o
          → told (option_map (λ (r : Ready). kinds.Take r.posted.task r.posted.home (cell_of script past q)) o)
          ≡ option_and_then (take_of s q) (option_map (λ r. waiter_of (TaskStands r)) o)
      by_head None is = refl
      by_head (Some r) is = ap (λ v. Some (kinds.Take r.posted.task r.posted.home v)) (cell_is q r is)

  worker_is : (seat : ℕ) → told (option_and_then (λ (c : Candidate). way_to_take script past c.source) (best_of script past seat))
      ≡ option_and_then (λ c. take_in script s c.source) (best_in script s seat)
  worker_is seat = rw (best_is script past s shown legal seat) (by_best (best_of script past seat))
    where
      by_best : (o : Option Candidate) → told (option_and_then (λ (c : Candidate). way_to_take script past c.source) o)
          ≡ option_and_then (λ (c : Candidate). take_in script s c.source) (option_map (by_place script past s shown legal) o)
      by_best None = refl
      by_best (Some c) = take_is c.source

  -- ---- the driver

  action_is : (action : Action) (made : List Entry) (n : ℕ) → is_pool_action action ≡ true → progress action made ≡ n
      → told (way_of_action script past action made) ≡ way_of_action_in script s action n
  action_is (actions.Post t r d) made n of_pool is = ap (λ p. Some (kinds.Post t r d (not (forbids p (effective_at script r d))))) shown.phase
  action_is (actions.Main t q d) made n of_pool is = absurd cc
  action_is (actions.Fence q a) made n of_pool is = absurd cc
  action_is (actions.Unfence q) made n of_pool is = absurd cc
  action_is (actions.Vote q v o) made n of_pool is = absurd cc
  action_is (actions.Rank q c) made n of_pool is = absurd cc
  action_is (actions.Close q) made n of_pool is = absurd cc
  action_is (actions.Pump m) made n of_pool is = absurd cc
  action_is (actions.StartJob j) made n of_pool is = ap (λ p. Some (kinds.JobPost j (not (forbids p (behaviour_of_job script j))))) shown.phase
  action_is (actions.Join j) made n of_pool is = rw (may_enter_is script past s shown legal j) (by_enter (may_enter_in script s j))
    where
      by_enter : (b : Bool) → told (cond b (way_into script past j) (option_map (kinds.Joined j) (reply_of script past j)))
          ≡ cond b (Some (kinds.JobTake j 0 0)) (option_map (kinds.Joined j) (join_reply_in script s j))
      by_enter true = into_is j
      by_enter false = reply_is j
  action_is (actions.Cancel j) made n of_pool is = ap (λ k. told (Some (cond (eqb k 0) (kinds.JobCancel j) (kinds.Cancelled j)))) is ∙ by_made (eqb n 0)
    where
      by_made : (b : Bool) → told (Some (cond b (kinds.JobCancel j) (kinds.Cancelled j))) ≡ Some (cond b (kinds.JobCancel j) (kinds.Cancelled j))
      by_made true = refl
      by_made false = refl
  action_is actions.Shutdown made n of_pool is = ap (λ k. told (Some (cond (eqb k 0) kinds.Shutdown kinds.Done))) is ∙ by_made (eqb n 0)
    where
      by_made : (b : Bool) → told (Some (cond b kinds.Shutdown kinds.Done)) ≡ Some (cond b kinds.Shutdown kinds.Done)
      by_made true = refl
      by_made false = refl
  action_is action made n of_pool is = refl

  -- what the driver is at
  now_at : current script (own_entries 0 past) ≡ first_of (agenda_after_past script past).actions (agenda_after_past script past).made
  now_at = current_is_first script (own_entries 0 past)

  driver_is : told (option_and_then (λ c. way_of_action script past c.action c.made) (current script (own_entries 0 past)))
      ≡ way_of_driver script s (actions_in script s)
  driver_is = by_actions (agenda_after_past script past).actions shown.made now_at ∙ ap (way_of_driver script s) shown.left
    where
      by_actions : (xs : List Action) → progress_of_first xs (agenda_after_past script past).made ≡ s.driver.made
          → current script (own_entries 0 past) ≡ first_of xs (agenda_after_past script past).made
          → told (option_and_then (λ c. way_of_action script past c.action c.made) (current script (own_entries 0 past))) ≡ way_of_driver script s xs
      by_actions [] made is = rw is refl
      by_actions (x ∷ xs) made is = rw is (action_is x (agenda_after_past script past).made s.driver.made
          (pool_action script pool (own_entries 0 past) (record { action = x; made = (agenda_after_past script past).made }) is) made)

  -- ---- all together

  free_way_is : (seat : ℕ) → told (way_of_free script past seat) ≡ way_of_free_in script s seat
  free_way_is seat = by_seat (eqb seat 0)
    where
      by_seat : (b : Bool)
          → told (cond b (option_and_then (λ c. way_of_action script past c.action c.made) (current script (own_entries 0 past)))
          (option_and_then (λ c. way_to_take script past c.source) (best_of script past seat)))
          ≡ cond b (way_of_driver script s (actions_in script s)) (option_and_then (λ c. take_in script s c.source) (best_in script s seat))
      by_seat true = driver_is
      by_seat false = worker_is seat

  pub way_is_told : (seat : ℕ) → told (way_on script past seat) ≡ way_in script s seat
  unfolding way_on way_in
  way_is_told seat = by_running (running past seat) refl
    where
      by_holding : (o : Option Holding) → holding past seat ≡ o
          → told (option_map_or (λ h. Some (step_of script past seat h)) o (way_of_free script past seat))
          ≡ option_map_or (λ j. Some (way_of_item_in script s seat j)) (option_map (λ h. h.job) o) (way_of_free_in script s seat)
      by_holding None is = free_way_is seat
      by_holding (Some h) is = item_is seat h

      by_running : (o : Option Running) → running past seat ≡ o → told (way_on script past seat) ≡ way_in script s seat
      by_running (Some w) is = rw (is, sym (shown.runs seat) ∙ is) (task_is seat w is)
      by_running None is = rw (is, sym (shown.runs seat) ∙ is, ← shown.held seat) (by_holding (holding past seat) refl)

  -- ---- what is due, and whether all is done

  pub finished_is : is_finished script past ≡ is_finished_in s
  finished_is = closed_finished script past sound.closed ∙ ap is_none now_at ∙ by_actions (agenda_after_past script past).actions
      ∙ ap (λ n. eqb n 0) shown.left_is
    where
      by_actions : (xs : List Action) → is_none (first_of xs (agenda_after_past script past).made) ≡ eqb (length xs) 0
      by_actions [] = refl
      by_actions (x ∷ xs) = sym (ne_eqb (length (x ∷ xs)) 0 (λ same. absurd (omega (arith, same))))

  free_is : (seat : ℕ) → is_free past seat ≡ (is_none (runs_in s seat) && is_none (job_in s seat))
  free_is seat = rw (shown.runs seat, through (holding past seat) ∙ ap is_none (shown.held seat)) refl
    where
      through : (o : Option Holding) → is_none o ≡ is_none (option_map (λ h. h.job) o)
      through None = refl
      through (Some h) = refl

  quiet_is : is_quiet script past ≡ is_quiet_in script s
  unfolding is_quiet is_quiet_in
  quiet_is = list_all_congr (is_free past) (λ seat. is_none (runs_in s seat) && is_none (job_in s seat)) (all_seats script) free_is

  pub whole_is : is_whole script past ≡ is_whole_in script s
  whole_is = rw (finished_is, quiet_is) refl

  empty_is : (j : ℕ) → is_empty script past j ≡ is_empty_in script s j
  empty_is j = ap (λ xs. eqb (length xs) 0) (inside_is script past s shown j)

  none_best_is : (seat : ℕ) → is_none (best_of script past seat) ≡ is_none (best_in script s seat)
  none_best_is seat = through (by_place script past s shown legal) (best_of script past seat) ∙ ap is_none (sym (best_is script past s shown legal seat))
    where
      through : {A B : Type 0} (f : A → B) (o : Option A) → is_none o ≡ is_none (option_map f o)
      through f None = refl
      through f (Some c) = refl

  -- what shutdown waits for
  blockers_are : blockers_of script past ≡ blockers_in script s
  unfolding blockers_of block_part skip_part blockers_in
  blockers_are = rw (shown.blocks, shown.skips, jobs_are, seats_are) refl
    where
      jobs_are : open_jobs script past ≡ count (is_open_job_in script s) (range_with_len 0 (length script.jobs))
      jobs_are = filter_length_congr (is_open_job script past) (is_open_job_in script s) (range_with_len 0 (length script.jobs))
          (λ j. rw (accepted_is script past s shown j, inside_is script past s shown j, done_is script past s shown legal j, shown.cancels j) refl)

      seats_are : seats_in_skip_jobs script past ≡ count (λ seat. holds_of (λ j. is_skip (behaviour_of_job script j)) (job_in s seat)) (all_seats script)
      seats_are = filter_length_congr (is_in_skip_job script past) (λ seat. holds_of (λ j. is_skip (behaviour_of_job script j)) (job_in s seat))
          (all_seats script)
          (λ seat. through (holding past seat) ∙ ap (holds_of (λ j. is_skip (behaviour_of_job script j))) (shown.held seat))
        where
          through : (o : Option Holding) → holds_of (λ h. is_skip (behaviour_of_job script h.job)) o
              ≡ holds_of (λ j. is_skip (behaviour_of_job script j)) (option_map (λ (h : Holding). h.job) o)
          through None = refl
          through (Some h) = refl

  pub due_is : (kind : Kind) → is_due script past kind ≡ is_due_in script s kind
  due_is (kinds.Tick now) = ap (λ n. nat_le n now && nat_le now LAST_MOMENT) shown.now
  due_is (kinds.Take task runner found) = ap not finished_is
  due_is (kinds.JobTake job id item) = ap not finished_is
  due_is (kinds.Cancelled job) = rw (shown.cancels job, empty_is job) refl
  due_is (kinds.Joined job reply) = empty_is job
  due_is kinds.Idle = rw (
    quiet_is,
    list_all_congr (λ worker. is_none (best_of script past worker)) (λ worker. is_none (best_in script s worker)) (worker_seats script) none_best_is,
  ) refl
  due_is kinds.Done = rw (shown.phase, blockers_are) refl
  due_is kind = refl

  -- ---- what may be made now

  pub next_is : (tick : Situation → ℕ) (seat : ℕ) → situation_of script past ≡ s → seat ≤ script.workers
      → option_map (λ (e : Entry). without_items e.kind) (next_of script tick past seat) ≡ next_in script tick s seat
  unfolding next_in
  next_is tick seat same known = by_way (way_on script past seat) refl (way_is_told seat)
    where
      made : Kind → Entry
      made way = record { seat = seat; kind = at_moment (tick (situation_of script past)) way }

      by_due : (e : Entry) (k : Kind) (b c : Bool) → b ≡ c → without_items e.kind ≡ k
          → option_map (λ (x : Entry). without_items x.kind) (cond b (Some e) None) ≡ cond c (Some k) None
      by_due e k true true both is = ap Some is
      by_due e k false false both is = refl
      by_due e k true false both is = absurd cc
      by_due e k false true both is = absurd cc

      -- at the moment that the situation tells
      told_is : (way : Kind) → without_items (at_moment (tick (situation_of script past)) way) ≡ at_moment (tick s) (without_items way)
      told_is way = told_at (tick (situation_of script past)) way ∙ ap (λ z. at_moment (tick z) (without_items way)) same

      -- it is allowed where it is due
      allowed_is : (way : Kind) → way_on script past seat ≡ Some way → Some (without_items way) ≡ way_in script s seat
          → is_allowed script past (made way) ≡ is_due_in script s (at_moment (tick s) (without_items way))
      allowed_is way is told_way =
          let exact = allowed_exactly script past seat (at_moment (tick (situation_of script past)) way) sound.closed legal known in
          let bare : but_moment way ≡ way = back_untimed way (some_same (but_moment (without_items way)) (without_items way)
          (ap (option_map but_moment) told_way ∙ untimed script s seat ∙ sym told_way)) in
          let here : way_on script past seat ≡ Some (but_moment (at_moment (tick (situation_of script past)) way)) =
          is ∙ ap Some (sym (at_but (tick (situation_of script past)) way ∙ bare)) in
          both_true _ _ (λ allowed. (exact.0 (and_parts (leb seat script.workers) _ allowed).1).1)
          (λ due. and_from (leb seat script.workers) _ (le-leb seat script.workers known) (exact.1 (here, due)))
          ∙ due_is (at_moment (tick (situation_of script past)) way) ∙ due_by_told script s (at_moment (tick (situation_of script past)) way)
          ∙ ap (is_due_in script s) (told_is way)
        where
          some_same : (x y : Kind) → Some x ≡ Some y → x ≡ y
          some_same x y alike = cc

      by_way : (o : Option Kind) → way_on script past seat ≡ o → told o ≡ way_in script s seat
          → option_map (λ (e : Entry). without_items e.kind) (option_and_then (λ way. if_allowed script past (made way)) o)
          ≡ option_and_then (λ way. if_due script s (at_moment (tick s) way)) (way_in script s seat)
      by_way None is told_way = ap (option_and_then (λ way. if_due script s (at_moment (tick s) way))) told_way
      by_way (Some way) is told_way =
          by_due (made way) (at_moment (tick s) (without_items way)) (is_allowed script past (made way))
          (is_due_in script s (at_moment (tick s) (without_items way))) (allowed_is way is told_way) (told_is way)
          ∙ ap (option_and_then (λ w. if_due script s (at_moment (tick s) w))) told_way
