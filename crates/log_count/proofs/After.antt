-- The situation after an entry, by the situation before it and the entry.
-- Cited by `Promised`.
use Rattle.std.proofs.Common.{◌≡◌, ℕ, ◌+◌, ◌<◌, Bool, true, false, cond, eqb, List, [], ◌∷◌, ◌++◌, length, map, refl, sym, ap, subst, ◌∙◌, Option}
use Rattle.std.proofs.Common.{Some, None, arith}
use Rattle.std.specs.Prelude.{◌&&◌, ◌||◌, not, nat_lt, nat_le, is_none, is_some, filter}
use Rattle.std.specs.Option.{option_map}
use Rattle.std.specs.List.{range_with_len}
use Rattle.std.proofs.lemmas.Bool.{and_parts, eqb-true, eq-eqb}
use Rattle.std.proofs.lemmas.List.{length-append}
use Rattle.std.proofs.lemmas.Option.{none-some, same_Some}
use Rattle.task_base.specs.Plan.{Plan}
use Rattle.task_base.specs.Runners.{sequence_of}
use Rattle.task_base.specs.declared.entry.Entry.{Entry}
use Rattle.task_base.specs.declared.entry.Kind.{Kind}
use Rattle.task_base.specs.declared.entry.Kind.TheVariants as kinds
use Rattle.task_base.specs.declared.script.Action.{Action}
use Rattle.task_base.specs.declared.script.Action.TheVariants as actions
use Rattle.task_base.specs.declared.source.TaskSource.{TaskSource}
use Rattle.task_base.specs.declared.source.TaskSource.TheVariants.{Sequence, Job}
use Rattle.task_traits.specs.Behaviour.{forbids}
use Rattle.task_traits.specs.declared.traits.Priority.{Priority}
use Rattle.list_laws.specs.Lists.{holds_of}
use Rattle.list_laws.proofs.Elements.{AllByRecursion-always}
use Rattle.list_laws.proofs.Filters.{filter_congr, map-congr_in}
use Rattle.list_laws.proofs.Places.{count-push}
use Rattle.list_laws.proofs.Ranges.{AllByRecursion-range}
use Rattle.script_model.specs.Laws.Sound.{IsSound}
use Rattle.task_model.specs.Time.{now_of, now_after, is_tick_from}
use Rattle.task_model.specs.Phase.{phase_of, phase_after}
use Rattle.task_model.specs.Policies.{policy_of, policy_after}
use Rattle.task_model.specs.Posts.{Posted, posts, takes, is_taken, is_ended}
use Rattle.task_model.specs.Refusal.{effective_at, behaviour_of_job}
use Rattle.task_model.specs.Blockers.{open_blocks, running_skips, is_block, is_skip}
use Rattle.task_model.specs.Keys.{Ready}
use Rattle.task_model.specs.Sequences.{head_of}
use Rattle.task_model.specs.Seats.{Running, running, running_after, Holding, holding, holding_after, acts_done, acts_after, runs_of, all_seats}
use Rattle.task_model.specs.Cells.{cell_of, cell_after}
use Rattle.task_model.specs.Capacity.{priority_of, priority_after, taken_with, taken_after}
use Rattle.task_model.specs.Jobs.{is_cancelled, cancels, claimed, claims, items_of}
use Rattle.task_model.specs.Sources.{Candidate, best_of}
use Rattle.task_model.proofs.Growth.{now_of_push, phase_of_push, policy_of_push, priority_of_push, running_push, holding_push, acts_done_push}
use Rattle.task_model.proofs.Growth.{taken_with_push, is_cancelled_push, claimed_push, cell_of_push}
use Rattle.pool_laws.specs.Posts.{InOrder, post_of}
use Rattle.pool_laws.specs.Room.{share}
use Rattle.pool_laws.specs.Shutdown.{moves_open_blocks, moves_running_skips}
use Rattle.pool_laws.proofs.Choice.Least.{head_is}
use Rattle.pool_laws.proofs.Seats.Runs.{singly_unended}
use Rattle.pool_laws.proofs.Shutdown.Tasks.{open_blocks_same, open_blocks_at_post, open_blocks_at_end, running_skips_same, running_skips_at_post}
use Rattle.pool_laws.proofs.Shutdown.Tasks.{running_skips_at_take, running_skips_at_end}
use Rattle.hist_model.specs.Allowed.{IsAllowed, is_head_of, is_ready_worker, may_come}
use Rattle.hist_model.specs.Legal.{IsLegal}
use Rattle.hist_model.specs.Script.{is_main_end}
use Rattle.hist_model.specs.Views.{own_entries}
use Rattle.hist_model.specs.Laws.Agenda.{Agenda, agenda, agenda_from, next_agenda, completes}
use Rattle.hist_model.specs.Laws.Postings.{IsNew, kind_posts}
use Rattle.hist_model.proofs.Laws.Agenda.{agenda_push}
use Rattle.hist_model.proofs.Laws.Choice.{found}
use Rattle.hist_model.proofs.Laws.Consistent.{legal_is_consistent}
use Rattle.hist_model.proofs.Laws.Legal.{entry_induction}
use Rattle.hist_model.proofs.Laws.Own.{own_entries_push}
use Rattle.hist_model.proofs.Laws.Postings.Once.{a_posted_task_is_new, each_is_accepted_once}
use Rattle.hist_model.proofs.Laws.Rising.{legal_rises}
use Rattle.hist_model.proofs.Laws.Starts.{takes_fresh}
use Rattle.hist_model.proofs.Laws.Takes.{end_is, take_is}
use Rattle.situation.specs.Line.{Waiter, Task, OfJob, is_job_open, line_of}
use Rattle.situation.specs.Onward.{from_after, job_after, reply_after, stays, coming, waiter_of_unripe, unripe_stays, put_in, new_unripe}
use Rattle.situation.specs.Situation.{Situation, driver_at, seat_at, job_at, agenda_after_past, progress, progress_of_first}
use Rattle.situation.specs.Situation.{acts_now, taken_now, scope_now, behaviour_now, job_now, job_reply, unripe_of, is_pool_script, situation_of}
use Rattle.situation.proofs.Onward.Folds.{reply_push}
use Rattle.situation.proofs.Onward.Line.{line_push, newcomers, newcomers_are}
use Rattle.situation.proofs.Onward.Scopes.{no_main_take, no_scope, rises_at, scope_from, scope_push}
use Rattle.situation.proofs.Onward.Tasks.{accepted_post, effective_now, effective_push}
use Rattle.situation.proofs.Onward.Unripe.{unripe_push}
use Rattle.situation.proofs.Onward.Whole.{driver_is, seat_is, situation_is}
use Rattle.situation.proofs.Told.{job_of_holding}
use Rattle.log_count.specs.After.{driver_of, completes_at, made_after, driver_after, runs_after, taken_by, behaviour_of_taken, behaviour_by}
use Rattle.log_count.specs.After.{seat_after, claims_after}
use Rattle.log_count.specs.After.{job_known_after, is_open_after, line_after, unripe_after, cell_by, blocks_after, skips_after, after_in}
use Rattle.log_count.specs.Parts.{actions_in, priority_in, scope_in, behaviour_in, reply_in, is_cancelled_in, cell_in}
use Rattle.log_count.proofs.Shows.{Shows}
use Rattle.log_count.proofs.Sources.{first_is}

-- ---- the driver

completes_is : (x : Action) (made : List Entry) (kind : Kind) → completes x made kind ≡ completes_at x (progress x made) kind
completes_is (actions.Tick n) made kind = refl
completes_is (actions.Pump n) made kind = refl
completes_is (actions.Cancel j) made kind = refl
completes_is actions.Shutdown made kind = refl
completes_is action made kind = refl

progress_is : (x : Action) (made : List Entry) (e : Entry) → progress x (made ++ e ∷ []) ≡ made_after x (progress x made) e.kind
progress_is (actions.Tick n) made e = omega (arith, length-append made (e ∷ []))
progress_is (actions.Pump n) made e = count-push (λ x. is_main_end x.kind) made e
progress_is (actions.Cancel j) made e = omega (arith, length-append made (e ∷ []))
progress_is actions.Shutdown made e = omega (arith, length-append made (e ∷ []))
progress_is action made e = refl

driver_goes : (xs : List Action) (made : List Entry) (e : Entry) → driver_of (next_agenda xs made e) ≡ driver_after xs (progress_of_first xs made) e.kind
driver_goes [] made e = refl
driver_goes (x ∷ rest) made e = by_test (completes x made e.kind) (completes_at x (progress x made) e.kind) (completes_is x made e.kind)
  where
    by_test : (b c : Bool) → b ≡ c
        → driver_of (cond b (agenda_from rest []) (record { actions = x ∷ rest; made = made ++ e ∷ [] }))
        ≡ cond c (driver_of (agenda_from rest [])) (record { left = length (x ∷ rest); made = made_after x (progress x made) e.kind })
    by_test true true h = refl
    by_test false false h = ap (λ n. record { left = length (x ∷ rest); made = n }) (progress_is x made e)
    by_test true false h = absurd cc
    by_test false true h = absurd cc

-- ---- no main task runs

no_main_runs : (script : Plan) (past : List Entry) → IsSound script → is_pool_script script ≡ true → IsLegal script past → (seat : ℕ) (w : Running)
    → running past seat ≡ Some w → w.is_main ≡ false
unfolding running
no_main_runs script past sound pool = entry_induction script (λ before. (seat : ℕ) (w : Running) → running before seat ≡ Some w → w.is_main ≡ false)
    (λ seat w is. absurd (none-some w is))
    (λ before e known may none seat w is. by_seat before e may none seat w (eqb e.seat seat) (sym (running_push before e seat) ∙ is)) past
  where
    by_kind : (before : List Entry) (by : ℕ) (o : Option Running) (w : Running) (kind : Kind) → may_come script before by kind ≡ true
        → (o ≡ Some w → w.is_main ≡ false) → running_after o kind ≡ Some w → w.is_main ≡ false
    by_kind before by o w (kinds.Take task runner value) may same is = ap (λ (v : Running). v.is_main) (sym (same_Some _ _ is))
    by_kind before by o w (kinds.MainTake task queue value) may same is = absurd (no_main_take script before sound pool by task queue value may)
    by_kind before by o w (kinds.End task left) may same is = absurd (none-some w is)
    by_kind before by o w (kinds.MainEnd task left) may same is = absurd (none-some w is)
    by_kind before by o w kind may same is = same is

    by_seat : (before : List Entry) (e : Entry) → may_come script before e.seat e.kind ≡ true
        → ((seat : ℕ) (w : Running) → running before seat ≡ Some w → w.is_main ≡ false) → (seat : ℕ) (w : Running) (b : Bool)
        → cond b (running_after (running before seat) e.kind) (running before seat) ≡ Some w → w.is_main ≡ false
    by_seat before e may none seat w true is = by_kind before e.seat (running before seat) w e.kind may (none seat w) is
    by_seat before e may none seat w false is = none seat w is

none_is : {A : Type 0} (o : Option A) → is_none o ≡ true → o ≡ None
none_is None h = refl
none_is (Some x) h = absurd cc

-- a task that is taken stands first of its sequence
record TakenNow (script : Plan) (past : List Entry) (task runner : ℕ) : Type 0 where
  head : Ready
  is : head_of script past (sequence_of script runner task) ≡ Some head
  home_is : head.posted.home ≡ runner
  posted : post_of past task ≡ Some head.posted

module _ (script : Plan) (past : List Entry) (sound : IsSound script) (pool : is_pool_script script ≡ true) (legal : IsLegal script past) where
  taken_now_is : (seat task runner value : ℕ) → may_come script past seat (kinds.Take task runner value) ≡ true → TakenNow script past task runner
  unfolding may_come
  taken_now_is seat task runner value may =
      let parts = and_parts (is_ready_worker script past seat)
      (holds_of (λ (c : Candidate). is_head_of script past task runner value c.source) (best_of script past seat)) may in
      let c = found (λ (x : Candidate). is_head_of script past task runner value x.source) (best_of script past seat) parts.1 in
      by_source c.value.source c.passes
    where
      by_source : (source : TaskSource) → is_head_of script past task runner value source ≡ true → TakenNow script past task runner
      by_source (Job j) h = absurd cc
      by_source (Sequence s) h =
          let parts = and_parts (holds_of (λ (r : Ready). eqb r.posted.task task && eqb r.posted.home runner) (head_of script past s))
          (eqb value (cell_of script past s)) h in
          let r = found (λ (x : Ready). eqb x.posted.task task && eqb x.posted.home runner) (head_of script past s) parts.0 in
          let same = and_parts (eqb r.value.posted.task task) (eqb r.value.posted.home runner) r.passes in
          let task_is : r.value.posted.task ≡ task = eqb-true r.value.posted.task task same.0 in
          let home_is : r.value.posted.home ≡ runner = eqb-true r.value.posted.home runner same.1 in
          let head = head_is script past s r.value r.is in
          let here : s ≡ sequence_of script runner task =
          sym (eqb-true (sequence_of script r.value.posted.home r.value.posted.task) s head.of_sequence)
          ∙ ap (λ h. sequence_of script h r.value.posted.task) home_is ∙ ap (sequence_of script runner) task_is in
          record {
            head = r.value;
            is = ap (head_of script past) (sym here) ∙ r.is;
            home_is = home_is;
            posted = ap (post_of past) (sym task_is) ∙ accepted_post script past sound legal r.value.posted head.accepted;
          }

  -- what a seat runs was posted, to whom its behaviour goes by
  runs_posted : (seat : ℕ) (w : Running) → running past seat ≡ Some w
      → (p : Posted) × (post_of past w.task ≡ Some p) × (is_taken past w.task ≡ true) × (is_ended past w.task ≡ false)
  runs_posted seat w runs =
      let r = (legal_is_consistent script past legal false).runs seat w runs (no_main_runs script past sound pool legal seat w runs) in (
        r.can.accepted,
        ap (post_of past) (sym r.can.task_is) ∙ accepted_post script past sound legal r.can.accepted r.can.posted,
        r.taken,
        r.not_ended,
      )

module _ (script : Plan) (past : List Entry) (s : Situation) (shown : Shows script past s) (sound : IsSound script)
    (pool : is_pool_script script ≡ true) (legal : IsLegal script past) (e : Entry) (allowed : IsAllowed script past e) where
  may : may_come script past e.seat e.kind ≡ true
  may = (and_parts _ (may_come script past e.seat e.kind) allowed).1

  may_be : (kind : Kind) → e.kind ≡ kind → may_come script past e.seat kind ≡ true
  may_be kind is = ap (may_come script past e.seat) (sym is) ∙ may

  new_here : (task runner delay : ℕ) (ok : Bool) → e.kind ≡ kinds.Post task runner delay ok → IsNew past task
  new_here task runner delay ok is = a_posted_task_is_new script past e task sound.once.posted_once legal allowed (ap kind_posts is)

  -- ---- the driver, and settings

  driver_later : driver_at script (past ++ e ∷ []) ≡ cond (eqb e.seat 0) (driver_after (actions_in script s) s.driver.made e.kind) s.driver
  driver_later = by_seat (eqb e.seat 0) (own_entries_push past e 0)
    where
      here : Agenda
      here = agenda_after_past script past

      by_seat : (b : Bool) → own_entries 0 (past ++ e ∷ []) ≡ cond b (own_entries 0 past ++ e ∷ []) (own_entries 0 past)
          → driver_at script (past ++ e ∷ []) ≡ cond b (driver_after (actions_in script s) s.driver.made e.kind) s.driver
      by_seat true own =
          ap (λ o. driver_of (agenda script o)) own ∙ ap driver_of (agenda_push script (own_entries 0 past) e) ∙ driver_goes here.actions here.made e
          ∙ ap (λ xs. driver_after xs (progress_of_first here.actions here.made) e.kind) shown.left
          ∙ ap (λ n. driver_after (actions_in script s) n e.kind) shown.made
      by_seat false own = ap (λ o. driver_of (agenda script o)) own ∙ driver_is (driver_of here) s.driver shown.left_is shown.made

  now_later : now_of (past ++ e ∷ []) ≡ now_after s.now e.kind
  now_later = now_of_push past e ∙ ap (λ n. now_after n e.kind) shown.now

  phase_later : phase_of (past ++ e ∷ []) ≡ phase_after s.phase e.kind
  phase_later = phase_of_push past e ∙ ap (λ p. phase_after p e.kind) shown.phase

  policy_later : policy_of (past ++ e ∷ []) ≡ policy_after s.policy e.kind
  policy_later = policy_of_push past e ∙ ap (λ p. policy_after p e.kind) shown.policy

  priority_later : (runner : ℕ) → priority_of script (past ++ e ∷ []) runner ≡ priority_after runner (priority_in script s runner) e.kind
  priority_later runner = priority_of_push script past e runner ∙ ap (λ p. priority_after runner p e.kind) (shown.priorities runner)

  -- ---- seats

  runs_later : (seat : ℕ) → running (past ++ e ∷ []) seat ≡ runs_after s e.seat e.kind seat
  runs_later seat = running_push past e seat ∙ ap (λ o. cond (eqb e.seat seat) (running_after o e.kind) o) (shown.runs seat)

  -- a seat that takes a task ran nothing
  taker_is_free : (task runner value seat : ℕ) → e.kind ≡ kinds.Take task runner value → eqb e.seat seat ≡ true → running past seat ≡ None
  taker_is_free task runner value seat is same =
      let free = (take_is script past e.seat task runner value (may_be (kinds.Take task runner value) is)).free in
      ap (running past) (sym (eqb-true e.seat seat same)) ∙ none_is (running past e.seat) (and_parts (is_none (running past e.seat)) _ free).0

  acts_later : (seat : ℕ) → acts_now (past ++ e ∷ []) seat ≡ (seat_after script s e.seat e.kind seat).acts
  acts_later seat =
      ap (λ n. cond (is_some (running (past ++ e ∷ []) seat)) n 0) (acts_done_push past e seat)
      ∙ ap (λ o. cond (is_some o) (cond (eqb e.seat seat) (acts_after (acts_done past seat) e.kind) (acts_done past seat)) 0) (running_push past e seat)
      ∙ kept (running past seat) (acts_done past seat) e.kind (eqb e.seat seat)
      ∙ ap (λ o. cond (is_some (cond (eqb e.seat seat) (running_after o e.kind) o)) (cond (eqb e.seat seat) (acts_after (acts_now past seat) e.kind)
      (acts_now past seat)) 0) (shown.runs seat)
      ∙ ap (λ n. cond (is_some (runs_after s e.seat e.kind seat)) (cond (eqb e.seat seat) (acts_after n e.kind) n) 0) (shown.acts seat)
    where
      kept : (o : Option Running) (n : ℕ) (kind : Kind) (b : Bool) → cond (is_some (cond b (running_after o kind) o)) (cond b (acts_after n kind) n) 0
          ≡ cond (is_some (cond b (running_after o kind) o)) (cond b (acts_after (cond (is_some o) n 0) kind) (cond (is_some o) n 0)) 0
      kept (Some w) n kind b = refl
      kept None n kind false = refl
      kept None n (kinds.Take task runner value) true = refl
      kept None n (kinds.MainTake task queue value) true = refl
      kept None n kind true = refl

  taken_later : (seat : ℕ) → taken_now script (past ++ e ∷ []) seat ≡ (seat_after script s e.seat e.kind seat).taken
  taken_later seat =
      ap (λ p. cond (is_some (running (past ++ e ∷ []) seat)) p None) (taken_with_push script past e seat)
      ∙ ap (λ o. cond (is_some o) (cond (eqb e.seat seat) (taken_after script past (taken_with script past seat) e.kind) (taken_with script past seat)) None)
      (running_push past e seat)
      ∙ kept (running past seat) (taken_with script past seat) e.kind (eqb e.seat seat)
      ∙ ap (λ o. cond (is_some (cond (eqb e.seat seat) (running_after o e.kind) o))
      (cond (eqb e.seat seat) (taken_by script s (taken_now script past seat) e.kind)
      (taken_now script past seat)) None) (shown.runs seat)
      ∙ ap (λ p. cond (is_some (runs_after s e.seat e.kind seat)) (cond (eqb e.seat seat) (taken_by script s p e.kind) p) None) (shown.taken seat)
    where
      by_script_says : (p : Option Priority) (kind : Kind) → taken_after script past p kind ≡ taken_by script s p kind
      by_script_says p (kinds.Take task runner value) = ap Some (shown.priorities runner)
      by_script_says p (kinds.MainTake task queue value) = refl
      by_script_says p (kinds.End task left) = refl
      by_script_says p (kinds.MainEnd task left) = refl
      by_script_says p kind = refl

      kept : (o : Option Running) (p : Option Priority) (kind : Kind) (b : Bool)
          → cond (is_some (cond b (running_after o kind) o)) (cond b (taken_after script past p kind) p) None
          ≡ cond (is_some (cond b (running_after o kind) o)) (cond b (taken_by script s (cond (is_some o) p None) kind) (cond (is_some o) p None)) None
      kept (Some w) p kind false = refl
      kept (Some w) p kind true = ap (λ q. cond (is_some (running_after (Some w) kind)) q None) (by_script_says p kind)
      kept None p kind false = refl
      kept None p (kinds.Take task runner value) true = ap Some (shown.priorities runner)
      kept None p (kinds.MainTake task queue value) true = refl
      kept None p kind true = refl

  scope_before : (seat : ℕ) (w : Running) → running (past ++ e ∷ []) seat ≡ Some w → scope_from script past w.task ≡ scope_in s seat
  scope_before seat w runs = by_seat (eqb e.seat seat) refl (sym (running_push past e seat) ∙ runs)
    where
      runs_on : (v : Running) → running past seat ≡ Some v → scope_from script past v.task ≡ scope_in s seat
      runs_on v is = rw is at (shown.scopes seat)

      nothing_open : running past seat ≡ None → None ≡ scope_in s seat
      nothing_open is = rw is at (shown.scopes seat)

      by_kind : eqb e.seat seat ≡ true → (kind : Kind) → e.kind ≡ kind → running_after (running past seat) kind ≡ Some w
          → scope_from script past w.task ≡ scope_in s seat
      by_kind same (kinds.Take task runner value) is after =
          subst (λ (v : Running). scope_from script past v.task ≡ scope_in s seat) (same_Some _ _ after)
          (no_scope script past sound pool legal task (takes_fresh script past e.seat e.kind false task may
          (ap (takes task) is ∙ eq-eqb task task refl)) ∙ nothing_open (taker_is_free task runner value seat is same))
      by_kind same (kinds.MainTake task queue value) is after =
          absurd (no_main_take script past sound pool e.seat task queue value (may_be (kinds.MainTake task queue value) is))
      by_kind same (kinds.End task left) is after = absurd (none-some w after)
      by_kind same (kinds.MainEnd task left) is after = absurd (none-some w after)
      by_kind same kind is after = runs_on w after

      by_seat : (b : Bool) → eqb e.seat seat ≡ b → cond b (running_after (running past seat) e.kind) (running past seat) ≡ Some w
          → scope_from script past w.task ≡ scope_in s seat
      by_seat true same after = by_kind same e.kind refl after
      by_seat false same after = runs_on w after

  scope_later : (seat : ℕ) → scope_now script (past ++ e ∷ []) seat ≡ (seat_after script s e.seat e.kind seat).scope
  scope_later seat = by_running (running (past ++ e ∷ []) seat) refl
    where
      by_running : (o : Option Running) → running (past ++ e ∷ []) seat ≡ o
          → scope_now script (past ++ e ∷ []) seat ≡ (seat_after script s e.seat e.kind seat).scope
      by_running None is = rw (is, sym (runs_later seat) ∙ is) refl
      by_running (Some w) is = rw (is, sym (runs_later seat) ∙ is)
          (scope_push script past e (rises_at script past e may) w.task
          ∙ ap (λ n. from_after script n (now_of (past ++ e ∷ [])) w.task (scope_from script past w.task) e.kind) shown.now
          ∙ ap (λ n. from_after script s.now n w.task (scope_from script past w.task) e.kind) now_later
          ∙ ap (λ o. from_after script s.now (now_after s.now e.kind) w.task o e.kind) (scope_before seat w is))

  -- the behaviour of a task that is taken
  taken_behaviour : (task runner value : ℕ) → e.kind ≡ kinds.Take task runner value → effective_now script past task ≡ behaviour_of_taken script s task runner
  taken_behaviour task runner value is =
      let t = taken_now_is script past sound pool legal e.seat task runner value (may_be (kinds.Take task runner value) is) in
      ap (option_map (λ (p : Posted). effective_at script p.home p.delay)) t.posted
      ∙ ap (λ h. Some (effective_at script h t.head.posted.delay)) t.home_is
      ∙ sym (rw (first_is script past s shown legal (sequence_of script runner task), t.is) refl)

  behaviour_later : (seat : ℕ) → behaviour_now script (past ++ e ∷ []) seat ≡ (seat_after script s e.seat e.kind seat).behaviour
  behaviour_later seat = by_seat (eqb e.seat seat) (running_push past e seat)
    where
      known_stays : (t : ℕ) (p : Posted) → post_of past t ≡ Some p → effective_now script (past ++ e ∷ []) t ≡ effective_now script past t
      known_stays t p is = effective_push script past e t ∙ rw is refl

      stays_on : running (past ++ e ∷ []) seat ≡ running past seat → behaviour_now script (past ++ e ∷ []) seat ≡ behaviour_in s seat
      stays_on runs = by_running (running past seat) refl
        where
          by_running : (o : Option Running) → running past seat ≡ o → behaviour_now script (past ++ e ∷ []) seat ≡ behaviour_in s seat
          by_running None is = let here = rw is at (shown.behaviours seat) in rw (runs ∙ is) here
          by_running (Some w) is =
              let p = runs_posted script past sound pool legal seat w is in
              let here = rw is at (shown.behaviours seat) in
              rw (runs ∙ is) (known_stays w.task p.0 p.1 ∙ here)

      by_kind : (kind : Kind) → e.kind ≡ kind → running (past ++ e ∷ []) seat ≡ running_after (running past seat) kind
          → behaviour_now script (past ++ e ∷ []) seat ≡ behaviour_by script s (behaviour_in s seat) kind
      by_kind (kinds.Take task runner value) is runs =
          let t = taken_now_is script past sound pool legal e.seat task runner value (may_be (kinds.Take task runner value) is) in
          rw runs (known_stays task t.head.posted t.posted ∙ taken_behaviour task runner value is)
      by_kind (kinds.MainTake task queue value) is runs =
          absurd (no_main_take script past sound pool e.seat task queue value (may_be (kinds.MainTake task queue value) is))
      by_kind (kinds.End task left) is runs = rw runs refl
      by_kind (kinds.MainEnd task left) is runs = rw runs refl
      by_kind kind is runs = stays_on runs

      by_seat : (b : Bool) → running (past ++ e ∷ []) seat ≡ cond b (running_after (running past seat) e.kind) (running past seat)
          → behaviour_now script (past ++ e ∷ []) seat ≡ cond b (behaviour_by script s (behaviour_in s seat) e.kind) (behaviour_in s seat)
      by_seat true runs = by_kind e.kind refl runs
      by_seat false runs = stays_on runs

  job_later : (seat : ℕ) → job_now (past ++ e ∷ []) seat ≡ (seat_after script s e.seat e.kind seat).job
  job_later seat = ap (option_map (λ (h : Holding). h.job)) (holding_push past e seat) ∙ by_seat (eqb e.seat seat)
      ∙ ap (λ o. cond (eqb e.seat seat) (job_after o e.kind) o) (shown.held seat)
    where
      by_seat : (b : Bool) → option_map (λ (h : Holding). h.job) (cond b (holding_after (holding past seat) e.kind) (holding past seat))
          ≡ cond b (job_after (job_now past seat) e.kind) (job_now past seat)
      by_seat true = job_of_holding (holding past seat) e.kind
      by_seat false = refl

  seat_later : (seat : ℕ) → seat_at script (past ++ e ∷ []) seat ≡ seat_after script s e.seat e.kind seat
  seat_later seat = seat_is (seat_at script (past ++ e ∷ []) seat) (seat_after script s e.seat e.kind seat) (runs_later seat) (acts_later seat)
      (taken_later seat) (scope_later seat) (behaviour_later seat) (job_later seat)

  -- ---- jobs and cells

  reply_later : (j : ℕ) → job_reply (past ++ e ∷ []) j ≡ reply_after j (reply_in s j) e.kind
  reply_later j = reply_push past e j ∙ ap (λ o. reply_after j o e.kind) (shown.replies j)

  cancels_later : (j : ℕ) → is_cancelled (past ++ e ∷ []) j ≡ (is_cancelled_in s j || cancels j e.kind)
  cancels_later j = is_cancelled_push past e j ∙ ap (λ b. b || cancels j e.kind) (shown.cancels j)

  claims_later : (j : ℕ) → claimed (past ++ e ∷ []) j ≡ claims_after s e.kind j
  claims_later j = claimed_push past e j ∙ ap (λ n. n + cond (claims j e.kind) 1 0) (shown.claims j)

  job_known_later : (j : ℕ) → job_at (past ++ e ∷ []) j ≡ job_known_after s e.kind j
  job_known_later j = rw (reply_later j, cancels_later j, claims_later j) refl

  open_later : (j : ℕ) → is_job_open script (past ++ e ∷ []) j ≡ is_open_after script s e.kind j
  open_later j = rw (cancels_later j, phase_later, claims_later j) refl

  cell_later : (i : ℕ) → i < length script.runners → cell_of script (past ++ e ∷ []) i ≡ cell_by script s e.seat e.kind i
  cell_later i within = cell_of_push script past e i ∙ ap (λ v. cell_after script i past v e.seat e.kind) (shown.cells i within) ∙ by_kind e.kind
    where
      by_kind : (kind : Kind) → cell_after script i past (cell_in s i) e.seat kind ≡ cell_by script s e.seat kind i
      by_kind (kinds.End task left) = ap (λ o. cond (holds_of (runs_of script i) o) left (cell_in s i)) (shown.runs e.seat)
      by_kind kind = refl

  -- ---- the line, and what is not ripe

  task_stays_later : (kind : Kind) (t home delay : ℕ) → (not (takes t kind) && not (forbids (phase_of (past ++ e ∷ [])) (effective_at script home delay)))
      ≡ (not (takes t kind) && not (forbids (phase_after s.phase e.kind) (effective_at script home delay)))
  task_stays_later kind t home delay = ap (λ p. not (takes t kind) && not (forbids p (effective_at script home delay))) phase_later

  stays_later : (w : Waiter) → stays script (phase_of (past ++ e ∷ [])) (claimed (past ++ e ∷ [])) e.kind w
      ≡ stays script (phase_after s.phase e.kind) (claims_after s e.kind) e.kind w
  stays_later (Task t home delay) = task_stays_later e.kind t home delay
  stays_later (OfJob j) =
      ap (λ p. not (cancels j e.kind) && not (forbids p (behaviour_of_job script j)) && nat_lt (claimed (past ++ e ∷ []) j) (items_of script j)) phase_later
      ∙ ap (λ n. not (cancels j e.kind) && not (forbids (phase_after s.phase e.kind) (behaviour_of_job script j)) && nat_lt n (items_of script j))
      (claims_later j)

  coming_later : (kind : Kind) → coming script (phase_of (past ++ e ∷ [])) (is_job_open script (past ++ e ∷ [])) (job_reply past) (unripe_of script past) kind
      ≡ coming script (phase_after s.phase e.kind) (is_open_after script s e.kind) (reply_in s) s.unripe kind
  coming_later (kinds.Post task runner delay true) = ap (λ p. cond (nat_lt 0 delay) []
      (cond (not (forbids p (effective_at script runner delay))) (Task task runner delay ∷ []) [])) phase_later
  coming_later (kinds.JobPost job ok) =
      ap (λ o. cond (is_none o && ok) (cond (is_job_open script (past ++ e ∷ []) job) (OfJob job ∷ []) []) []) (shown.replies job)
      ∙ ap (λ b. cond (is_none (reply_in s job) && ok) (cond b (OfJob job ∷ []) []) []) (open_later job)
  coming_later (kinds.Tick now) = ap (λ us. map waiter_of_unripe (filter (λ u. nat_le u.ripe now) us)) shown.unripe
  coming_later kind = refl

  line_later : line_of script (past ++ e ∷ []) ≡ line_after script s e.kind
  line_later = line_push script past e
      ∙ ap (λ ws. filter (stays script (phase_of (past ++ e ∷ [])) (claimed (past ++ e ∷ [])) e.kind) ws ++ newcomers script past e) shown.line
      ∙ ap (λ ws. ws ++ newcomers script past e) (filter_congr (stays script (phase_of (past ++ e ∷ [])) (claimed (past ++ e ∷ [])) e.kind)
      (stays script (phase_after s.phase e.kind) (claims_after s e.kind) e.kind) s.line stays_later)
      ∙ ap (λ ws. filter (stays script (phase_after s.phase e.kind) (claims_after s e.kind) e.kind) s.line ++ ws)
      (newcomers_are script past e (λ task runner delay is. (new_here task runner delay true is).not_taken) ∙ coming_later e.kind)

  unripe_later : unripe_of script (past ++ e ∷ []) ≡ unripe_after script s e.kind
  unripe_later =
      unripe_push script past e (legal_rises script past legal).no_tick_ahead (λ task runner delay is. (new_here task runner delay true is).not_taken)
      ∙ ap (λ us. put_in (new_unripe script (now_of past) (phase_of (past ++ e ∷ [])) e.kind)
      (filter (unripe_stays script (phase_of (past ++ e ∷ [])) e.kind) us)) shown.unripe
      ∙ ap (put_in (new_unripe script (now_of past) (phase_of (past ++ e ∷ [])) e.kind))
      (filter_congr (unripe_stays script (phase_of (past ++ e ∷ [])) e.kind) (unripe_stays script (phase_after s.phase e.kind) e.kind) s.unripe
      (λ u. ap (λ b. not (is_tick_from u.ripe e.kind) && b) (task_stays_later e.kind u.task u.home u.delay)))
      ∙ ap (λ n. put_in (new_unripe script n (phase_of (past ++ e ∷ [])) e.kind)
      (filter (unripe_stays script (phase_after s.phase e.kind) e.kind) s.unripe)) shown.now
      ∙ ap (λ p. put_in (new_unripe script s.now p e.kind) (filter (unripe_stays script (phase_after s.phase e.kind) e.kind) s.unripe)) phase_later

  -- ---- what shutdown waits for

  order : InOrder (posts past)
  order = (each_is_accepted_once script past sound.once.posted_once legal).pool

  -- of the task that ends: it runs on the seat, was posted, and its behaviour is that of the seat
  behaviour_is : (seat : ℕ) (w : Running) (p : Posted) → running past seat ≡ Some w → post_of past w.task ≡ Some p
      → behaviour_in s seat ≡ Some (effective_at script p.home p.delay)
  behaviour_is seat w p runs posted = sym (rw (runs, posted) at (shown.behaviours seat))

  blocks_later : open_blocks script (past ++ e ∷ []) ≡ blocks_after script s e.seat e.kind
  blocks_later = by_kind e.kind refl
    where
      quiet : moves_open_blocks e.kind ≡ false → open_blocks script (past ++ e ∷ []) ≡ s.blocks
      quiet h = open_blocks_same script past e h ∙ shown.blocks

      by_kind : (kind : Kind) → e.kind ≡ kind → open_blocks script (past ++ e ∷ []) ≡ blocks_after script s e.seat kind
      by_kind (kinds.Post task runner delay true) is =
          open_blocks_at_post script past e task runner delay is (new_here task runner delay true is).not_ended
          ∙ ap (λ n. n + share (is_block (effective_at script runner delay))) shown.blocks
      by_kind (kinds.End task left) is =
          let w = end_is script past e.seat task left (may_be (kinds.End task left) is) in
          let p = runs_posted script past sound pool legal e.seat w.0 w.1 in
          let ends = open_blocks_at_end script past e p.0 task left is order (ap (post_of past) (sym w.3) ∙ p.1) (ap (is_ended past) (sym w.3) ∙ p.3) in
          omega (arith, ends, shown.blocks, ap (λ o. share (holds_of is_block o)) (behaviour_is e.seat w.0 p.0 w.1 p.1))
      by_kind kind is = quiet (ap moves_open_blocks is)

  skips_later : running_skips script (past ++ e ∷ []) ≡ skips_after script s e.seat e.kind
  skips_later = by_kind e.kind refl
    where
      quiet : moves_running_skips e.kind ≡ false → running_skips script (past ++ e ∷ []) ≡ s.skips
      quiet h = running_skips_same script past e h ∙ shown.skips

      by_kind : (kind : Kind) → e.kind ≡ kind → running_skips script (past ++ e ∷ []) ≡ skips_after script s e.seat kind
      by_kind (kinds.Post task runner delay true) is =
          running_skips_at_post script past e task runner delay is (new_here task runner delay true is).not_taken ∙ shown.skips
      by_kind (kinds.Take task runner value) is =
          let t = taken_now_is script past sound pool legal e.seat task runner value (may_be (kinds.Take task runner value) is) in
          let fresh = takes_fresh script past e.seat e.kind false task may (ap (takes task) is ∙ eq-eqb task task refl) in
          let takes_it = running_skips_at_take script past e t.head.posted task runner value is order t.posted fresh
          (singly_unended script past false task (legal_is_consistent script past legal false) fresh) in
          let behaviour = ap (option_map (λ (p : Posted). effective_at script p.home p.delay)) (sym t.posted) ∙ taken_behaviour task runner value is in
          omega (arith, takes_it, shown.skips, ap (λ o. share (holds_of is_skip o)) behaviour)
      by_kind (kinds.End task left) is =
          let w = end_is script past e.seat task left (may_be (kinds.End task left) is) in
          let p = runs_posted script past sound pool legal e.seat w.0 w.1 in
          let ends = running_skips_at_end script past e p.0 task left is order (ap (post_of past) (sym w.3) ∙ p.1) (ap (is_taken past) (sym w.3) ∙ p.2)
          (ap (is_ended past) (sym w.3) ∙ p.3) in
          omega (arith, ends, shown.skips, ap (λ o. share (holds_of is_skip o)) (behaviour_is e.seat w.0 p.0 w.1 p.1))
      by_kind kind is = quiet (ap moves_running_skips is)

  -- ---- all together

  pub after_is : situation_of script (past ++ e ∷ []) ≡ after_in script s e.seat e.kind
  unfolding after_in
  after_is = situation_is (situation_of script (past ++ e ∷ [])) (after_in script s e.seat e.kind) driver_later now_later phase_later policy_later
      (map-congr_in (priority_of script (past ++ e ∷ [])) (λ r. priority_after r (priority_in script s r) e.kind) (range_with_len 0 (length script.runners))
      (AllByRecursion-always (λ r. priority_of script (past ++ e ∷ []) r ≡ priority_after r (priority_in script s r) e.kind)
      (range_with_len 0 (length script.runners)) priority_later))
      (map-congr_in (seat_at script (past ++ e ∷ [])) (seat_after script s e.seat e.kind) (all_seats script)
      (AllByRecursion-always (λ i. seat_at script (past ++ e ∷ []) i ≡ seat_after script s e.seat e.kind i) (all_seats script) seat_later))
      line_later unripe_later
      (map-congr_in (job_at (past ++ e ∷ [])) (job_known_after s e.kind) (range_with_len 0 (length script.jobs))
      (AllByRecursion-always (λ j. job_at (past ++ e ∷ []) j ≡ job_known_after s e.kind j) (range_with_len 0 (length script.jobs)) job_known_later))
      (map-congr_in (cell_of script (past ++ e ∷ [])) (cell_by script s e.seat e.kind) (range_with_len 0 (length script.runners))
      (AllByRecursion-range (λ i. cell_of script (past ++ e ∷ []) i ≡ cell_by script s e.seat e.kind i) 0 (length script.runners)
      (λ i from to. cell_later i (omega (arith, to)))))
      blocks_later skips_later
