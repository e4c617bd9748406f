-- What comes next in a situation of a legal past keeps each count within its type.
-- Cited by `after`.
use Rattle.std.proofs.Common.{◌≡◌, ℕ, ◌+◌, ◌≤◌, Bool, true, false, cond, eqb, leb, List, [], ◌∷◌, ◌++◌, length, refl, sym, subst, ◌∙◌}
use Rattle.std.proofs.Common.{Option, Some, None, ⊎_elim, arith}
use Rattle.std.specs.Prelude.{◌&&◌, is_some}
use Rattle.std.specs.Option.{option_map_or}
use Rattle.std.proofs.lemmas.Bool.{and_parts, or_cases, eqb-true, leb-true}
use Rattle.std.proofs.lemmas.List.{length-append}
use Rattle.task_base.specs.Plan.{Plan}
use Rattle.task_base.specs.declared.limits.TheConstants.{LAST_MOMENT, MOST_EVENTS, MOST_MICROSECONDS}
use Rattle.task_base.specs.declared.entry.Entry.{Entry}
use Rattle.task_base.specs.declared.entry.JobReply.TheVariants.{Finished}
use Rattle.task_base.specs.declared.entry.Kind.{Kind}
use Rattle.task_base.specs.declared.entry.Kind.TheVariants as kinds
use Rattle.task_base.specs.declared.script.Action.{Action}
use Rattle.task_base.specs.declared.script.Action.TheVariants as actions
use Rattle.task_base.specs.declared.step.Step.{Step}
use Rattle.task_base.specs.declared.step.Step.TheVariants as steps
use Rattle.list_laws.proofs.Counts.{count_le}
use Rattle.list_laws.proofs.Elements.{push_induction}
use Rattle.script_model.specs.Laws.Sound.{IsActionSound, IsSound, IsStepWithin}
use Rattle.task_model.specs.Blockers.{is_open_block, is_running_skip}
use Rattle.task_model.specs.Jobs.{claimed, claims}
use Rattle.task_model.specs.Past.{fold_past}
use Rattle.task_model.specs.Posts.{posts, posted_by}
use Rattle.task_model.specs.Refusal.{is_refused}
use Rattle.task_model.specs.Seats.{acts_after, acts_done, running}
use Rattle.task_model.specs.Time.{now_after, now_of}
use Rattle.task_model.proofs.Growth.{acts_done_push, now_of_push, posts_push}
use Rattle.hist_model.specs.Allowed.{by_script, by_task, enters, is_reply, may_come}
use Rattle.hist_model.specs.Legal.{IsLegal}
use Rattle.hist_model.specs.Script.{behind_action, is_main_end, wants}
use Rattle.hist_model.specs.Views.{own_entries}
use Rattle.hist_model.specs.Laws.Agenda.{agenda, agenda_from, completes, next_agenda}
use Rattle.hist_model.proofs.Laws.Agenda.{action_behind_nothing, agenda_push}
use Rattle.hist_model.proofs.Laws.BySound.{entered_soundly, wanted_soundly}
use Rattle.hist_model.proofs.Laws.Entries.Bound.{entries_within_limit}
use Rattle.hist_model.proofs.Laws.Legal.{entry_induction}
use Rattle.hist_model.proofs.Laws.Open.{closed_post}
use Rattle.situation.specs.Alike.{without_items}
use Rattle.situation.specs.Situation.{acts_now, agenda_after_past, progress, progress_of_first, situation_of}
use Rattle.log_count.proofs.Shows.{Shows, shows}
use Rattle.situation.specs.Situation.{Situation}
use Rattle.situation_after.specs.ComesNext.{ComesNext}
use Rattle.situation_after.specs.Counted.{FitsOnward, RipeFits}

-- ---- how much the driver has made of an action

none_made : (xs : List Action) → length (agenda_from xs []).made ≤ 0
none_made [] = omega arith
none_made (x ∷ rest) = by_part (behind_action x []) refl (none_made rest)
  where
    by_part : (o : Option (List Entry)) → behind_action x [] ≡ o → length (agenda_from rest []).made ≤ 0
        → length (option_map_or (λ left. agenda_from rest left) o (record { actions = x ∷ rest; made = [] })).made ≤ 0
    by_part None is later = omega arith
    by_part (Some left) is later = rw (action_behind_nothing x left is) later

one_made : (xs : List Action) (made : List Entry) (e : Entry) → length (next_agenda xs made e).made ≤ length made + 1
one_made [] made e = omega (arith, length-append made (e ∷ []))
one_made (x ∷ rest) made e = by_test (completes x made e.kind)
  where
    by_test : (b : Bool) → length (cond b (agenda_from rest []) (record { actions = x ∷ rest; made = made ++ e ∷ [] })).made ≤ length made + 1
    by_test true = omega (arith, none_made rest)
    by_test false = omega (arith, length-append made (e ∷ []))

made_within : (script : Plan) (own : List Entry) → length (agenda script own).made ≤ length own
unfolding agenda
made_within script = push_induction (λ own. length (agenda script own).made ≤ length own) (none_made script.actions)
    (λ own e known. rw (agenda_push script own e)
    (omega (arith, one_made (agenda script own).actions (agenda script own).made e, known, length-append own (e ∷ []))))

progress_within : (x : Action) (made : List Entry) → progress x made ≤ length made
progress_within (actions.Pump n) made = count_le (λ e. is_main_end e.kind) made
progress_within action made = omega arith

first_within : (xs : List Action) (made : List Entry) → progress_of_first xs made ≤ length made
first_within [] made = omega arith
first_within (x ∷ rest) made = progress_within x made

-- ---- acts and posts

one_act : (n : ℕ) (kind : Kind) → acts_after n kind ≤ n + 1
one_act n (kinds.Take task runner found) = omega arith
one_act n kind = omega arith

acts_within : (past : List Entry) (seat : ℕ) → acts_done past seat ≤ length past
unfolding acts_done
acts_within past seat = push_induction (λ before. acts_done before seat ≤ length before) (omega arith)
    (λ before e known. rw (acts_done_push before e seat) (by_seat before e (eqb e.seat seat) known)) past
  where
    by_seat : (before : List Entry) (e : Entry) (b : Bool) → acts_done before seat ≤ length before
        → cond b (acts_after (acts_done before seat) e.kind) (acts_done before seat) ≤ length (before ++ e ∷ [])
    by_seat before e true known = omega (arith, one_act (acts_done before seat) e.kind, known, length-append before (e ∷ []))
    by_seat before e false known = omega (arith, known, length-append before (e ∷ []))

one_post : (before : List Entry) (kind : Kind) → length (posted_by before kind) ≤ 1
one_post before (kinds.Post task runner delay true) = omega arith
one_post before (kinds.Post task runner delay false) = omega arith
one_post before kind = omega arith

posts_within : (past : List Entry) → length (posts past) ≤ length past
unfolding posts fold_past
posts_within past = push_induction (λ before. length (posts before) ≤ length before) (omega arith)
    (λ before e known. rw (posts_push before e) (omega (
      arith,
      length-append (posts before) (posted_by before e.kind),
      one_post before e.kind,
      known,
      length-append before (e ∷ []),
    ))) past

-- ---- moments

now_within : (script : Plan) (past : List Entry) → IsLegal script past → now_of past ≤ LAST_MOMENT
unfolding now_of may_come
now_within script = entry_induction script (λ past. now_of past ≤ LAST_MOMENT) (omega arith)
    (λ past e known may within. rw (now_of_push past e) (next past e.seat e.kind may within))
  where
    next : (past : List Entry) (seat : ℕ) (kind : Kind) → may_come script past seat kind ≡ true → now_of past ≤ LAST_MOMENT
        → now_after (now_of past) kind ≤ LAST_MOMENT
    next past seat (kinds.Tick now) may within = leb-true now LAST_MOMENT (and_parts _ (leb now LAST_MOMENT) may).1
    next past seat kind may within = within

wanted_delay : (script : Plan) (own : List Entry) (action : Action) (made : List Entry) (task runner delay : ℕ) (ok : Bool) → IsActionSound script action
    → wants own action made (kinds.Post task runner delay ok) ≡ true → delay ≤ MOST_MICROSECONDS
wanted_delay script own (actions.Post t r d) made task runner delay ok sound h =
    omega (arith, sound.1, eqb-true delay d (and_parts (eqb task t && eqb runner r) (eqb delay d) h).1)
wanted_delay script own action made task runner delay ok sound h = absurd cc

entered_delay : (t : ℕ) (step : Step) (task runner delay : ℕ) (ok : Bool) → IsStepWithin step → enters t step (kinds.Post task runner delay ok) ≡ true
    → delay ≤ MOST_MICROSECONDS
entered_delay t (steps.Post u r d) task runner delay ok within h =
    omega (arith, within, eqb-true delay d (and_parts (eqb task u && eqb runner r) (eqb delay d) h).1)
entered_delay t step task runner delay ok within h = absurd cc

module _ (script : Plan) (past : List Entry) (sound : IsSound script) (legal : IsLegal script past) where
  posted_delay : (seat task runner delay : ℕ) (ok : Bool) → may_come script past seat (kinds.Post task runner delay ok) ≡ true → delay ≤ MOST_MICROSECONDS
  unfolding may_come
  posted_delay seat task runner delay ok may =
      let now = sym (closed_post script past seat task runner delay ok sound.closed) ∙ may in
      ⊎_elim
      (λ wanted. let by = wanted_soundly script past seat (kinds.Post task runner delay ok) sound wanted in
      wanted_delay script (own_entries 0 past) by.action by.made task runner delay ok by.sound by.wanted)
      (λ entered. let by = entered_soundly script past seat (kinds.Post task runner delay ok) sound entered in
      entered_delay by.now.task by.step task runner delay ok by.within by.entered)
      (or_cases (by_script script past seat (kinds.Post task runner delay ok)) (by_task script past seat (kinds.Post task runner delay ok))
      (and_parts _ (is_reply (is_refused script past runner delay) ok) now).0)

  ripe_fits : (seat : ℕ) (kind : Kind) → may_come script past seat kind ≡ true → RipeFits (now_of past) (without_items kind)
  ripe_fits seat (kinds.Post task runner delay ok) may =
      omega (arith, now_within script past legal, posted_delay seat task runner delay ok may)
  ripe_fits seat (kinds.Joined job (Finished sum)) may = tt
  ripe_fits seat (kinds.Joined job reply) may = tt
  ripe_fits seat kind may = tt

  -- ---- all together

  few : length past ≤ MOST_EVENTS
  few = entries_within_limit script past sound legal

  shown : Shows script past (situation_of script past)
  shown = shows script past sound legal

  acts_few : (seat : ℕ) → acts_now past seat ≤ length past
  acts_few seat = by_running (is_some (running past seat))
    where
      by_running : (b : Bool) → cond b (acts_done past seat) 0 ≤ length past
      by_running true = acts_within past seat
      by_running false = omega arith

  claims_few : (job : ℕ) → claimed past job ≤ length past
  unfolding claimed
  claims_few job = count_le (λ e. claims job e.kind) past

  fits_here : (seat : ℕ) (kind : Kind) → may_come script past seat kind ≡ true → FitsOnward script (situation_of script past) (without_items kind)
  fits_here seat kind may = record {
    workers = omega (arith, sound.config.few_workers);
    runners = omega (arith, sound.limits.few_runners);
    jobs = omega (arith, sound.limits.few_jobs);
    made = omega (
      arith,
      few,
      first_within (agenda_after_past script past).actions (agenda_after_past script past).made,
      made_within script (own_entries 0 past),
      count_le (λ (e : Entry). eqb e.seat 0) past,
    );
    acts = λ at. omega (arith, few, acts_few at, shown.acts at);
    moment = omega (arith, now_within script past legal, sound.config.threshold_within);
    ripe = ripe_fits seat kind may;
    claims = λ job. omega (arith, few, claims_few job, shown.claims job);
    blocks = omega (arith, few, posts_within past, count_le (is_open_block script past) (posts past));
    skips = omega (arith, few, posts_within past, count_le (is_running_skip script past) (posts past));
  }

pub fits_onward : (script : Plan) (s : Situation) (seat : ℕ) (kind : Kind) → ComesNext script s seat kind → FitsOnward script s kind
fits_onward script s seat kind c =
    let now = c.reached in
    let here = fits_here script now.past now.sound now.legal c.entry.seat c.entry.kind (and_parts _ (may_come script now.past c.entry.seat c.entry.kind)
    c.allowed).1 in
    subst (λ x. FitsOnward script x kind) now.same (subst (FitsOnward script (situation_of script now.past)) c.kind_is here)
