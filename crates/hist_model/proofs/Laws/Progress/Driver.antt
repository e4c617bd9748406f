-- What the driver's actions have left in a legal past: each job that was started is posted, shutdown is done only where an
-- action shut down, and a cancel or a shutdown that has begun has made its first entry.
-- Cited by `Laws/Due`, `Laws/Progress/Ways`, `env_step`.
use Rattle.std.proofs.Common.{◌≡◌, ℕ, ◌+◌, Bool, true, false, cond, eqb, List, [], ◌∷◌, ◌++◌, length, refl, sym}
use Rattle.std.proofs.Common.{ap, subst, ◌∙◌, append_assoc, Option, Some, None, inl, inr, ⊎_elim}
use Rattle.std.specs.Prelude.{◌⊎◌, ◌||◌, is_some, slice_get, take}
use Rattle.std.specs.List.{list_any, AllByRecursion}
use Rattle.std.specs.Option.{option_map_or}
use Rattle.std.proofs.Math.Seq.{take-append_seam}
use Rattle.std.proofs.lemmas.Bool.{and_parts, or_cases, or_left, or_right, eqb-true, both_ways}
use Rattle.std.proofs.lemmas.List.Folds.{list_any-append}
use Rattle.std.proofs.lemmas.Option.{none-some, same_Some}
use Rattle.task_base.specs.Plan.{Plan}
use Rattle.task_base.specs.declared.entry.Entry.{Entry}
use Rattle.task_base.specs.declared.entry.Kind.{Kind}
use Rattle.task_base.specs.declared.entry.Kind.TheVariants as kinds
use Rattle.task_base.specs.declared.script.Action.{Action}
use Rattle.task_base.specs.declared.script.Action.TheVariants as actions
use Rattle.task_traits.specs.declared.phase.Phase.{Phase}
use Rattle.task_traits.specs.declared.phase.Phase.TheVariants as phases
use Rattle.list_laws.proofs.Elements.{AllByRecursion-at, AllByRecursion-map}
use Rattle.list_laws.proofs.Places.{slice_get_seam}
use Rattle.list_laws.proofs.Tests.{list_any_none}
use Rattle.script_model.specs.Laws.Sound.{IsSound, IsActionSound, IsInOrder}
use Rattle.script_model.specs.Draft.{is_start_of, is_shutdown}
use Rattle.task_model.specs.Phase.{phase_of, phase_after, is_started}
use Rattle.task_model.specs.Jobs.{JobPosted, job_post_of, job_post_after, is_cancelled, cancels}
use Rattle.task_model.proofs.Growth.{phase_of_push, job_post_of_push, is_cancelled_push}
use Rattle.hist_model.specs.Views.{own_entries}
use Rattle.hist_model.specs.Open.{IsClosed}
use Rattle.hist_model.specs.Script.{behind_action, Current, current_from, current, wants}
use Rattle.hist_model.specs.Allowed.{by_script, may_come}
use Rattle.hist_model.specs.Legal.{IsLegal}
use Rattle.hist_model.specs.Laws.Agenda.{Agenda, agenda_from, agenda, first_of, completes, next_agenda}
use Rattle.hist_model.specs.Laws.Consistent.{is_pump, is_join, DoesOneThing}
use Rattle.hist_model.proofs.Laws.Agenda.{current_is_first, agenda_push, action_behind_nothing}
use Rattle.hist_model.proofs.Laws.Legal.{legal_induction}
use Rattle.hist_model.proofs.Laws.OneThing.{wanted_by, legal_does_one_thing}
use Rattle.hist_model.proofs.Laws.Own.{own_entries_push}
use Rattle.hist_model.proofs.Laws.Takes.{by_driver}
use Rattle.hist_model.proofs.Laws.Progress.Coming.{driver_wants}

-- what an action has left that has made some entries but not all
abbrev Begun : List Entry → Action → Type 0
Begun past (actions.Cancel j) = is_cancelled past j ≡ true
Begun past actions.Shutdown = phase_of past ≡ phases.Running → ⊥
Begun past action = Unit {0}

-- what the actions before the current one have left, and what the current one has
record Leaves (script : Plan) (past : List Entry) (a : Agenda) : Type 0 where
  front : List Action
  parts : script.actions ≡ front ++ a.actions
  posted : (j : ℕ) → list_any (is_start_of j) front ≡ true → is_some (job_post_of past j) ≡ true
  done_by : phase_of past ≡ phases.Done → list_any is_shutdown front ≡ true
  begun : (x : Action) (rest : List Action) → a.actions ≡ x ∷ rest → (a.made ≡ [] → ⊥) → Begun past x

-- a job that was posted stays posted
stays_posted : (past : List Entry) (e : Entry) (j : ℕ) → is_some (job_post_of past j) ≡ true → is_some (job_post_of (past ++ e ∷ []) j) ≡ true
stays_posted past e j is = rw (job_post_of_push past e j) (by_job_post (job_post_of past j) is)
  where
    by_job_post : (now : Option JobPosted) → is_some now ≡ true → is_some (job_post_after j past now e.kind) ≡ true
    by_job_post None h = absurd cc
    by_job_post (Some p) h = refl

-- what was begun stays so
stays_begun : (past : List Entry) (e : Entry) (x : Action) → Begun past x → Begun (past ++ e ∷ []) x
stays_begun past e (actions.Cancel j) begun = is_cancelled_push past e j ∙ or_left (is_cancelled past j) (cancels j e.kind) begun
stays_begun past e actions.Shutdown begun = λ running_still. begun (before (phase_of past) e.kind (sym (phase_of_push past e) ∙ running_still))
  where
    before : (now : Phase) (kind : Kind) → phase_after now kind ≡ phases.Running → now ≡ phases.Running
    before phases.Running kind h = refl
    before phases.Started kinds.Shutdown h = absurd cc
    before phases.Started kinds.Done h = absurd cc
    before phases.Started kind h = h
    before phases.Done kinds.Shutdown h = absurd cc
    before phases.Done kinds.Done h = absurd cc
    before phases.Done kind h = h
stays_begun past e action begun = tt

-- shutdown is done by its own entry alone
done_now : (now : Phase) (kind : Kind) → phase_after now kind ≡ phases.Done → (now ≡ phases.Done) ⊎ (kind ≡ kinds.Done)
done_now phases.Running kinds.Shutdown h = absurd cc
done_now phases.Started kinds.Shutdown h = absurd cc
done_now phases.Done kinds.Shutdown h = inl refl
done_now now kinds.Done h = inr refl
done_now now kind h = inl h

-- the script wants it
done_is_wanted : (script : Plan) (past : List Entry) (seat : ℕ) (kind : Kind) → may_come script past seat kind ≡ true → kind ≡ kinds.Done
    → by_script script past seat kinds.Done ≡ true
unfolding may_come
done_is_wanted script past seat kind may is = (and_parts (by_script script past seat kinds.Done) (is_started (phase_of past))
    (and_parts _ _ (ap (may_come script past seat) (sym is) ∙ may)).0).0

-- of the action that shuts down, which it completes
done_shuts : (own : List Entry) (x : Action) (made : List Entry) → wants own x made kinds.Done ≡ true
    → (is_shutdown x ≡ true) × (completes x made kinds.Done ≡ true)
done_shuts own actions.Shutdown made h = let one : length made ≡ 1 = eqb-true (length made) 1 h in (refl, rw one refl)
done_shuts own x made h = absurd cc

-- an action that starts a job posts it
start_posts : (own : List Entry) (x : Action) (made past : List Entry) (j : ℕ) (kind : Kind) (now : Option JobPosted) → is_start_of j x ≡ true
    → wants own x made kind ≡ true → is_some (job_post_after j past now kind) ≡ true
start_posts own (actions.StartJob i) made past j (kinds.JobPost job ok) None start h =
    rw (eqb-true job i h, start) refl
start_posts own (actions.StartJob i) made past j kind (Some p) start h = refl
start_posts own (actions.StartJob i) made past j kind None start h = absurd cc
start_posts own x made past j kind now start h = absurd cc

start_alone : (x : Action) (j : ℕ) → is_start_of j x ≡ true → (is_pump x ≡ false) × (is_join x ≡ false)
start_alone (actions.StartJob i) j h = (refl, refl)
start_alone x j h = absurd cc

-- a cancel and a shutdown begin with their first entry
begins : (past : List Entry) (e : Entry) (own : List Entry) (x : Action) (made : List Entry) → completes x made e.kind ≡ false
    → (is_pump x ≡ false → is_join x ≡ false → wants own x made e.kind ≡ true) → Begun (past ++ e ∷ []) x
begins past e own (actions.Cancel j) made goes_on wanted = is_cancelled_push past e j ∙ by_kind e.kind goes_on (wanted refl refl)
  where
    two : (n : ℕ) → eqb n 1 ≡ true → eqb (n + 1) 2 ≡ false → ⊥
    two n h k = both_ways (eqb (n + 1) 2) k (ap (λ m. eqb (m + 1) 2) (eqb-true n 1 h))

    by_kind : (kind : Kind) → completes (actions.Cancel j) made kind ≡ false → wants own (actions.Cancel j) made kind ≡ true
        → (is_cancelled past j || cancels j kind) ≡ true
    by_kind (kinds.JobCancel job) k h = or_right (is_cancelled past j) (eqb job j) (and_parts (eqb job j) (eqb (length made) 0) h).0
    by_kind (kinds.Cancelled job) k h = absurd (two (length made) (and_parts (eqb job j) (eqb (length made) 1) h).1 k)
    by_kind kind k h = absurd cc
begins past e own actions.Shutdown made goes_on wanted = λ still. by_phase (phase_of past) e.kind (wanted refl refl) (sym (phase_of_push past e) ∙ still)
  where
    by_phase : (now : Phase) (kind : Kind) → wants own actions.Shutdown made kind ≡ true → phase_after now kind ≡ phases.Running → ⊥
    by_phase phases.Running kinds.Shutdown h k = absurd cc
    by_phase phases.Started kinds.Shutdown h k = absurd cc
    by_phase phases.Done kinds.Shutdown h k = absurd cc
    by_phase now kinds.Done h k = absurd cc
    by_phase now kind h k = absurd cc
begins past e own x made goes_on wanted = tt

-- ---- the actions that are passed over

-- the action starts no job
abbrev IsPlain : Action → Type 0
IsPlain x = (j : ℕ) → is_start_of j x ≡ false

-- actions that need no entry start none
needs_none : (x : Action) (left : List Entry) → behind_action x [] ≡ Some left → IsPlain x
needs_none (actions.StartJob j) left h = absurd cc
needs_none x left h = λ j. refl

-- an agenda that has made nothing begins behind actions that start no job, and its first action has made nothing
record Skips (xs : List Action) : Type 0 where
  skipped : List Action
  parts : xs ≡ skipped ++ (agenda_from xs []).actions
  plain : AllByRecursion IsPlain skipped
  none_made : (agenda_from xs []).made ≡ []

skips : (xs : List Action) → Skips xs
skips [] = record { skipped = []; parts = refl; plain = tt; none_made = refl }
skips (x ∷ xs) = by_behind_action (behind_action x []) refl (skips xs)
  where
    begun : Option (List Entry) → Agenda
    begun o = option_map_or (λ left. agenda_from xs left) o (record { actions = x ∷ xs; made = [] })

    by_behind_action : (o : Option (List Entry)) → behind_action x [] ≡ o → Skips xs → Skips (x ∷ xs)
    by_behind_action None is rest = record {
      skipped = [];
      parts = ap (λ p. (begun p).actions) (sym is);
      plain = tt;
      none_made = ap (λ p. (begun p).made) is;
    }
    by_behind_action (Some left) is rest =
        let here : behind_action x [] ≡ Some [] = is ∙ ap Some (action_behind_nothing x left is) in
        record {
          skipped = x ∷ rest.skipped;
          parts = ap (λ ys. x ∷ ys) rest.parts ∙ ap (λ p. x ∷ (rest.skipped ++ (begun p).actions)) (sym here);
          plain = (needs_none x left is, rest.plain);
          none_made = ap (λ p. (begun p).made) here ∙ rest.none_made;
        }

-- none of them starts a job
none_started : (xs : List Action) → AllByRecursion IsPlain xs → (j : ℕ) → list_any (is_start_of j) xs ≡ false
none_started xs plain j = list_any_none (is_start_of j) xs (AllByRecursion-map IsPlain (λ x. is_start_of j x ≡ false) xs (λ x is. is j) plain)

-- ---- one entry more

-- an entry of a worker
other_leaves : (script : Plan) (past : List Entry) (e : Entry) (a : Agenda) → may_come script past e.seat e.kind ≡ true → eqb e.seat 0 ≡ false
    → Leaves script past a → Leaves script (past ++ e ∷ []) a
other_leaves script past e a may other l = record {
  front = l.front;
  parts = l.parts;
  posted = λ j start. stays_posted past e j (l.posted j start);
  done_by = λ done. by_side (done_now (phase_of past) e.kind (sym (phase_of_push past e) ∙ done));
  begun = λ x rest is some. stays_begun past e x (l.begun x rest is some);
}
  where
    by_side : (phase_of past ≡ phases.Done) ⊎ (e.kind ≡ kinds.Done) → list_any is_shutdown l.front ≡ true
    by_side (inl before) = l.done_by before
    by_side (inr now) = absurd (both_ways (eqb e.seat 0) other (ap (λ n. eqb n 0) (by_driver script past e.seat kinds.Done
        (done_is_wanted script past e.seat e.kind may now))))

-- an entry of the driver, with the actions that it has left
own_leaves : (script : Plan) (past : List Entry) (e : Entry) (xs : List Action) (made : List Entry) → IsClosed script → may_come script past 0 e.kind ≡ true
    → DoesOneThing script past → current script (own_entries 0 past) ≡ first_of xs made → Leaves script past (record { actions = xs; made = made })
    → Leaves script (past ++ e ∷ []) (next_agenda xs made e)
own_leaves script past e [] made closed may one is l = record {
  front = l.front;
  parts = l.parts;
  posted = λ j start. stays_posted past e j (l.posted j start);
  done_by = λ done. by_side (done_now (phase_of past) e.kind (sym (phase_of_push past e) ∙ done));
  begun = λ x rest none some. absurd cc;
}
  where
    by_side : (phase_of past ≡ phases.Done) ⊎ (e.kind ≡ kinds.Done) → list_any is_shutdown l.front ≡ true
    by_side (inl before) = l.done_by before
    by_side (inr now) = let v = wanted_by script past 0 kinds.Done closed (done_is_wanted script past 0 e.kind may now) in
        absurd (none-some v.value (sym is ∙ v.is))
own_leaves script past e (x ∷ xs) made closed may one is l = by_completes (completes x made e.kind) refl
  where
    own : List Entry
    own = own_entries 0 past

    later : List Entry
    later = past ++ e ∷ []

    wanted : is_pump x ≡ false → is_join x ≡ false → wants own x made e.kind ≡ true
    wanted no_pump no_join = driver_wants script past e.kind (record { action = x; made = made }) closed may one is no_pump no_join

    shuts : e.kind ≡ kinds.Done → (is_shutdown x ≡ true) × (completes x made e.kind ≡ true)
    shuts now =
        let v = wanted_by script past 0 kinds.Done closed (done_is_wanted script past 0 e.kind may now) in
        let w : wants own x made kinds.Done ≡ true = subst (λ (c : Current). wants own c.action c.made kinds.Done ≡ true)
        (same_Some v.value (record { action = x; made = made }) (sym v.is ∙ is)) v.passes in
        let both = done_shuts own x made w in
        (both.0, ap (completes x made) now ∙ both.1)

    goes_on : completes x made e.kind ≡ false → Leaves script later (record { actions = x ∷ xs; made = made ++ e ∷ [] })
    goes_on short = record {
      front = l.front;
      parts = l.parts;
      posted = λ j start. stays_posted past e j (l.posted j start);
      done_by = λ done. ⊎_elim l.done_by (λ now. absurd (both_ways (completes x made e.kind) short (shuts now).1))
          (done_now (phase_of past) e.kind (sym (phase_of_push past e) ∙ done));
      begun = λ y rest same some. subst (Begun later) (first_is same) (begins past e own x made short wanted);
    }
      where
        first_is : {y : Action} {rest : List Action} → ◌≡◌ {A = List Action} (x ∷ xs) (y ∷ rest) → x ≡ y
        first_is same = cc

    ends : completes x made e.kind ≡ true → Leaves script later (agenda_from xs [])
    ends full = record {
      front = l.front ++ x ∷ s.skipped;
      parts = l.parts ∙ ap (λ ys. l.front ++ x ∷ ys) s.parts ∙ sym (append_assoc l.front (x ∷ s.skipped) (agenda_from xs []).actions);
      posted = posted;
      done_by = λ done. list_any-append is_shutdown l.front (x ∷ s.skipped) ∙ ⊎_elim
          (λ before. or_left (list_any is_shutdown l.front) (list_any is_shutdown (x ∷ s.skipped)) (l.done_by before))
          (λ now. or_right (list_any is_shutdown l.front) (list_any is_shutdown (x ∷ s.skipped))
          (or_left (is_shutdown x) (list_any is_shutdown s.skipped) (shuts now).0))
          (done_now (phase_of past) e.kind (sym (phase_of_push past e) ∙ done));
      begun = λ y rest same some. absurd (some s.none_made);
    }
      where
        s : Skips xs
        s = skips xs

        posted : (j : ℕ) → list_any (is_start_of j) (l.front ++ x ∷ s.skipped) ≡ true → is_some (job_post_of later j) ≡ true
        posted j start = ⊎_elim (λ before. stays_posted past e j (l.posted j before))
            (λ now. here (or_cases (is_start_of j x) (list_any (is_start_of j) s.skipped) now))
            (or_cases (list_any (is_start_of j) l.front) (list_any (is_start_of j) (x ∷ s.skipped))
            (sym (list_any-append (is_start_of j) l.front (x ∷ s.skipped)) ∙ start))
          where
            here : (is_start_of j x ≡ true) ⊎ (list_any (is_start_of j) s.skipped ≡ true) → is_some (job_post_of later j) ≡ true
            here (inl starts) = let alone = start_alone x j starts in
                rw (job_post_of_push past e j) (start_posts own x made past j e.kind (job_post_of past j) starts (wanted alone.0 alone.1))
            here (inr skipped) = absurd (both_ways (list_any (is_start_of j) s.skipped) (none_started s.skipped s.plain j) skipped)

    by_completes : (b : Bool) → completes x made e.kind ≡ b
        → Leaves script later (cond b (agenda_from xs []) (record { actions = x ∷ xs; made = made ++ e ∷ [] }))
    by_completes true full = ends full
    by_completes false short = goes_on short

nothing_left : (script : Plan) → Leaves script [] (agenda script [])
unfolding agenda phase_of
nothing_left script = record {
  front = s.skipped;
  parts = s.parts;
  posted = λ j start. absurd (both_ways (list_any (is_start_of j) s.skipped) (none_started s.skipped s.plain j) start);
  done_by = λ done. absurd cc;
  begun = λ x rest is some. absurd (some s.none_made);
}
  where
    s : Skips script.actions
    s = skips script.actions

leaves_next : (script : Plan) (past : List Entry) (e : Entry) → IsClosed script → may_come script past e.seat e.kind ≡ true → DoesOneThing script past
    → Leaves script past (agenda script (own_entries 0 past)) → Leaves script (past ++ e ∷ []) (agenda script (own_entries 0 (past ++ e ∷ [])))
leaves_next script past e closed may one l = subst (λ xs. Leaves script (past ++ e ∷ []) (agenda script xs)) (sym (own_entries_push past e 0))
    (by_seat (eqb e.seat 0) refl)
  where
    own : List Entry
    own = own_entries 0 past

    by_seat : (b : Bool) → eqb e.seat 0 ≡ b → Leaves script (past ++ e ∷ []) (agenda script (cond b (own ++ e ∷ []) own))
    by_seat true here = subst (Leaves script (past ++ e ∷ [])) (sym (agenda_push script own e)) (own_leaves script past e (agenda script own).actions
        (agenda script own).made closed (ap (λ n. may_come script past n e.kind) (sym (eqb-true e.seat 0 here)) ∙ may) one (current_is_first script own) l)
    by_seat false other = other_leaves script past e (agenda script own) may other l

legal_leaves : (script : Plan) (past : List Entry) → IsClosed script → IsLegal script past → Leaves script past (agenda script (own_entries 0 past))
legal_leaves script past closed = legal_induction script (λ past. Leaves script past (agenda script (own_entries 0 past))) (nothing_left script)
    (λ past e legal allowed l. leaves_next script past e closed (and_parts _ (may_come script past e.seat e.kind) allowed).1
    (legal_does_one_thing script past legal) l) past

-- ---- where the driver is

-- the action that the driver is at is not complete
pub current_waits : (xs : List Action) (own : List Entry) (c : Current) → current_from xs own ≡ Some c → behind_action c.action c.made ≡ None
current_waits [] own c is = absurd (none-some c is)
current_waits (x ∷ xs) own c is = at (behind_action x own) refl is (λ left k. current_waits xs left c k)
  where
    at : (o : Option (List Entry)) → behind_action x own ≡ o
        → option_map_or (λ left. current_from xs left) o (Some (record { action = x; made = own })) ≡ Some c
        → ((left : List Entry) → current_from xs left ≡ Some c → behind_action c.action c.made ≡ None) → behind_action c.action c.made ≡ None
    at None waits k later = subst (λ (d : Current). behind_action d.action d.made ≡ None) (same_Some (record { action = x; made = own }) c k) waits
    at (Some left) waits k later = later left k

-- the action that the driver is at names what is declared and is not complete; a job that it joins was posted; and a cancel
-- or a shutdown that has made an entry has made its first
pub record Stands (script : Plan) (past : List Entry) (c : Current) : Type 0 where
  pub sound : IsActionSound script c.action
  pub waits : behind_action c.action c.made ≡ None
  pub posted : (j : ℕ) → c.action ≡ actions.Join j → is_some (job_post_of past j) ≡ true
  pub cancelled : (j : ℕ) → c.action ≡ actions.Cancel j → (c.made ≡ [] → ⊥) → is_cancelled past j ≡ true
  pub started : c.action ≡ actions.Shutdown → (c.made ≡ [] → ⊥) → phase_of past ≡ phases.Started

stands_at : (script : Plan) (past : List Entry) (x : Action) (rest : List Action) (made : List Entry) → IsSound script
    → behind_action x made ≡ None → Leaves script past (record { actions = x ∷ rest; made = made })
    → Stands script past (record { action = x; made = made })
stands_at script past x rest made sound waits l = record {
  sound = AllByRecursion-at (IsActionSound script) l.front x rest (subst (AllByRecursion (IsActionSound script)) l.parts sound.actions.each_sound);
  waits = waits;
  posted = λ j is. l.posted j (subst (IsInOrder l.front) is in_order);
  cancelled = λ j is some. subst (Begun past) is (l.begun x rest refl some);
  started = λ is some. by_phase (phase_of past) refl (subst (Begun past) is (l.begun x rest refl some)) (subst (IsInOrder l.front) is in_order);
}
  where
    in_order : IsInOrder l.front x
    in_order = subst (λ xs. IsInOrder xs x) (ap (take (length l.front)) l.parts ∙ take-append_seam l.front (x ∷ rest))
        (sound.actions.in_order (length l.front) x (ap (λ xs. slice_get xs (length l.front)) l.parts ∙ slice_get_seam l.front x rest))

    by_phase : (now : Phase) → phase_of past ≡ now → (phase_of past ≡ phases.Running → ⊥) → list_any is_shutdown l.front ≡ false
        → phase_of past ≡ phases.Started
    by_phase phases.Running is begun none = absurd (begun is)
    by_phase phases.Started is begun none = is
    by_phase phases.Done is begun none = absurd (both_ways (list_any is_shutdown l.front) none (l.done_by is))

pub stands : (script : Plan) (past : List Entry) (c : Current) → IsSound script → IsLegal script past → current script (own_entries 0 past) ≡ Some c
    → Stands script past c
unfolding current
stands script past c sound legal is = by_agenda (agenda script (own_entries 0 past)).actions (agenda script (own_entries 0 past)).made
    (sym (current_is_first script (own_entries 0 past)) ∙ is) (legal_leaves script past sound.closed legal)
  where
    by_agenda : (xs : List Action) (made : List Entry) → first_of xs made ≡ Some c → Leaves script past (record { actions = xs; made = made })
        → Stands script past c
    by_agenda [] made k l = absurd (none-some c k)
    by_agenda (x ∷ rest) made k l =
        let same : record { action = x; made = made } ≡ c = same_Some (record { action = x; made = made }) c k in
        subst (Stands script past) same (stands_at script past x rest made sound
        (ap (λ (d : Current). behind_action d.action d.made) same ∙ current_waits script.actions (own_entries 0 past) c is) l)
