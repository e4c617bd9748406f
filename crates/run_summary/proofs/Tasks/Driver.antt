-- What the driver has left to do, where a script posts its tasks without a delay, pumps them all behind the last post, and ends
-- with a flush.
-- Cited by `Tasks/Adding`, `Tasks/Comes`, `Tasks/Numbers`, `Tasks/Posted`, `Tasks/Pumped`, `Tasks/Rest`.
use Rattle.std.proofs.Common.{◌≡◌, ℕ, ◌+◌, ◌<◌, ◌≤◌, Bool, true, false, cond, eqb, leb, List, [], ◌∷◌, ◌++◌}
use Rattle.std.proofs.Common.{length, refl, sym, ap, subst, ◌∙◌, None, inl, inr, ⊎_elim, arith}
use Rattle.std.specs.Prelude.{◌⊎◌, ◌&&◌, flat_map}
use Rattle.std.specs.List.{list_any}
use Rattle.std.proofs.lemmas.Bool.{and_parts, leb-true, or_cases, or_left, or_right, true≢false}
use Rattle.std.proofs.lemmas.List.Folds.{list_any-append}
use Rattle.task_base.specs.Plan.{Plan}
use Rattle.task_base.specs.declared.entry.Entry.{Entry}
use Rattle.task_base.specs.declared.script.Action.{Action}
use Rattle.task_base.specs.declared.script.Action.TheVariants as actions
use Rattle.list_laws.specs.Lists.{count}
use Rattle.list_laws.proofs.Counts.{count-append}
use Rattle.list_laws.proofs.Elements.{push_induction}
use Rattle.script_model.specs.Laws.Postings.{posts_of_action}
use Rattle.hist_model.specs.Views.{own_entries}
use Rattle.hist_model.specs.Script.{behind_action, is_main_none, is_main_end}
use Rattle.hist_model.specs.Laws.Agenda.{Agenda, agenda_from, agenda, completes, next_agenda, agenda_after}
use Rattle.hist_model.specs.Laws.Consistent.{is_pump}
use Rattle.hist_model.proofs.Laws.Agenda.{agenda_push}
use Rattle.hist_model.proofs.Laws.Own.{own_entries_push}

-- what an action may be that stands before these others: a start or a join of a job, a post of one of so many tasks without a
-- delay, to runner 0 to 3 or to the first main queue, the pump of them all, behind which nothing is posted, or a flush, which is
-- the last action
abbrev pub IsPlain : ℕ → Action → List Action → Type 0
IsPlain size (actions.Post t r d) rest = (t < size) × (r < 4) × (d ≡ 0) × (rest ≡ [] → ⊥)
IsPlain size (actions.Main t q d) rest = (t < size) × (q ≡ 0) × (d ≡ 0) × (rest ≡ [] → ⊥)
IsPlain size (actions.Pump n) rest = (n ≡ size) × (flat_map posts_of_action rest ≡ []) × (rest ≡ [] → ⊥)
IsPlain size (actions.StartJob j) rest = rest ≡ [] → ⊥
IsPlain size (actions.Join j) rest = rest ≡ [] → ⊥
IsPlain size actions.Flush rest = rest ≡ []
IsPlain size action rest = ⊥

-- each of the actions is such, before those behind it
abbrev pub ArePlain : ℕ → List Action → Type 0
ArePlain size [] = Unit {0}
ArePlain size (x ∷ rest) = IsPlain size x rest × ArePlain size rest

-- no such action is complete before it has made an entry
plain_begins : (size : ℕ) (x : Action) (rest : List Action) → IsPlain size x rest → behind_action x [] ≡ None
plain_begins size (actions.Post t r d) rest plain = refl
plain_begins size (actions.Main t q d) rest plain = refl
plain_begins size (actions.Pump n) rest plain = refl
plain_begins size (actions.StartJob j) rest plain = refl
plain_begins size (actions.Join j) rest plain = refl
plain_begins size actions.Flush rest plain = refl
plain_begins size action rest plain = absurd plain

-- so the driver begins with all of them
agenda_begins : (size : ℕ) (xs : List Action) → ArePlain size xs → agenda_from xs [] ≡ record { actions = xs; made = [] }
agenda_begins size [] plain = refl
agenda_begins size (x ∷ rest) plain = rw (plain_begins size x rest plain.0) refl

-- what the driver is at and has left, behind a past
abbrev pub plan_of : Plan → List Entry → Agenda
plan_of script past = agenda script (own_entries 0 past)

-- one more entry moves it on where it is the driver's
pub plan_push : (script : Plan) (past : List Entry) (e : Entry)
    → plan_of script (past ++ e ∷ []) ≡ cond (eqb e.seat 0) (agenda_after (plan_of script past) e) (plan_of script past)
plan_push script past e = ap (agenda script) (own_entries_push past e 0) ∙ at (eqb e.seat 0)
  where
    at : (b : Bool) → agenda script (cond b (own_entries 0 past ++ e ∷ []) (own_entries 0 past))
        ≡ cond b (agenda_after (plan_of script past) e) (plan_of script past)
    at true = agenda_push script (own_entries 0 past) e
    at false = refl

-- at first all actions are left, and nothing is made
pub plan_begins : (script : Plan) (size : ℕ) → ArePlain size script.actions → plan_of script [] ≡ record { actions = script.actions; made = [] }
unfolding agenda
plan_begins script size plain = agenda_begins size script.actions plain

-- the plan behind an entry, where it completes the first action or does not
abbrev pub next_plan : Bool → Action → List Action → List Entry → Entry → Agenda
next_plan true x rest made e = record { actions = rest; made = [] }
next_plan false x rest made e = record { actions = x ∷ rest; made = made ++ e ∷ [] }

-- and so the plan moves on
pub next_is : (size : ℕ) (x : Action) (rest : List Action) (made : List Entry) (e : Entry) → ArePlain size rest
    → next_agenda (x ∷ rest) made e ≡ next_plan (completes x made e.kind) x rest made e
next_is size x rest made e plain = at (completes x made e.kind)
  where
    at : (b : Bool) → cond b (agenda_from rest []) (record { actions = x ∷ rest; made = made ++ e ∷ [] }) ≡ next_plan b x rest made e
    at true = agenda_begins size rest plain
    at false = refl

-- what is left stays plain
plain_next : (size : ℕ) (xs : List Action) (made : List Entry) (e : Entry) → ArePlain size xs → ArePlain size (next_agenda xs made e).actions
plain_next size [] made e plain = tt
plain_next size (x ∷ rest) made e plain = subst (λ (a : Agenda). ArePlain size a.actions) (sym (next_is size x rest made e plain.1))
    (at (completes x made e.kind))
  where
    at : (b : Bool) → ArePlain size (next_plan b x rest made e).actions
    at true = plain.1
    at false = plain

-- behind every past what is left is plain
pub plain_left : (script : Plan) (size : ℕ) → ArePlain size script.actions → (past : List Entry) → ArePlain size (plan_of script past).actions
plain_left script size plain = push_induction (λ past. ArePlain size (plan_of script past).actions)
    (subst (λ (a : Agenda). ArePlain size a.actions) (sym (plan_begins script size plain)) plain)
    (λ past e before. subst (λ (a : Agenda). ArePlain size a.actions) (sym (plan_push script past e)) (at past e before (eqb e.seat 0)))
  where
    at : (past : List Entry) (e : Entry) → ArePlain size (plan_of script past).actions → (b : Bool)
        → ArePlain size (cond b (agenda_after (plan_of script past) e) (plan_of script past)).actions
    at past e before true = plain_next size (plan_of script past).actions (plan_of script past).made e before
    at past e before false = before

-- what holds of the plan at first, and stays so behind an entry of the driver at an action and behind one of another seat, holds
-- behind every past; behind the last action the driver has nothing left
pub plan_induction : (script : Plan) (size : ℕ) (P : List Entry → Agenda → Type 0) → ArePlain size script.actions
    → P [] (record { actions = script.actions; made = [] })
    → ((past : List Entry) (e : Entry) (x : Action) (rest : List Action) (made : List Entry) → IsPlain size x rest
    → P past (record { actions = x ∷ rest; made = made }) → P (past ++ e ∷ []) (next_plan (completes x made e.kind) x rest made e))
    → ((past : List Entry) (e : Entry) (made : List Entry) → P past (record { actions = []; made = made })
    → P (past ++ e ∷ []) (record { actions = []; made = made ++ e ∷ [] }))
    → ((past : List Entry) (e : Entry) (a : Agenda) → P past a → P (past ++ e ∷ []) a)
    → (past : List Entry) → P past (plan_of script past)
plan_induction script size P plain start step over other = push_induction (λ past. P past (plan_of script past))
    (subst (P []) (sym (plan_begins script size plain)) start)
    (λ past e before. subst (P (past ++ e ∷ [])) (sym (plan_push script past e)) (at past e before (eqb e.seat 0)))
  where
    own : (past : List Entry) (e : Entry) (xs : List Action) (made : List Entry) → ArePlain size xs → P past (record { actions = xs; made = made })
        → P (past ++ e ∷ []) (next_agenda xs made e)
    own past e [] made all before = over past e made before
    own past e (x ∷ rest) made all before = subst (P (past ++ e ∷ [])) (sym (next_is size x rest made e all.1)) (step past e x rest made all.0 before)

    at : (past : List Entry) (e : Entry) → P past (plan_of script past) → (b : Bool)
        → P (past ++ e ∷ []) (cond b (agenda_after (plan_of script past) e) (plan_of script past))
    at past e before true = own past e (plan_of script past).actions (plan_of script past).made (plain_left script size plain past) before
    at past e before false = other past e (plan_of script past) before

-- ---- the pump

-- how many main tasks have ended
abbrev pub main_ends_in : List Entry → ℕ
main_ends_in past = count (λ e. is_main_end e.kind) past

-- one more entry counts where it ends a main task
main_ends_push : (past : List Entry) (e : Entry) → main_ends_in (past ++ e ∷ []) ≡ main_ends_in past + cond (is_main_end e.kind) 1 0
main_ends_push past e = count-append (λ x. is_main_end x.kind) past (e ∷ []) ∙ ap (λ n. main_ends_in past + n) (one (is_main_end e.kind))
  where
    one : (b : Bool) → length (cond b (e ∷ []) []) ≡ cond b 1 0
    one true = refl
    one false = refl

-- the pump is left, or was ended by finding no main task, or by so many main tasks that ended; and the action that the driver is at
-- has made no more ends than there are
pub record Pumped (size : ℕ) (past : List Entry) (plan : Agenda) : Type 0 where
  pub how : (list_any is_pump plan.actions ≡ true) ⊎ ((list_any (λ e. is_main_none e.kind) past ≡ true) ⊎ (size ≤ main_ends_in past))
  pub within : main_ends_in plan.made ≤ main_ends_in past

-- what was ended stays so
still_ended : (size : ℕ) (past : List Entry) (e : Entry) → (list_any (λ x. is_main_none x.kind) past ≡ true) ⊎ (size ≤ main_ends_in past)
    → (list_any (λ x. is_main_none x.kind) (past ++ e ∷ []) ≡ true) ⊎ (size ≤ main_ends_in (past ++ e ∷ []))
still_ended size past e (inl none) = inl (list_any-append (λ x. is_main_none x.kind) past (e ∷ [])
    ∙ or_left (list_any (λ x. is_main_none x.kind) past) (list_any (λ x. is_main_none x.kind) (e ∷ [])) none)
still_ended size past e (inr ends) = inr (omega (arith, ends, main_ends_push past e))

-- an entry that completes a pump ends it
pump_ends : (size : ℕ) (past : List Entry) (e : Entry) (n : ℕ) (made : List Entry) → n ≡ size → main_ends_in made ≤ main_ends_in past
    → completes (actions.Pump n) made e.kind ≡ true
    → (list_any (λ x. is_main_none x.kind) (past ++ e ∷ []) ≡ true) ⊎ (size ≤ main_ends_in (past ++ e ∷ []))
pump_ends size past e n made all within done = ⊎_elim
    (λ none. inl (list_any-append (λ x. is_main_none x.kind) past (e ∷ []) ∙ or_right (list_any (λ x. is_main_none x.kind) past)
    (list_any (λ x. is_main_none x.kind) (e ∷ [])) (or_left (is_main_none e.kind) false none)))
    (λ ended. let parts = and_parts (is_main_end e.kind) (leb n (main_ends_in made + 1)) ended in
    let one : main_ends_in (past ++ e ∷ []) ≡ main_ends_in past + 1 = main_ends_push past e ∙ ap (λ (b : Bool). main_ends_in past + cond b 1 0) parts.0 in
    let enough : n ≤ main_ends_in made + 1 = leb-true n (main_ends_in made + 1) parts.1 in
    inr (omega (arith, one, enough, all, within)))
    (or_cases (is_main_none e.kind) (is_main_end e.kind && leb n (main_ends_in made + 1)) done)

-- an entry of the driver at an action
pump_next : (size : ℕ) (past : List Entry) (e : Entry) (x : Action) (rest : List Action) (made : List Entry) → IsPlain size x rest
    → Pumped size past (record { actions = x ∷ rest; made = made }) → Pumped size (past ++ e ∷ []) (next_plan (completes x made e.kind) x rest made e)
pump_next size past e x rest made plain before = at (completes x made e.kind) refl
  where
    action_ends : (y : Action) → IsPlain size y rest → is_pump y ≡ true → completes y made e.kind ≡ true
        → (list_any (λ d. is_main_none d.kind) (past ++ e ∷ []) ≡ true) ⊎ (size ≤ main_ends_in (past ++ e ∷ []))
    action_ends (actions.Pump n) is pump done = pump_ends size past e n made is.0 before.within done
    action_ends y is pump done = absurd (true≢false (sym pump))

    ended : completes x made e.kind ≡ true → (list_any is_pump (x ∷ rest) ≡ true)
        ⊎ ((list_any (λ d. is_main_none d.kind) past ≡ true) ⊎ (size ≤ main_ends_in past))
        → (list_any is_pump rest ≡ true)
        ⊎ ((list_any (λ d. is_main_none d.kind) (past ++ e ∷ []) ≡ true) ⊎ (size ≤ main_ends_in (past ++ e ∷ [])))
    ended done (inl pump) = ⊎_elim (λ here. inr (action_ends x plain here done)) (λ later. inl later) (or_cases (is_pump x) (list_any is_pump rest) pump)
    ended done (inr was) = inr (still_ended size past e was)

    goes_on : (list_any is_pump (x ∷ rest) ≡ true)
        ⊎ ((list_any (λ d. is_main_none d.kind) past ≡ true) ⊎ (size ≤ main_ends_in past))
        → (list_any is_pump (x ∷ rest) ≡ true)
        ⊎ ((list_any (λ d. is_main_none d.kind) (past ++ e ∷ []) ≡ true) ⊎ (size ≤ main_ends_in (past ++ e ∷ [])))
    goes_on (inl pump) = inl pump
    goes_on (inr was) = inr (still_ended size past e was)

    at : (b : Bool) → completes x made e.kind ≡ b → Pumped size (past ++ e ∷ []) (next_plan b x rest made e)
    at true done = record { how = ended done before.how; within = omega arith }
    at false more = record { how = goes_on before.how; within = omega (arith, before.within, main_ends_push made e, main_ends_push past e) }

-- behind every past the pump is left, or was ended
pub pumped : (script : Plan) (size : ℕ) → ArePlain size script.actions → list_any is_pump script.actions ≡ true → (past : List Entry)
    → Pumped size past (plan_of script past)
pumped script size plain pump = plan_induction script size (Pumped size) plain (record { how = inl pump; within = omega arith }) (pump_next size)
    (λ past e made before. record { how = over past e before.how; within = omega (arith, before.within, main_ends_push made e, main_ends_push past e) })
    (λ past e a before. record { how = other past e a before.how; within = omega (arith, before.within, main_ends_push past e) })
  where
    over : (past : List Entry) (e : Entry)
        → (false ≡ true) ⊎ ((list_any (λ d. is_main_none d.kind) past ≡ true) ⊎ (size ≤ main_ends_in past))
        → (false ≡ true) ⊎ ((list_any (λ d. is_main_none d.kind) (past ++ e ∷ []) ≡ true) ⊎ (size ≤ main_ends_in (past ++ e ∷ [])))
    over past e (inl none) = inl none
    over past e (inr was) = inr (still_ended size past e was)

    other : (past : List Entry) (e : Entry) (a : Agenda)
        → (list_any is_pump a.actions ≡ true) ⊎ ((list_any (λ d. is_main_none d.kind) past ≡ true) ⊎ (size ≤ main_ends_in past))
        → (list_any is_pump a.actions ≡ true)
        ⊎ ((list_any (λ d. is_main_none d.kind) (past ++ e ∷ []) ≡ true) ⊎ (size ≤ main_ends_in (past ++ e ∷ [])))
    other past e a (inl pump) = inl pump
    other past e a (inr was) = inr (still_ended size past e was)
