-- How the driver's agenda moves on.
-- Cited by `Laws/Entries/Driver`, `Laws/OneThing`, `Laws/Postings/Driver`, `Laws/Progress/Driver`, `current.rt`, `env_core`, `env_crew`,
-- `log_count`, `run_summary`, `situation`.
use Rattle.std.proofs.Common.{◌≡◌, ℕ, zero, suc, ◌+◌, ◌-◌, Bool, true, false, cond, eqb, leb, List, [], ◌∷◌}
use Rattle.std.proofs.Common.{◌++◌, length, refl, sym, ap, subst, ◌∙◌, Option, Some, None, arith}
use Rattle.std.specs.Prelude.{◌&&◌, ◌||◌, filter}
use Rattle.std.specs.Option.{option_map_or}
use Rattle.std.proofs.lemmas.Option.{none-some, same_Some}
use Rattle.task_base.specs.Plan.{Plan}
use Rattle.task_base.specs.declared.entry.Entry.{Entry}
use Rattle.task_base.specs.declared.script.Action.{Action}
use Rattle.task_base.specs.declared.script.Action.TheVariants as actions
use Rattle.list_laws.specs.Lists.{count}
use Rattle.hist_model.specs.Script.{behind, behind_join, behind_pump, behind_action, is_joined, is_main_none, is_main_end, Current, current_from, current}
use Rattle.hist_model.specs.Laws.Agenda.{Agenda, agenda_from, agenda, first_of, current_of, completes, next_agenda, agenda_after}

-- the agenda begins with the current action
current_from_is : (xs : List Action) (own : List Entry) → current_from xs own ≡ current_of (agenda_from xs own)
current_from_is [] own = refl
current_from_is (x ∷ xs) own = elim (behind_action x own) as
    (λ o. option_map_or (λ left. current_from xs left) o (Some (record { action = x; made = own }))
    ≡ current_of (option_map_or (λ left. agenda_from xs left) o (record { actions = x ∷ xs; made = own }))) [
      | None ↦ refl
      | Some left ↦ current_from_is xs left
    ]

pub current_is_first : (script : Plan) (own : List Entry) → current script own ≡ current_of (agenda script own)
unfolding current agenda
current_is_first script own = current_from_is script.actions own

-- one more entry behind what is complete
behind_more : (n : ℕ) (own left : List Entry) (e : Entry) → behind n own ≡ Some left → behind n (own ++ e ∷ []) ≡ Some (left ++ e ∷ [])
behind_more zero own left e h = ap (λ x. Some (x ++ e ∷ [])) (same_Some own left h)
behind_more (suc n) [] left e h = absurd cc
behind_more (suc n) (x ∷ own) left e h = behind_more n own left e h

join_more : (own left : List Entry) (e : Entry) → behind_join own ≡ Some left → behind_join (own ++ e ∷ []) ≡ Some (left ++ e ∷ [])
join_more [] left e h = absurd cc
join_more (x ∷ own) left e h = at (is_joined x.kind) (join_more own left e) h
  where
    at : (b : Bool) → (behind_join own ≡ Some left → behind_join (own ++ e ∷ []) ≡ Some (left ++ e ∷ [])) → cond b (Some own) (behind_join own) ≡ Some left
        → cond b (Some (own ++ e ∷ [])) (behind_join (own ++ e ∷ [])) ≡ Some (left ++ e ∷ [])
    at true next k = ap (λ y. Some (y ++ e ∷ [])) (same_Some own left k)
    at false next k = next k

pump_more : (n : ℕ) (own left : List Entry) (e : Entry) → behind_pump n own ≡ Some left → behind_pump n (own ++ e ∷ []) ≡ Some (left ++ e ∷ [])
pump_more n [] left e h = absurd cc
pump_more n (x ∷ own) left e h = at (is_main_none x.kind || (is_main_end x.kind && leb n 1)) (pump_more (cond (is_main_end x.kind) (n - 1) n) own left e) h
  where
    at : (b : Bool) → (behind_pump (cond (is_main_end x.kind) (n - 1) n) own ≡ Some left
        → behind_pump (cond (is_main_end x.kind) (n - 1) n) (own ++ e ∷ []) ≡ Some (left ++ e ∷ []))
        → cond b (Some own) (behind_pump (cond (is_main_end x.kind) (n - 1) n) own) ≡ Some left
        → cond b (Some (own ++ e ∷ [])) (behind_pump (cond (is_main_end x.kind) (n - 1) n) (own ++ e ∷ [])) ≡ Some (left ++ e ∷ [])
    at true next k = ap (λ y. Some (y ++ e ∷ [])) (same_Some own left k)
    at false next k = next k

pub action_more : (x : Action) (own left : List Entry) (e : Entry) → behind_action x own ≡ Some left → behind_action x (own ++ e ∷ []) ≡ Some (left ++ e ∷ [])
action_more (actions.Tick n) own left e h = behind_more n own left e h
action_more (actions.Pump n) own left e h = pump_more n own left e h
action_more (actions.Join job) own left e h = join_more own left e h
action_more (actions.Cancel job) own left e h = behind_more 2 own left e h
action_more actions.Shutdown own left e h = behind_more 2 own left e h
action_more x own left e h = behind_more 1 own left e h

-- one more entry of what is not complete
behind_one : (n : ℕ) (made : List Entry) (e : Entry) → behind n made ≡ None → behind n (made ++ e ∷ []) ≡ cond (eqb (length made + 1) n) (Some []) None
behind_one zero made e h = absurd cc
behind_one (suc zero) [] e h = refl
behind_one (suc (suc n)) [] e h = let k : eqb 1 (suc (suc n)) ≡ false = grind arith in rw k refl
behind_one (suc n) (x ∷ made) e h = let k : eqb (suc (length made) + 1) (suc n) ≡ eqb (length made + 1) n = grind arith in rw k (behind_one n made e h)

join_one : (made : List Entry) (e : Entry) → behind_join made ≡ None → behind_join (made ++ e ∷ []) ≡ cond (is_joined e.kind) (Some []) None
join_one [] e h = refl
join_one (x ∷ made) e h = at (is_joined x.kind) (join_one made e) h
  where
    at : (b : Bool) → (behind_join made ≡ None → behind_join (made ++ e ∷ []) ≡ cond (is_joined e.kind) (Some []) None)
        → cond b (Some made) (behind_join made) ≡ None → cond b (Some (made ++ e ∷ [])) (behind_join (made ++ e ∷ [])) ≡ cond (is_joined e.kind) (Some []) None
    at true next k = absurd cc
    at false next k = next k

pump_one : (n : ℕ) (made : List Entry) (e : Entry) → behind_pump n made ≡ None
    → behind_pump n (made ++ e ∷ []) ≡ cond (is_main_none e.kind || (is_main_end e.kind && leb n (count (λ x. is_main_end x.kind) made + 1))) (Some []) None
pump_one n [] e h = refl
pump_one n (x ∷ made) e h = at (is_main_none x.kind) (is_main_end x.kind) (pump_one (n - 1) made e) (pump_one n made e) h
  where
    ended : ℕ
    ended = count (λ y. is_main_end y.kind) made

    Gives : ℕ → Type 0
    Gives m = behind_pump m made ≡ None → behind_pump m (made ++ e ∷ [])
        ≡ cond (is_main_none e.kind || (is_main_end e.kind && leb m (ended + 1))) (Some []) None

    at : (a b : Bool) → Gives (n - 1) → Gives n
        → cond (a || (b && leb n 1)) (Some made) (behind_pump (cond b (n - 1) n) made) ≡ None
        → cond (a || (b && leb n 1)) (Some (made ++ e ∷ [])) (behind_pump (cond b (n - 1) n) (made ++ e ∷ []))
        ≡ cond (is_main_none e.kind || (is_main_end e.kind
        && leb n (length (cond b (x ∷ filter (λ y. is_main_end y.kind) made) (filter (λ y. is_main_end y.kind) made)) + 1))) (Some []) None
    at true b less same k = absurd cc
    at false false less same k = same k
    at false true less same k = ended_one (leb n 1) refl k
      where
        ended_one : (c : Bool) → leb n 1 ≡ c → cond c (Some made) (behind_pump (n - 1) made) ≡ None
            → cond c (Some (made ++ e ∷ [])) (behind_pump (n - 1) (made ++ e ∷ []))
            ≡ cond (is_main_none e.kind || (is_main_end e.kind && leb n (suc ended + 1))) (Some []) None
        ended_one true is l = absurd cc
        ended_one false is l = let same_test : leb n (suc ended + 1) ≡ leb (n - 1) (ended + 1) = grind arith in rw same_test (less l)

pub action_one : (x : Action) (made : List Entry) (e : Entry) → behind_action x made ≡ None
    → behind_action x (made ++ e ∷ []) ≡ cond (completes x made e.kind) (Some []) None
action_one (actions.Tick n) made e h = behind_one n made e h
action_one (actions.Pump n) made e h = pump_one n made e h
action_one (actions.Join job) made e h = join_one made e h
action_one (actions.Cancel job) made e h = behind_one 2 made e h
action_one actions.Shutdown made e h = behind_one 2 made e h
action_one x [] e h = refl
action_one x (y ∷ made) e h = absurd cc

-- one more entry of an agenda
agenda_from_push : (xs : List Action) (own : List Entry) (e : Entry) → agenda_from xs (own ++ e ∷ []) ≡ agenda_after (agenda_from xs own) e
agenda_from_push [] own e = refl
agenda_from_push (x ∷ xs) own e = at (behind_action x own) refl (agenda_from_push xs)
  where
    taken : Option (List Entry) → Agenda
    taken o = option_map_or (λ left. agenda_from xs left) o (record { actions = x ∷ xs; made = own ++ e ∷ [] })

    at : (o : Option (List Entry)) → behind_action x own ≡ o
        → ((left : List Entry) (f : Entry) → agenda_from xs (left ++ f ∷ []) ≡ agenda_after (agenda_from xs left) f)
        → taken (behind_action x (own ++ e ∷ [])) ≡ agenda_after (option_map_or (λ left. agenda_from xs left) o (record { actions = x ∷ xs; made = own })) e
    at None is next = ap taken (action_one x own e is) ∙ done (completes x own e.kind)
      where
        done : (b : Bool) → taken (cond b (Some []) None) ≡ cond b (agenda_from xs []) (record { actions = x ∷ xs; made = own ++ e ∷ [] })
        done true = refl
        done false = refl
    at (Some left) is next = ap taken (action_more x own left e is) ∙ next left e

pub agenda_push : (script : Plan) (own : List Entry) (e : Entry) → agenda script (own ++ e ∷ []) ≡ agenda_after (agenda script own) e
unfolding agenda
agenda_push script own e = agenda_from_push script.actions own e

-- the current action behind one more entry is the first of the agenda that it moves on to
current_push : (script : Plan) (own : List Entry) (e : Entry) → current script (own ++ e ∷ []) ≡ current_of (agenda_after (agenda script own) e)
current_push script own e = current_is_first script (own ++ e ∷ []) ∙ ap current_of (agenda_push script own e)

-- while the current action is not completed, it makes one more entry
pub current_stays : (script : Plan) (own : List Entry) (e : Entry) (c : Current) → current script own ≡ Some c → completes c.action c.made e.kind ≡ false
    → current script (own ++ e ∷ []) ≡ Some (record { action = c.action; made = c.made ++ e ∷ [] })
current_stays script own e c is goes_on = current_push script own e
    ∙ at (agenda script own).actions (agenda script own).made (sym (current_is_first script own) ∙ is)
  where
    at : (xs : List Action) (made : List Entry) → first_of xs made ≡ Some c
        → current_of (next_agenda xs made e) ≡ Some (record { action = c.action; made = c.made ++ e ∷ [] })
    at [] made k = absurd (none-some c k)
    at (x ∷ xs) made k = subst (λ d. completes d.action d.made e.kind ≡ false
        → current_of (next_agenda (x ∷ xs) made e) ≡ Some (record { action = d.action; made = d.made ++ e ∷ [] })) (same_Some _ c k) (λ no. rw no refl) goes_on

-- what is finished stays so
pub finished_stays : (script : Plan) (own : List Entry) (e : Entry) → current script own ≡ None → current script (own ++ e ∷ []) ≡ None
finished_stays script own e is = current_push script own e
    ∙ at (agenda script own).actions (agenda script own).made (sym (current_is_first script own) ∙ is)
  where
    at : (xs : List Action) (made : List Entry) → first_of xs made ≡ None → current_of (next_agenda xs made e) ≡ None
    at [] made k = refl
    at (x ∷ xs) made k = absurd cc

pub behind_nothing : (n : ℕ) (left : List Entry) → behind n [] ≡ Some left → left ≡ []
behind_nothing zero left h = cc
behind_nothing (suc n) left h = absurd cc

pub action_behind_nothing : (x : Action) (left : List Entry) → behind_action x [] ≡ Some left → left ≡ []
action_behind_nothing (actions.Tick n) left h = behind_nothing n left h
action_behind_nothing (actions.Pump n) left h = absurd cc
action_behind_nothing (actions.Join job) left h = absurd cc
action_behind_nothing (actions.Cancel job) left h = absurd cc
action_behind_nothing actions.Shutdown left h = absurd cc
action_behind_nothing x left h = absurd cc

begins_with_nothing : (xs : List Action) (d : Current) → current_of (agenda_from xs []) ≡ Some d → d.made ≡ []
begins_with_nothing [] d h = absurd cc
begins_with_nothing (x ∷ xs) d h = at (behind_action x []) refl (begins_with_nothing xs d) h
  where
    at : (o : Option (List Entry)) → behind_action x [] ≡ o → (current_of (agenda_from xs []) ≡ Some d → d.made ≡ [])
        → current_of (option_map_or (λ left. agenda_from xs left) o (record { actions = x ∷ xs; made = [] })) ≡ Some d → d.made ≡ []
    at None is next k = ap (λ y. y.made) (sym (same_Some _ d k))
    at (Some left) is next k = next (ap (λ l. current_of (agenda_from xs l)) (sym (action_behind_nothing x left is)) ∙ k)

-- behind an action that is completed the next one begins, with nothing made
pub next_begins : (script : Plan) (own : List Entry) (e : Entry) (c d : Current) → current script own ≡ Some c → completes c.action c.made e.kind ≡ true
    → current script (own ++ e ∷ []) ≡ Some d → d.made ≡ []
next_begins script own e c d is done now = at (agenda script own).actions (agenda script own).made (sym (current_is_first script own) ∙ is)
    (sym (current_push script own e) ∙ now)
  where
    at : (xs : List Action) (made : List Entry) → first_of xs made ≡ Some c → current_of (next_agenda xs made e) ≡ Some d → d.made ≡ []
    at [] made k l = absurd (none-some c k)
    at (x ∷ xs) made k l = begins_with_nothing xs d (sym (ap
        (λ b. current_of (cond b (agenda_from xs []) (record { actions = x ∷ xs; made = made ++ e ∷ [] }))) yes) ∙ l)
      where
        yes : completes x made e.kind ≡ true
        yes = ap (λ y. completes y.action y.made e.kind) (same_Some (record { action = x; made = made }) c k) ∙ done
