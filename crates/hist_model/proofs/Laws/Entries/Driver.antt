-- The entries that the driver's actions have left.
-- Cited by `Laws/Entries/Bound`.
use Rattle.std.proofs.Common.{◌≡◌, ℕ, zero, suc, ◌+◌, ◌-◌, ◌≤◌, Bool, true, false, cond, eqb, List, [], ◌∷◌}
use Rattle.std.proofs.Common.{◌++◌, length, refl, sym, ap, ◌∙◌, Option, Some, None, arith, length-append}
use Rattle.std.specs.Prelude.{sum_by}
use Rattle.std.specs.Option.{option_map_or}
use Rattle.std.proofs.lemmas.Bool.{and_parts}
use Rattle.std.proofs.lemmas.List.Sums.{sum_by-cons}
use Rattle.task_base.specs.Plan.{Plan}
use Rattle.task_base.specs.declared.entry.Entry.{Entry}
use Rattle.task_base.specs.declared.entry.Kind.{Kind}
use Rattle.task_base.specs.declared.entry.Kind.TheVariants as kinds
use Rattle.task_base.specs.declared.script.Action.{Action}
use Rattle.task_base.specs.declared.script.Action.TheVariants as actions
use Rattle.list_laws.specs.Lists.{holds_of}
use Rattle.script_model.specs.Bound.{events_of_action}
use Rattle.hist_model.specs.Views.{own_entries}
use Rattle.hist_model.specs.Open.{IsClosed}
use Rattle.hist_model.specs.Script.{behind, behind_action, wants, is_wanted}
use Rattle.hist_model.specs.Laws.Agenda.{Agenda, agenda_from, agenda, first_of, completes, next_agenda}
use Rattle.hist_model.specs.Allowed.{by_script}
use Rattle.hist_model.proofs.Laws.Open.{closed_wanted}
use Rattle.hist_model.proofs.Laws.Agenda.{current_is_first, agenda_push}
use Rattle.hist_model.proofs.Laws.Own.{own_entries_push}

-- how many entries of its own an action has left, having made these: a pump, a join and a flush have the one that ends them
left_of : Action → List Entry → ℕ
left_of (actions.Tick count) made = count - length made
left_of (actions.Cancel job) made = 2 - length made
left_of actions.Shutdown made = 2 - length made
left_of action made = 1

-- how many entries an agenda has left
agenda_has : List Action → List Entry → ℕ
agenda_has [] made = 0
agenda_has (x ∷ xs) made = left_of x made + sum_by events_of_action xs

of_agenda : Agenda → ℕ
of_agenda a = agenda_has a.actions a.made

left_within : (x : Action) (made : List Entry) → left_of x made ≤ events_of_action x
unfolding left_of
left_within (actions.Tick count) made = omega arith
left_within (actions.Cancel job) made = omega arith
left_within actions.Shutdown made = omega arith
left_within x made = omega arith

left_falls : (x : Action) (made : List Entry) (e : Entry) → left_of x (made ++ e ∷ []) ≤ left_of x made
unfolding left_of
left_falls (actions.Tick count) made e = omega (arith, length-append made (e ∷ []))
left_falls (actions.Cancel job) made e = omega (arith, length-append made (e ∷ []))
left_falls actions.Shutdown made e = omega (arith, length-append made (e ∷ []))
left_falls x made e = omega arith

-- an action that is not complete has made fewer
made_fewer : (n : ℕ) (made : List Entry) → behind n made ≡ None → suc (length made) ≤ n
made_fewer zero made h = absurd cc
made_fewer (suc n) [] h = omega arith
made_fewer (suc n) (x ∷ made) h = omega (arith, made_fewer n made h)

some_left : (x : Action) (made : List Entry) → behind_action x made ≡ None → 1 ≤ left_of x made
unfolding left_of
some_left (actions.Tick count) made h = omega (arith, made_fewer count made h)
some_left (actions.Cancel job) made h = omega (arith, made_fewer 2 made h)
some_left actions.Shutdown made h = omega (arith, made_fewer 2 made h)
some_left x made h = omega arith

-- the entry is neither of a task nor of a job
abbrev pub is_of_script : Kind → Bool
is_of_script (kinds.MainTake task queue found) = false
is_of_script (kinds.JobTake job id item) = false
is_of_script kind = true

-- an entry that an action wants and that does not complete it is one of several that it has
one_of_several : (own : List Entry) (x : Action) (made : List Entry) (kind : Kind) (e : Entry) → behind_action x made ≡ None → wants own x made kind ≡ true
    → is_of_script kind ≡ true → completes x made kind ≡ false → left_of x (made ++ e ∷ []) + 1 ≤ left_of x made
unfolding left_of
one_of_several own (actions.Tick count) made kind e waits h of goes_on = omega (arith, length-append made (e ∷ []), made_fewer count made waits)
one_of_several own (actions.Cancel job) made kind e waits h of goes_on = omega (arith, length-append made (e ∷ []), made_fewer 2 made waits)
one_of_several own actions.Shutdown made kind e waits h of goes_on = omega (arith, length-append made (e ∷ []), made_fewer 2 made waits)
one_of_several own (actions.Pump n) made (kinds.MainTake task queue found) e waits h of goes_on = absurd cc
one_of_several own (actions.Pump n) made kinds.MainNone e waits h of goes_on = absurd cc
one_of_several own (actions.Pump n) made kind e waits h of goes_on = absurd cc
one_of_several own (actions.Join j) made (kinds.JobTake job id item) e waits h of goes_on = absurd cc
one_of_several own (actions.Join j) made (kinds.Joined job reply) e waits h of goes_on = absurd cc
one_of_several own (actions.Join j) made kind e waits h of goes_on = absurd cc
one_of_several own x made kind e waits h of goes_on = absurd cc

agenda_from_within : (xs : List Action) (own : List Entry) → of_agenda (agenda_from xs own) ≤ sum_by events_of_action xs
unfolding agenda_has of_agenda
agenda_from_within [] own = omega arith
agenda_from_within (x ∷ xs) own = at (behind_action x own) (agenda_from_within xs)
  where
    at : (o : Option (List Entry)) → ((left : List Entry) → of_agenda (agenda_from xs left) ≤ sum_by events_of_action xs)
        → of_agenda (option_map_or (λ left. agenda_from xs left) o (record { actions = x ∷ xs; made = own })) ≤ sum_by events_of_action (x ∷ xs)
    at None next = omega (arith, left_within x own, sum_by-cons events_of_action x xs)
    at (Some left) next = omega (arith, next left, sum_by-cons events_of_action x xs)

-- the first action of an agenda is not complete
Waits : List Action → List Entry → Type 0
Waits [] made = Unit {0}
Waits (x ∷ xs) made = behind_action x made ≡ None

agenda_from_waits : (xs : List Action) (own : List Entry) → Waits (agenda_from xs own).actions (agenda_from xs own).made
unfolding Waits
agenda_from_waits [] own = tt
agenda_from_waits (x ∷ xs) own = at (behind_action x own) refl (agenda_from_waits xs)
  where
    taken : Option (List Entry) → Agenda
    taken o = option_map_or (λ left. agenda_from xs left) o (record { actions = x ∷ xs; made = own })

    at : (o : Option (List Entry)) → behind_action x own ≡ o → ((left : List Entry) → Waits (agenda_from xs left).actions (agenda_from xs left).made)
        → Waits (taken o).actions (taken o).made
    at None is next = is
    at (Some left) is next = next left

next_within : (xs : List Action) (made : List Entry) (e : Entry) → of_agenda (next_agenda xs made e) ≤ agenda_has xs made
unfolding agenda_has of_agenda
next_within [] made e = omega arith
next_within (x ∷ xs) made e = at (completes x made e.kind)
  where
    at : (b : Bool) → of_agenda (cond b (agenda_from xs []) (record { actions = x ∷ xs; made = made ++ e ∷ [] })) ≤ left_of x made + sum_by events_of_action xs
    at true = omega (arith, agenda_from_within xs [])
    at false = omega (arith, left_falls x made e)

next_falls : (own : List Entry) (xs : List Action) (made : List Entry) (e : Entry) → Waits xs made
    → holds_of (λ c. wants own c.action c.made e.kind) (first_of xs made) ≡ true → is_of_script e.kind ≡ true
    → of_agenda (next_agenda xs made e) + 1 ≤ agenda_has xs made
unfolding agenda_has of_agenda Waits
next_falls own [] made e waits h of = absurd cc
next_falls own (x ∷ xs) made e waits h of = at (completes x made e.kind) refl
  where
    at : (b : Bool) → completes x made e.kind ≡ b
        → of_agenda (cond b (agenda_from xs []) (record { actions = x ∷ xs; made = made ++ e ∷ [] })) + 1 ≤ left_of x made + sum_by events_of_action xs
    at true is = omega (arith, agenda_from_within xs [], some_left x made waits)
    at false is = omega (arith, one_of_several own x made e.kind e waits h of is)

-- how many entries the driver's actions have left
pub driver_left : Plan → List Entry → ℕ
driver_left script past = of_agenda (agenda script (own_entries 0 past))

pub driver_left_less : (script : Plan) (past : List Entry) (e : Entry) → driver_left script (past ++ e ∷ []) ≤ driver_left script past
unfolding driver_left of_agenda
driver_left_less script past e = rw (own_entries_push past e 0) (at (eqb e.seat 0))
  where
    own : List Entry
    own = own_entries 0 past

    at : (b : Bool) → of_agenda (agenda script (cond b (own ++ e ∷ []) own)) ≤ of_agenda (agenda script own)
    at true = rw (agenda_push script own e) (next_within (agenda script own).actions (agenda script own).made e)
    at false = omega arith

waits_now : (script : Plan) (own : List Entry) → Waits (agenda script own).actions (agenda script own).made
unfolding agenda
waits_now script own = agenda_from_waits script.actions own

wanted_falls : (script : Plan) (own : List Entry) (e : Entry) → IsClosed script → is_wanted script own e.kind ≡ true → is_of_script e.kind ≡ true
    → of_agenda (agenda script (own ++ e ∷ [])) + 1 ≤ of_agenda (agenda script own)
unfolding of_agenda
wanted_falls script own e closed h of = rw (agenda_push script own e)
    (next_falls own (agenda script own).actions (agenda script own).made e (waits_now script own)
    (ap (holds_of (λ c. wants own c.action c.made e.kind)) (sym (current_is_first script own))
    ∙ (sym (closed_wanted script own e.kind closed) ∙ h)) of)

-- an entry by the script is one of its actions'
pub driver_left_falls : (script : Plan) (past : List Entry) (e : Entry) → IsClosed script → by_script script past e.seat e.kind ≡ true
    → is_of_script e.kind ≡ true
    → driver_left script (past ++ e ∷ []) + 1 ≤ driver_left script past
unfolding driver_left by_script
driver_left_falls script past e closed h of =
    let parts = and_parts (eqb e.seat 0) (is_wanted script (own_entries 0 past) e.kind) h in
    rw (own_entries_push past e 0, parts.0) (wanted_falls script (own_entries 0 past) e closed parts.1 of)

pub driver_left_begins : (script : Plan) → driver_left script [] ≤ sum_by events_of_action script.actions
unfolding driver_left agenda
driver_left_begins script = agenda_from_within script.actions []
