-- The driver's place in its script, as the history grows.
-- Cited by `Ledger::open`, `Acts`, `Entries`, `JobCalls`, `Taking`.
use Rattle.env_core.specs.Agenda.{counted, entries_of, moved_on, passed, passed_on}
use Rattle.env_core.specs.Ledger.{IsDriverAt}
use Rattle.hist_model.specs.Allowed.{by_script}
use Rattle.env_core.specs.declared.agenda.Agenda.{Agenda}
use Rattle.hist_model.specs.Laws.Agenda.{agenda, agenda_from, completes, first_of, next_agenda}
use Rattle.hist_model.specs.Laws.Agenda as laws
use Rattle.hist_model.specs.Laws.Consistent.{is_join, is_pump}
use Rattle.hist_model.specs.Legal.{IsLegal}
use Rattle.hist_model.specs.Script.{Current, behind, behind_action, behind_join, behind_pump, current, is_joined, is_main_end, is_main_none, wants}
use Rattle.hist_model.specs.Views.{own_entries}
use Rattle.hist_model.proofs.Laws.Agenda.{agenda_push, current_is_first}
use Rattle.hist_model.proofs.Laws.LegalPast.{legal_past}
use Rattle.hist_model.proofs.Laws.OneThing.{wanted_by, join_wants}
use Rattle.hist_model.proofs.Laws.Own.{own_entries_push}
use Rattle.hist_model.proofs.Laws.Takes.{by_driver}
use Rattle.list_laws.proofs.Places.{count-push}
use Rattle.list_laws.specs.Lists.{count}
use Rattle.script_model.specs.Laws.Sound.{IsActionSound, IsSound}
use Rattle.std.proofs.Common.{Bool, List, None, Option, Some, [], add-one, cond, drop, eqb, false, leb, length, length-append, true, zero, suc, ℕ}
use Rattle.std.proofs.Common.{◌+◌, ◌-◌, ◌++◌, ◌<◌, ◌∙◌, ◌∷◌, ◌≡◌, ◌≤◌, refl, sym, ap, subst, arith}
use Rattle.std.proofs.lemmas.Bool.{eq-eqb, eqb-true}
use Rattle.std.proofs.lemmas.Option.{none-some, same_Some}
use Rattle.std.specs.List.{AllByRecursion}
use Rattle.std.specs.Option.{option_map_or}
use Rattle.std.specs.Prelude.{◌==◌, ◌&&◌, ◌||◌, filter, slice_get}
use Rattle.task_base.specs.Plan.{Plan}
use Rattle.task_base.specs.declared.entry.Entry.{Entry}
use Rattle.task_base.specs.declared.entry.Kind.{Kind}
use Rattle.task_base.specs.declared.entry.Kind.TheVariants as kinds
use Rattle.task_base.specs.declared.script.Action.{Action}
use Rattle.task_base.specs.declared.script.Action.TheVariants as actions
use Rattle.task_model.specs.Seats.{Holding, Running, holding, running}

-- a sound action is not complete where it has made nothing
nothing_made : (script : Plan) (x : Action) → IsActionSound script x → behind_action x [] ≡ None
nothing_made script (actions.Tick zero) sound = absurd (omega (arith, sound.0))
nothing_made script x sound = refl

-- an agenda of sound actions that have made nothing begins with the first of them
fresh_agenda : (script : Plan) (xs : List Action) → AllByRecursion (IsActionSound script) xs → agenda_from xs [] ≡ record { actions = xs; made = [] }
fresh_agenda script [] sound = refl
fresh_agenda script (x ∷ xs) sound = rw (nothing_made script x sound.0) refl

-- where nothing is made, nothing counts
nothing_counts : (xs : List Action) → counted xs [] ≡ 0
nothing_counts [] = refl
nothing_counts (actions.Pump n ∷ xs) = refl
nothing_counts (actions.Join job ∷ xs) = refl
nothing_counts (x ∷ xs) = refl

-- at the start the driver is at the first action
pub driver_at_start : (script : Plan) → IsSound script → IsDriverAt script [] (record { place = 0; made = 0 })
unfolding agenda
driver_at_start script plan =
    let fresh = fresh_agenda script script.actions plan.actions.each_sound in
    record {
      within = omega arith;
      actions_are = ap (λ a. a.actions) fresh;
      made_is = ap (λ a. counted a.actions a.made) fresh ∙ nothing_counts script.actions;
    }

-- an entry of a worker
pub driver_waits : (script : Plan) (past : List Entry) (e : Entry) (a : Agenda) → (e.seat == 0) ≡ false → IsDriverAt script past a
    → IsDriverAt script (past ++ e ∷ []) a
driver_waits script past e a other at =
    let same : own_entries 0 (past ++ e ∷ []) ≡ own_entries 0 past = rw (own_entries_push past e 0, other) refl in
    record { within = at.within; actions_are = rw same at.actions_are; made_is = rw same at.made_is }

-- the first action of an agenda is not complete
first_waits : (xs : List Action) (own : List Entry) (x : Action) (rest : List Action) → (agenda_from xs own).actions ≡ x ∷ rest
    → behind_action x (agenda_from xs own).made ≡ None
first_waits [] own x rest h = absurd cc
first_waits (y ∷ ys) own x rest h = by_behind_action (behind_action y own) refl (first_waits ys) h
  where
    taken : Option (List Entry) → laws.Agenda
    taken o = option_map_or (λ left. agenda_from ys left) o (record { actions = y ∷ ys; made = own })

    by_behind_action : (o : Option (List Entry)) → behind_action y own ≡ o
        → ((left : List Entry) (z : Action) (more : List Action) → (agenda_from ys left).actions ≡ z ∷ more → behind_action z
        (agenda_from ys left).made ≡ None)
        → (taken o).actions ≡ x ∷ rest → behind_action x (taken o).made ≡ None
    by_behind_action None is next k = let same : y ≡ x = cc in rw (← same) is
    by_behind_action (Some left) is next k = next left x rest k

-- a pump that is not complete has ended fewer main tasks than it is to end
pump_waits : (n : ℕ) (made : List Entry) → 1 ≤ n → behind_pump n made ≡ None → count (λ e. is_main_end e.kind) made < n
pump_waits n [] some waits = omega (arith, some)
pump_waits n (e ∷ made) some waits = by_main_none (is_main_none e.kind) (is_main_end e.kind) waits (pump_waits n made some) (pump_waits (n - 1) made)
  where
    by_main_none : (none ends : Bool) → cond (none || (ends && leb n 1)) (Some made) (behind_pump (cond ends (n - 1) n) made) ≡ None
        → (behind_pump n made ≡ None → count (λ x. is_main_end x.kind) made < n)
        → (1 ≤ n - 1 → behind_pump (n - 1) made ≡ None → count (λ x. is_main_end x.kind) made < n - 1)
        → length (cond ends (e ∷ filter (λ x. is_main_end x.kind) made) (filter (λ x. is_main_end x.kind) made)) < n
    by_main_none true ends k same less = absurd cc
    by_main_none false false k same less = same k
    by_main_none false true k same less = last (leb n 1) refl k
      where
        last : (b : Bool) → leb n 1 ≡ b → cond b (Some made) (behind_pump (n - 1) made) ≡ None
            → suc (count (λ x. is_main_end x.kind) made) < n
        last true is l = absurd cc
        last false is l = let more : 2 ≤ n = grind (arith, is) in omega (arith, more, less (omega (arith, more)) l)

-- a join that is not complete has no reply yet
join_waits : (made : List Entry) → behind_join made ≡ None → count (λ e. is_joined e.kind) made ≡ 0
join_waits [] waits = refl
join_waits (e ∷ made) waits = by_joined (is_joined e.kind) waits (join_waits made)
  where
    by_joined : (joined : Bool) → cond joined (Some made) (behind_join made) ≡ None → (behind_join made ≡ None → count (λ x. is_joined x.kind) made ≡ 0)
        → length (cond joined (e ∷ filter (λ x. is_joined x.kind) made) (filter (λ x. is_joined x.kind) made)) ≡ 0
    by_joined true k none = absurd cc
    by_joined false k none = none k

-- whether the driver makes such an entry inside a pump by the script
abbrev pub is_of_pump : Kind → Bool
is_of_pump (kinds.MainTake task queue value) = true
is_of_pump kinds.MainNone = true
is_of_pump kind = false

-- whether such an entry counts where the script wants it: all do but those of a pump, and the take of an item inside a join
abbrev pub is_counted : Kind → Bool
is_counted (kinds.MainTake task queue value) = false
is_counted kinds.MainNone = false
is_counted (kinds.JobTake job id item) = false
is_counted kind = true

-- one more entry that an action other than a pump or a join makes completes it where it is the last of those that it makes
completes_is : (x : Action) (made : List Entry) (kind : Kind) → (is_pump x || is_join x) ≡ false → behind_action x made ≡ None
    → completes x made kind ≡ eqb (length made + 1) (entries_of x)
completes_is (actions.Pump n) made kind other waits = absurd cc
completes_is (actions.Tick n) made kind other waits = refl
completes_is (actions.Join job) made kind other waits = absurd cc
completes_is (actions.Cancel job) made kind other waits = refl
completes_is actions.Shutdown made kind other waits = refl
completes_is x [] kind other waits = refl
completes_is x (e ∷ made) kind other waits = absurd cc

-- the actions from a place on, and the first of them
pub place_at : {A : Type 0} (xs : List A) (place : ℕ) (x : A) (rest : List A) → x ∷ rest ≡ drop place xs
    → (slice_get xs place ≡ Some x) × (drop (suc place) xs ≡ rest) × (place < length xs)
place_at [] zero x rest h = absurd cc
place_at [] (suc place) x rest h = absurd cc
place_at (y ∷ ys) zero x rest h = (cc, cc, omega arith)
place_at (y ∷ ys) (suc place) x rest h = let (is, behind, within) = place_at ys place x rest h in (is, behind, omega (arith, within))

-- what holds of all actions holds of those from a place on
all_from : {A : Type 0} (P : A → Type 0) (xs : List A) (place : ℕ) → AllByRecursion P xs → AllByRecursion P (drop place xs)
all_from P xs zero all = all
all_from P [] (suc place) all = tt
all_from P (x ∷ xs) (suc place) all = all_from P xs place all.1

-- an agenda is at a place of the script
record StandsAt (script : Plan) (a : laws.Agenda) (b : Agenda) : Type 0 where
  within : b.place ≤ length script.actions
  actions_are : a.actions ≡ drop b.place script.actions
  made_is : counted a.actions a.made ≡ b.made

-- the place of an agenda behind one more entry of its first action
abbrev next_place : Agenda → Action → List Action → List Entry → Entry → Agenda
next_place b x rest made e =
    cond (completes x made e.kind) (passed b) (record { place = b.place; made = counted (x ∷ rest) (made ++ e ∷ []) })

-- one more entry of the first action moves the agenda and its place alike
agenda_next : (script : Plan) (e : Entry) (x : Action) (rest : List Action) (made : List Entry) (b : Agenda) → IsSound script
    → StandsAt script (record { actions = x ∷ rest; made = made }) b
    → StandsAt script (next_agenda (x ∷ rest) made e) (next_place b x rest made e) × (slice_get script.actions b.place ≡ Some x) × IsActionSound script x
agenda_next script e x rest made b plan s =
    let (is, behind, within) = place_at script.actions b.place x rest s.actions_are in
    let sound = subst (AllByRecursion (IsActionSound script)) (sym s.actions_are) (all_from _ script.actions b.place plan.actions.each_sound) in
    (by_completes (completes x made e.kind) (fresh_agenda script rest sound.1) behind within, is, sound.0)
  where
    by_completes : (c : Bool) → agenda_from rest [] ≡ record { actions = rest; made = [] } → drop (suc b.place) script.actions ≡ rest
        → b.place < length script.actions
        → StandsAt script (cond c (agenda_from rest []) (record { actions = x ∷ rest; made = made ++ e ∷ [] }))
        (cond c (passed b) (record { place = b.place; made = counted (x ∷ rest) (made ++ e ∷ []) }))
    by_completes true fresh behind within = record {
      within = omega (arith, within);
      actions_are = rw (fresh, add-one) (sym behind);
      made_is = ap (λ a. counted a.actions a.made) fresh ∙ nothing_counts rest;
    }
    by_completes false fresh behind within = record { within = s.within; actions_are = s.actions_are; made_is = refl }

-- what an entry makes of a place
abbrev Moves : Plan → Agenda → Agenda → Action → List Action → List Entry → Entry → Type 0
Moves script b later x rest made e = IsActionSound script x → slice_get script.actions b.place ≡ Some x → behind_action x made ≡ None
    → counted (x ∷ rest) made ≡ b.made → next_place b x rest made e ≡ later

-- of an action other than a pump or a join all entries count
pub all_count : (x : Action) (rest : List Action) (made : List Entry) → (is_pump x || is_join x) ≡ false → counted (x ∷ rest) made ≡ length made
all_count (actions.Pump n) rest made other = absurd cc
all_count (actions.Join job) rest made other = absurd cc
all_count x rest made other = refl

-- an entry of an action other than a pump or a join
moves_other : (script : Plan) (b : Agenda) (x : Action) (rest : List Action) (made : List Entry) (e : Entry) → (is_pump x || is_join x) ≡ false
    → Moves script b (moved_on script.actions b) x rest made e
moves_other script b x rest made e other sound is waits counts =
    let so_far : b.made ≡ length made = sym counts ∙ all_count x rest made other in
    rw (is, completes_is x made e.kind other waits, all_more, so_far) (by_last (eqb (length made + 1) (entries_of x)))
  where
    all_more : counted (x ∷ rest) (made ++ e ∷ []) ≡ length made + 1
    all_more = all_count x rest (made ++ e ∷ []) other ∙ length-append made (e ∷ [])

    by_last : (c : Bool) → cond c (passed b) (record { place = b.place; made = length made + 1 }) ≡ cond c (passed b) (record b { made = length made + 1 })
    by_last true = refl
    by_last false = refl

-- the entries of a pump: most leave the place, the end of a main task counts, and where there is none the pump is complete
pump_stays : (script : Plan) (b : Agenda) (x : Action) (rest : List Action) (made : List Entry) (e : Entry) → is_pump x ≡ true
    → is_main_none e.kind ≡ false → is_main_end e.kind ≡ false → Moves script b b x rest made e
pump_stays script b (actions.Pump n) rest made e pump none ends sound is waits counts =
    let more : count (λ (y : Entry). is_main_end y.kind) (made ++ e ∷ []) ≡ b.made = count-push (λ (y : Entry). is_main_end y.kind) made e
    ∙ ap (λ k. count (λ (y : Entry). is_main_end y.kind) made + cond k 1 0) ends ∙ omega (arith, counts) in
    rw (none, ends, more) refl
pump_stays script b x rest made e pump none ends sound is waits counts = absurd cc

-- the end of a main task counts for its pump
pump_ends : (script : Plan) (b : Agenda) (x : Action) (rest : List Action) (made : List Entry) (e : Entry) → is_pump x ≡ true
    → is_main_none e.kind ≡ false → is_main_end e.kind ≡ true → Moves script b (moved_on script.actions b) x rest made e
pump_ends script b (actions.Pump n) rest made e pump none ends sound is waits counts =
    let more : count (λ (y : Entry). is_main_end y.kind) (made ++ e ∷ []) ≡ b.made + 1 = count-push (λ (y : Entry). is_main_end y.kind) made e
    ∙ ap (λ k. count (λ (y : Entry). is_main_end y.kind) made + cond k 1 0) ends ∙ omega (arith, counts) in
    let last : leb n (b.made + 1) ≡ eqb (b.made + 1) n = grind (arith, pump_waits n made sound.0 waits, counts) in
    rw (is, none, ends, more, counts, last) (by_last (eqb (b.made + 1) n))
  where
    by_last : (c : Bool) → cond c (passed b) (record { place = b.place; made = b.made + 1 }) ≡ cond c (passed b) (record b { made = b.made + 1 })
    by_last true = refl
    by_last false = refl
pump_ends script b x rest made e pump none ends sound is waits counts = absurd cc

-- where no main task is found the pump is complete
pump_passes : (script : Plan) (b : Agenda) (x : Action) (rest : List Action) (made : List Entry) (e : Entry) → is_pump x ≡ true
    → is_main_none e.kind ≡ true → Moves script b (passed_on script.actions b) x rest made e
pump_passes script b (actions.Pump n) rest made e pump none sound is waits counts = rw (is, none) refl
pump_passes script b x rest made e pump none sound is waits counts = absurd cc

-- the entries of a join: all but the reply leave the place
join_stays : (script : Plan) (b : Agenda) (x : Action) (rest : List Action) (made : List Entry) (e : Entry) → is_join x ≡ true
    → is_joined e.kind ≡ false → Moves script b b x rest made e
join_stays script b (actions.Join job) rest made e join joined sound is waits counts =
    let more : count (λ (y : Entry). is_joined y.kind) (made ++ e ∷ []) ≡ b.made = count-push (λ (y : Entry). is_joined y.kind) made e
    ∙ ap (λ k. count (λ (y : Entry). is_joined y.kind) made + cond k 1 0) joined ∙ omega (arith, counts) in
    rw (joined, more) refl
join_stays script b x rest made e join joined sound is waits counts = absurd cc

-- the reply completes its join
join_ends : (script : Plan) (b : Agenda) (x : Action) (rest : List Action) (made : List Entry) (e : Entry) → is_join x ≡ true
    → is_joined e.kind ≡ true → Moves script b (moved_on script.actions b) x rest made e
join_ends script b (actions.Join job) rest made e join joined sound is waits counts =
    let none : b.made ≡ 0 = sym counts ∙ join_waits made waits in
    rw (is, joined, none) refl
join_ends script b x rest made e join joined sound is waits counts = absurd cc

-- an entry of the driver moves its place as it does that of its action
driver_to : (script : Plan) (past : List Entry) (e : Entry) (b later : Agenda) (c : Current) → IsSound script → (e.seat == 0) ≡ true
    → IsDriverAt script past b → current script (own_entries 0 past) ≡ Some c
    → ((rest : List Action) (made : List Entry) → Moves script b later c.action rest made e) → IsDriverAt script (past ++ e ∷ []) later
unfolding agenda
driver_to script past e b later c plan driver at now moves =
    let own = own_entries 0 past in
    let a = agenda script own in
    let moved = to_from a.actions a.made (sym (current_is_first script own) ∙ now)
    (record { within = at.within; actions_are = at.actions_are; made_is = at.made_is }) (first_waits script.actions own) in
    let same : agenda script (own_entries 0 (past ++ e ∷ [])) ≡ next_agenda a.actions a.made e = rw (own_entries_push past e 0, driver)
    (agenda_push script own e) in
    record { within = moved.within; actions_are = rw same moved.actions_are; made_is = rw same moved.made_is }
  where
    to_from : (xs : List Action) (made : List Entry) → first_of xs made ≡ Some c → StandsAt script (record { actions = xs; made = made }) b
        → ((x : Action) (rest : List Action) → xs ≡ x ∷ rest → behind_action x made ≡ None) → StandsAt script (next_agenda xs made e) later
    to_from [] made is s waits = absurd (none-some c is)
    to_from (x ∷ rest) made is s waits =
        let next = agenda_next script e x rest made b plan s in
        let moves_x = subst (λ y. Moves script b later y rest made e) (sym (ap (λ (d : Current). d.action) (same_Some _ c is))) (moves rest made) in
        subst (StandsAt script (next_agenda (x ∷ rest) made e)) (moves_x next.2 next.1 (waits x rest refl) s.made_is) next.0

-- no pump wants an entry that counts
no_pump_wants : (own : List Entry) (n : ℕ) (made : List Entry) (kind : Kind) → wants own (actions.Pump n) made kind ≡ true → is_counted kind ≡ true → ⊥
no_pump_wants own n made (kinds.MainTake task queue value) w h = absurd cc
no_pump_wants own n made kinds.MainNone w h = absurd cc
no_pump_wants own n made kind w h = absurd cc

-- a join wants one entry that counts, its reply
reply_wanted : (own : List Entry) (job : ℕ) (made : List Entry) (kind : Kind) → wants own (actions.Join job) made kind ≡ true → is_counted kind ≡ true
    → is_joined kind ≡ true
reply_wanted own job made (kinds.JobTake j id item) w h = absurd cc
reply_wanted own job made (kinds.Joined j reply) w h = refl
reply_wanted own job made kind w h = absurd cc

-- an entry that counts, where the action wants it
moves_wanted : (script : Plan) (b : Agenda) (own : List Entry) (x : Action) (front : List Entry) (e : Entry) → wants own x front e.kind ≡ true
    → is_counted e.kind ≡ true → (rest : List Action) (made : List Entry) → Moves script b (moved_on script.actions b) x rest made e
moves_wanted script b own (actions.Pump n) front e w h rest made = absurd (no_pump_wants own n front e.kind w h)
moves_wanted script b own (actions.Join job) front e w h rest made =
    join_ends script b (actions.Join job) rest made e refl (reply_wanted own job front e.kind w h)
moves_wanted script b own x front e w h rest made = moves_other script b x rest made e refl

-- an entry by the script that counts
pub driver_moves : (script : Plan) (past : List Entry) (e : Entry) (a : Agenda) → IsSound script → by_script script past e.seat e.kind ≡ true
    → is_counted e.kind ≡ true → IsDriverAt script past a → IsDriverAt script (past ++ e ∷ []) (moved_on script.actions a)
driver_moves script past e a plan by counts at =
    let c = wanted_by script past e.seat e.kind plan.closed by in
    driver_to script past e a (moved_on script.actions a) c.value plan (eq-eqb e.seat 0 (by_driver script past e.seat e.kind by)) at c.is
    (moves_wanted script a (own_entries 0 past) c.value.action c.value.made e c.passes counts)

-- inside a join, an entry of the driver other than the reply leaves its place
pub driver_joins_on : (script : Plan) (past : List Entry) (e : Entry) (a : Agenda) (c : Current) → IsSound script → e.seat ≡ 0
    → current script (own_entries 0 past) ≡ Some c → is_join c.action ≡ true → is_joined e.kind ≡ false → IsDriverAt script past a
    → IsDriverAt script (past ++ e ∷ []) a
driver_joins_on script past e a c plan driver now join joined at =
    driver_to script past e a a c plan (eq-eqb e.seat 0 driver) at now (λ rest front. join_stays script a c.action rest front e join joined)

-- so does the take of an item that the script wants
pub driver_goes_in : (script : Plan) (past : List Entry) (seat job id item : ℕ) (a : Agenda) → IsSound script
    → by_script script past seat (kinds.JobTake job id item) ≡ true → IsDriverAt script past a
    → IsDriverAt script (past ++ (record { seat = seat; kind = kinds.JobTake job id item }) ∷ []) a
driver_goes_in script past seat job id item a plan by at =
    let c = wanted_by script past seat (kinds.JobTake job id item) plan.closed by in
    driver_joins_on script past (record { seat = seat; kind = kinds.JobTake job id item }) a c.value plan
    (by_driver script past seat (kinds.JobTake job id item) by) c.is
    (join_wants (own_entries 0 past) c.value.action c.value.made job id item c.passes) refl at

-- inside a pump the driver takes a main task, or finds none
wants_main_take : (own : List Entry) (x : Action) (made : List Entry) (kind : Kind) → wants own x made kind ≡ true → is_of_pump kind ≡ true → is_pump x ≡ true
wants_main_take own (actions.Pump n) made kind w h = refl
wants_main_take own x made (kinds.MainTake task queue value) w h = absurd cc
wants_main_take own x made kinds.MainNone w h = absurd cc
wants_main_take own x made kind w h = absurd cc

-- the take of a main task leaves the driver's place
pub driver_takes : (script : Plan) (past : List Entry) (e : Entry) (a : Agenda) → IsSound script → by_script script past e.seat e.kind ≡ true
    → is_of_pump e.kind ≡ true → is_main_none e.kind ≡ false → is_main_end e.kind ≡ false → IsDriverAt script past a
    → IsDriverAt script (past ++ e ∷ []) a
driver_takes script past e a plan by pumps none ends at =
    let c = wanted_by script past e.seat e.kind plan.closed by in
    driver_to script past e a a c.value plan (eq-eqb e.seat 0 (by_driver script past e.seat e.kind by)) at c.is
    (λ rest front. pump_stays script a c.value.action rest front e
    (wants_main_take (own_entries 0 past) c.value.action c.value.made e.kind c.passes pumps) none ends)

-- where no main task is found the driver passes on to the next action
pub driver_passes : (script : Plan) (past : List Entry) (seat : ℕ) (a : Agenda) → IsSound script → by_script script past seat kinds.MainNone ≡ true
    → IsDriverAt script past a → IsDriverAt script (past ++ (record { seat = seat; kind = kinds.MainNone }) ∷ []) (passed_on script.actions a)
driver_passes script past seat a plan by at =
    let c = wanted_by script past seat kinds.MainNone plan.closed by in
    let e : Entry = record { seat = seat; kind = kinds.MainNone } in
    driver_to script past e a (passed_on script.actions a) c.value plan (eq-eqb seat 0 (by_driver script past seat kinds.MainNone by)) at c.is
    (λ rest front. pump_passes script a c.value.action rest front e
    (wants_main_take (own_entries 0 past) c.value.action c.value.made kinds.MainNone c.passes refl) refl)

-- the end of a main task counts for its pump
pub driver_ends : (script : Plan) (past : List Entry) (e : Entry) (a : Agenda) (w : Running) → IsSound script → IsLegal script past
    → running past 0 ≡ Some w → e.seat ≡ 0 → is_main_end e.kind ≡ true → is_main_none e.kind ≡ false → IsDriverAt script past a
    → IsDriverAt script (past ++ e ∷ []) (moved_on script.actions a)
driver_ends script past e a w plan legal runs driver ends none at =
    let (c, now, pump) = (legal_past script past legal).one_thing.pumps plan.closed w runs in
    driver_to script past e a (moved_on script.actions a) c plan (eq-eqb e.seat 0 driver) at now
    (λ rest front. pump_ends script a c.action rest front e pump none ends)

-- while a task runs, its entries other than its end leave the driver's place
pub task_waits : (script : Plan) (past : List Entry) (e : Entry) (a : Agenda) (w : Running) → IsSound script → IsLegal script past
    → running past e.seat ≡ Some w → is_main_end e.kind ≡ false → is_main_none e.kind ≡ false → IsDriverAt script past a
    → IsDriverAt script (past ++ e ∷ []) a
task_waits script past e a w plan legal runs ends none at = by_seat (eqb e.seat 0) refl
  where
    by_seat : (c : Bool) → eqb e.seat 0 ≡ c → IsDriverAt script (past ++ e ∷ []) a
    by_seat false other = driver_waits script past e a other at
    by_seat true driver =
        let (c, now, pump) = (legal_past script past legal).one_thing.pumps plan.closed w (ap (running past) (sym (eqb-true e.seat 0 driver)) ∙ runs) in
        driver_to script past e a a c plan driver at now (λ rest front. pump_stays script a c.action rest front e pump none ends)

-- while a seat holds an item, its entries other than a reply leave the driver's place
pub holder_waits : (script : Plan) (past : List Entry) (e : Entry) (a : Agenda) (h : Holding) → IsSound script → IsLegal script past
    → holding past e.seat ≡ Some h → is_joined e.kind ≡ false → IsDriverAt script past a → IsDriverAt script (past ++ e ∷ []) a
holder_waits script past e a h plan legal holds joined at = by_seat (eqb e.seat 0) refl
  where
    by_seat : (c : Bool) → eqb e.seat 0 ≡ c → IsDriverAt script (past ++ e ∷ []) a
    by_seat false other = driver_waits script past e a other at
    by_seat true is =
        let driver = eqb-true e.seat 0 is in
        let (c, now, join) = (legal_past script past legal).one_thing.joins plan.closed h (ap (holding past) (sym driver) ∙ holds) in
        driver_joins_on script past e a c plan driver now join joined at
