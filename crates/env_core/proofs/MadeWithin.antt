-- What the driver has made of its action is part of its entries.
-- Cited by `Ledger::action`, `Ledger::enter`, `Ledger::is_finished`, `Ledger::made`.
use Rattle.env_core.specs.Agenda.{counted}
use Rattle.env_core.specs.Ledger.{IsDriverAt}
use Rattle.env_core.specs.declared.agenda.Agenda.{Agenda}
use Rattle.hist_model.specs.Laws.Agenda.{agenda, agenda_from, first_of}
use Rattle.hist_model.specs.Legal.{IsLegal}
use Rattle.hist_model.specs.Open.{IsClosed}
use Rattle.hist_model.specs.Script.{Current, behind, behind_action, behind_join, behind_pump, current, is_finished, is_joined, is_main_end, is_main_none}
use Rattle.hist_model.specs.Views.{own_entries}
use Rattle.hist_model.proofs.Laws.Agenda.{current_is_first}
use Rattle.hist_model.proofs.Laws.Entries.Bound.{entries_within_limit}
use Rattle.hist_model.proofs.Laws.Open.{closed_finished}
use Rattle.list_laws.proofs.Counts.{count_le}
use Rattle.script_model.specs.Laws.Sound.{IsSound}
use Rattle.std.proofs.Common.{Bool, List, None, Option, Some, [], cond, drop, eqb, false, leb, length, true, zero, suc, ℕ}
use Rattle.std.proofs.Common.{◌-◌, ◌<◌, ◌^◌, ◌∙◌, ◌∷◌, ◌≡◌, ◌≤◌, refl, sym, arith}
use Rattle.std.proofs.lemmas.Option.{same_Some}
use Rattle.std.specs.Option.{option_map, option_map_or}
use Rattle.std.specs.Prelude.{◌==◌, ◌&&◌, ◌||◌, IfSome, is_none, slice_get}
use Rattle.task_base.specs.Plan.{Plan}
use Rattle.task_base.specs.declared.entry.Entry.{Entry}
use Rattle.task_base.specs.declared.script.Action.{Action}
use Rattle.task_base.specs.declared.script.Action.TheVariants as actions

-- what is behind a complete action is part of what there was
behind_within : (n : ℕ) (own left : List Entry) → behind n own ≡ Some left → length left ≤ length own
behind_within zero own left h = let same : own ≡ left = cc in rw same (omega arith)
behind_within (suc n) [] left h = absurd cc
behind_within (suc n) (e ∷ own) left h = omega (arith, behind_within n own left h)

-- what is behind a complete pump is part of what there was
pump_within : (n : ℕ) (own left : List Entry) → behind_pump n own ≡ Some left → length left ≤ length own
pump_within n [] left h = absurd cc
pump_within n (e ∷ own) left h = by_main_none (is_main_none e.kind || (is_main_end e.kind && leb n 1)) h
    (pump_within (cond (is_main_end e.kind) (n - 1) n) own left)
  where
    by_main_none : (b : Bool) → cond b (Some own) (behind_pump (cond (is_main_end e.kind) (n - 1) n) own) ≡ Some left
        → (behind_pump (cond (is_main_end e.kind) (n - 1) n) own ≡ Some left → length left ≤ length own) → length left ≤ suc (length own)
    by_main_none true k next = let same : own ≡ left = same_Some own left k in rw same (omega arith)
    by_main_none false k next = omega (arith, next k)

-- what is behind a complete join is part of what there was
join_within : (own left : List Entry) → behind_join own ≡ Some left → length left ≤ length own
join_within [] left h = absurd cc
join_within (e ∷ own) left h = by_joined (is_joined e.kind) h (join_within own left)
  where
    by_joined : (b : Bool) → cond b (Some own) (behind_join own) ≡ Some left → (behind_join own ≡ Some left → length left ≤ length own)
        → length left ≤ suc (length own)
    by_joined true k next = let same : own ≡ left = same_Some own left k in rw same (omega arith)
    by_joined false k next = omega (arith, next k)

-- what is behind a complete action is part of what there was
action_within : (x : Action) (own left : List Entry) → behind_action x own ≡ Some left → length left ≤ length own
action_within (actions.Tick n) own left h = behind_within n own left h
action_within (actions.Pump n) own left h = pump_within n own left h
action_within (actions.Join job) own left h = join_within own left h
action_within (actions.Cancel job) own left h = behind_within 2 own left h
action_within actions.Shutdown own left h = behind_within 2 own left h
action_within x own left h = behind_within 1 own left h

-- the first action has made no more entries than there are
agenda_within : (xs : List Action) (own : List Entry) → length (agenda_from xs own).made ≤ length own
agenda_within [] own = omega arith
agenda_within (x ∷ xs) own = by_behind_action (behind_action x own) refl (agenda_within xs)
  where
    by_behind_action : (o : Option (List Entry)) → behind_action x own ≡ o → ((left : List Entry) → length (agenda_from xs left).made ≤ length left)
        → length (option_map_or (λ left. agenda_from xs left) o (record { actions = x ∷ xs; made = own })).made ≤ length own
    by_behind_action None is next = omega arith
    by_behind_action (Some left) is next = omega (arith, next left, action_within x own left is)

-- no more count than were made
counted_within : (xs : List Action) (made : List Entry) → counted xs made ≤ length made
counted_within [] made = omega arith
counted_within (actions.Pump n ∷ xs) made = count_le (λ (e : Entry). is_main_end e.kind) made
counted_within (actions.Join job ∷ xs) made = count_le (λ (e : Entry). is_joined e.kind) made
counted_within (x ∷ xs) made = omega arith

-- a legal history is short, so the current action has made few entries
pub few_entries_made : (script : Plan) (past : List Entry) (a : Agenda) → IsSound script → IsLegal script past → IsDriverAt script past a → a.made < 2 ^ 31
unfolding agenda
few_entries_made script past a plan legal at = omega (
  arith,
  agenda_within script.actions (own_entries 0 past),
  counted_within (agenda script (own_entries 0 past)).actions (agenda script (own_entries 0 past)).made,
  at.made_is,
  count_le (λ (e : Entry). eqb e.seat 0) past,
  entries_within_limit script past plan legal,
)

-- the script is finished exactly where all actions are complete
pub finished_is : (script : Plan) (past : List Entry) (a : Agenda) → IsClosed script → IsDriverAt script past a
    → is_finished script past ≡ (a.place == length script.actions)
finished_is script past a closed at = closed_finished script past closed ∙ rw (current_is_first script (own_entries 0 past), at.actions_are)
    (none_from script.actions a.place (agenda script (own_entries 0 past)).made at.within)
  where
    none_from : (xs : List Action) (n : ℕ) (front : List Entry) → n ≤ length xs → is_none (first_of (drop n xs) front) ≡ eqb n (length xs)
    none_from [] zero front h = refl
    none_from [] (suc n) front h = absurd (omega (arith, h))
    none_from (x ∷ xs) zero front h = grind arith
    none_from (x ∷ xs) (suc n) front h =
        let same : eqb (suc n) (suc (length xs)) ≡ eqb n (length xs) = grind arith in rw same (none_from xs n front (omega (arith, h)))

-- the driver is at the action of its place
pub action_at : (script : Plan) (past : List Entry) (a : Agenda) → IsDriverAt script past a
    → slice_get script.actions a.place ≡ option_map (λ (c : Current). c.action) (current script (own_entries 0 past))
action_at script past a at = rw (current_is_first script (own_entries 0 past), at.actions_are)
    (first_from script.actions a.place (agenda script (own_entries 0 past)).made)
  where
    first_from : (xs : List Action) (n : ℕ) (front : List Entry) → slice_get xs n ≡ option_map (λ (c : Current). c.action) (first_of (drop n xs) front)
    first_from [] n front = at_each n
      where
        at_each : (k : ℕ) → slice_get [] k ≡ option_map (λ (c : Current). c.action) (first_of (drop k []) front)
        at_each zero = refl
        at_each (suc k) = refl
    first_from (x ∷ xs) zero front = refl
    first_from (x ∷ xs) (suc n) front = first_from xs n front

-- and that action has made so many entries that count
pub made_at : (script : Plan) (past : List Entry) (a : Agenda) → IsDriverAt script past a
    → IfSome (current script (own_entries 0 past)) (λ c. a.made ≡ counted (c.action ∷ []) c.made)
made_at script past a at = rw (current_is_first script (own_entries 0 past))
    (by_agenda (agenda script (own_entries 0 past)).actions (agenda script (own_entries 0 past)).made at.made_is)
  where
    first_counts : (x : Action) (rest : List Action) (front : List Entry) → counted (x ∷ rest) front ≡ counted (x ∷ []) front
    first_counts (actions.Pump n) rest front = refl
    first_counts (actions.Join job) rest front = refl
    first_counts x rest front = refl

    by_agenda : (xs : List Action) (front : List Entry) → counted xs front ≡ a.made → IfSome (first_of xs front) (λ c. a.made ≡ counted (c.action ∷ []) c.made)
    by_agenda [] front is = tt
    by_agenda (x ∷ rest) front is = sym is ∙ first_counts x rest front
