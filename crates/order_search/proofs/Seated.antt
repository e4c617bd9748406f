-- Each event of an order is of a seat of the script.
-- Cited by `are_seated`, `EachKind`.
use Rattle.std.proofs.Common.{◌≡◌, ℕ, ◌+◌, ◌<◌, ◌≤◌, Bool, true, false, eqb, List, [], get_or, sym, ◌∙◌, append-nil, arith}
use Rattle.std.specs.Prelude.{All, nat_le}
use Rattle.std.specs.List.{AllByRecursion, list_all}
use Rattle.std.proofs.lemmas.Bool.{leb-true, le-leb, ne_eqb, true_from_ne_false, true≢false}
use Rattle.std.proofs.lemmas.List.Folds.{list_all_at}
use Rattle.list_laws.proofs.Elements.{AllByRecursion-map, AllByRecursion-unmapped}
use Rattle.list_laws.proofs.Filters.{filter_none}
use Rattle.list_laws.proofs.Places.{AllByRecursion-push}
use Rattle.list_laws.proofs.Tests.{list_all-from_recursion}
use Rattle.task_base.specs.Plan.{Plan}
use Rattle.task_base.specs.declared.entry.Entry.{Entry}
use Rattle.hist_model.specs.Legal.{IsLegal}
use Rattle.hist_model.proofs.Laws.Legal.{entry_induction}
use Rattle.order_model.specs.declared.event.Event.{Event}
use Rattle.order_model.specs.Orders.{entries_of, own_events}
use Rattle.order_search.specs.Arranged.{HasNoOrder}
use Rattle.order_search.proofs.Merged.{all_seated}

-- the entries of a legal history are
legal_seated : (script : Plan) (log : List Entry) → IsLegal script log → AllByRecursion (λ (e : Entry). e.seat ≤ script.workers) log
legal_seated script log legal = entry_induction script (λ past. AllByRecursion (λ (e : Entry). e.seat ≤ script.workers) past) tt
    (λ past e within may holds. AllByRecursion-push (λ (x : Entry). x.seat ≤ script.workers) past e holds within) log legal

-- so where an event that was seen is not, there is no order
pub none_unseated : (script : Plan) (prefix : Bool) (seen : List Event)
    → list_all (λ (e : Event). nat_le e.entry.seat script.workers) seen ≡ false → HasNoOrder script prefix seen
none_unseated script prefix seen unseated events order =
    true≢false (sym (list_all-from_recursion (λ (e : Event). nat_le e.entry.seat script.workers) seen
    (AllByRecursion-map (λ (e : Event). e.entry.seat < script.workers + 1) (λ (e : Event). nat_le e.entry.seat script.workers ≡ true) seen
    (λ e within. le-leb e.entry.seat script.workers (omega (arith, within)))
    (all_seated (script.workers + 1) seen (λ seat past. sym (order.begins.own seat) ∙ append-nil (own_events seat events) ∙ none seat past)))) ∙ unseated)
  where
    none : (seat : ℕ) → script.workers + 1 ≤ seat → own_events seat events ≡ []
    none seat past = filter_none (λ (e : Event). eqb e.entry.seat seat) events
        (AllByRecursion-map (λ (e : Event). e.entry.seat ≤ script.workers) (λ (e : Event). eqb e.entry.seat seat ≡ false) events
        (λ e within. ne_eqb e.entry.seat seat (λ is. omega (arith, within, is, past)))
        (AllByRecursion-unmapped (λ (e : Entry). e.seat ≤ script.workers) (λ (e : Event). e.entry) events
        (legal_seated script (entries_of events) order.begins.legal)))

-- where the test says so each event is
pub seated_by_test : (last : ℕ) (seen : List Event) → list_all (λ (e : Event). nat_le e.entry.seat last) seen ≡ true
    → All (λ (e : Event). e.entry.seat ≤ last) seen
seated_by_test last seen all i d within = leb-true (get_or seen i d).entry.seat last
    (true_from_ne_false (nat_le (get_or seen i d).entry.seat last) (λ fails. true≢false (sym all
    ∙ list_all_at (λ (e : Event). nat_le e.entry.seat last) seen i d within fails)))
