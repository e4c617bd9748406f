-- What the placed events have of each seat, and what is ruled out where one more is not allowed or all are.
-- Cited by `merged`, `Merged`, `Steps`, `Tried`.
use Rattle.std.proofs.Common.{◌≡◌, ℕ, ◌+◌, ◌<◌, ◌≤◌, true, false, eqb, List, [], ◌∷◌, ◌++◌, length, drop, get_or, set, refl, sym, ap, subst, ◌∙◌, append_assoc, append-nil, inl, inr, arith}
use Rattle.std.specs.Prelude.{◌⊎◌}
use Rattle.std.specs.List.{list_any}
use Rattle.std.proofs.lemmas.Bool.{and_parts, cases_eq, cases_lt, leb-true}
use Rattle.std.proofs.lemmas.List.{append_cancel_left, drop_all, get_or-set_other, get_or-set_same, get_or_past, length-set}
use Rattle.std.proofs.lemmas.List.Elements.{filter-append}
use Rattle.task_base.specs.Plan.{Plan}
use Rattle.hist_model.specs.Allowed.{is_allowed, may_come}
use Rattle.order_model.specs.declared.event.Event.{Event}
use Rattle.order_model.specs.Orders.{IsBeginning, entries_of, is_before, own_events}
use Rattle.order_search.specs.Places.{IsAt}
use Rattle.order_search.specs.Seats.{IsFirst}
use Rattle.order_search.specs.Walk.{AllTried, AreTried, IsDead, IsPlaced, IsRuledOut, IsTask, Stands, Task, events_under}
use Rattle.order_search.specs.declared.placed.Placed.{Placed}
use Rattle.order_search.proofs.Places.{at_index, at_same, at_within}
use Rattle.order_search.proofs.Own.{allowed_next, no_own, none_before, own_of_other, own_of_seat, own_split}

-- the head of each seat is one of its events, and what was placed and what comes from the heads on is all that it has
pub record IsParted (task : Task) (events : List Event) (heads : List ℕ) : Type 0 where
  pub count : length heads ≡ task.script.workers + 1
  pub own : (seat : ℕ) (e : Event) → seat < task.script.workers + 1 → IsAt task.tries (get_or heads seat 0) e → e.entry.seat ≡ seat
  pub parts : (seat : ℕ) → own_events seat events ++ own_events seat (drop (get_or heads seat 0) task.tries) ≡ own_events seat task.tries

-- before any event was placed
pub parted_first : (task : Task) → IsTask task → IsParted task [] task.heads
parted_first task is = record {
  count = is.linked.some_heads;
  own = λ seat e within at. (is.linked.first seat within).own e at;
  parts = λ seat. by_seat seat (cases_lt seat (task.script.workers + 1));
}
  where
    by_seat : (seat : ℕ) → (seat < task.script.workers + 1) ⊎ (task.script.workers + 1 ≤ seat) → own_events seat (drop (get_or task.heads seat 0) task.tries) ≡ own_events seat task.tries
    by_seat seat (inl within) = (is.linked.first seat within).same
    by_seat seat (inr past) = ap (λ i. own_events seat (drop i task.tries)) (get_or_past task.heads seat 0 (omega (arith, is.linked.some_heads)))

-- what a seat has among events and one more
own_push : (seat : ℕ) (events : List Event) (e : Event) → own_events seat (events ++ e ∷ []) ≡ own_events seat events ++ own_events seat (e ∷ [])
own_push seat events e = filter-append (λ (x : Event). eqb x.entry.seat seat) events (e ∷ [])

-- once the head of a seat is placed
pub parted_next : (task : Task) (events : List Event) (heads : List ℕ) (i : ℕ) (e : Event) → IsTask task → IsParted task events heads
    → IsAt task.tries i e → e.entry.seat < task.script.workers + 1 → get_or heads e.entry.seat 0 ≡ i
    → IsParted task (events ++ e ∷ []) (set heads e.entry.seat (get_or task.after i 0))
parted_next task events heads i e is parts at within head = record {
  count = length-set heads e.entry.seat (get_or task.after i 0) ∙ parts.count;
  own = λ seat x inside. by_own seat x inside (cases_eq seat e.entry.seat);
  parts = λ seat. by_seat seat (cases_eq seat e.entry.seat);
}
  where
    next : IsFirst task.tries e.entry.seat (i + 1) (get_or task.after i 0)
    next = is.linked.next i e (omega arith) at

    moved : get_or (set heads e.entry.seat (get_or task.after i 0)) e.entry.seat 0 ≡ get_or task.after i 0
    moved = get_or-set_same heads e.entry.seat (get_or task.after i 0) 0 (omega (arith, parts.count, within))

    stays : (seat : ℕ) → (seat ≡ e.entry.seat → ⊥) → get_or (set heads e.entry.seat (get_or task.after i 0)) seat 0 ≡ get_or heads seat 0
    stays seat other = get_or-set_other heads e.entry.seat seat (get_or task.after i 0) 0 other

    by_own : (seat : ℕ) (x : Event) → seat < task.script.workers + 1 → (seat ≡ e.entry.seat) ⊎ (seat ≡ e.entry.seat → ⊥)
        → IsAt task.tries (get_or (set heads e.entry.seat (get_or task.after i 0)) seat 0) x → x.entry.seat ≡ seat
    by_own seat x inside (inl same) there =
        next.own x (subst (λ j. IsAt task.tries j x) (ap (λ s. get_or (set heads e.entry.seat (get_or task.after i 0)) s 0) same ∙ moved) there) ∙ sym same
    by_own seat x inside (inr other) there = parts.own seat x inside (subst (λ j. IsAt task.tries j x) (stays seat other) there)

    by_seat : (seat : ℕ) → (seat ≡ e.entry.seat) ⊎ (seat ≡ e.entry.seat → ⊥)
        → own_events seat (events ++ e ∷ []) ++ own_events seat (drop (get_or (set heads e.entry.seat (get_or task.after i 0)) seat 0) task.tries)
        ≡ own_events seat task.tries
    by_seat seat (inl same) =
        let here : own_events seat (e ∷ []) ≡ e ∷ [] = own_of_seat seat e [] (sym same) in
        let later : own_events seat (drop (get_or task.after i 0) task.tries) ≡ own_events seat (drop (i + 1) task.tries) =
        subst (λ s. own_events s (drop (get_or task.after i 0) task.tries) ≡ own_events s (drop (i + 1) task.tries)) (sym same) next.same in
        let all : own_events seat (drop i task.tries) ≡ e ∷ own_events seat (drop (i + 1) task.tries) =
        ap (own_events seat) at.is ∙ own_of_seat seat e (drop (i + 1) task.tries) (sym same) in
        let place : get_or (set heads e.entry.seat (get_or task.after i 0)) seat 0 ≡ get_or task.after i 0 =
        ap (λ s. get_or (set heads e.entry.seat (get_or task.after i 0)) s 0) same ∙ moved in
        let had : get_or heads seat 0 ≡ i = ap (λ s. get_or heads s 0) same ∙ head in
        ap (λ l. l ++ own_events seat (drop (get_or (set heads e.entry.seat (get_or task.after i 0)) seat 0) task.tries)) (own_push seat events e ∙ ap (λ l. own_events seat events ++ l) here)
        ∙ ap (λ j. (own_events seat events ++ e ∷ []) ++ own_events seat (drop j task.tries)) place
        ∙ ap (λ l. (own_events seat events ++ e ∷ []) ++ l) later
        ∙ append_assoc (own_events seat events) (e ∷ []) (own_events seat (drop (i + 1) task.tries))
        ∙ ap (λ l. own_events seat events ++ l) (sym all ∙ ap (λ j. own_events seat (drop j task.tries)) (sym had)) ∙ parts.parts seat
    by_seat seat (inr other) =
        ap (λ l. l ++ own_events seat (drop (get_or (set heads e.entry.seat (get_or task.after i 0)) seat 0) task.tries))
        (own_push seat events e ∙ ap (λ l. own_events seat events ++ l) (own_of_other seat e [] (λ same. other (sym same))) ∙ append-nil (own_events seat events))
        ∙ ap (λ j. own_events seat events ++ own_events seat (drop j task.tries)) (stays seat other) ∙ parts.parts seat

-- so it is where a search stands
pub parted : (task : Task) (longest : ℕ) (stack : List Placed) (heads : List ℕ) → IsTask task → Stands task longest stack heads
    → IsParted task (events_under stack) heads
parted task longest [] heads is stands = subst (IsParted task []) (sym stands) (parted_first task is)
parted task longest (placed ∷ below) heads is stands =
    subst (IsParted task (events_under below ++ placed.event ∷ [])) (sym stands.moved)
    (parted_next task (events_under below) stands.before placed.index placed.event is (parted task longest below stands.before is stands.stood)
    stands.at stands.within stands.head)

-- ---- what a longer beginning goes on by

-- it is of a seat of the script
seat_within : (script : Plan) (seen events : List Event) (e : Event) (more left : List Event) → IsBeginning script seen (events ++ e ∷ more) left
    → e.entry.seat < script.workers + 1
seat_within script seen events e more left begins =
    omega (
      arith,
      leb-true e.entry.seat script.workers
          (and_parts _ (may_come script (entries_of events) e.entry.seat e.entry.kind) (allowed_next events e more left begins)).0,
    )

-- it is the head of its seat
pub next_is_head : (task : Task) (events : List Event) (heads : List ℕ) (e : Event) (more left : List Event) → IsParted task events heads
    → IsBeginning task.script task.tries (events ++ e ∷ more) left → IsAt task.tries (get_or heads e.entry.seat 0) e
next_is_head task events heads e more left parts begins = by_order (cases_lt (get_or heads e.entry.seat 0) (length task.tries))
  where
    rest : own_events e.entry.seat (drop (get_or heads e.entry.seat 0) task.tries) ≡ e ∷ own_events e.entry.seat (more ++ left)
    rest = append_cancel_left (own_events e.entry.seat events) _ _
        (parts.parts e.entry.seat ∙ sym (own_split events (e ∷ more) left e.entry.seat begins)
        ∙ ap (λ l. own_events e.entry.seat events ++ l) (own_of_seat e.entry.seat e (more ++ left) refl))

    by_order : (get_or heads e.entry.seat 0 < length task.tries) ⊎ (length task.tries ≤ get_or heads e.entry.seat 0)
        → IsAt task.tries (get_or heads e.entry.seat 0) e
    by_order (inr end) = let all = rest in let none = ap (own_events e.entry.seat) (drop_all (get_or heads e.entry.seat 0) task.tries end) in absurd cc
    by_order (inl within) =
        let at = at_index task.tries (get_or heads e.entry.seat 0) e within in
        let x = get_or task.tries (get_or heads e.entry.seat 0) e in
        let own = parts.own e.entry.seat x (seat_within task.script task.tries events e more left begins) at in
        let first : own_events e.entry.seat (drop (get_or heads e.entry.seat 0) task.tries) ≡ x ∷ own_events e.entry.seat (drop (get_or heads e.entry.seat 0 + 1) task.tries) =
        ap (own_events e.entry.seat) at.is ∙ own_of_seat e.entry.seat x (drop (get_or heads e.entry.seat 0 + 1) task.tries) own in
        let all = rest in
        let same : x ≡ e = cc in subst (IsAt task.tries (get_or heads e.entry.seat 0)) same at

-- ---- what is ruled out

-- what is no beginning
pub ruled_out_never : (task : Task) (longest : ℕ) (others : List Event) → ((left : List Event) → IsBeginning task.script task.tries others left → ⊥)
    → IsRuledOut task longest others
ruled_out_never task longest others never = record { short = λ left begins. absurd (never left begins); none = λ order. never [] order.begins }

-- what is ruled out where nothing longer is found stays so where something is
pub ruled_out_more : (task : Task) (shorter longer : ℕ) (others : List Event) → shorter ≤ longer → IsRuledOut task shorter others
    → IsRuledOut task longer others
ruled_out_more task shorter longer others more ruled = record { short = λ left begins. omega (arith, ruled.short left begins, more); none = ruled.none }

-- by their times none of a seat's events that are left came before it
abbrev pub AreLater : Task → List ℕ → Event → Type 0
AreLater task heads e = (seat : ℕ) → seat < task.script.workers + 1
    → list_any (λ (other : Event). is_before other e) (own_events seat (drop (get_or heads seat 0) task.tries)) ≡ false

-- where the head of a seat may not come, or came after one that is left, the seat is dead
pub dead : (task : Task) (longest : ℕ) (events : List Event) (heads : List ℕ) (i : ℕ) (e : Event) → IsTask task → IsParted task events heads
    → IsAt task.tries i e → e.entry.seat < task.script.workers + 1 → get_or heads e.entry.seat 0 ≡ i
    → (is_allowed task.script (entries_of events) e.entry ≡ true → AreLater task (set heads e.entry.seat (get_or task.after i 0)) e → ⊥)
    → IsDead task longest events e.entry.seat
dead task longest events heads i e is parts at within head barred other more same =
    ruled_out_never task longest (events ++ other ∷ more) never
  where
    never : (left : List Event) → IsBeginning task.script task.tries (events ++ other ∷ more) left → ⊥
    never left begins =
        let there = next_is_head task events heads other more left parts begins in
        let here : IsAt task.tries i other = subst (λ j. IsAt task.tries j other) (ap (λ s. get_or heads s 0) same ∙ head) there in
        let e_is : other ≡ e = at_same task.tries i other e here at in
        let from_e : IsBeginning task.script task.tries (events ++ e ∷ more) left =
        subst (λ x. IsBeginning task.script task.tries (events ++ x ∷ more) left) e_is begins in
        let longer : IsBeginning task.script task.tries ((events ++ e ∷ []) ++ more) left = rw (append_assoc events (e ∷ []) more) from_e in
        let on = parted_next task events heads i e is parts at within head in
        barred (allowed_next events e more left from_e)
        (λ seat inside.
        let rest : own_events seat (drop (get_or (set heads e.entry.seat (get_or task.after i 0)) seat 0) task.tries) ≡ own_events seat (more ++ left) =
        append_cancel_left (own_events seat (events ++ e ∷ [])) _ _ (on.parts seat ∙ sym (own_split (events ++ e ∷ []) more left seat longer)) in
        ap (list_any (λ (x : Event). is_before x e)) rest
        ∙ no_own (λ (x : Event). is_before x e) seat (more ++ left) (none_before events e more left from_e))

-- where all were tried, all that is longer is ruled out
pub longer_ruled_out : (task : Task) (longest : ℕ) (events : List Event) (heads : List ℕ) (start : ℕ) → IsParted task events heads
    → AreTried task longest events heads start → AllTried task heads start → IsRuledOut task longest events
    → (more left : List Event) → IsBeginning task.script task.tries (events ++ more) left → IsRuledOut task longest (events ++ more)
longer_ruled_out task longest events heads start parts tried all itself [] left begins = subst (IsRuledOut task longest) (sym (append-nil events)) itself
longer_ruled_out task longest events heads start parts tried all itself (e ∷ more) left begins =
    by_head (all e.entry.seat within)
  where
    within : e.entry.seat < task.script.workers + 1
    within = seat_within task.script task.tries events e more left begins

    by_head : (get_or heads e.entry.seat 0 < start) ⊎ (length task.tries ≤ get_or heads e.entry.seat 0) → IsRuledOut task longest (events ++ e ∷ more)
    by_head (inl before) = tried e.entry.seat within before e more refl
    by_head (inr end) = absurd (omega (
      arith,
      end,
      at_within task.tries (get_or heads e.entry.seat 0) e (next_is_head task events heads e more left parts begins),
    ))

-- so the search goes back to try the next one there
pub tried_back : (task : Task) (longest : ℕ) (placed : Placed) (below : List Placed) (heads : List ℕ) (start : ℕ) → IsTask task
    → (stands : IsPlaced task longest placed below heads (Stands task longest below))
    → AreTried task longest (events_under (placed ∷ below)) heads start → AllTried task heads start
    → IsRuledOut task longest (events_under (placed ∷ below))
    → AreTried task longest (events_under below) stands.before (placed.index + 1)
tried_back task longest placed below heads start is stands tried all itself seat within early e more same =
    by_index (cases_lt (get_or stands.before seat 0) placed.index)
  where
    under : IsParted task (events_under below) stands.before
    under = parted task longest below stands.before is stands.stood

    here : IsParted task (events_under (placed ∷ below)) heads
    here = parted task longest (placed ∷ below) heads is stands

    ruled : (left : List Event) → get_or stands.before seat 0 ≡ placed.index → IsBeginning task.script task.tries (events_under below ++ e ∷ more) left
        → IsRuledOut task longest (events_under below ++ e ∷ more)
    ruled left index begins =
        let at : IsAt task.tries placed.index e = subst (λ j. IsAt task.tries j e) (ap (λ s. get_or stands.before s 0) same ∙ index)
        (next_is_head task (events_under below) stands.before e more left under begins) in
        let e_is : placed.event ≡ e = at_same task.tries placed.index placed.event e stands.at at in
        let joined : events_under (placed ∷ below) ++ more ≡ events_under below ++ e ∷ more =
        append_assoc (events_under below) (placed.event ∷ []) more ∙ ap (λ x. events_under below ++ x ∷ more) e_is in
        subst (IsRuledOut task longest) joined
        (longer_ruled_out task longest (events_under (placed ∷ below)) heads start here tried all itself more left
        (subst (λ l. IsBeginning task.script task.tries l left) (sym joined) begins))

    by_index : (get_or stands.before seat 0 < placed.index) ⊎ (placed.index ≤ get_or stands.before seat 0)
        → IsRuledOut task longest (events_under below ++ e ∷ more)
    by_index (inl less) = stands.tried seat within less e more same
    by_index (inr more_or_same) = let index : get_or stands.before seat 0 ≡ placed.index = omega (arith, early, more_or_same) in record {
      short = λ left begins. (ruled left index begins).short left begins;
      none = λ order. (ruled [] index order.begins).none order;
    }
