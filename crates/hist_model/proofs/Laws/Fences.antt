-- No queue of a legal log passes its fence, over its places.
-- Cited by `fences.rt`.
use Rattle.std.proofs.Common.{◌≡◌, ℕ, zero, suc, ◌+◌, ◌<◌, ◌≤◌, Bool, true, false, cond, eqb, ltb, List, length, get_or}
use Rattle.std.proofs.Common.{take, refl, sym, ap, ◌∙◌, Option, Some, None, ◌⊎◌, inl, inr, arith, [], ◌∷◌, ◌++◌}
use Rattle.std.specs.Prelude.{not, ◌&&◌, option_and_then, slice_get}
use Rattle.std.specs.Option.{option_map_or}
use Rattle.std.proofs.lemmas.Bool.{and_parts, cases_lt, eq-eqb, ltb-true, not-true, true≢false}
use Rattle.std.proofs.lemmas.Option.{none-some, same_Some, slice_get_within, slice_get-get_or}
use Rattle.task_base.specs.Plan.{Plan}
use Rattle.task_base.specs.declared.entry.Entry.{Entry}
use Rattle.task_base.specs.declared.entry.Kind.{Kind}
use Rattle.task_base.specs.declared.entry.Kind.TheVariants as kinds
use Rattle.task_base.specs.declared.script.FenceAt.{FenceAt}
use Rattle.task_base.specs.declared.script.FenceAt.TheVariants.{Now, Start}
use Rattle.list_laws.specs.Lists.{count}
use Rattle.list_laws.proofs.Ranges.{range_all_at}
use Rattle.task_model.specs.Posts.{Posted, ripens_before, is_delayed}
use Rattle.task_model.specs.Refusal.{is_closed}
use Rattle.task_model.specs.Orders.{ripens, ripening, draws, next_draw, drawn_at, moment_at, order_of}
use Rattle.task_model.specs.Time.{tick_from}
use Rattle.task_model.specs.MainQueues.{Front, fence_of, fence_after, votes_on, vote_after, voters_of, is_enabled}
use Rattle.queue_laws.specs.Fronts.{IsOpen}
use Rattle.task_model.proofs.Growth.{fence_of_push, votes_on_push}
use Rattle.queue_laws.proofs.Orders.{drawn, order_is}
use Rattle.hist_model.specs.Legal.{IsLegal}
use Rattle.hist_model.specs.Laws.Choice.{IsMainTake}
use Rattle.hist_model.specs.Laws.Places.{IsAt, NoneBetween}
use Rattle.hist_model.specs.Laws.Fences.{moves_fence, votes, HasOrderBelow, KeepsFences}
use Rattle.hist_model.proofs.Laws.AtPlaces.{take_at, may_come_at}
use Rattle.hist_model.proofs.Laws.Refusals.{closed_from}
use Rattle.hist_model.proofs.Laws.Takes.{main_take_is}

-- orders are drawn from 2 upward
from_two : (past : List Entry) (p : Posted) (n : ℕ) → order_of past p ≡ Some n → 2 ≤ n
from_two past p n is = by_delayed (is_delayed p) (tick_from past p.ripe) (sym (order_is past p) ∙ is)
  where
    at_draw : (b : Bool) (m : ℕ) → 2 ≤ m → cond b (Some m) None ≡ Some n → 2 ≤ n
    at_draw true m low h = let same : m ≡ n = same_Some m n h in omega arith
    at_draw false m low h = absurd (none-some n h)

    at_moment : (before : List Entry) (moment : Option ℕ) → option_and_then (λ m. drawn_at before m p) moment ≡ Some n → 2 ≤ n
    at_moment before None h = absurd (none-some n h)
    at_moment before (Some m) h = at_draw (ripens before m p) (next_draw before + count (λ q. ripens_before q p) (ripening before m)) (omega arith) h

    by_delayed : (b : Bool) (tick : Option ℕ) → cond b (option_and_then (drawn past p) tick) (Some (next_draw (take p.place past))) ≡ Some n → 2 ≤ n
    by_delayed false tick h = let same : 2 + draws (take p.place past) ≡ n = same_Some (next_draw (take p.place past)) n h in omega arith
    by_delayed true None h = absurd (none-some n h)
    by_delayed true (Some place) h = at_moment (take place past) (moment_at past place) h

-- an entry that does not move the fence of the queue leaves it
left_alone : (q : ℕ) (before : List Entry) (now : Option ℕ) (kind : Kind) → moves_fence q kind ≡ false → fence_after q before now kind ≡ now
left_alone q before now (kinds.Fence queue Now) h = ap (λ b. cond b (Some (next_draw before)) now) h
left_alone q before now (kinds.Fence queue Start) h = ap (λ b. cond b (Some 1) now) h
left_alone q before now (kinds.Unfence queue) h = ap (λ b. cond b None now) h
left_alone q before now kind h = refl

-- and one that is no vote of the voter leaves that
not_voted : (q v : ℕ) (now : Bool) (kind : Kind) → votes q v kind ≡ false → vote_after q v now kind ≡ now
not_voted q v now (kinds.Vote queue voter on) h = ap (λ b. cond b on now) h
not_voted q v now kind h = refl

-- what only entries that pass a test change stays behind a place as long as none comes
stands_on : {A : Type 0} (notion : List Entry → A) (moves : Kind → Bool)
    → ((past : List Entry) (e : Entry) → moves e.kind ≡ false → notion (past ++ e ∷ []) ≡ notion past) → (log : List Entry) (i m : ℕ) → i < m
    → m ≤ length log → NoneBetween log i m moves → notion (take m log) ≡ notion (take (suc i) log)
stands_on notion moves same log i zero behind within none = absurd (omega (arith, behind))
stands_on notion moves same log i (suc m) behind within none = by_order (cases_lt i m) (λ more. stands_on notion moves same log i m more (omega (arith, within))
    (λ j seat kind from to is. none j seat kind from (omega (arith, to)) is))
  where
    other : Entry
    other = record { seat = 0; kind = kinds.Done }

    at : (e : Entry) → i < m → slice_get log m ≡ Some e → notion (take m log) ≡ notion (take (suc i) log)
        → notion (take (suc m) log) ≡ notion (take (suc i) log)
    at e more is before = ap notion (take_at log m e is) ∙ same (take m log) e (none m e.seat e.kind more (omega arith) is) ∙ before

    by_order : (i < m) ⊎ (m ≤ i) → (i < m → notion (take m log) ≡ notion (take (suc i) log)) → notion (take (suc m) log) ≡ notion (take (suc i) log)
    by_order (inl more) before = at (get_or log m other) more (slice_get-get_or log m other (omega (arith, within))) (before more)
    by_order (inr here) before = let as_one : m ≡ i = omega (arith, behind, here) in ap (λ j. notion (take (suc j) log)) as_one

-- the fence at a place is the one that was set last
last_fence : (log : List Entry) (i setter k q : ℕ) (at : FenceAt) (e : Entry) → IsAt log i setter (kinds.Fence q at) → i < k
    → NoneBetween log i k (moves_fence q) → slice_get log k ≡ Some e
    → fence_of (take k log) q ≡ fence_after q (take i log) (fence_of (take i log) q) (kinds.Fence q at)
last_fence log i setter k q at e is less unmoved there =
    stands_on (λ past. fence_of past q) (moves_fence q) (λ past x still. fence_of_push past x q ∙ left_alone q past (fence_of past q) x.kind still) log i k less
    (omega (arith, slice_get_within log k e there)) unmoved
    ∙ ap (λ past. fence_of past q) (take_at log i _ is) ∙ fence_of_push (take i log) (record { seat = setter; kind = kinds.Fence q at }) q

-- and a voter's vote the one that it cast last
last_vote : (log : List Entry) (i steerer k q v : ℕ) (on : Bool) (e : Entry) → IsAt log i steerer (kinds.Vote q v on) → i < k
    → NoneBetween log i k (votes q v) → slice_get log k ≡ Some e → votes_on (take k log) q v ≡ on
last_vote log i steerer k q v on e is less unmoved there =
    stands_on (λ past. votes_on past q v) (votes q v) (λ past x still. votes_on_push past x q v ∙ not_voted q v (votes_on past q v) x.kind still) log i k less
    (omega (arith, slice_get_within log k e there)) unmoved
    ∙ ap (λ past. votes_on past q v) (take_at log i _ is) ∙ votes_on_push (take i log) (record { seat = steerer; kind = kinds.Vote q v on }) q v
    ∙ rw (eq-eqb q q refl, eq-eqb v v refl) refl

-- what an open front says: its queue is not closed, each of its voters votes on, and it is below the fence
open_parts : (script : Plan) (past : List Entry) (f : Front) → IsOpen script past f
    → (is_closed past f.queue ≡ false) × (is_enabled script past f.queue ≡ true) × ((fence : ℕ) → fence_of past f.queue ≡ Some fence → f.order < fence)
open_parts script past f h =
    let outer = and_parts (not (is_closed past f.queue) && is_enabled script past f.queue) (option_map_or (ltb f.order) (fence_of past f.queue) true) h in
    let inner = and_parts (not (is_closed past f.queue)) (is_enabled script past f.queue) outer.0 in
    (not-true (is_closed past f.queue) inner.0, inner.1, λ fence is. ltb-true f.order fence (sym (ap (λ o. option_map_or (ltb f.order) o true) is) ∙ outer.1))

-- a main take says all of that of its queue
below_fence : (script : Plan) (past : List Entry) (seat task queue value fence : ℕ) → IsMainTake script past seat task queue value
    → fence_of past queue ≡ Some fence → HasOrderBelow past task queue fence
below_fence script past seat task queue value fence t is = record {
  posted = t.is_front.accepted;
  accepted = t.is_front.posted;
  task_is = t.is_front.task_is ∙ t.task_is;
  queue_is = t.is_front.queue_is ∙ t.queue_is;
  order = t.front.order;
  order_is = t.is_front.order_is;
  below = (open_parts script past t.front t.opened).2 fence (ap (fence_of past) t.queue_is ∙ is);
}

pub no_queue_passes_its_fence : (script : Plan) (log : List Entry) → IsLegal script log → KeepsFences script log
no_queue_passes_its_fence script log legal = record {
  below_its_fence = below;
  drawn_before_the_fence = λ i setter k seat task queue found is less unmoved there. below k seat task queue found (next_draw (take i log)) there
      (last_fence log i setter k queue Now _ is less unmoved there ∙ set queue (Some (next_draw (take i log))) (fence_of (take i log) queue));
  none_behind_the_start = λ i setter k seat task queue found is less unmoved there. too_low k task queue (below k seat task queue found 1 there
      (last_fence log i setter k queue Start _ is less unmoved there ∙ set queue (Some 1) (fence_of (take i log) queue)));
  none_after_the_close = λ k seat task queue found there closed.
      let t = taken k seat task queue found there in
      let shut : is_closed (take k log) queue ≡ true = (closed_from log k queue).1 closed in
      let free : is_closed (take k log) queue ≡ false = ap (is_closed (take k log)) (sym t.queue_is) ∙ (open_parts script (take k log) t.front t.opened).0 in
      cc;
  all_vote_on = voting;
  none_against_a_vote = λ i steerer k seat task queue found voter is less unmoved known there.
      true≢false (sym (voting k seat task queue found voter there known) ∙ last_vote log i steerer k queue voter false _ is less unmoved there);
}
  where
    taken : (k seat task queue found : ℕ) → IsAt log k seat (kinds.MainTake task queue found) → IsMainTake script (take k log) seat task queue found
    taken k seat task queue found there = main_take_is script (take k log) seat task queue found (may_come_at script log k _ legal there)

    below : (k seat task queue found fence : ℕ) → IsAt log k seat (kinds.MainTake task queue found) → fence_of (take k log) queue ≡ Some fence
        → HasOrderBelow (take k log) task queue fence
    below k seat task queue found fence there is = below_fence script (take k log) seat task queue found fence (taken k seat task queue found there) is

    set : (queue : ℕ) (fence before : Option ℕ) → cond (eqb queue queue) fence before ≡ fence
    set queue fence before = ap (λ b. cond b fence before) (eq-eqb queue queue refl)

    too_low : (k task queue : ℕ) → HasOrderBelow (take k log) task queue 1 → ⊥
    too_low k task queue h = let low = from_two (take k log) h.posted h.order h.order_is in omega (arith, h.below)

    voting : (k seat task queue found voter : ℕ) → IsAt log k seat (kinds.MainTake task queue found) → voter < voters_of script queue
        → votes_on (take k log) queue voter ≡ true
    voting k seat task queue found voter there less =
        let t = taken k seat task queue found there in
        range_all_at (votes_on (take k log) queue) 0 (voters_of script queue) voter
        (ap (is_enabled script (take k log)) (sym t.queue_is) ∙ (open_parts script (take k log) t.front t.opened).1) (omega arith) (omega (arith, less))
