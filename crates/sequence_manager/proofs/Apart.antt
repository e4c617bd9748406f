-- The open fronts that the selector knows have different orders.
-- Cited by `Manager::end`, `Manager::refresh`, `Manager::take`, `Fences`, `Parts`.
use Rattle.std.proofs.Common.{◌≡◌, ℕ, zero, suc, ◌+◌, Bool, true, false, List, [], ◌∷◌, refl, sym, ap, ◌∙◌, subst, Option, Some, None, inl, inr, arith}
use Rattle.std.specs.Prelude.{◌≢◌, ◌⊎◌, All, Contains, IfSome, nat_lt, not, slice_get, slice_index_or, slice_set}
use Rattle.std.specs.Option.{option_map, option_to_list}
use Rattle.std.specs.List.{AllByRecursion}
use Rattle.std.proofs.lemmas.Bool.{ltb-true, true≢false}
use Rattle.std.proofs.lemmas.List.Elements.{All-from_recursion}
use Rattle.std.proofs.lemmas.Option.{none-some}
use Rattle.list_laws.specs.Sorts.{Rises}
use Rattle.list_laws.proofs.Elements.{AllByRecursion-append}
use Rattle.list_laws.proofs.Sorts.{rises_apart}
use Rattle.list_laws.proofs.Values.{some-injective}
use Rattle.queue_laws.specs.Orders.{ordered_below, Ordered}
use Rattle.queue_selector.specs.Rows.{closed_row, fronts_from, order_in, open_front, with_order}
use Rattle.queue_selector.specs.Selecting.{Selecting, open_fronts, with_front}
use Rattle.queue_selector.specs.declared.front.Front.{Front}
use Rattle.queue_selector.specs.declared.row.Row.{Row}
use Rattle.task_base.specs.declared.script.Lane.{Lane}
use Rattle.task_base.specs.declared.script.Lane.TheVariants.{Immediate, Delayed}
use Rattle.task_model.specs.MainQueues.{is_of_lane}
use Rattle.task_model.specs.Posts.{Posted}
use Rattle.sequence_manager.specs.State.{CanRefresh, HasDrawn, open_in, queue_at, refreshed}
use Rattle.sequence_manager.specs.declared.task_queue.TaskQueue.{TaskQueue}
use Rattle.sequence_manager.specs.declared.manager.Manager.{Manager}

-- each order that the rows tell was drawn by a task of its own queue and lane
abbrev pub AllDrawn : List Ordered → List Row → Type 0
AllDrawn arrivals rows = (q : ℕ) (lane : Lane) (order : ℕ) → order_in lane (slice_index_or rows q closed_row) ≡ Some order → HasDrawn arrivals q lane order

-- of arrivals that rise, one draws the order
one_arrival : (arrivals : List Ordered) (a b : Ordered) → Rises ordered_below arrivals → Contains arrivals a → Contains arrivals b → a.order ≡ b.order → a ≡ b
one_arrival arrivals a b rises of_a of_b same = by_apart (rises_apart ordered_below arrivals a b rises of_a of_b)
  where
    by_apart : (a ≡ b) ⊎ ((ordered_below a b ≡ true) ⊎ (ordered_below b a ≡ true)) → a ≡ b
    by_apart (inl is) = is
    by_apart (inr (inl less)) = absurd (omega (arith, ltb-true a.order b.order less, same))
    by_apart (inr (inr more)) = absurd (omega (arith, ltb-true b.order a.order more, same))

not_both : (b : Bool) → b ≡ true → not b ≡ true → ⊥
not_both true h k = true≢false (sym k)
not_both false h k = true≢false (sym h)

-- a task is of one lane
one_lane : (p : Posted) (a b : Lane) → is_of_lane a p ≡ true → is_of_lane b p ≡ true → a ≡ b
one_lane p Immediate Immediate of_a of_b = refl
one_lane p Delayed Delayed of_a of_b = refl
one_lane p Immediate Delayed of_a of_b = absurd (not_both (nat_lt 0 p.delay) of_b of_a)
one_lane p Delayed Immediate of_a of_b = absurd (not_both (nat_lt 0 p.delay) of_a of_b)

-- a queue and a lane that drew the same order are the same
same_place : (arrivals : List Ordered) (p q : ℕ) (a b : Lane) (order : ℕ) → Rises ordered_below arrivals → HasDrawn arrivals p a order
    → HasDrawn arrivals q b order
    → (p ≡ q) × (a ≡ b)
same_place arrivals p q a b order rises of_p of_q =
    let one : of_p.arrival ≡ of_q.arrival = one_arrival arrivals of_p.arrival of_q.arrival rises of_p.among of_q.among (of_p.order_is ∙ sym of_q.order_is) in (
      sym of_p.home_is ∙ ap (λ o. o.posted.home) one ∙ of_q.home_is,
      one_lane of_q.arrival.posted a b (ap (λ o. is_of_lane a o.posted) (sym one) ∙ of_p.of_lane) of_q.of_lane,
    )

-- what holds of each order that some rows tell holds of their open fronts
fronts_all : (P : Front → Type 0) (from : ℕ) (rows : List Row)
    → ((i : ℕ) (lane : Lane) (order : ℕ) → order_in lane (slice_index_or rows i closed_row) ≡ Some order
    → P (record { class = (slice_index_or rows i closed_row).class; lane = lane; order = order; queue = from + i }))
    → AllByRecursion P (fronts_from from rows)
fronts_all P from [] each = tt
fronts_all P from (row ∷ rows) each = AllByRecursion-append P _ (fronts_from (from + 1) rows)
    (AllByRecursion-append P (option_to_list (open_front from Immediate row)) (option_to_list (open_front from Delayed row))
    (of_lane Immediate row.immediate refl) (of_lane Delayed row.delayed refl))
    (fronts_all P (from + 1) rows (λ i lane order told. subst (λ n. P (record {
      class =
          (slice_index_or rows i closed_row).class;
      lane = lane;
      order = order;
      queue = n;
    }))
    (omega arith) (each (suc i) lane order told)))
  where
    of_lane : (lane : Lane) (o : Option ℕ) → order_in lane row ≡ o
        → AllByRecursion P (option_to_list (option_map (λ order. record { class = row.class; lane = lane; order = order; queue = from }) o))
    of_lane lane None is = tt
    of_lane lane (Some order) is = (
      subst (λ n. P (record { class = row.class; lane = lane; order = order; queue = n })) (omega arith)
          (each 0 lane order is),
      tt,
    )

-- the rows with another front in one lane of a queue
set_front_at : (rows : List Row) (q p : ℕ) (lane other : Lane) (o : Option ℕ) (order : ℕ)
    → order_in other (slice_index_or (slice_set rows q (with_order (slice_index_or rows q closed_row) lane o)) p closed_row) ≡ Some order
    → (order_in other (slice_index_or rows p closed_row) ≡ Some order × ((p ≡ q) × (other ≡ lane) → ⊥)) ⊎ (((p ≡ q) × (other ≡ lane)) × (o ≡ Some order))
set_front_at [] q p lane other o order told = absurd (none-some order (sym (none other p) ∙ told))
  where
    none : (lane : Lane) (p : ℕ) → order_in lane (slice_index_or [] p closed_row) ≡ None
    none Immediate p = refl
    none Delayed p = refl
set_front_at (row ∷ rows) zero zero Immediate Immediate o order told = inr ((refl, refl), told)
set_front_at (row ∷ rows) zero zero Delayed Delayed o order told = inr ((refl, refl), told)
set_front_at (row ∷ rows) zero zero Immediate Delayed o order told = inl (told, λ is. apart is.1)
  where
    apart : Delayed ≡ Immediate → ⊥
    apart is = true≢false (ap late is)
      where
        late : Lane → Bool
        late Delayed = true
        late Immediate = false
set_front_at (row ∷ rows) zero zero Delayed Immediate o order told = inl (told, λ is. apart is.1)
  where
    apart : Immediate ≡ Delayed → ⊥
    apart is = true≢false (ap early is)
      where
        early : Lane → Bool
        early Immediate = true
        early Delayed = false
set_front_at (row ∷ rows) zero (suc p) lane other o order told = inl (told, λ is. absurd (omega (arith, is.0)))
set_front_at (row ∷ rows) (suc q) zero lane other o order told = inl (told, λ is. absurd (omega (arith, is.0)))
set_front_at (row ∷ rows) (suc q) (suc p) lane other o order told = by_set_front_at (set_front_at rows q p lane other o order told)
  where
    by_set_front_at : (order_in other (slice_index_or rows p closed_row) ≡ Some order × ((p ≡ q) × (other ≡ lane) → ⊥))
        ⊎ (((p ≡ q) × (other ≡ lane)) × (o ≡ Some order))
        → (order_in other (slice_index_or rows p closed_row) ≡ Some order × ((suc p ≡ suc q) × (other ≡ lane) → ⊥))
        ⊎ (((suc p ≡ suc q) × (other ≡ lane)) × (o ≡ Some order))
    by_set_front_at (inl h) = inl (h.0, λ is. h.1 (omega (arith, is.0), is.1))
    by_set_front_at (inr h) = inr ((ap suc h.0.0, h.0.1), h.1)

-- another front of the queue, whose order was drawn as well
pub drawn_set : (arrivals : List Ordered) (rows : List Row) (q : ℕ) (lane : Lane) (o : Option ℕ) → AllDrawn arrivals rows
    → ((order : ℕ) → o ≡ Some order → HasDrawn arrivals q lane order)
    → AllDrawn arrivals (slice_set rows q (with_order (slice_index_or rows q closed_row) lane o))
drawn_set arrivals rows q lane o all new = λ p other order told. at_each p other order (set_front_at rows q p lane other o order told)
  where
    at_each : (p : ℕ) (other : Lane) (order : ℕ)
        → (order_in other (slice_index_or rows p closed_row) ≡ Some order × ((p ≡ q) × (other ≡ lane) → ⊥)) ⊎ (((p ≡ q) × (other ≡ lane)) × (o ≡ Some order))
        → HasDrawn arrivals p other order
    at_each p other order (inl h) = all p other order h.0
    at_each p other order (inr h) = rw (h.0.0, h.0.1) (new order h.1)

-- an order that was drawn differs from those of all other open fronts
pub differs : (arrivals : List Ordered) (selector : Selecting) (q : ℕ) (lane : Lane) (o : Option ℕ) → Rises ordered_below arrivals
    → AllDrawn arrivals selector.rows
    → ((order : ℕ) → o ≡ Some order → HasDrawn arrivals q lane order)
    → IfSome o (λ order. All (λ front. front.order ≢ order) (open_fronts (with_front selector q lane None)))
differs arrivals selector q lane None rises all new = tt
differs arrivals selector q lane (Some order) rises all new =
    All-from_recursion (λ front. front.order ≢ order) (open_fronts (with_front selector q lane None))
    (fronts_all (λ front. front.order ≢ order) 0 (with_front selector q lane None).rows
    (λ p other n told same. at_each p other n (set_front_at selector.rows q p lane other None n told) same))
  where
    at_each : (p : ℕ) (other : Lane) (n : ℕ)
        → (order_in other (slice_index_or selector.rows p closed_row) ≡ Some n × ((p ≡ q) × (other ≡ lane)
        → ⊥)) ⊎ (((p ≡ q) × (other ≡ lane)) × (None ≡ Some n))
        → n ≡ order → ⊥
    at_each p other n (inl h) same = h.1 (same_place arrivals p q other lane order rises (subst (HasDrawn arrivals p other) same (all p other n h.0))
        (new order refl))
    at_each p other n (inr h) same = none-some n h.1

-- the queue that is there
pub queue_there : (queues : List TaskQueue) (q : ℕ) (queue : TaskQueue) → slice_get queues q ≡ Some queue → queue_at queues q ≡ queue
queue_there [] q queue is = absurd (none-some queue is)
queue_there (x ∷ queues) zero queue is = some-injective is
queue_there (x ∷ queues) (suc q) queue is = queue_there queues q queue is

-- the order of the queue's open front was drawn
held_drawn : {arrivals : List Ordered} {manager : Manager} {q : ℕ} {queue : TaskQueue} {o : Option ℕ} (lane : Lane) → CanRefresh arrivals manager q
    → slice_get manager.queues q ≡ Some queue → o ≡ open_in lane queue → (order : ℕ) → o ≡ Some order → HasDrawn arrivals q lane order
held_drawn {manager = manager} {q = q} {queue = queue} lane can at is order some = can.held lane order
    (ap (open_in lane) (queue_there manager.queues q queue at) ∙ sym is ∙ some)

pub differs_first : {arrivals : List Ordered} {manager : Manager} {q : ℕ} {queue : TaskQueue} {o : Option ℕ} → CanRefresh arrivals manager q
    → slice_get manager.queues q ≡ Some queue → o ≡ open_in Immediate queue
    → IfSome o (λ order. All (λ front. front.order ≢ order) (open_fronts (with_front manager.selector q Immediate None)))
differs_first {arrivals = arrivals} {manager = manager} {q = q} {o = o} can at is =
    differs arrivals manager.selector q Immediate o can.rises can.fronts (held_drawn Immediate can at is)

pub differs_second : {arrivals : List Ordered} {manager : Manager} {q : ℕ} {queue : TaskQueue} {first o : Option ℕ} {selector : Selecting}
    → CanRefresh arrivals manager q → slice_get manager.queues q ≡ Some queue → first ≡ open_in Immediate queue → o ≡ open_in Delayed queue
    → selector ≡ with_front manager.selector q Immediate first
    → IfSome o (λ order. All (λ front. front.order ≢ order) (open_fronts (with_front selector q Delayed None)))
differs_second {arrivals = arrivals} {manager = manager} {q = q} {first = first} {o = o} can at was is told =
    rw told (differs arrivals (with_front manager.selector q Immediate first) q Delayed o can.rises
    (drawn_set arrivals manager.selector.rows q Immediate first can.fronts (held_drawn Immediate can at was)) (held_drawn Delayed can at is))

-- the selector that was told both fronts
pub both_told : (manager : Manager) (q : ℕ) {queue : TaskQueue} {first o : Option ℕ} {before selector : Selecting}
    → slice_get manager.queues q ≡ Some queue → first ≡ open_in Immediate queue → o ≡ open_in Delayed queue
    → before ≡ with_front manager.selector q Immediate first → selector ≡ with_front before q Delayed o
    → record manager { selector = selector } ≡ refreshed manager q
both_told manager q {queue = queue} at was is told now =
    rw (now, told, was, is, queue_there manager.queues q queue at) refl
