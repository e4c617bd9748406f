-- What the steps of a heap's methods keep.
-- Cited by 11 functions of `Heap`.
use Rattle.std.proofs.Common.{◌≡◌, ℕ, zero, suc, ◌+◌, ◌-◌, ◌*◌, ◌<◌, ◌≤◌, Bool, true, false, length, Option}
use Rattle.std.proofs.Common.{Some, None, refl, sym, ap, subst, ◌∙◌, get_or, inl, inr, arith}
use Rattle.std.specs.Prelude.{◌&&◌, nat_lt, slice_index, slice_index_or, replicate, is_some}
use Rattle.std.proofs.lemmas.Bool.{lt-ltb, le-ltb, true≢false}
use Rattle.std.proofs.lemmas.List.{get_or-set_other, length-set, get_or-replicate, length-replicate}
use Rattle.std.proofs.lemmas.Grind.{get_or_default_zero, get_or-set_at}
use Rattle.std.specs.Vec.{with_item}
use Rattle.sequence_queue.specs.declared.heap.Heap.{Heap}
use Rattle.sequence_queue.specs.declared.rank.Rank.{Rank}
use Rattle.sequence_queue.specs.Heap.{before, Changed, CountsUp, HasFirst, rank_at, rank_of_number, size, ranks_first, IsChild, IsExchanged, HasPlaces}
use Rattle.sequence_queue.specs.Heap.{IsPlaced, IsLoosely, IsOrdered, IsAbove, IsBelow, IsFirst, IsFirstBelow, IsHeap, IsHeapBut}
use Rattle.sequence_queue.proofs.Order.{among, behind, end_is_loose, end_is_whole, first_changed, first_exchanged, first_is_least, gap_is_loose, inserted}
use Rattle.sequence_queue.proofs.Order.{is_above, is_none, itself, loosened, lowered, one_above, one_way, parent, removed, risen, sunk, through, whole}

-- behind an exchange of two that are held
exchanged_placed : (h g : Heap) (p q : ℕ) → IsPlaced h → p < h.held → q < h.held → IsExchanged h g p q → IsPlaced g
exchanged_placed h g p q placed p_lt q_lt exchange = record {
  paired = exchange.paired;
  within = rw (exchange.held, same_size) placed.within;
  held_first = rw (exchange.held, same_size)
      (first_exchanged (rank_at h) (rank_at g) h.held (size h) p q placed.held_first placed.within p_lt q_lt exchange.exchanged);
}
  where
    same_size : size g ≡ size h
    same_size = ap (λ r. length r.items) exchange.ranks

-- behind an exchange with the place above
pub climb_step : (h g : Heap) (k p : ℕ) (up : Bool) → IsHeapBut h k → IsAbove (rank_at h) h.held k → IsChild k p → up ≡ ranks_first h k p → up ≡ true
    → IsExchanged h g k p → IsHeapBut g p × IsAbove (rank_at g) g.held p
climb_step h g k p up but high child says goes exchange =
    let within : p < h.held = grind (arith, but.within) in
    let step = risen (rank_at h) (rank_at g) h.held k p but.loose high child but.within (sym says ∙ goes) exchange.exchanged in (
      record {
        placed = exchanged_placed h g k p but.placed but.within within exchange;
        loose = subst (λ (n : ℕ). IsLoosely (rank_at g) n p) (sym exchange.held) step.0;
        within = rw exchange.held within;
      },
      subst (λ (n : ℕ). IsAbove (rank_at g) n p) (sym exchange.held) step.1,
    )

-- where a number does not go before the one above it
pub climb_ends : (h : Heap) (k : ℕ) (up : Bool) → IsHeapBut h k → IsAbove (rank_at h) h.held k → ((i : ℕ) → IsChild k i → up ≡ ranks_first h k i)
    → up ≡ false → IsHeap h
climb_ends h k up but high says not_up =
    record { placed = but.placed; ordered = whole (rank_at h) h.held k but.loose high (λ i child. sym (says i child) ∙ not_up) }

-- behind an exchange with the first of the places below, whatever that is
pub refill_step : (h g : Heap) (k b : ℕ) → IsHeapBut h k → IsFirstBelow h k b → b < h.held → IsExchanged h g k b → IsHeapBut g b
refill_step h g k b but first within exchange = record {
  placed = exchanged_placed h g k b but.placed but.within within exchange;
  loose = subst (λ (n : ℕ). IsLoosely (rank_at g) n b) (sym exchange.held)
      (lowered (rank_at h) (rank_at g) h.held k b but.loose first.child within (λ d child lt. (first.least d child lt).1) exchange.exchanged);
  within = rw exchange.held within;
}

-- where there is none below
pub refill_ends : (h : Heap) (k b : ℕ) → IsFirstBelow h k b → h.held ≤ b → IsAbove (rank_at h) h.held k
refill_ends h k b first end c child lt = absurd (omega (arith, end, (first.least c child lt).0))

-- behind an exchange with the first of the places below, where that goes before it
pub sink_step : (h g : Heap) (k b : ℕ) → IsHeapBut h k → IsBelow (rank_at h) k → IsFirstBelow h k b → (nat_lt b h.held && ranks_first h b k) ≡ true
    → IsExchanged h g k b → IsHeapBut g b × IsBelow (rank_at g) b
sink_step h g k b but low first goes exchange =
    (refill_step h g k b but first (grind arith) exchange, sunk (rank_at h) (rank_at g) k b first.child (grind arith) exchange.exchanged)

-- of the two places below one, the one at the right where its number goes before that at the left
pub right_first : (h : Heap) (k : ℕ) → (nat_lt (2 * k + 1 + 1) h.held && ranks_first h (2 * k + 1 + 1) (2 * k + 1)) ≡ true
    → IsFirstBelow h k (2 * k + 1 + 1)
right_first h k goes = record { child = inr (omega arith); least = least }
  where
    least : (d : ℕ) → IsChild d k → d < h.held → (2 * k + 1 + 1 < h.held) × (ranks_first h d (2 * k + 1 + 1) ≡ false)
    least d (inl left) lt = (grind arith, rw left (one_way (rank_at h (2 * k + 1 + 1)) (rank_at h (2 * k + 1)) (grind arith)))
    least d (inr right) lt = (grind arith, rw (let same : d ≡ 2 * k + 1 + 1 = omega arith in same) (itself (rank_at h (2 * k + 1 + 1))))

-- where the first of the places below does not go before it
pub sink_ends : (h : Heap) (k b : ℕ) → IsHeapBut h k → IsBelow (rank_at h) k → IsFirstBelow h k b → (nat_lt b h.held && ranks_first h b k) ≡ false → IsHeap h
sink_ends h k b but low first stays = record { placed = but.placed; ordered = whole (rank_at h) h.held k but.loose high low }
  where
    high : IsAbove (rank_at h) h.held k
    high c child lt =
        let least = first.least c child lt in
        through (rank_at h c) (rank_at h b) (rank_at h k) least.1 (sym (ap (λ t. t && ranks_first h b k) (lt-ltb b h.held least.0)) ∙ stays)

-- a number that goes up goes before those below it
pub goes_high : (h : Heap) (k : ℕ) (up : Bool) → IsHeapBut h k → ((i : ℕ) → IsChild k i → up ≡ ranks_first h k i) → (k ≡ 0 → up ≡ false) → up ≡ true
    → IsAbove (rank_at h) h.held k
goes_high h zero up but says first goes = absurd (true≢false (sym goes ∙ first refl))
goes_high h (suc k) up but says first goes =
    let p = parent k in
    let child : IsChild (suc k) p.0 = subst (λ (x : ℕ). IsChild x p.0) (omega arith) p.1 in
    is_above (rank_at h) h.held (suc k) p.0 but.loose child (sym (says p.0 child) ∙ goes)

-- a place is below one place alone
pub only_above : (h : Heap) (k p : ℕ) (up : Bool) → IsChild k p → k < h.held → up ≡ (nat_lt k h.held && ranks_first h k p) → (i : ℕ) → IsChild k i
    → up ≡ ranks_first h k i
only_above h k p up child lt says i other =
    says ∙ ap (λ t. t && ranks_first h k p) (lt-ltb k h.held lt) ∙ ap (ranks_first h k) (one_above k p i child other)

-- a heap in which one number has another rank
abbrev ranked : Heap → ℕ → Option Rank → Heap
ranked h n rank = record h { ranks = with_item h.ranks n rank }

-- the place of a number has that number
at_place : (h : Heap) (n place : ℕ) → HasPlaces h → n < size h → place ≡ slice_index_or h.places.items n place
    → (place < size h) × (slice_index h.order.items place ≡ n)
at_place h n place paired lt is =
    let found : place ≡ slice_index h.places.items n = is ∙ get_or_default_zero h.places.items n place (rw paired.place_count lt) in
    rw found (paired.place_within n lt, paired.back n lt)

-- its place alone has another rank
changed : (h : Heap) (n place : ℕ) (rank : Option Rank) → HasPlaces h → n < size h → place ≡ slice_index_or h.places.items n place
    → Changed (rank_at h) (rank_at (ranked h n rank)) (size h) place rank
changed h n place rank paired lt is = record {
  there = get_or-set_at h.ranks.items n (slice_index h.order.items place) rank None (at_place h n place paired lt is).1 lt;
  others = λ i less other. get_or-set_other h.ranks.items n (slice_index h.order.items i) rank None (λ same. other (sym (paired.there i less)
      ∙ ap (slice_index h.places.items) same ∙ ap (slice_index h.places.items) (sym (at_place h n place paired lt is).1)
      ∙ paired.there place (at_place h n place paired lt is).0));
}

-- where a number that is not held has its place
place_behind : (h : Heap) (n place : ℕ) → IsPlaced h → n < size h → rank_of_number h n ≡ None → place ≡ slice_index_or h.places.items n place
    → (h.held ≤ place) × (place < size h)
place_behind h n place placed lt none is =
    let there = at_place h n place placed.paired lt is in
    (behind (rank_at h) h.held (size h) place placed.held_first there.0 (ap (rank_of_number h) there.1 ∙ none), there.0)

-- where one that is held has it
place_among : (h : Heap) (n place : ℕ) → IsPlaced h → n < size h → is_some (rank_of_number h n) ≡ true → place ≡ slice_index_or h.places.items n place
    → place < h.held
place_among h n place placed lt some is =
    let there = at_place h n place placed.paired lt is in
    among (rank_at h) h.held (size h) place placed.held_first there.0 (ap (λ m. is_some (rank_of_number h m)) there.1 ∙ some)

-- a number brought to the end of the heap
pub insert_step : (h g : Heap) (n place : ℕ) (r : Rank) → IsHeap h → n < size h → rank_of_number h n ≡ None → place ≡ slice_index_or h.places.items n place
    → IsExchanged (ranked h n (Some r)) g place h.held
    → IsHeapBut (record g { held = g.held + 1 }) h.held × IsAbove (rank_at g) (g.held + 1) h.held
insert_step h g n place r heap lt none is exchange = rw (exchange.held) (record { placed = placed; loose = loose.0; within = omega arith }, loose.1)
  where
    there : (h.held ≤ place) × (place < size h)
    there = place_behind h n place heap.placed lt none is

    change : Changed (rank_at h) (rank_at (ranked h n (Some r))) (size h) place (Some r)
    change = changed h n place (Some r) heap.placed.paired lt is

    same_size : size g ≡ size h
    same_size = rw exchange.ranks (length-set h.ranks.items n (Some r))

    loose : IsLoosely (rank_at g) (h.held + 1) h.held × IsAbove (rank_at g) (h.held + 1) h.held
    loose = end_is_loose (rank_at h) (rank_at (ranked h n (Some r))) (rank_at g) h.held (size h) place r heap.ordered there.0 there.1 change exchange.exchanged

    placed : IsPlaced (record g { held = h.held + 1 })
    placed = record {
      paired = exchange.paired;
      within = rw same_size (omega (arith, there.0, there.1));
      held_first = rw same_size (inserted (rank_at h) (rank_at (ranked h n (Some r))) (rank_at g) h.held (size h) place r heap.placed.held_first
          there.0 there.1 change exchange.exchanged);
    }

-- a number brought from the end of the heap to the place of one that goes
pub remove_step : (h g : Heap) (n place : ℕ) → IsHeap h → n < size h → is_some (rank_of_number h n) ≡ true → place ≡ slice_index_or h.places.items n place
    → IsExchanged (ranked h n None) g place (h.held - 1)
    → IsPlaced (record g { held = h.held - 1 }) × IsLoosely (rank_at g) (h.held - 1) place × (place ≤ h.held - 1)
remove_step h g n place heap lt some is exchange = (placed, loose, omega (arith, there))
  where
    there : place < h.held
    there = place_among h n place heap.placed lt some is

    end : h.held ≡ h.held - 1 + 1
    end = omega (arith, there)

    change : Changed (rank_at h) (rank_at (ranked h n None)) (size h) place None
    change = changed h n place None heap.placed.paired lt is

    same_size : size g ≡ size h
    same_size = rw exchange.ranks (length-set h.ranks.items n None)

    within : h.held - 1 < size h
    within = omega (arith, there, heap.placed.within)

    loose : IsLoosely (rank_at g) (h.held - 1) place
    loose = gap_is_loose (rank_at h) (rank_at (ranked h n None)) (rank_at g) (h.held - 1) (size h) place
        (subst (λ (k : ℕ). IsOrdered (rank_at h) k) end heap.ordered) within change exchange.exchanged

    placed : IsPlaced (record g { held = h.held - 1 })
    placed = record {
      paired = exchange.paired;
      within = rw same_size (omega (arith, within));
      held_first = rw same_size (removed (rank_at h) (rank_at (ranked h n None)) (rank_at g) (h.held - 1) (size h) place
          (subst (λ (k : ℕ). HasFirst (rank_at h) k (size h)) end heap.placed.held_first) within (subst (λ (k : ℕ). place < k) end there)
          change exchange.exchanged);
    }

-- where the one that goes has the last place
pub remove_ends : (g : Heap) (place : ℕ) → IsPlaced g → IsLoosely (rank_at g) g.held place → place ≡ g.held → IsHeap g
remove_ends g place placed loose is =
    record { placed = placed; ordered = end_is_whole (rank_at g) g.held (subst (λ (k : ℕ). IsLoosely (rank_at g) g.held k) is loose) }

-- another rank for a number that is held
pub rekey_step : (h : Heap) (n place : ℕ) (r : Rank) → IsHeap h → n < size h → is_some (rank_of_number h n) ≡ true
    → place ≡ slice_index_or h.places.items n place → IsHeapBut (ranked h n (Some r)) place
rekey_step h n place r heap lt some is = record {
  placed = record {
    paired = rw same_size heap.placed.paired;
    within = rw same_size heap.placed.within;
    held_first = rw same_size (first_changed (rank_at h) (rank_at (ranked h n (Some r))) h.held (size h) place r heap.placed.held_first there change);
  };
  loose = loosened (rank_at h) (rank_at (ranked h n (Some r))) h.held place heap.ordered (λ i less. change.others i (omega (arith, heap.placed.within)));
  within = there;
}
  where
    there : place < h.held
    there = place_among h n place heap.placed lt some is

    change : Changed (rank_at h) (rank_at (ranked h n (Some r))) (size h) place (Some r)
    change = changed h n place (Some r) heap.placed.paired lt is

    same_size : size (ranked h n (Some r)) ≡ size h
    same_size = length-set h.ranks.items n (Some r)

-- a heap of numbers without ranks
pub fresh : (h : Heap) (n : ℕ) → h.ranks.items ≡ replicate n None → CountsUp h.order.items n → CountsUp h.places.items n → h.held ≡ 0 → IsHeap h
fresh h n ranks order places none = record {
  placed = record { paired = paired; within = rw none (omega arith); held_first = held_first };
  ordered = λ i c child lt. absurd (omega (arith, none, lt));
}
  where
    size_is : size h ≡ n
    size_is = ap length ranks ∙ length-replicate n None

    number_at : (i : ℕ) → i < size h → slice_index h.order.items i ≡ i
    number_at i lt = order.1 i (subst (λ (x : ℕ). i < x) size_is lt)

    place_of : (i : ℕ) → i < size h → slice_index h.places.items i ≡ i
    place_of i lt = places.1 i (subst (λ (x : ℕ). i < x) size_is lt)

    paired : HasPlaces h
    paired = record {
      order_count = order.0 ∙ sym size_is;
      place_count = places.0 ∙ sym size_is;
      number_within = λ i lt. rw (number_at i lt) lt;
      place_within = λ i lt. rw (place_of i lt) lt;
      there = λ i lt. ap (slice_index h.places.items) (number_at i lt) ∙ place_of i lt;
      back = λ i lt. ap (slice_index h.order.items) (place_of i lt) ∙ number_at i lt;
    }

    held_first : HasFirst (rank_at h) h.held (size h)
    held_first i lt = ap is_some (ap (λ rs. get_or rs (slice_index h.order.items i) None) ranks
        ∙ get_or-replicate n (slice_index h.order.items i) None None (rw (number_at i lt) (subst (λ (x : ℕ). i < x) size_is lt)))
        ∙ sym (le-ltb i h.held (omega (arith, none)))

-- nothing goes before what a heap's first place has
pub first_of : (h : Heap) (n : ℕ) → IsHeap h → 0 < h.held → n ≡ slice_index_or h.order.items 0 n → IsFirst h (Some n)
first_of h n heap some is = (rw found (placed.paired.number_within 0 inside), λ m lt. rw found (least m lt))
  where
    placed : IsPlaced h
    placed = heap.placed

    inside : 0 < size h
    inside = omega (arith, some, placed.within)

    found : n ≡ slice_index h.order.items 0
    found = is ∙ get_or_default_zero h.order.items 0 n (rw placed.paired.order_count inside)

    least : (m : ℕ) → m < size h → before (rank_of_number h m) (rank_at h 0) ≡ false
    least m lt = subst (λ (x : ℕ). before (rank_of_number h x) (rank_at h 0) ≡ false) (placed.paired.back m lt)
        (first_is_least (rank_at h) h.held (size h) (slice_index h.places.items m) heap.ordered placed.held_first (placed.paired.place_within m lt))

-- where no number is held
pub none_held : (h : Heap) → IsHeap h → h.held ≡ 0 → IsFirst h None
none_held h heap none m lt = subst (λ (x : ℕ). rank_of_number h x ≡ None) (heap.placed.paired.back m lt) (is_none (rank_at h (slice_index h.places.items m))
    (heap.placed.held_first (slice_index h.places.items m) (heap.placed.paired.place_within m lt) ∙ le-ltb _ h.held (omega (arith, none))))
