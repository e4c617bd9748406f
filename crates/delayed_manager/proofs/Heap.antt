-- What a push, a pop and a peek of the heap are for the list that it stands for.
-- Cited by `Delayed::add`, `Delayed::peek`, `Delayed::remove_first`, `sequence_manager`.
use Rattle.std.proofs.Common.{◌≡◌, ℕ, ◌<◌, ◌≤◌, Bool, true, false, cond, List, [], ◌∷◌, length, get_or, drop, map}
use Rattle.std.proofs.Common.{refl, sym, ap, ◌∙◌, inl, inr, arith, Option, Some, None, Result, Ok, Err, subst}
use Rattle.std.specs.Prelude.{◌⊎◌, ◌&&◌, ◌||◌, ◌==◌, nat_lt, IsPermutation, slice_get, IfSome, IfNone, All, IsOk, OnOk}
use Rattle.std.proofs.lemmas.List.{length-map}
use Rattle.std.specs.List.{AllByRecursion}
use Rattle.std.specs.BinaryHeap.{IsHeap, IsUpperBound, KeepsHeap, PopsGreatest, HeapUnchanged, heap_items, heap_len, heap_capacity}
use Rattle.std.specs.declared.collections.binary_heap.BinaryHeap.{BinaryHeap}
use Rattle.std.specs.Ordering.{nat_cmp, ordering_then, is_lt}
use Rattle.std.specs.declared.cmp.Ordering.{Ordering}
use Rattle.std.specs.declared.cmp.Ordering.TheVariants.{Less, Equal, Greater}
use Rattle.std.specs.declared.cmp.Reverse.{Reverse}
use Rattle.std.proofs.lemmas.Bool.{cases_order, lt-ltb, ne_eqb, true≢false}
use Rattle.std.proofs.lemmas.List.Elements.{recursion_from_All}
use Rattle.std.proofs.lemmas.List.Sorted.{IsPermutation-map}
use Rattle.list_laws.specs.Lists.{Ranks, then_by}
use Rattle.list_laws.specs.Sorts.{Rises, Differ, insert_by, sort_by}
use Rattle.list_laws.proofs.Ranks.{ranks_by, ranks_then_by, by_less, by_same}
use Rattle.list_laws.proofs.Sorts.{rises-sort_by, length-sort_by, AllByRecursion-sort_by}
use Rattle.list_laws.proofs.Elements.{AllByRecursion-map}
use Rattle.delayed_manager.specs.declared.ripening.Ripening.{Ripening}
use Rattle.delayed_manager.specs.Delayed.{ripens_before}
use Rattle.delayed_manager.specs.Heap.{heap_cmp, ripens_first, in_order, IsSound}
use Rattle.delayed_manager.proofs.Sorting.{Orders, sort-permutation, insert_least, insert_alike}

-- comparing by a number first
cmp_then : (m n : ℕ) (o : Ordering) → is_lt (ordering_then (nat_cmp m n) o) ≡ (nat_lt m n || (m == n && is_lt o))
cmp_then m n o = by_order (nat_lt m n) (m == n)
  where
    by_order : (b c : Bool) → is_lt (ordering_then (cond b Less (cond c Equal Greater)) o) ≡ (b || (c && is_lt o))
    by_order true c = refl
    by_order false true = refl
    by_order false false = refl

cmp_last : (m n : ℕ) → is_lt (nat_cmp m n) ≡ nat_lt m n
cmp_last m n = by_order (nat_lt m n) (m == n)
  where
    by_order : (b c : Bool) → is_lt (cond b Less (cond c Equal Greater)) ≡ b
    by_order true c = refl
    by_order false true = refl
    by_order false false = refl

-- the heap compares by the order of its list, turned round
lt_is : (a b : Reverse Ripening) → is_lt (heap_cmp a b) ≡ ripens_first b.0 a.0
lt_is a b =
    cmp_then b.0.ripe a.0.ripe _
    ∙ ap (λ t. nat_lt b.0.ripe a.0.ripe || (b.0.ripe == a.0.ripe && t)) (cmp_then b.0.post a.0.post _
    ∙ ap (λ t. nat_lt b.0.post a.0.post || (b.0.post == a.0.post && t)) (cmp_last b.0.task a.0.task))

apart_then : {A : Type 0} (f : A → ℕ) (below : A → A → Bool) (P : A → A → Type 0) (a b : A)
    → (f a ≡ f b → P a b ⊎ ((below a b ≡ true) ⊎ (below b a ≡ true)))
    → P a b ⊎ ((then_by f below a b ≡ true) ⊎ (then_by f below b a ≡ true))
apart_then {A = A} f below P a b rest = by_order (cases_order (f a) (f b))
  where
    within : f a ≡ f b → P a b ⊎ ((below a b ≡ true) ⊎ (below b a ≡ true))
        → P a b ⊎ ((then_by f below a b ≡ true) ⊎ (then_by f below b a ≡ true))
    within same (inl is) = inl is
    within same (inr (inl is)) = inr (inl (by_same f below a b same ∙ is))
    within same (inr (inr is)) = inr (inr (by_same f below b a (sym same) ∙ is))

    by_order : (f a ≡ f b) ⊎ ((f a < f b) ⊎ (f b < f a)) → P a b ⊎ ((then_by f below a b ≡ true) ⊎ (then_by f below b a ≡ true))
    by_order (inl same) = within same (rest same)
    by_order (inr (inl less)) = inr (inl (by_less f below a b less))
    by_order (inr (inr more)) = inr (inr (by_less f below b a more))

orders : Orders ripens_first
orders = record {
  ranks = ranks_then_by (λ r. r.ripe) (then_by (λ r. r.post) (λ a b. nat_lt a.task b.task))
      (ranks_then_by (λ r. r.post) (λ a b. nat_lt a.task b.task) (ranks_by (λ r. r.task)));
  apart = λ a b. apart_then (λ r. r.ripe) (then_by (λ r. r.post) (λ x y. nat_lt x.task y.task)) (λ x y. x ≡ y) a b
      (λ ripe. apart_then (λ r. r.post) (λ x y. nat_lt x.task y.task) (λ x y. x ≡ y) a b (λ post. last a b ripe post (cases_order a.task b.task)));
}
  where
    last : (a b : Ripening) → a.ripe ≡ b.ripe → a.post ≡ b.post → (a.task ≡ b.task) ⊎ ((a.task < b.task) ⊎ (b.task < a.task))
        → (a ≡ b) ⊎ ((nat_lt a.task b.task ≡ true) ⊎ (nat_lt b.task a.task ≡ true))
    last a b ripe post (inl task) = inl (
        ap (λ n. record { ripe = n; post = a.post; task = a.task }) ripe
        ∙ ap (λ n. record { ripe = b.ripe; post = n; task = a.task }) post
        ∙ ap (λ n. record { ripe = b.ripe; post = b.post; task = n }) task)
    last a b ripe post (inr (inl less)) = inr (inl (lt-ltb a.task b.task less))
    last a b ripe post (inr (inr more)) = inr (inr (lt-ltb b.task a.task more))

-- none of what is held goes before what none of the heap is above
least_of : (x : Reverse Ripening) (items : List (Reverse Ripening)) → IsUpperBound heap_cmp x items
    → AllByRecursion (λ r. ripens_first r x.0 ≡ false) (in_order items)
least_of x items top = AllByRecursion-sort_by (λ r. ripens_first r x.0 ≡ false) ripens_first (map (λ r. r.0) items) (over items top)
  where
    over : (ys : List (Reverse Ripening)) → IsUpperBound heap_cmp x ys → AllByRecursion (λ r. ripens_first r x.0 ≡ false) (map (λ r. r.0) ys)
    over [] h = tt
    over (y ∷ ys) h = (sym (lt_is x y) ∙ h.0, over ys h.1)

-- the list of a heap with one task more
pushed : (x : Reverse Ripening) (old new : List (Reverse Ripening)) → IsPermutation (x ∷ old) new → in_order new ≡ insert_by ripens_first x.0 (in_order old)
pushed x old new moved = sort-permutation ripens_first orders (map (λ r. r.0) (x ∷ old)) (map (λ r. r.0) new) (IsPermutation-map (λ r. r.0) (x ∷ old) new moved)

-- the list of a heap that lost its top
popped : (x : Reverse Ripening) (old new : List (Reverse Ripening)) → IsPermutation old (x ∷ new) → IsUpperBound heap_cmp x new
    → in_order old ≡ x.0 ∷ in_order new
popped x old new moved top =
    sym (sort-permutation ripens_first orders (map (λ r. r.0) old) (map (λ r. r.0) (x ∷ new)) (IsPermutation-map (λ r. r.0) old (x ∷ new) moved))
    ∙ insert_least ripens_first x.0 (in_order new) (least_of x new top)

-- the first of the list of a heap is its top
pub first_is_top : (x : Reverse Ripening) (items : List (Reverse Ripening)) → 0 < length items → x ≡ get_or items 0 x → IsUpperBound heap_cmp x items
    → slice_get (in_order items) 0 ≡ Some x.0
first_is_top x [] some is top = absurd (omega (arith, some))
first_is_top x (y ∷ ys) some is top =
    ap (λ w. slice_get (insert_by ripens_first w (in_order ys)) 0) (ap (λ w. w.0) (sym is))
    ∙ ap (λ l. slice_get l 0) (insert_least ripens_first x.0 (in_order ys) (least_of x ys top.1))

-- a list that rises is its own sort, and its elements differ
rises_differ : {A : Type 0} (below : A → A → Bool) (xs : List A) → Rises below xs → Differ below xs
rises_differ below [] rises = tt
rises_differ below (x ∷ xs) rises = (
  AllByRecursion-map (λ y. below x y ≡ true) (λ y. (below x y ≡ true) ⊎ (below y x ≡ true)) xs (λ y is. inl is) rises.0,
  rises_differ below xs rises.1,
)

sort_rising : {A : Type 0} (below : A → A → Bool) → Ranks below → (xs : List A) → Rises below xs → sort_by below xs ≡ xs
sort_rising below ranks [] rises = refl
sort_rising below ranks (x ∷ xs) rises =
    ap (insert_by below x) (sort_rising below ranks xs rises.1)
    ∙ insert_least below x xs (AllByRecursion-map (λ y. below x y ≡ true) (λ y. below y x ≡ false) xs (λ y is. ranks.one_way x y is) rises.0)

-- of two that ripen at one moment the one posted first goes before
pub ranks_ripening : Ranks ripens_before
ranks_ripening = ranks_then_by (λ r. r.ripe) (λ a b. nat_lt a.post b.post) (ranks_by (λ r. r.post))

-- what differs in its post ripens before or behind
ripens_apart : (a b : Ripening) → (b.post ≡ a.post → ⊥) → (ripens_before a b ≡ true) ⊎ (ripens_before b a ≡ true)
ripens_apart a b other = by_apart (apart_then (λ r. r.ripe) (λ x y. nat_lt x.post y.post) (λ x y. ⊥) a b (λ same. last (cases_order a.post b.post)))
  where
    last : (a.post ≡ b.post) ⊎ ((a.post < b.post) ⊎ (b.post < a.post)) → ⊥ ⊎ ((nat_lt a.post b.post ≡ true) ⊎ (nat_lt b.post a.post ≡ true))
    last (inl same) = absurd (other (sym same))
    last (inr (inl less)) = inr (inl (lt-ltb a.post b.post less))
    last (inr (inr more)) = inr (inr (lt-ltb b.post a.post more))

    by_apart : ⊥ ⊎ ((ripens_before a b ≡ true) ⊎ (ripens_before b a ≡ true)) → (ripens_before a b ≡ true) ⊎ (ripens_before b a ≡ true)
    by_apart (inl never) = absurd never
    by_apart (inr is) = is

-- between tasks of different posts the task doesn't decide
same_order : (a b : Ripening) → (a.post ≡ b.post → ⊥) → ripens_first a b ≡ ripens_before a b
same_order a b other =
    ap (λ t. nat_lt a.ripe b.ripe || (a.ripe == b.ripe && (nat_lt a.post b.post || (t && nat_lt a.task b.task)))) (ne_eqb a.post b.post other)
    ∙ ap (λ t. nat_lt a.ripe b.ripe || (a.ripe == b.ripe && t)) (or_false (nat_lt a.post b.post))
  where
    or_false : (t : Bool) → (t || false) ≡ t
    or_false true = refl
    or_false false = refl

-- a task is put into the list where it ripens, and the list goes on rising
added : (x : Reverse Ripening) (old new : List (Reverse Ripening)) → IsPermutation (x ∷ old) new → All (λ r. r.post ≡ x.0.post → ⊥) (in_order old)
    → in_order new ≡ insert_by ripens_before x.0 (in_order old)
added x old new moved differ =
    pushed x old new moved
    ∙ insert_alike ripens_first ripens_before x.0 (in_order old)
    (AllByRecursion-map (λ r. r.post ≡ x.0.post → ⊥) (λ r. ripens_first r x.0 ≡ ripens_before r x.0) (in_order old) (λ r other. same_order r x.0 other)
    (recursion_from_All (λ r. r.post ≡ x.0.post → ⊥) (in_order old) differ))

insert_rises : (x : Ripening) (held : List Ripening) → All (λ r. r.post ≡ x.post → ⊥) held → Rises ripens_before held
    → Rises ripens_before (insert_by ripens_before x held)
insert_rises x held differ rises = subst (λ l. Rises ripens_before (insert_by ripens_before x l)) (sort_rising ripens_before ranks_ripening held rises)
    (rises-sort_by ripens_before ranks_ripening (x ∷ held) (
      AllByRecursion-map (λ r. r.post ≡ x.post → ⊥) (λ r. (ripens_before x r ≡ true) ⊎ (ripens_before r x ≡ true)) held (λ r other. ripens_apart x r other)
          (recursion_from_All (λ r. r.post ≡ x.post → ⊥) held differ),
      rises_differ ripens_before held rises,
    ))

length-in_order : (items : List (Reverse Ripening)) → length (in_order items) ≡ length items
length-in_order items = length-sort_by ripens_first (map (λ r. r.0) items) ∙ length-map items (λ r. r.0)

rises-drop : {A : Type 0} (below : A → A → Bool) (xs : List A) → Rises below xs → Rises below (drop 1 xs)
rises-drop below [] rises = tt
rises-drop below (x ∷ xs) rises = rises.1

-- what an answer that is Ok says
on_ok : {T E : Type 0} (r : Result T E) (P : Type 0) → IsOk r → OnOk r P → P
on_ok (Ok x) P is h = h
on_ok (Err e) P is h = absurd (true≢false (sym is))

-- a push where there is room: the heap stays sound, and the task stands in its list where it ripens
pub after_push : {T E Z : Type 0} (r : Result T E) (x : Reverse Ripening) (old new : BinaryHeap (Reverse Ripening) Z) (room : ℕ)
    → IsSound (heap_items old) (heap_capacity old) room → length (in_order (heap_items old)) < room
    → All (λ other. other.post ≡ x.0.post → ⊥) (in_order (heap_items old)) → (heap_len old < heap_capacity old → IsOk r)
    → OnOk r (IsPermutation (x ∷ heap_items old) (heap_items new)) → OnOk r (KeepsHeap heap_cmp (heap_items old) (heap_items new))
    → heap_capacity old ≤ heap_capacity new
    → IsSound (heap_items new) (heap_capacity new) room × (in_order (heap_items new) ≡ insert_by ripens_before x.0 (in_order (heap_items old)))
after_push r x old new room sound less differ succeeds moved keeps grows =
    let fits : IsOk r = succeeds (omega (arith, less, sound.reserved, old.data.ok.0, length-in_order (heap_items old))) in
    let put = added x (heap_items old) (heap_items new) (on_ok r _ fits moved) differ in (
      record {
        heap = on_ok r _ fits keeps sound.heap;
        reserved = omega (arith, sound.reserved, grows);
        apart = subst (Rises ripens_before) (sym put) (insert_rises x.0 (in_order (heap_items old)) differ sound.apart);
      },
      put,
    )

-- a pop: the heap stays sound, and its list loses the first
pub after_pop : {Z : Type 0} (o : Option (Reverse Ripening)) (old new : BinaryHeap (Reverse Ripening) Z) (room : ℕ)
    → IsSound (heap_items old) (heap_capacity old) room → IfSome o (λ x. IsPermutation (heap_items old) (x ∷ heap_items new))
    → IfSome o (λ x. PopsGreatest heap_cmp (heap_items old) x (heap_items new))
    → IfSome o (λ x. IsHeap heap_cmp (heap_items old) → IsUpperBound heap_cmp x (heap_items new))
    → IfNone o (heap_len old ≡ 0) → IfNone o (HeapUnchanged old new) → heap_capacity new ≡ heap_capacity old
    → IsSound (heap_items new) (heap_capacity new) room × (in_order (heap_items new) ≡ drop 1 (in_order (heap_items old)))
after_pop {Z = Z} o old new room sound moved greatest top none same stays = (
  record {
    heap = ordered o greatest same;
    reserved = omega (arith, sound.reserved, stays);
    apart = subst (Rises ripens_before) (sym (left o moved top none same)) (rises-drop ripens_before (in_order (heap_items old)) sound.apart);
  },
  left o moved top none same,
)
  where
    ordered : (o : Option (Reverse Ripening)) → IfSome o (λ x. PopsGreatest heap_cmp (heap_items old) x (heap_items new)) → IfNone o (HeapUnchanged old new)
        → IsHeap heap_cmp (heap_items new)
    ordered None h unchanged = subst (IsHeap heap_cmp) (sym unchanged.0) sound.heap
    ordered (Some x) h unchanged = (h sound.heap).0

    empty : (items : List (Reverse Ripening)) → length items ≡ 0 → in_order items ≡ drop 1 (in_order items)
    empty [] h = refl
    empty (x ∷ xs) h = absurd (omega (arith, h))

    left : (o : Option (Reverse Ripening)) → IfSome o (λ x. IsPermutation (heap_items old) (x ∷ heap_items new))
        → IfSome o (λ x. IsHeap heap_cmp (heap_items old) → IsUpperBound heap_cmp x (heap_items new))
        → IfNone o (heap_len old ≡ 0) → IfNone o (HeapUnchanged old new) → in_order (heap_items new) ≡ drop 1 (in_order (heap_items old))
    left None h k zero_len unchanged = ap in_order unchanged.0 ∙ empty (heap_items old) (sym old.data.ok.0 ∙ zero_len)
    left (Some x) h k zero_len unchanged = sym (ap (drop 1) (popped x (heap_items old) (heap_items new) h (k sound.heap)))
