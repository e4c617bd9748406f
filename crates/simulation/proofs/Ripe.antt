-- The moments at which tasks ripen, as a set: what is added to it and dropped, and its first one.
-- Cited by `Awaited::next`, `Awaited::note`, `add_ahead`, `drop_first`, `first_of`.
use Rattle.std.proofs.Common.{◌≡◌, ◌<◌, ◌≤◌, ℕ, Bool, true, false, cond, eqb, List, [], ◌∷◌, ◌++◌, refl, sym, ap, ◌∙◌, Option, Some, None, arith, inl, inr, ◌⊎◌}
use Rattle.std.specs.Prelude.{◌&&◌, ◌||◌, ◌==◌, IfNone, IfSome, fold, nat_lt}
use Rattle.std.proofs.Math.Bool.{and-false}
use Rattle.std.proofs.lemmas.Bool.{and_from, and_parts, eq-eqb, eqb-true, false_from_ne_true, lt-ltb, ltb-false, ltb-true, or_left, or_right}
use Rattle.std.proofs.lemmas.List.Folds.{list_any-append}
use Rattle.std.specs.List.{list_any}
use Rattle.std.specs.Ordering.{nat_cmp, is_eq, is_gt}
use Rattle.std.specs.BTreeMap.{is_at}
use Rattle.simulation.specs.Awaited.{sooner}
use Rattle.simulation.specs.Awaits.{is_among}

-- ---- in the words of the set

-- the set compares as numbers do
same_test : (m x : ℕ) → is_eq (nat_cmp m x) ≡ eqb x m
same_test m x = grind arith

pub among_is : (m : ℕ) (keys : List ℕ) → list_any (is_at (nat_cmp m)) keys ≡ is_among m keys
among_is m [] = refl
among_is m (x ∷ keys) = ap (λ b. b || list_any (is_at (nat_cmp m)) keys) (same_test m x) ∙ ap (λ b. eqb x m || b) (among_is m keys)

-- a number that compares as no greater one is at most the other
pub at_most : (k m : ℕ) → is_gt (nat_cmp k m) ≡ false → k ≤ m
at_most k m not_greater = grind arith

-- ---- added and dropped

-- with a moment that lies ahead of now
pub added : (now k m : ℕ) (old new : List ℕ) → now < k
    → list_any (is_at (nat_cmp m)) new ≡ cond (is_at (nat_cmp k) m) true (list_any (is_at (nat_cmp m)) old)
    → is_among m new ≡ (is_among m old || (is_among m (k ∷ []) && nat_lt now m))
added now k m old new ahead is =
    sym (among_is m new) ∙ is ∙ rw (among_is m old, same_test k m) (by_key (eqb m k) refl)
  where
    by_key : (b : Bool) → eqb m k ≡ b → cond b true (is_among m old) ≡ (is_among m old || ((eqb k m || false) && nat_lt now m))
    by_key b same = grind arith

-- without the first one, which does not lie ahead of now
pub popped : (now first m : ℕ) (popped : Option ℕ) (old new : List ℕ) → IfSome popped (λ k. old ≡ k ∷ new) → IfNone popped (new ≡ old)
    → IfSome popped (λ k. (q : ℕ) → list_any (is_at (nat_cmp q)) old ≡ true → is_gt (nat_cmp k q) ≡ false)
    → is_among first old ≡ true → first ≤ now → now < m → is_among m new ≡ is_among m old
popped now first m None old new removal kept least among reached ahead = ap (is_among m) kept
popped now first m (Some k) old new removal kept least among reached ahead =
    let before = at_most k first (least first (among_is first old ∙ among)) in
    let differs : eqb k m ≡ false = false_from_ne_true (eqb k m) (λ same. apart (eqb-true k m same) before) in
    sym (ap (is_among m) removal ∙ ap (λ b. b || is_among m new) differs)
  where
    apart : k ≡ m → k ≤ first → ⊥
    apart same before = omega (arith, same, before, reached, ahead)

-- ---- the soonest

-- so soon as that, or none so far
abbrev IsAtLeast : ℕ → Option ℕ → Type 0
IsAtLeast m None = Unit {0}
IsAtLeast m (Some best) = m ≤ best

-- one more moment, which is no sooner than that where it lies ahead
still_at_least : (now m x : ℕ) (best : Option ℕ) → IsAtLeast m best → (now < x → m ≤ x) → IsAtLeast m (sooner now best x)
still_at_least now m x None at_least bound = by_ahead (nat_lt now x) refl
  where
    by_ahead : (b : Bool) → nat_lt now x ≡ b → IsAtLeast m (cond b (Some x) None)
    by_ahead true ahead = bound (ltb-true now x ahead)
    by_ahead false ahead = tt
still_at_least now m x (Some best) at_least bound = by_sooner (nat_lt now x && nat_lt x best) refl
  where
    by_sooner : (b : Bool) → (nat_lt now x && nat_lt x best) ≡ b → IsAtLeast m (cond b (Some x) (Some best))
    by_sooner true both = bound (ltb-true now x (and_parts (nat_lt now x) (nat_lt x best) both).0)
    by_sooner false both = at_least

-- the one that is found stays
stays : (now m x : ℕ) → (now < x → m ≤ x) → sooner now (Some m) x ≡ Some m
stays now m x bound = by_sooner (nat_lt now x && nat_lt x m) refl
  where
    by_sooner : (b : Bool) → (nat_lt now x && nat_lt x m) ≡ b → cond b (Some x) (Some m) ≡ Some m
    by_sooner true both =
        let parts = and_parts (nat_lt now x) (nat_lt x m) both in
        absurd (omega (arith, bound (ltb-true now x parts.0), ltb-true x m parts.1))
    by_sooner false both = refl

-- it is taken where it comes
taken : (now m : ℕ) (best : Option ℕ) → now < m → IsAtLeast m best → sooner now best m ≡ Some m
taken now m None ahead at_least = ap (λ b. cond b (Some m) None) (lt-ltb now m ahead)
taken now m (Some best) ahead at_least = by_sooner (nat_lt m best) refl
  where
    by_sooner : (b : Bool) → nat_lt m best ≡ b → cond (nat_lt now m && nat_lt m best) (Some m) (Some best) ≡ Some m
    by_sooner true less = ap (λ b. cond b (Some m) (Some best)) (and_from (nat_lt now m) (nat_lt m best) (lt-ltb now m ahead) less)
    by_sooner false less =
        let same : best ≡ m = omega (arith, at_least, ltb-false m best less) in
        rw (less, same) (either (nat_lt now m && false))
      where
        either : (b : Bool) → cond b (Some m) (Some m) ≡ Some m
        either true = refl
        either false = refl

-- the least of the moments that lie ahead of now is the soonest
found : (now m : ℕ) (best : Option ℕ) (moments : List ℕ) → now < m → IsAtLeast m best → (best ≡ Some m) ⊎ (is_among m moments ≡ true)
    → ((x : ℕ) → is_among x moments ≡ true → now < x → m ≤ x) → fold (sooner now) best moments ≡ Some m
found now m best [] ahead at_least (inl is) bound = is
found now m best [] ahead at_least (inr none) bound = absurd cc
found now m best (x ∷ rest) ahead at_least here bound = found now m (sooner now best x) rest ahead
    (still_at_least now m x best at_least (bound x (or_left (eqb x x) (is_among x rest) (eq-eqb x x refl))))
    (goes_on here) (λ y among. bound y (or_right (eqb x y) (is_among y rest) among))
  where
    goes_on : (best ≡ Some m) ⊎ (is_among m (x ∷ rest) ≡ true) → (sooner now best x ≡ Some m) ⊎ (is_among m rest ≡ true)
    goes_on (inl is) = inl (ap (λ b. sooner now b x) is ∙ stays now m x (bound x (or_left (eqb x x) (is_among x rest) (eq-eqb x x refl))))
    goes_on (inr among) = by_test (eqb x m) refl
      where
        by_test : (b : Bool) → eqb x m ≡ b → (sooner now best x ≡ Some m) ⊎ (is_among m rest ≡ true)
        by_test true same = inl (ap (sooner now best) (eqb-true x m same) ∙ taken now m best ahead at_least)
        by_test false differs = inr (rw differs at among)

-- where none lies ahead of now, there is none
none_found : (now : ℕ) (moments : List ℕ) → ((x : ℕ) → is_among x moments ≡ true → nat_lt now x ≡ false) → fold (sooner now) None moments ≡ None
none_found now [] none = refl
none_found now (x ∷ rest) none =
    ap (λ b. fold (sooner now) (cond b (Some x) None) rest) (none x (or_left (eqb x x) (is_among x rest) (eq-eqb x x refl)))
    ∙ none_found now rest (λ y among. none y (or_right (eqb x y) (is_among y rest) among))

-- the first of those that are kept is the soonest of all
pub first_is_soonest : (now : ℕ) (keys moments : List ℕ) (first : Option ℕ) → ((m : ℕ) → is_among m keys ≡ (is_among m moments && nat_lt now m))
    → IfSome first (λ k. is_among k keys ≡ true) → IfSome first (λ k. (m : ℕ) → is_among m keys ≡ true → k ≤ m)
    → (first ≡ None → (m : ℕ) → is_among m keys ≡ false) → first ≡ fold (sooner now) None moments
first_is_soonest now keys moments None same among least none = sym (none_found now moments
    (λ x within. by_ahead x (nat_lt now x) (rw within at (sym (same x) ∙ none refl x))))
  where
    by_ahead : (x : ℕ) (b : Bool) → b ≡ false → b ≡ false
    by_ahead x b is = is
first_is_soonest now keys moments (Some k) same among least none =
    let parts = and_parts (is_among k moments) (nat_lt now k) (sym (same k) ∙ among) in
    sym (found now k None moments (ltb-true now k parts.1) tt (inr parts.0)
    (λ x within ahead. least x (same x ∙ and_from (is_among x moments) (nat_lt now x) within (lt-ltb now x ahead))))

-- ---- one more entry

-- what is among two lists is among one of them
pub among-append : (m : ℕ) (xs ys : List ℕ) → is_among m (xs ++ ys) ≡ (is_among m xs || is_among m ys)
among-append m xs ys = list_any-append (λ x. x == m) xs ys

-- those of before and one more, of which those stay that lie ahead of a later moment
pub ripe_then : (a b c d : Bool) → (d ≡ true → c ≡ true) → (((a && c) || (b && c)) && d) ≡ ((a || b) && d)
ripe_then a b c true later = rw (later refl) (both a b)
  where
    both : (a b : Bool) → (((a && true) || (b && true)) && true) ≡ ((a || b) && true)
    both true b = refl
    both false true = refl
    both false false = refl
ripe_then a b c false later = and-false ((a && c) || (b && c)) ∙ sym (and-false (a || b))
