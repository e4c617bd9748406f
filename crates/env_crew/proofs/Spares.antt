-- The spare desks, while they are served.
-- Cited by `drive`, 5 functions of `waits`.
use Rattle.std.proofs.Common.{◌≡◌, ◌≢◌, ℕ, zero, suc, ◌+◌, ◌<◌, ◌≤◌, List, [], ◌∷◌, length, refl, sym, ap, subst, ◌∙◌, get_or, arith, ◌⊎◌, inl, inr}
use Rattle.std.proofs.lemmas.List.{length-set}
use Rattle.std.proofs.lemmas.Option.{slice_get-get_or, slice_get_within}
use Rattle.std.specs.Prelude.{slice_get, slice_set, Some}
use Rattle.env_crew.specs.Desk.{DeskView, IsLater}
use Rattle.env_crew.specs.Driving.{AllFree, SameDesks}
use Rattle.env_crew.specs.Serving.{IsFree}
use Rattle.env_crew.proofs.Holds.{later_refl, later_trans}

-- desks are the same as they are
pub desks_refl : {D : Type 0} (desk : D → DeskView) (xs : List D) → SameDesks desk xs xs
desks_refl desk xs = record {
  as_many = refl;
  each = λ i a b a_is b_is. let same : a ≡ b = cc in subst (λ d. IsLater (desk a) (desk d)) same (later_refl (desk a));
}

-- desks that stay the same twice stay the same
pub desks_trans : {D : Type 0} (desk : D → DeskView) (xs ys zs : List D) → SameDesks desk xs ys → SameDesks desk ys zs → SameDesks desk xs zs
desks_trans desk xs ys zs p q = record {
  as_many = q.as_many ∙ p.as_many;
  each = λ i a c a_is c_is.
      let b = get_or ys i a in
      let there : slice_get ys i ≡ Some b = slice_get-get_or ys i a (omega (arith, slice_get_within zs i c c_is, q.as_many)) in
      later_trans (desk a) (desk b) (desk c) (p.each i a b a_is there) (q.each i b c there c_is);
}

-- each of the desks below a place has taken the turn since
abbrev pub ServedBelow : {D : Type 0} → (D → DeskView) → ℕ → List D → List D → Type 0
ServedBelow {D} desk n old new =
    (i : ℕ) (a b : D) → i < n → slice_get old i ≡ Some a → slice_get new i ≡ Some b → (desk a).turns < (desk b).turns

-- there is none at a place past the end
pub served_past : {D : Type 0} (desk : D → DeskView) (olds xs : List D) (n : ℕ) → length xs ≤ n → ServedBelow desk n olds xs
    → ServedBelow desk (n + 1) olds xs
served_past desk olds xs n past served i a b below a_is b_is = served i a b (omega (arith, past, slice_get_within xs i b b_is)) a_is b_is

-- what stands in a list with one item set: the item, or elsewhere what stood there
set_get : {D : Type 0} (xs : List D) (i : ℕ) (d : D) (j : ℕ) (e : D) → slice_get (slice_set xs i d) j ≡ Some e
    → ((j ≡ i) × (e ≡ d)) ⊎ ((j ≢ i) × (slice_get xs j ≡ Some e))
set_get [] i d j e h = absurd cc
set_get (x ∷ xs) zero d zero e h = inl (refl, cc)
set_get (x ∷ xs) zero d (suc j) e h = inr ((λ same. cc), h)
set_get (x ∷ xs) (suc i) d zero e h = inr ((λ same. cc), h)
set_get (x ∷ xs) (suc i) d (suc j) e h = elim (set_get xs i d j e h) [
  | inl l ↦ inl (ap suc l.0, l.1)
  | inr r ↦ inr ((λ same. r.0 (omega (arith, same))), r.1)
]

-- where one of the desks goes on and is free again, all are free and the same; where it took the turn, one more was served
pub desks_set : {D : Type 0} (desk : D → DeskView) (olds xs : List D) (i : ℕ) (d e : D) → slice_get xs i ≡ Some d → IsLater (desk d) (desk e) → IsFree (desk e)
    → (desk d).turns < (desk e).turns → AllFree desk xs → SameDesks desk olds xs → ServedBelow desk i olds xs
    → AllFree desk (slice_set xs i e) × SameDesks desk olds (slice_set xs i e) × ServedBelow desk (i + 1) olds (slice_set xs i e)
desks_set {D} desk olds xs i d e d_is later free turned all same served = (
  (λ j x x_is. elim (set_get xs i e j x x_is) [
    | inl l ↦ subst (λ y. IsFree (desk y)) (sym l.1) free
    | inr r ↦ all j x r.1
  ]),
  record {
    as_many = length-set xs i e ∙ same.as_many;
    each = λ j a x a_is x_is. elim (set_get xs i e j x x_is) [
      | inl l ↦ subst (λ y. IsLater (desk a) (desk y)) (sym l.1) (later_trans (desk a) (desk d) (desk e) (was_same a j l.0 a_is) later)
      | inr r ↦ same.each j a x a_is r.1
    ];
  },
  (λ j a x below a_is x_is. elim (set_get xs i e j x x_is) [
    | inl l ↦ subst (λ y. (desk a).turns < (desk y).turns) (sym l.1) (omega (arith, (was_same a j l.0 a_is).turned, turned))
    | inr r ↦ served j a x (omega (arith, below, r.0)) a_is r.1
  ]),
)
  where
    was_same : (a : D) (j : ℕ) → j ≡ i → slice_get olds j ≡ Some a → IsLater (desk a) (desk d)
    was_same a j here a_is = same.each i a d (ap (λ k. slice_get olds k) (sym here) ∙ a_is) d_is
