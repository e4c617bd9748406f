-- Where numbers stand, and which views stand after one was set.
-- Cited by `Fronts`, `Others`, `Splits`, `Steps`, `Turns`.
use Rattle.std.proofs.Common.{◌≡◌, ◌≢◌, ℕ, zero, suc, true, false, cond, eqb, List, [], ◌∷◌, ◌++◌, length, length-set}
use Rattle.std.proofs.Common.{◌⊎◌, inl, inr, set, refl, sym, ap, subst, ◌∙◌, ⊎_elim, eq-eqb, ne_eqb}
use mathlib.Core.Option.{some, some-injective, some-ne-none}
use lib.ListN.{get_elem?}
use Rattle.atomic_table.proofs.Lists.{at_set, set_else, at_longer}
use Rattle.turn_table.specs.Places.{Place, not_given, joined, at}
use Rattle.turn_table.specs.Turn.{Holder}
use Rattle.turn_table.specs.declared.view.View.{View}

-- where the numbers stand once the seat with number 0 was made
abbrev pub first_place : ℕ → Place
first_place zero = at 0
first_place (suc n) = not_given

-- the number n stands elsewhere, and all others where they stood
abbrev pub placed : (ℕ → Place) → ℕ → Place → ℕ → Place
placed place n p m = cond (eqb m n) p (place m)

pub placed_here : (place : ℕ → Place) (n : ℕ) (p : Place) → placed place n p n ≡ p
placed_here place n p = ap (λ b. cond b p (place n)) (eq-eqb n n refl)

pub placed_else : (place : ℕ → Place) (n : ℕ) (p : Place) (m : ℕ) → m ≢ n → placed place n p m ≡ place m
placed_else place n p m ne = ap (λ b. cond b p (place m)) (ne_eqb m n ne)

-- seats at two places have two numbers
pub at_differs : (place : ℕ → Place) (m n i j : ℕ) → place m ≡ at i → place n ≡ at j → j ≢ i → n ≢ m
at_differs place m n i j a b ne e = ne cc

-- so have a number that is not given, or whose seat was joined, and the number of a live seat
pub not_given_differs : (place : ℕ → Place) (m n i : ℕ) → place m ≡ at i → place n ≡ not_given → n ≢ m
not_given_differs place m n i a b e = cc

pub joined_differs : (place : ℕ → Place) (m n i : ℕ) → place m ≡ at i → place n ≡ joined → n ≢ m
joined_differs place m n i a b e = cc

pub joined_is_given : (place : ℕ → Place) (m n : ℕ) → place m ≡ not_given → place n ≡ joined → n ≢ m
joined_is_given place m n a b e = cc

-- what holds of a new view, and of the others, holds of all once it is set
pub each_after_set : (Q : ℕ → View → Type 0) (views : List View) (id : ℕ) (new : View) → (new.live ≡ true → Q id new)
    → ((j : ℕ) (w : View) → j ≢ id → get_elem? views j ≡ some w → w.live ≡ true → Q j w) → (j : ℕ) (w : View) → get_elem? (set views id new) j ≡ some w
    → w.live ≡ true → Q j w
each_after_set Q views id new mine others j w is live = ⊎_elim
    (λ (t : (j ≡ id) × (new ≡ w)). subst (λ (x : ℕ × View). Q x.0 x.1) (λ i. (sym t.0 i, t.1 i)) (mine (ap (λ (v : View). v.live) t.1 ∙ live)))
    (λ (t : (j ≢ id) × (get_elem? views j ≡ some w)). others j w t.0 t.1 live) (at_set views id j new w is)

-- the holder stays where another view is set
pub holder_stays : (views : List View) (holder id : ℕ) (v new : View) → Holder views holder → get_elem? views id ≡ some v → v.holds ≡ false
    → Holder (set views id new) holder
holder_stays views holder id v new h is free = record {
  view = h.view;
  stands = set_else views id holder new (λ same.
      let one : h.view ≡ v = some-injective h.view v (sym h.stands ∙ ap (get_elem? views) same ∙ is) in
      let holds = h.holds in
      absurd cc) ∙ h.stands;
  live = h.live;
  holds = h.holds;
}

-- a number that is not given after one was placed was not given before
pub placed_not_given : (place : ℕ → Place) (n : ℕ) (p : Place) (m : ℕ) → p ≢ not_given → placed place n p m ≡ not_given → place m ≡ not_given
placed_not_given place n p m ne = elim (eqb m n) as (λ b. cond b p (place m) ≡ not_given → place m ≡ not_given) [
  | true ↦ λ h. absurd (ne h)
  | false ↦ λ h. h
]

-- what stands in a list with one more element
at_end : {A : Type 0} (l : List A) (a b : A) (j : ℕ) → get_elem? (l ++ a ∷ []) j ≡ some b → (get_elem? l j ≡ some b) ⊎ ((j ≡ length l) × (a ≡ b))
at_end [] a b zero e = inr (refl, some-injective a b e)
at_end [] a b (suc j) e = absurd (some-ne-none b (sym e))
at_end (x ∷ xs) a b zero e = inl e
at_end (x ∷ xs) a b (suc j) e = ⊎_elim inl (λ (t : (j ≡ length xs) × (a ≡ b)). inr (ap suc t.0, t.1)) (at_end xs a b j e)

-- what holds of both parts of a view, and of the other views, holds of all once it is split
pub each_after_split : (Q : ℕ → View → Type 0) (views : List View) (id : ℕ) (left right : View) → (left.live ≡ true → Q id left)
    → (right.live ≡ true → Q (length views) right)
    → ((j : ℕ) (w : View) → j ≢ id → get_elem? views j ≡ some w → w.live ≡ true → Q j w) → (j : ℕ) (w : View)
    → get_elem? (set views id left ++ right ∷ []) j ≡ some w → w.live ≡ true → Q j w
each_after_split Q views id left right mine new others j w is live = ⊎_elim
    (λ (old : get_elem? (set views id left) j ≡ some w). each_after_set Q views id left mine others j w old live)
    (λ (t : (j ≡ length (set views id left)) × (right ≡ w)). subst (λ (x : ℕ × View). Q x.0 x.1)
    (λ i. (sym (t.0 ∙ length-set views id left) i, t.1 i)) (new (ap (λ (v : View). v.live) t.1 ∙ live)))
    (at_end (set views id left) right w j is)

-- the holder stays where one more view comes
pub holder_stays_longer : (views : List View) (holder : ℕ) (new : View) → Holder views holder → Holder (views ++ new ∷ []) holder
holder_stays_longer views holder new h = record {
  view = h.view;
  stands = at_longer views (new ∷ []) holder h.view h.stands;
  live = h.live;
  holds = h.holds;
}

-- a view that is set stands there
pub set_there : {A : Type 0} (l : List A) (id : ℕ) (old new : A) → get_elem? l id ≡ some old → get_elem? (set l id new) id ≡ some new
set_there [] id old new e = absurd (some-ne-none old (sym e))
set_there (x ∷ xs) zero old new e = refl
set_there (x ∷ xs) (suc id) old new e = set_there xs id old new e
