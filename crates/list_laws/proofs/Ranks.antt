-- Tests that rank.
-- Cited by `Sorts`, `delayed_manager`, `hist_model`, `nested_loop`, `pool_laws`, `queue_laws`, `queue_selector`, `sequence_manager`,
-- `sequence_queue`, `situation`.
use Rattle.std.proofs.Common.{◌≡◌, ℕ, ◌<◌, Bool, true, false, eqb, refl, sym, ap, ◌∙◌, inl, inr, arith}
use Rattle.std.specs.Prelude.{◌&&◌, ◌||◌, ◌⊎◌, nat_lt}
use Rattle.std.proofs.lemmas.Bool.{ne_eqb, eq-eqb, true≢false, lt-ltb, le-ltb, cases_order}
use Rattle.list_laws.specs.Lists.{Ranks, then_by}

-- by one number
pub ranks_by : {A : Type 0} (f : A → ℕ) → Ranks (λ a b. nat_lt (f a) (f b))
ranks_by {A = A} f = record { itself = itself; one_way = one_way; through = through }
  where
    itself : (a : A) → nat_lt (f a) (f a) ≡ false
    itself a = le-ltb (f a) (f a) (omega arith)

    one_way : (a b : A) → nat_lt (f a) (f b) ≡ true → nat_lt (f b) (f a) ≡ false
    one_way a b h = grind arith

    through : (a b c : A) → nat_lt (f a) (f b) ≡ false → nat_lt (f b) (f c) ≡ false → nat_lt (f a) (f c) ≡ false
    through a b c h k = grind arith

pub by_less : {A : Type 0} (f : A → ℕ) (below : A → A → Bool) (a b : A) → f a < f b → then_by f below a b ≡ true
by_less f below a b lt = ap (λ t. t || (eqb (f a) (f b) && below a b)) (lt-ltb (f a) (f b) lt)

pub by_same : {A : Type 0} (f : A → ℕ) (below : A → A → Bool) (a b : A) → f a ≡ f b → then_by f below a b ≡ below a b
by_same f below a b same = ap (λ t. t || (eqb (f a) (f b) && below a b)) (le-ltb (f a) (f b) (omega (arith, same)))
    ∙ ap (λ t. t && below a b) (eq-eqb (f a) (f b) same)

pub by_more : {A : Type 0} (f : A → ℕ) (below : A → A → Bool) (a b : A) → f b < f a → then_by f below a b ≡ false
by_more f below a b lt = ap (λ t. t || (eqb (f a) (f b) && below a b)) (le-ltb (f a) (f b) (omega (arith, lt)))
    ∙ ap (λ t. t && below a b) (ne_eqb (f a) (f b) (λ same. omega (arith, lt, same)))

pub ranks_then_by : {A : Type 0} (f : A → ℕ) (below : A → A → Bool) → Ranks below → Ranks (then_by f below)
ranks_then_by {A = A} f below ranks = record { itself = itself; one_way = one_way; through = through }
  where
    itself : (a : A) → then_by f below a a ≡ false
    itself a = by_same f below a a refl ∙ ranks.itself a

    one_way : (a b : A) → then_by f below a b ≡ true → then_by f below b a ≡ false
    one_way a b h = by_order (cases_order (f a) (f b))
      where
        by_order : (f a ≡ f b) ⊎ ((f a < f b) ⊎ (f b < f a)) → then_by f below b a ≡ false
        by_order (inl same) = by_same f below b a (sym same) ∙ ranks.one_way a b (sym (by_same f below a b same) ∙ h)
        by_order (inr (inl lt)) = by_more f below b a lt
        by_order (inr (inr lt)) = absurd (true≢false (sym h ∙ by_more f below a b lt))

    through : (a b c : A) → then_by f below a b ≡ false → then_by f below b c ≡ false → then_by f below a c ≡ false
    through a b c h k = by_order (cases_order (f a) (f b)) (cases_order (f b) (f c))
      where
        by_order : (f a ≡ f b) ⊎ ((f a < f b) ⊎ (f b < f a)) → (f b ≡ f c) ⊎ ((f b < f c) ⊎ (f c < f b)) → then_by f below a c ≡ false
        by_order (inr (inl lt)) other = absurd (true≢false (sym (by_less f below a b lt) ∙ h))
        by_order (inl same) (inr (inl lt)) = absurd (true≢false (sym (by_less f below b c lt) ∙ k))
        by_order (inr (inr more)) (inr (inl lt)) = absurd (true≢false (sym (by_less f below b c lt) ∙ k))
        by_order (inl same) (inl equal) = by_same f below a c (same ∙ equal)
            ∙ ranks.through a b c (sym (by_same f below a b same) ∙ h) (sym (by_same f below b c equal) ∙ k)
        by_order (inl same) (inr (inr more)) = by_more f below a c (omega (arith, same, more))
        by_order (inr (inr more)) (inl equal) = by_more f below a c (omega (arith, more, equal))
        by_order (inr (inr more)) (inr (inr less)) = by_more f below a c (omega (arith, more, less))

-- what goes before one goes before all that this one goes before
pub ranks-trans : {A : Type 0} (below : A → A → Bool) → Ranks below → (a b c : A) → below a b ≡ true → below b c ≡ true → below a c ≡ true
ranks-trans {A = A} below ranks a b c ab bc = by_order (below a c) refl
  where
    by_order : (t : Bool) → below a c ≡ t → below a c ≡ true
    by_order true is = is
    by_order false is = absurd (true≢false (sym ab ∙ ranks.through a c b is (ranks.one_way b c bc)))

-- two between which the test decides neither way have the same number
pub tied : {A : Type 0} (f : A → ℕ) (below : A → A → Bool) (a b : A) → then_by f below a b ≡ false → then_by f below b a ≡ false
    → (f a ≡ f b) × (below a b ≡ false) × (below b a ≡ false)
tied f below a b h k = by_order (cases_order (f a) (f b))
  where
    by_order : (f a ≡ f b) ⊎ ((f a < f b) ⊎ (f b < f a)) → (f a ≡ f b) × (below a b ≡ false) × (below b a ≡ false)
    by_order (inl same) = (same, sym (by_same f below a b same) ∙ h, sym (by_same f below b a (sym same)) ∙ k)
    by_order (inr (inl lt)) = absurd (true≢false (sym (by_less f below a b lt) ∙ h))
    by_order (inr (inr lt)) = absurd (true≢false (sym (by_less f below b a lt) ∙ k))

-- a test that ranks, the other way round
pub ranks_turned : {A : Type 0} (below : A → A → Bool) → Ranks below → Ranks (λ a b. below b a)
ranks_turned below ranks = record {
  itself = ranks.itself;
  one_way = λ a b. ranks.one_way b a;
  through = λ a b c h k. ranks.through c b a k h;
}
