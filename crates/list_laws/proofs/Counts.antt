-- How many elements pass a test.
-- Cited by `Pigeons`, `Places`, `Ranges`, `Sorts`, `env_core`, `hist_model`, `job_source`, `live_core`, `log_context`, `log_count`,
-- `nested_loop`, `open_explain`, `pool_core`, `pool_laws`, `queue_laws`, `queue_selector`, `run_summary`, `script_model`,
-- `sequence_manager`, `situation`, `task_reply`, `task_script`, `thread_group`.
use Rattle.std.proofs.Common.{◌≡◌, ℕ, zero, suc, ◌+◌, ◌<◌, ◌≤◌, Bool, true, false, cond, List, [], ◌∷◌, ◌++◌, length, get_or, set, refl, sym, ap, ◌∙◌, arith}
use Rattle.std.specs.Prelude.{◌||◌, filter, not}
use Rattle.std.specs.List.{list_any, AllByRecursion}
use Rattle.std.proofs.lemmas.List.{length-append}
use Rattle.std.proofs.lemmas.List.Elements.{filter-append}
use Rattle.std.proofs.lemmas.List.Filters.{length-filter_both}
use Rattle.list_laws.specs.Lists.{count}
use Rattle.list_laws.proofs.Elements.{AllByRecursion-always, AllByRecursion-map}
use Rattle.list_laws.proofs.Filters.{filter_congr, filter_congr_in}

pub filter_length_congr : {A : Type 0} (p q : A → Bool) (xs : List A) → ((x : A) → p x ≡ q x) → count p xs ≡ count q xs
filter_length_congr p q xs h = ap length (filter_congr p q xs h)

pub count_step : {A : Type 0} (p : A → Bool) (x : A) (xs : List A) (b : Bool) → p x ≡ b → count p (x ∷ xs) ≡ cond b (suc (count p xs)) (count p xs)
count_step p x xs b is = by_test (p x) ∙ ap (λ c. cond c (suc (count p xs)) (count p xs)) is
  where
    by_test : (c : Bool) → length (cond c (x ∷ filter p xs) (filter p xs)) ≡ cond c (suc (count p xs)) (count p xs)
    by_test true = refl
    by_test false = refl

pub count-cons : {A : Type 0} (p : A → Bool) (x : A) (xs : List A) → count p (x ∷ xs) ≡ count p xs + cond (p x) 1 0
count-cons p x xs = by_test (p x) refl
  where
    by_test : (b : Bool) → p x ≡ b → count p (x ∷ xs) ≡ count p xs + cond b 1 0
    by_test true is = count_step p x xs true is ∙ omega arith
    by_test false is = count_step p x xs false is ∙ omega arith

-- one element changes
pub count-set : {A : Type 0} (p : A → Bool) (xs : List A) (i : ℕ) (d x y : A) → i < length xs → x ≡ get_or xs i d
    → count p (set xs i y) + count p (x ∷ []) ≡ count p xs + count p (y ∷ [])
count-set p [] i d x y less is = absurd (omega (arith, less))
count-set p (z ∷ zs) zero d x y less is =
    omega (arith, ap (λ w. count p (w ∷ [])) is, count-cons p y zs, count-cons p z zs, count-cons p y [], count-cons p z [])
count-set p (z ∷ zs) (suc i) d x y less is =
    omega (arith, count-set p zs i d x y (omega (arith, less)) is, count-cons p z (set zs i y), count-cons p z zs)

pub count-append : {A : Type 0} (p : A → Bool) (xs ys : List A) → count p (xs ++ ys) ≡ count p xs + count p ys
count-append p xs ys = ap length (filter-append p xs ys) ∙ length-append (filter p xs) (filter p ys)

pub any_from_count : {A : Type 0} (p : A → Bool) (xs : List A) (n : ℕ) → count p xs ≡ suc n → list_any p xs ≡ true
any_from_count p [] n is = absurd (omega (arith, is))
any_from_count p (x ∷ xs) n is = by_test (p x) refl (any_from_count p xs n)
  where
    by_test : (b : Bool) → p x ≡ b → (count p xs ≡ suc n → list_any p xs ≡ true) → (p x || list_any p xs) ≡ true
    by_test true was rest = rw was refl
    by_test false was rest = rw was (rest (sym (count_step p x xs false was) ∙ is))

pub count_mono : {A : Type 0} (p q : A → Bool) (xs : List A) → ((x : A) → p x ≡ true → q x ≡ true) → count p xs ≤ count q xs
count_mono p q [] h = omega arith
count_mono p q (x ∷ xs) h = by_test (p x) refl (count_mono p q xs h) (count-cons p x xs) (count-cons q x xs)
  where
    by_test : (b : Bool) → p x ≡ b → count p xs ≤ count q xs → count p (x ∷ xs) ≡ count p xs + cond (p x) 1 0 → count q (x ∷ xs) ≡ count q xs + cond (q x) 1 0
        → count p (x ∷ xs) ≤ count q (x ∷ xs)
    by_test true is le left right =
        let one : count p (x ∷ xs) ≡ count p xs + 1 = left ∙ ap (λ (b : Bool). count p xs + cond b 1 0) is in
        let two : count q (x ∷ xs) ≡ count q xs + 1 = right ∙ ap (λ (b : Bool). count q xs + cond b 1 0) (h x is) in
        omega (arith, le, one, two)
    by_test false is le left right =
        let one : count p (x ∷ xs) ≡ count p xs + 0 = left ∙ ap (λ (b : Bool). count p xs + cond b 1 0) is in
        omega (arith, le, one, right)

-- what fails the first test and passes the second, and only where the mark stands, makes up the difference
count_up : {A : Type 0} (marks p q : A → Bool) (xs : List A) → ((x : A) → marks x ≡ true → p x ≡ false) → ((x : A) → marks x ≡ true → q x ≡ true)
    → AllByRecursion (λ x. marks x ≡ false → p x ≡ q x) xs → count q xs ≡ count p xs + count marks xs
count_up marks p q [] f g h = refl
count_up marks p q (x ∷ xs) f g h = by_test (marks x) refl (count_up marks p q xs f g h.1)
  where
    by_test : (b : Bool) → marks x ≡ b → count q xs ≡ count p xs + count marks xs → count q (x ∷ xs) ≡ count p (x ∷ xs) + count marks (x ∷ xs)
    by_test true is rest = omega (arith, rest, count_step p x xs false (f x is), count_step q x xs true (g x is), count_step marks x xs true is)
    by_test false is rest = agree (q x) refl
      where
        agree : (c : Bool) → q x ≡ c → count q (x ∷ xs) ≡ count p (x ∷ xs) + count marks (x ∷ xs)
        agree true was = omega (arith, rest, count_step p x xs true (h.0 is ∙ was), count_step q x xs true was, count_step marks x xs false is)
        agree false was = omega (arith, rest, count_step p x xs false (h.0 is ∙ was), count_step q x xs false was, count_step marks x xs false is)

-- two tests that agree on the list except at its one marked element: the counts differ by what they say of it
pub count_change_in : {A : Type 0} (marks p q : A → Bool) (b c : Bool) (xs : List A) → count marks xs ≡ 1 → ((x : A) → marks x ≡ true → p x ≡ b)
    → ((x : A) → marks x ≡ true → q x ≡ c) → AllByRecursion (λ x. marks x ≡ false → p x ≡ q x) xs → count p xs + cond c 1 0 ≡ count q xs + cond b 1 0
count_change_in marks p q false true xs one f g h = let up : count q xs ≡ count p xs + count marks xs = count_up marks p q xs f g h in omega (arith, one, up)
count_change_in marks p q true false xs one f g h = let up : count p xs ≡ count q xs
    + count marks xs = count_up marks q p xs g f (AllByRecursion-map (λ x. marks x ≡ false → p x ≡ q x) (λ x. marks x ≡ false → q x ≡ p x) xs
    (λ x same is. sym (same is)) h) in omega (arith, one, up)
count_change_in {A = A} marks p q true true xs one f g h = ap (λ ys. length ys + 1)
    (filter_congr_in p q xs (AllByRecursion-map (λ x. marks x ≡ false → p x ≡ q x) (λ x. p x ≡ q x) xs (λ x same. at_each x same (marks x) refl) h))
  where
    at_each : (x : A) → (marks x ≡ false → p x ≡ q x) → (m : Bool) → marks x ≡ m → p x ≡ q x
    at_each x same true is = f x is ∙ sym (g x is)
    at_each x same false is = same is
count_change_in {A = A} marks p q false false xs one f g h = ap (λ ys. length ys + 0)
    (filter_congr_in p q xs (AllByRecursion-map (λ x. marks x ≡ false → p x ≡ q x) (λ x. p x ≡ q x) xs (λ x same. at_each x same (marks x) refl) h))
  where
    at_each : (x : A) → (marks x ≡ false → p x ≡ q x) → (m : Bool) → marks x ≡ m → p x ≡ q x
    at_each x same true is = f x is ∙ sym (g x is)
    at_each x same false is = same is

pub count_change : {A : Type 0} (marks p q : A → Bool) (b c : Bool) (xs : List A) → count marks xs ≡ 1 → ((x : A) → marks x ≡ true → p x ≡ b)
    → ((x : A) → marks x ≡ true → q x ≡ c) → ((x : A) → marks x ≡ false → p x ≡ q x) → count p xs + cond c 1 0 ≡ count q xs + cond b 1 0
count_change marks p q b c xs one f g h = count_change_in marks p q b c xs one f g (AllByRecursion-always (λ x. marks x ≡ false → p x ≡ q x) xs h)

-- no more pass than there are
pub count_le : {A : Type 0} (p : A → Bool) (xs : List A) → count p xs ≤ length xs
count_le p xs = omega (arith, length-filter_both p (λ x. not (p x)) (λ x. refl) xs)

-- where nothing passes both of two tests, no more pass one of them than there are
pub count_apart : {A : Type 0} (p q : A → Bool) (xs : List A) → ((x : A) → q x ≡ true → p x ≡ false) → count p xs + count q xs ≤ length xs
count_apart p q xs apart =
    omega (arith, count_mono q (λ x. not (p x)) xs (λ x h. ap not (apart x h)), length-filter_both p (λ x. not (p x)) (λ x. refl) xs)
