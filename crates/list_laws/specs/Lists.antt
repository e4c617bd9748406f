-- Counting in lists, tests that rank, and least elements.
use Rattle.std.specs.Prelude.{◌≡◌, ℕ, ◌<◌, ◌==◌, nat_lt, Bool, true, false, ◌&&◌, ◌||◌, if◌then◌else◌, List, [], ◌∷◌, length, filter, Option, Some, None, All, Contains}

-- how many elements pass the test
abbrev pub count : {A : Type 0} → (A → Bool) → List A → ℕ
count test xs = length (filter test xs)

-- the least of x and the elements behind it
abbrev pub least_from : {A : Type 0} → (A → A → Bool) → A → List A → A
least_from below x [] = x
least_from below x (y ∷ ys) = least_from below (if below y x then y else x) ys

-- the least element, the first one where several are
abbrev pub least : {A : Type 0} → (A → A → Bool) → List A → Option A
least below [] = None
least below (x ∷ xs) = Some (least_from below x xs)

-- there is a value, and it passes the test
abbrev pub holds_of : {A : Type 0} → (A → Bool) → Option A → Bool
holds_of test None = false
holds_of test (Some x) = test x

-- one of the list, and none of the list is below it
pub record IsLeast {A : Type 0} (below : A → A → Bool) (xs : List A) (x : A) : Type 0 where
  pub member : Contains xs x
  pub none_below : All (λ y. below y x ≡ false) xs

-- a value that passes a test
abbrev pub keep : {A : Type 0} → (A → Bool) → Option A → Option A
keep test None = None
keep test (Some x) = if test x then Some x else None

-- a test that ranks: nothing goes before itself, of two at most one goes before the other, and what does not go before
-- one that does not go before a third does not go before that
pub record Ranks {A : Type 0} (below : A → A → Bool) : Type 0 where
  pub itself : (a : A) → below a a ≡ false
  pub one_way : (a b : A) → below a b ≡ true → below b a ≡ false
  pub through : (a b c : A) → below a b ≡ false → below b c ≡ false → below a c ≡ false

-- by a number, and by another test between equal numbers
abbrev pub then_by : {A : Type 0} → (A → ℕ) → (A → A → Bool) → A → A → Bool
then_by f below a b = nat_lt (f a) (f b) || (f a == f b && below a b)

-- the first number that passes the test: it passes, and no lesser one does
pub record IsFirst (test : ℕ → Bool) (n : ℕ) : Type 0 where
  pub passes : test n ≡ true
  pub none_lesser : (m : ℕ) → m < n → test m ≡ false
