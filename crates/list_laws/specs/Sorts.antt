-- Lists in order: a sort, lists that rise, and lists of the same elements.
use Rattle.std.specs.Prelude.{◌≡◌, Bool, true, if◌then◌else◌, ◌⊎◌, List, [], ◌∷◌, Contains}
use Rattle.std.specs.List.{AllByRecursion}

-- x stands before the first that does not go before it
abbrev pub insert_by : {A : Type 0} → (A → A → Bool) → A → List A → List A
insert_by below x [] = x ∷ []
insert_by below x (y ∷ ys) = if below y x then y ∷ insert_by below x ys else x ∷ y ∷ ys

-- the elements in the order of the test; those of which none goes before the other stay in their order
abbrev pub sort_by : {A : Type 0} → (A → A → Bool) → List A → List A
sort_by below [] = []
sort_by below (x ∷ xs) = insert_by below x (sort_by below xs)

-- each goes before all that follow
abbrev pub Rises : {A : Type 0} → (A → A → Bool) → List A → Type 0
Rises below [] = Unit {0}
Rises below (x ∷ xs) = AllByRecursion (λ y. below x y ≡ true) xs × Rises below xs

-- of each two one goes before the other
abbrev pub Differ : {A : Type 0} → (A → A → Bool) → List A → Type 0
Differ below [] = Unit {0}
Differ below (x ∷ xs) = AllByRecursion (λ y. (below x y ≡ true) ⊎ (below y x ≡ true)) xs × Differ below xs

-- each of the one list is in the other
pub record SameMembers {A : Type 0} (xs ys : List A) : Type 0 where
  pub forth : AllByRecursion (Contains ys) xs
  pub back : AllByRecursion (Contains xs) ys
