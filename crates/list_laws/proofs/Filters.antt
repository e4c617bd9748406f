-- What a test keeps of a list, and what is made of its elements.
-- Cited by `Counts`, `Made`, `Pigeons`, `Rises`, `Sorts`, `env_core`, `env_explain`, `hist_model`, `log_count`, `nested_loop`,
-- `order_search`, `pool_core`, `pool_laws`, `queue_laws`, `queue_selector`, `run_summary`, `sequence_manager`, `situation`.
use Rattle.std.proofs.Common.{◌≡◌, Bool, true, false, cond, List, [], ◌∷◌, ◌++◌, map, refl, sym, ap, ◌∙◌, Option, Some, None}
use Rattle.std.proofs.lemmas.List.Elements.{filter-append}
use Rattle.std.specs.Prelude.{◌&&◌, filter}
use Rattle.std.specs.Option.{option_map}
use Rattle.std.specs.List.{filter_map, cons_option, AllByRecursion}

pub filter_congr : {A : Type 0} (p q : A → Bool) (xs : List A) → ((x : A) → p x ≡ q x) → filter p xs ≡ filter q xs
filter_congr p q [] h = refl
filter_congr p q (x ∷ xs) h = rw (h x, filter_congr p q xs h) refl

pub filter_congr_in : {A : Type 0} (p q : A → Bool) (xs : List A) → AllByRecursion (λ x. p x ≡ q x) xs → filter p xs ≡ filter q xs
filter_congr_in p q [] h = refl
filter_congr_in p q (x ∷ xs) h = rw (h.0, filter_congr_in p q xs h.1) refl

pub filter-filter : {A : Type 0} (p q : A → Bool) (xs : List A) → filter p (filter q xs) ≡ filter (λ x. q x && p x) xs
filter-filter p q [] = refl
filter-filter p q (x ∷ xs) = elim (q x) as (λ b. filter p (cond b (x ∷ filter q xs) (filter q xs))
    ≡ cond (b && p x) (x ∷ filter (λ y. q y && p y) xs) (filter (λ y. q y && p y) xs)) [
      | true ↦ ap (λ rest. cond (p x) (x ∷ rest) rest) (filter-filter p q xs)
      | false ↦ filter-filter p q xs
    ]

-- a test that each element passes keeps the list
pub filter_all : {A : Type 0} (p : A → Bool) (xs : List A) → AllByRecursion (λ x. p x ≡ true) xs → filter p xs ≡ xs
filter_all p [] h = refl
filter_all p (x ∷ xs) h = rw (h.0) (ap (λ rest. x ∷ rest) (filter_all p xs h.1))

pub filter_always : {A : Type 0} (p : A → Bool) (xs : List A) → ((x : A) → p x ≡ true) → filter p xs ≡ xs
filter_always p [] h = refl
filter_always p (x ∷ xs) h = rw (h x) (ap (λ rest. x ∷ rest) (filter_always p xs h))

-- a test that nothing in the list fails
pub filter_none : {A : Type 0} (p : A → Bool) (xs : List A) → AllByRecursion (λ x. p x ≡ false) xs → filter p xs ≡ []
filter_none p [] h = refl
filter_none p (x ∷ xs) h = rw (h.0) (filter_none p xs h.1)

pub filter_never : {A : Type 0} (p : A → Bool) (xs : List A) → ((x : A) → p x ≡ false) → filter p xs ≡ []
filter_never p [] h = refl
filter_never p (x ∷ xs) h = rw (h x) (filter_never p xs h)

-- what a test keeps passes it
pub filter_passes : {A : Type 0} (p : A → Bool) (xs : List A) → AllByRecursion (λ x. p x ≡ true) (filter p xs)
filter_passes p [] = tt
filter_passes p (x ∷ xs) = kept (p x) refl (filter_passes p xs)
  where
    kept : (b : Bool) → p x ≡ b → AllByRecursion (λ y. p y ≡ true) (filter p xs) → AllByRecursion (λ y. p y ≡ true) (cond b (x ∷ filter p xs) (filter p xs))
    kept true is rest = (is, rest)
    kept false is rest = rest

pub filter-map : {A B : Type 0} (p : B → Bool) (f : A → B) (xs : List A) → filter p (map f xs) ≡ map f (filter (λ x. p (f x)) xs)
filter-map p f [] = refl
filter-map p f (x ∷ xs) = elim (p (f x)) as (λ b. cond b (f x ∷ filter p (map f xs)) (filter p (map f xs))
    ≡ map f (cond b (x ∷ filter (λ y. p (f y)) xs) (filter (λ y. p (f y)) xs))) [
      | true ↦ ap (λ rest. f x ∷ rest) (filter-map p f xs)
      | false ↦ filter-map p f xs
    ]

pub map-congr_in : {A B : Type 0} (f g : A → B) (xs : List A) → AllByRecursion (λ x. f x ≡ g x) xs → map f xs ≡ map g xs
map-congr_in f g [] h = refl
map-congr_in f g (x ∷ xs) h = rw (h.0, map-congr_in f g xs h.1) refl

pub filter_map_congr : {A B : Type 0} (f g : A → Option B) (xs : List A) → ((x : A) → f x ≡ g x) → filter_map f xs ≡ filter_map g xs
filter_map_congr f g [] h = refl
filter_map_congr f g (x ∷ xs) h = rw (h x, filter_map_congr f g xs h) refl

pub filter_map_congr_in : {A B : Type 0} (f g : A → Option B) (xs : List A) → AllByRecursion (λ x. f x ≡ g x) xs → filter_map f xs ≡ filter_map g xs
filter_map_congr_in f g [] h = refl
filter_map_congr_in f g (x ∷ xs) h = rw (h.0, filter_map_congr_in f g xs h.1) refl

pub filter_map_never : {A B : Type 0} (f : A → Option B) (xs : List A) → ((x : A) → f x ≡ None) → filter_map f xs ≡ []
filter_map_never f [] h = refl
filter_map_never f (x ∷ xs) h = rw (h x) (filter_map_never f xs h)

-- what is made of the elements that pass a test
pub filter_map-passing : {A B : Type 0} (f : A → Option B) (p : A → Bool) (g : A → B) (xs : List A) → ((x : A) → f x ≡ cond (p x) (Some (g x)) None)
    → filter_map f xs ≡ map g (filter p xs)
filter_map-passing f p g [] is = refl
filter_map-passing {A = A} {B = B} f p g (x ∷ xs) is = ap (λ o. cons_option o (filter_map f xs)) (is x)
    ∙ ap (λ ys. cons_option (cond (p x) (Some (g x)) None) ys) (filter_map-passing f p g xs is) ∙ by_test (p x)
  where
    by_test : (b : Bool) → cons_option (cond b (Some (g x)) None) (map g (filter p xs)) ≡ map g (cond b (x ∷ filter p xs) (filter p xs))
    by_test true = refl
    by_test false = refl

-- what is made of what is made
pub filter_map-option_map : {A B C : Type 0} (f : A → Option B) (g : B → C) (xs : List A) → filter_map (λ x. option_map g (f x)) xs ≡ map g (filter_map f xs)
filter_map-option_map f g [] = refl
filter_map-option_map {B = B} f g (x ∷ xs) = ap (cons_option (option_map g (f x))) (filter_map-option_map f g xs) ∙ by_image (f x)
  where
    by_image : (o : Option B) → cons_option (option_map g o) (map g (filter_map f xs)) ≡ map g (cons_option o (filter_map f xs))
    by_image None = refl
    by_image (Some y) = refl

-- a test on what is made of the elements is a test on the elements
pub filter-filter_map : {A B : Type 0} (r : B → Bool) (s : A → Bool) (f : A → Option B) (xs : List A) → ((x : A) (y : B) → f x ≡ Some y → r y ≡ s x)
    → filter_map f (filter s xs) ≡ filter r (filter_map f xs)
filter-filter_map r s f [] h = refl
filter-filter_map {A = A} {B = B} r s f (x ∷ xs) h = by_image (f x) refl (filter-filter_map r s f xs h)
  where
    kept : (b : Bool) → filter_map f (cond b (x ∷ filter s xs) (filter s xs))
        ≡ cond b (cons_option (f x) (filter_map f (filter s xs))) (filter_map f (filter s xs))
    kept true = refl
    kept false = refl

    none : (b : Bool) (ys : List B) → cond b ys ys ≡ ys
    none true ys = refl
    none false ys = refl

    by_image : (o : Option B) → f x ≡ o → filter_map f (filter s xs) ≡ filter r (filter_map f xs)
        → filter_map f (cond (s x) (x ∷ filter s xs) (filter s xs)) ≡ filter r (cons_option (f x) (filter_map f xs))
    by_image None is rest =
        kept (s x)
        ∙ ap (λ o. cond (s x) (cons_option o (filter_map f (filter s xs))) (filter_map f (filter s xs))) is
        ∙ none (s x) (filter_map f (filter s xs))
        ∙ rest
        ∙ ap (λ o. filter r (cons_option o (filter_map f xs))) (sym is)
    by_image (Some y) is rest =
        kept (s x)
        ∙ ap (λ o. cond (s x) (cons_option o (filter_map f (filter s xs))) (filter_map f (filter s xs))) is
        ∙ ap (λ b. cond b (y ∷ filter_map f (filter s xs)) (filter_map f (filter s xs))) (sym (h x y is))
        ∙ ap (λ ys. cond (r y) (y ∷ ys) ys) rest
        ∙ ap (λ o. filter r (cons_option o (filter_map f xs))) (sym is)

-- the elements in front, where all of these pass, and those of the rest that do
pub filter_front : {A : Type 0} (test : A → Bool) (xs front rest : List A) → xs ≡ front ++ rest → AllByRecursion (λ x. test x ≡ true) front
    → filter test xs ≡ front ++ filter test rest
filter_front test xs front rest parts passes =
    ap (filter test) parts ∙ filter-append test front rest ∙ ap (λ ys. ys ++ filter test rest) (filter_all test front passes)
