-- What holds of the elements of a list.
-- Cited by `Counts`, `Made`, `Members`, `Pigeons`, `Places`, `Rises`, `Sorts`, `delayed_manager`, `env_core`, `env_crew`, `env_roster`,
-- `env_threads`, `hist_model`, `live_core`, `live_roster`, `log_context`, `log_count`, `nested_loop`, `next_entry`, `order_search`,
-- `pool_core`, `pool_laws`, `queue_laws`, `queue_selector`, `run_summary`, `script_model`, `sequence_manager`, `situation`, `task_reply`,
-- `task_script`, `told_context`, `turn_table`, `work_queue`, `worked_parts`.
use Rattle.std.proofs.Common.{◌≡◌, ℕ, zero, suc, ◌<◌, Bool, true, false, cond, List, [], ◌∷◌, ◌++◌, length, map}
use Rattle.std.proofs.Common.{append_assoc, get_or, refl, sym, ◌∙◌, Option, Some, None, arith, subst}
use Rattle.std.specs.Prelude.{filter, slice_get, Contains}
use Rattle.std.specs.Option.{IfSome}
use Rattle.std.specs.List.{filter_map, cons_option, AllByRecursion, flat_map}
use Rattle.std.proofs.lemmas.List.{append-nil}
use Rattle.std.proofs.lemmas.List.Elements.{All-from_recursion, recursion_from_All, All-contains_itself, All-contains}
use Rattle.std.proofs.lemmas.Bool.{true≢false}

pub AllByRecursion-always : {A : Type 0} (P : A → Type 0) (xs : List A) → ((x : A) → P x) → AllByRecursion P xs
AllByRecursion-always P [] h = tt
AllByRecursion-always P (x ∷ xs) h = (h x, AllByRecursion-always P xs h)

pub AllByRecursion-map : {A : Type 0} (P Q : A → Type 0) (xs : List A) → ((x : A) → P x → Q x) → AllByRecursion P xs → AllByRecursion Q xs
AllByRecursion-map P Q [] f h = tt
AllByRecursion-map P Q (x ∷ xs) f h = (f x h.0, AllByRecursion-map P Q xs f h.1)

-- what holds of each element of two lists at once
pub AllByRecursion-both : {A : Type 0} (P Q : A → Type 0) (xs : List A) → AllByRecursion P xs → AllByRecursion Q xs → AllByRecursion (λ x. P x × Q x) xs
AllByRecursion-both P Q [] h k = tt
AllByRecursion-both P Q (x ∷ xs) h k = ((h.0, k.0), AllByRecursion-both P Q xs h.1 k.1)

pub AllByRecursion-append : {A : Type 0} (P : A → Type 0) (xs ys : List A) → AllByRecursion P xs → AllByRecursion P ys → AllByRecursion P (xs ++ ys)
AllByRecursion-append P [] ys h k = k
AllByRecursion-append P (x ∷ xs) ys h k = (h.0, AllByRecursion-append P xs ys h.1 k)

-- of all elements of lists that are made of elements of which something holds
pub AllByRecursion-flat_map : {A B : Type 0} (P : B → Type 0) (Q : A → Type 0) (f : A → List B) (xs : List A) → ((x : A) → Q x → AllByRecursion P (f x))
    → AllByRecursion Q xs → AllByRecursion P (flat_map f xs)
AllByRecursion-flat_map P Q f [] h all = tt
AllByRecursion-flat_map P Q f (x ∷ xs) h all =
    AllByRecursion-append P (f x) (flat_map f xs) (h x all.0) (AllByRecursion-flat_map P Q f xs h all.1)

-- and of any elements
pub AllByRecursion-each_list : {A B : Type 0} (P : B → Type 0) (f : A → List B) (xs : List A) → ((x : A) → AllByRecursion P (f x))
    → AllByRecursion P (flat_map f xs)
AllByRecursion-each_list P f xs h =
    AllByRecursion-flat_map P (λ x. Unit {0}) f xs (λ x t. h x) (AllByRecursion-always (λ x. Unit {0}) xs (λ x. tt))

-- what holds of the elements of a joined list holds of those of either part
pub AllByRecursion-front : {A : Type 0} (P : A → Type 0) (xs ys : List A) → AllByRecursion P (xs ++ ys) → AllByRecursion P xs
AllByRecursion-front P [] ys h = tt
AllByRecursion-front P (x ∷ xs) ys h = (h.0, AllByRecursion-front P xs ys h.1)

pub AllByRecursion-back : {A : Type 0} (P : A → Type 0) (xs ys : List A) → AllByRecursion P (xs ++ ys) → AllByRecursion P ys
AllByRecursion-back P [] ys h = h
AllByRecursion-back P (x ∷ xs) ys h = AllByRecursion-back P xs ys h.1

pub AllByRecursion-at : {A : Type 0} (P : A → Type 0) (front : List A) (x : A) (back : List A) → AllByRecursion P (front ++ x ∷ back) → P x
AllByRecursion-at P [] x back h = h.0
AllByRecursion-at P (y ∷ front) x back h = AllByRecursion-at P front x back h.1

pub AllByRecursion-from_index : {A : Type 0} (P : A → Type 0) (xs : List A) → ((i : ℕ) (d : A) → i < length xs → P (get_or xs i d)) → AllByRecursion P xs
AllByRecursion-from_index P [] h = tt
AllByRecursion-from_index P (x ∷ xs) h = (h 0 x (omega arith), AllByRecursion-from_index P xs (λ i d lt. h (suc i) d (omega arith)))

-- the element at a place of a joined list
pub slice_get-front : {A : Type 0} (xs ys : List A) (i : ℕ) → i < length xs → slice_get (xs ++ ys) i ≡ slice_get xs i
slice_get-front [] ys i lt = absurd (omega (arith, lt))
slice_get-front (x ∷ xs) ys zero lt = refl
slice_get-front (x ∷ xs) ys (suc i) lt = slice_get-front xs ys i (omega (arith, lt))

pub slice_get-end : {A : Type 0} (xs : List A) (y : A) → slice_get (xs ++ y ∷ []) (length xs) ≡ Some y
slice_get-end [] y = refl
slice_get-end (x ∷ xs) y = slice_get-end xs y

pub slice_get_all : {A : Type 0} (P : A → Type 0) (xs : List A) (i : ℕ) → AllByRecursion P xs → IfSome (slice_get xs i) P
slice_get_all P [] i h = tt
slice_get_all P (x ∷ xs) zero h = h.0
slice_get_all P (x ∷ xs) (suc i) h = slice_get_all P xs i h.1

pub AllByRecursion-mapped : {A B : Type 0} (P : B → Type 0) (f : A → B) (xs : List A) → AllByRecursion (λ x. P (f x)) xs → AllByRecursion P (map f xs)
AllByRecursion-mapped P f [] h = tt
AllByRecursion-mapped P f (x ∷ xs) h = (h.0, AllByRecursion-mapped P f xs h.1)

pub AllByRecursion-unmapped : {A B : Type 0} (P : B → Type 0) (f : A → B) (xs : List A) → AllByRecursion P (map f xs) → AllByRecursion (λ x. P (f x)) xs
AllByRecursion-unmapped P f [] all = tt
AllByRecursion-unmapped P f (x ∷ xs) all = (all.0, AllByRecursion-unmapped P f xs all.1)

pub AllByRecursion-filter : {A : Type 0} (P : A → Type 0) (p : A → Bool) (xs : List A) → AllByRecursion P xs → AllByRecursion P (filter p xs)
AllByRecursion-filter P p [] h = tt
AllByRecursion-filter P p (x ∷ xs) h = elim (p x) as (λ b. AllByRecursion P (cond b (x ∷ filter p xs) (filter p xs))) [
  | true ↦ (h.0, AllByRecursion-filter P p xs h.1)
  | false ↦ AllByRecursion-filter P p xs h.1
]

-- what holds of the elements that pass a test
pub unfiltered : {A : Type 0} (P : A → Type 0) (test : A → Bool) (xs : List A) → AllByRecursion P (filter test xs)
    → AllByRecursion (λ x. test x ≡ true → P x) xs
unfiltered P test [] h = tt
unfiltered {A = A} P test (x ∷ xs) h = by_test (test x) refl h (unfiltered P test xs)
  where
    by_test : (b : Bool) → test x ≡ b → AllByRecursion P (cond b (x ∷ filter test xs) (filter test xs))
        → (AllByRecursion P (filter test xs) → AllByRecursion (λ y. test y ≡ true → P y) xs)
        → (test x ≡ true → P x) × AllByRecursion (λ y. test y ≡ true → P y) xs
    by_test true is kept rest = ((λ same. kept.0), rest kept.1)
    by_test false is kept rest = ((λ same. absurd (true≢false (sym same ∙ is))), rest kept)

pub AllByRecursion-filter_map : {A B : Type 0} (P : B → Type 0) (f : A → Option B) (xs : List A) → AllByRecursion (λ x. IfSome (f x) P) xs
    → AllByRecursion P (filter_map f xs)
AllByRecursion-filter_map P f [] h = tt
AllByRecursion-filter_map {B = B} P f (x ∷ xs) h = made (f x) h.0 (AllByRecursion-filter_map P f xs h.1)
  where
    made : (o : Option B) → IfSome o P → AllByRecursion P (filter_map f xs) → AllByRecursion P (cons_option o (filter_map f xs))
    made None here rest = rest
    made (Some y) here rest = (here, rest)

-- what holds of what is made of the elements
pub AllByRecursion-made : {A B : Type 0} (P : B → Type 0) (f : A → Option B) (xs : List A) → AllByRecursion P (filter_map f xs)
    → AllByRecursion (λ x. IfSome (f x) P) xs
AllByRecursion-made P f [] all = tt
AllByRecursion-made {B = B} P f (x ∷ xs) all = by_image (f x) all (AllByRecursion-made P f xs)
  where
    by_image : (o : Option B) → AllByRecursion P (cons_option o (filter_map f xs))
        → (AllByRecursion P (filter_map f xs) → AllByRecursion (λ y. IfSome (f y) P) xs)
        → IfSome o P × AllByRecursion (λ y. IfSome (f y) P) xs
    by_image None h rest = (tt, rest h)
    by_image (Some y) h rest = (h.0, rest h.1)

-- what holds of all of a list holds of each that it contains
pub AllByRecursion-contains : {A : Type 0} (P : A → Type 0) (xs : List A) (x : A) → AllByRecursion P xs → Contains xs x → P x
AllByRecursion-contains P xs x all = All-contains P xs x (All-from_recursion P xs all)

pub AllByRecursion-contains_itself : {A : Type 0} (xs : List A) → AllByRecursion (Contains xs) xs
AllByRecursion-contains_itself xs = recursion_from_All (Contains xs) xs (All-contains_itself xs)

-- what holds of all of a list holds of all that are in it
pub AllByRecursion-through : {A : Type 0} (P : A → Type 0) (xs ys : List A) → AllByRecursion (Contains ys) xs → AllByRecursion P ys → AllByRecursion P xs
AllByRecursion-through P [] ys within all = tt
AllByRecursion-through P (x ∷ xs) ys within all = (AllByRecursion-contains P ys x all within.0, AllByRecursion-through P xs ys within.1 all)

-- what holds of the empty list, and of one more element at the end, holds of all lists
pub push_induction : {A : Type 0} (P : List A → Type 0) → P [] → ((xs : List A) (x : A) → P xs → P (xs ++ x ∷ [])) → (xs : List A) → P xs
push_induction {A = A} P none more xs = onward [] xs none more
  where
    onward : (before rest : List A) → P before → ((ys : List A) (y : A) → P ys → P (ys ++ y ∷ [])) → P (before ++ rest)
    onward before [] h step = subst P (sym (append-nil before)) h
    onward before (y ∷ rest) h step = subst P (append_assoc before (y ∷ []) rest) (onward (before ++ y ∷ []) rest (step before y h) step)
