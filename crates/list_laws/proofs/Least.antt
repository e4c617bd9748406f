-- The least of a list: one of it, and none of it goes before it.
-- Cited by `Sorts`, `hist_model`, `nested_loop`, `pool_laws`, `queue_laws`, `queue_selector`, `run_summary`, `sequence_manager`.
use Rattle.std.proofs.Common.{◌≡◌, Bool, true, false, cond, List, [], ◌∷◌, map, refl, sym, ap, ◌∙◌, Some, None, subst}
use Rattle.std.specs.Prelude.{Contains}
use Rattle.std.specs.Option.{option_map}
use Rattle.std.specs.List.{AllByRecursion}
use Rattle.std.proofs.lemmas.List.Elements.{All-from_recursion, recursion_from_All, All-contains_itself}
use Rattle.std.proofs.lemmas.Option.{none-some}
use Rattle.list_laws.specs.Lists.{least_from, least, IsLeast, Ranks}
use Rattle.list_laws.proofs.Values.{some-injective}

-- the least of a list is one of it
pub least_from-is : {A : Type 0} (P : A → Type 0) (below : A → A → Bool) (x : A) (xs : List A) → P x → AllByRecursion P xs → P (least_from below x xs)
least_from-is P below x [] h k = h
least_from-is P below x (y ∷ xs) h k = elim (below y x) as (λ b. P (least_from below (cond b y x) xs)) [
  | true ↦ least_from-is P below y xs k.0 k.1
  | false ↦ least_from-is P below x xs h k.1
]

-- none of a list goes before its least
least_below : {A : Type 0} (below : A → A → Bool) → Ranks below → (x : A) (xs : List A) → AllByRecursion (λ y. below y (least_from below x xs) ≡ false) (x ∷ xs)
least_below below ranks x [] = (ranks.itself x, tt)
least_below {A = A} below ranks x (y ∷ ys) = by_order (below y x) refl (least_below below ranks y ys) (least_below below ranks x ys)
  where
    by_order : (b : Bool) → below y x ≡ b → AllByRecursion (λ z. below z (least_from below y ys) ≡ false) (y ∷ ys)
        → AllByRecursion (λ z. below z (least_from below x ys) ≡ false) (x ∷ ys)
        → AllByRecursion (λ z. below z (least_from below (cond b y x) ys) ≡ false) (x ∷ y ∷ ys)
    by_order true before of_y of_x = (ranks.through x y (least_from below y ys) (ranks.one_way y x before) of_y.0, of_y)
    by_order false before of_y of_x = (of_x.0, (ranks.through y x (least_from below x ys) before of_x.0, of_x.1))

pub least_is_least : {A : Type 0} (below : A → A → Bool) → Ranks below → (xs : List A) (x : A) → least below xs ≡ Some x → IsLeast below xs x
least_is_least below ranks [] x is = absurd (none-some x is)
least_is_least below ranks (y ∷ ys) x is =
    subst (IsLeast below (y ∷ ys)) (some-injective is) (record {
      member = least_from-is (Contains (y ∷ ys)) below y ys (all.0) (all.1);
      none_below = All-from_recursion (λ z. below z (least_from below y ys) ≡ false) (y ∷ ys) (least_below below ranks y ys);
    })
  where
    all : AllByRecursion (Contains (y ∷ ys)) (y ∷ ys)
    all = recursion_from_All (Contains (y ∷ ys)) (y ∷ ys) (All-contains_itself (y ∷ ys))

pub no_least : {A : Type 0} (below : A → A → Bool) (xs : List A) → least below xs ≡ None → xs ≡ []
no_least below [] is = refl
no_least below (x ∷ xs) is = absurd (none-some (least_from below x xs) (sym is))

-- the least of a list whose elements are all changed, in a way that the order does not see
least_from-map : {A B : Type 0} (below : A → A → Bool) (above : B → B → Bool) (g : A → B) (x : A) (xs : List A) → ((a b : A) → above (g a) (g b) ≡ below a b)
    → least_from above (g x) (map g xs) ≡ g (least_from below x xs)
least_from-map below above g x [] h = refl
least_from-map {B = B} below above g x (y ∷ xs) h = ap (λ (z : B). least_from above z (map g xs)) (picked (below y x) (h y x))
    ∙ least_from-map below above g (cond (below y x) y x) xs h
  where
    picked : (b : Bool) → above (g y) (g x) ≡ b → cond (above (g y) (g x)) (g y) (g x) ≡ g (cond b y x)
    picked true is = ap (λ (b : Bool). cond b (g y) (g x)) is
    picked false is = ap (λ (b : Bool). cond b (g y) (g x)) is

pub least-map : {A B : Type 0} (below : A → A → Bool) (above : B → B → Bool) (g : A → B) (xs : List A) → ((a b : A) → above (g a) (g b) ≡ below a b)
    → least above (map g xs) ≡ option_map g (least below xs)
least-map below above g [] h = refl
least-map below above g (x ∷ xs) h = ap Some (least_from-map below above g x xs h)
