-- Sums over the tokens, where one of them changes or one more comes.
-- Cited by `Changes`, `Steps`, `Widths`, `Worth`.
use Rattle.std.proofs.Common.{◌≡◌, ℕ, zero, suc, ◌+◌, ◌<◌, ◌≤◌, List, [], ◌∷◌, ◌++◌, length, get_or, set, refl, sym, subst, subst₂, arith}
use Rattle.std.specs.List.{All, sum_by}
use Rattle.std.proofs.lemmas.List.Elements.{All-get_or, All-weaker, All-head, All-tail}
use Rattle.std.proofs.lemmas.List.Sums.{sum_by-append, sum_by-cons, sum_by-set}
use mathlib.Core.Option.{some, some-injective, some-ne-none}
use lib.ListN.{get_elem?}
use Rattle.blocker_word.specs.Roles.{Role, idle, item, refused, control, started, done, spent, least_width}
use Rattle.blocker_word.specs.Roles.{one_if_item, one_if_refused, one_if_control, one_if_started, one_if_done}
use Rattle.blocker_word.specs.Word.{live_items, refused_begins, controls, starts, dones, widths, FitsToken}
use Rattle.blocker_word.specs.declared.view.View.{View}

-- an element that stands at a place is below the length, and is what `get_or` reads
stands_within : {A : Type 0} (l : List A) (i : ℕ) (a : A) → get_elem? l i ≡ some a → i < length l
stands_within [] i a e = absurd (some-ne-none a (sym e))
stands_within (x ∷ xs) zero a e = omega arith
stands_within (x ∷ xs) (suc i) a e = let h = stands_within xs i a e in omega arith

stands_there : {A : Type 0} (l : List A) (i : ℕ) (a d : A) → get_elem? l i ≡ some a → get_or l i d ≡ a
stands_there [] i a d e = absurd (some-ne-none a (sym e))
stands_there (x ∷ xs) zero a d e = some-injective x a e
stands_there (x ∷ xs) (suc i) a d e = stands_there xs i a d e

-- a sum where one element changes
sum_changed : (f : View → ℕ) (l : List View) (i : ℕ) (v w : View) → get_elem? l i ≡ some v → sum_by f (set l i w) + f v ≡ sum_by f l + f w
sum_changed f l i v w e = subst (λ x. sum_by f (set l i w) + f x ≡ sum_by f l + f w) (stands_there l i v v e) (sum_by-set f l i w v (stands_within l i v e))

-- a sum with one more element
sum_longer : (f : View → ℕ) (l : List View) (w : View) → sum_by f (l ++ w ∷ []) + 0 ≡ sum_by f l + f w
sum_longer f l w =
    let longer = sum_by-append f l (w ∷ []) in
    let last = sum_by-cons f w [] in
    let none : sum_by f [] ≡ 0 = refl in omega arith

-- all sums of a list of tokens where one of this role and width gets another role and width
pub record Changed (before after : List View) (r r' : Role) (n n' : ℕ) : Type 0 where
  pub items : live_items after + one_if_item r ≡ live_items before + one_if_item r'
  pub refusals : refused_begins after + one_if_refused r ≡ refused_begins before + one_if_refused r'
  pub controls_are : controls after + one_if_control r ≡ controls before + one_if_control r'
  pub starts_are : starts after + one_if_started r ≡ starts before + one_if_started r'
  pub dones_are : dones after + one_if_done r ≡ dones before + one_if_done r'
  pub widths_are : widths after + n ≡ widths before + n'

pub changed : (l : List View) (i : ℕ) (v w : View) (r r' : Role) → v.role ≡ r → w.role ≡ r' → get_elem? l i ≡ some v
    → Changed l (set l i w) r r' v.width w.width
changed l i v w r r' is is' e = subst₂ (λ x y. Changed l (set l i w) x y v.width w.width) is is' (record {
  items = sum_changed (λ x. one_if_item x.role) l i v w e;
  refusals = sum_changed (λ x. one_if_refused x.role) l i v w e;
  controls_are = sum_changed (λ x. one_if_control x.role) l i v w e;
  starts_are = sum_changed (λ x. one_if_started x.role) l i v w e;
  dones_are = sum_changed (λ x. one_if_done x.role) l i v w e;
  widths_are = sum_changed (λ x. x.width) l i v w e;
})

-- one more token counts as a change of one that counts nothing
pub longer : (l : List View) (w : View) (r : Role) → w.role ≡ r → Changed l (l ++ w ∷ []) spent r 0 w.width
longer l w r is = subst (λ x. Changed l (l ++ w ∷ []) spent x 0 w.width) is (record {
  items = sum_longer (λ x. one_if_item x.role) l w;
  refusals = sum_longer (λ x. one_if_refused x.role) l w;
  controls_are = sum_longer (λ x. one_if_control x.role) l w;
  starts_are = sum_longer (λ x. one_if_started x.role) l w;
  dones_are = sum_longer (λ x. one_if_done x.role) l w;
  widths_are = sum_longer (λ x. x.width) l w;
})

-- what is known of the token at a place
pub fits_at : (b : ℕ) (l : List View) (i : ℕ) (v : View) → All (FitsToken b) l → get_elem? l i ≡ some v → FitsToken b v
fits_at b l i v all e = subst (FitsToken b) (stands_there l i v v e) (All-get_or (FitsToken b) l i v (stands_within l i v e) all)

-- more bits fit as well
pub fits_more : (b c : ℕ) → b ≤ c → (l : List View) → All (FitsToken b) l → All (FitsToken c) l
fits_more b c le l all = All-weaker (FitsToken b) (FitsToken c) (λ v k. let rises = k.rises in record { room = k.room; rises = omega arith }) l all

-- each token that counts has a width
counts_below : (r : Role) → one_if_item r + one_if_refused r ≤ least_width r
counts_below idle = omega arith
counts_below item = omega arith
counts_below refused = omega arith
counts_below control = omega arith
counts_below started = omega arith
counts_below done = omega arith
counts_below spent = omega arith

-- so the count is within the widths
pub count_within : (b : ℕ) (l : List View) → All (FitsToken b) l → live_items l + refused_begins l ≤ widths l
count_within b [] all = omega arith
count_within b (v ∷ l) all =
    let first = (All-head (FitsToken b) v l all).room in
    let least = counts_below v.role in
    let rest = count_within b l (All-tail (FitsToken b) v l all) in
    let items = sum_by-cons (λ x. one_if_item x.role) v l in
    let refusals = sum_by-cons (λ x. one_if_refused x.role) v l in
    let wide = sum_by-cons (λ x. x.width) v l in omega arith
