-- What loops have gathered, with one element more.
-- Cited by `Draws::queues`, `Draws::runners`, `Draws::tasks`, `add_actions`, `add_steps`, `numbers_from`, `act.rt`.
use Rattle.std.proofs.Common.{◌≡◌, ℕ, suc, ◌+◌, ◌-◌, ◌<◌, ◌≤◌, length, Bool, true, false, List, [], ◌∷◌, ◌++◌, get_or, take, refl, sym, ap, ◌∙◌, arith, append_assoc}
use Rattle.std.specs.Prelude.{flat_map, map}
use Rattle.std.specs.List.{range_with_len}
use Rattle.std.proofs.lemmas.List.{append-nil, flat_map_more, take_more}
use Rattle.std.proofs.lemmas.List.FromFn.{map-range_with_len_more}
use Rattle.list_laws.proofs.Ranges.{range_split}
use Rattle.rand_pcg.specs.Lcg.{Lcg}
use Rattle.rand_pcg.specs.Pcg.{pcg32}
use Rattle.wide_script.specs.Draws.{numbers_from}
use Rattle.wide_script.specs.Drawn.{chosen}

-- ---- the numbers

-- the numbers that are left begin with the next one
numbers_left : (g : Lcg) (n i : ℕ) → i < n → numbers_from g (n - i) ≡ (pcg32 g).0 ∷ numbers_from (pcg32 g).1 (n - (i + 1))
unfolding numbers_from
numbers_left g n i below = let e : n - i ≡ suc (n - (i + 1)) = omega arith in rw e refl

-- one more number at the end, against the numbers that are left
numbers_more : (done : List ℕ) (g : Lcg) (n i : ℕ) → i < n
    → (done ++ (pcg32 g).0 ∷ []) ++ numbers_from (pcg32 g).1 (n - (i + 1)) ≡ done ++ numbers_from g (n - i)
numbers_more done g n i below = rw (append_assoc, numbers_left g n i below) refl

-- so it is after a step of the generator
pub numbers_step : (done items all : List ℕ) (g g' : Lcg) (w n i : ℕ) → (w, g') ≡ pcg32 g → items ≡ done ++ w ∷ [] → i < n
    → done ++ numbers_from g (n - i) ≡ all → items ++ numbers_from g' (n - (i + 1)) ≡ all
numbers_step done items all g g' w n i step more below is =
    let word : w ≡ (pcg32 g).0 = ap (λ (p : ℕ × Lcg). p.0) step in
    let next : g' ≡ (pcg32 g).1 = ap (λ (p : ℕ × Lcg). p.1) step in
    rw (more, word, next) (numbers_more done g n i below ∙ is)

-- where none is left, all are there
pub numbers_done : (done : List ℕ) (g : Lcg) (n i : ℕ) → n ≤ i → done ++ numbers_from g (n - i) ≡ done
unfolding numbers_from
numbers_done done g n i none = let e : n - i ≡ 0 = omega arith in rw (e, append-nil) refl

-- ---- choices

chosen-append : {A : Type 0} (xs ys : List (Bool × A)) → chosen (xs ++ ys) ≡ chosen xs ++ chosen ys
chosen-append [] ys = refl
chosen-append {A = A} ((true, x) ∷ xs) ys = ap (λ (zs : List A). x ∷ zs) (chosen-append xs ys)
chosen-append ((false, x) ∷ xs) ys = chosen-append xs ys

-- one more choice
chosen_more : {A : Type 0} (xs : List (Bool × A)) (i : ℕ) (d : Bool × A) → i < length xs
    → chosen (take (i + 1) xs) ≡ chosen (take i xs) ++ chosen (get_or xs i d ∷ [])
chosen_more xs i d below = ap chosen (take_more xs i d below) ∙ chosen-append (take i xs) (get_or xs i d ∷ [])

-- so it is of a list to which the next choice was added
pub chosen_step : {A : Type 0} (start now next : List A) (xs : List (Bool × A)) (i : ℕ) (d : Bool × A) → i < length xs
    → now ≡ start ++ chosen (take i xs) → next ≡ now ++ chosen (get_or xs i d ∷ []) → next ≡ start ++ chosen (take (i + 1) xs)
chosen_step start now next xs i d below is more =
    rw (more, is, append_assoc) (ap (λ zs. start ++ zs) (sym (chosen_more xs i d below)))

-- ---- parts in a row

-- what stands for the numbers below this one, and for it
pub each_more : {A : Type 0} (f : ℕ → List A) (i j : ℕ) → j ≡ i + 1 → flat_map f (range_with_len 0 j) ≡ flat_map f (range_with_len 0 i) ++ f i
each_more f i j is =
    let e = range_split 0 i 0 j i (omega (arith, is)) (omega arith) in
    rw e (sym (flat_map_more f [] (range_with_len 0 i) i))

-- one thing for each number below this one, and one more
pub each_pushed : {A : Type 0} (f : ℕ → A) (done next : List A) (i : ℕ) (x : A) → done ≡ map f (range_with_len 0 i) → next ≡ done ++ x ∷ []
    → x ≡ f i → next ≡ map f (range_with_len 0 (i + 1))
each_pushed f done next i x is more last = rw (more, is, last) (sym (map-range_with_len_more f 0 i i (omega arith)))
