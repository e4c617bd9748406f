-- Numbers by their digits in a base, the lowest first.
-- Cited by `Natural::add`, `Natural::is_zero`, `Natural::new`, `add_limbs`, `trim`.
use Rattle.std.proofs.Common.{◌≡◌, ℕ, zero, suc, ◌+◌, ◌-◌, ◌*◌, ◌/◌, ◌%◌, ◌^◌, ◌<◌, ◌≤◌, List, [], ◌∷◌, ◌++◌, length, get_or, take}
use Rattle.std.proofs.Common.{set, Option, Some, None, refl, add-one, sym, ap, ◌∙◌, arith}
use Rattle.std.proofs.Math.Nat.{div-add-mod, le_of_lt, pow-suc, pow-zero, mul-le-mul_left, pow-le-pow_right}
use Rattle.std.specs.List.{All}
use Rattle.std.specs.Prelude.{replicate, slice_get}
use Rattle.std.specs.Option.{option_to_list}
use Rattle.std.proofs.lemmas.List.{append-nil, length-append, take_all}
use Rattle.std.proofs.lemmas.Option.{get_or_from_slice_get}
use Rattle.std.proofs.Math.Seq.{get_or-append_seam, take-append_seam}
use Rattle.std.proofs.lemmas.List.Elements.{All-nil, All-cons, All-head, All-tail}
use Rattle.natural_number.specs.Limbs.{number_in}

-- another digit at a place
pub number-set : (b : ℕ) (xs : List ℕ) (i v : ℕ) → i < length xs → number_in b (set xs i v) + b ^ i * get_or xs i 0 ≡ number_in b xs + b ^ i * v
number-set b [] i v inside = absurd (omega arith)
number-set b (x ∷ xs) zero v inside = rw pow-zero (omega arith)
number-set b (x ∷ xs) (suc i) v inside =
    let rest : number_in b (set xs i v) + b ^ i * get_or xs i 0 ≡ number_in b xs + b ^ i * v = number-set b xs i v (omega arith) in
    rw pow-suc (omega (arith, ap (λ k. b * k) rest))

-- one digit more from the front
pub number-take : (b : ℕ) (xs : List ℕ) (i : ℕ) → number_in b (take (suc i) xs) ≡ number_in b (take i xs) + b ^ i * get_or xs i 0
number-take b [] zero = omega arith
number-take b [] (suc i) = omega arith
number-take b (x ∷ xs) zero = rw pow-zero (omega arith)
number-take b (x ∷ xs) (suc i) =
    let rest : number_in b (take (suc i) xs) ≡ number_in b (take i xs) + b ^ i * get_or xs i 0 = number-take b xs i in
    rw pow-suc (omega (arith, ap (λ k. b * k) rest))

-- one digit more on top
pub number-push : (b : ℕ) (xs : List ℕ) (v : ℕ) → number_in b (xs ++ v ∷ []) ≡ number_in b xs + b ^ length xs * v
number-push b [] v = rw pow-zero (omega arith)
number-push b (x ∷ xs) v = rw pow-suc (omega (arith, ap (λ k. b * k) (number-push b xs v)))

-- zeros on top
pub number-zeros : (b : ℕ) (xs : List ℕ) (n : ℕ) → number_in b (xs ++ replicate n 0) ≡ number_in b xs
number-zeros b [] zero = refl
number-zeros b [] (suc n) = omega (arith, ap (λ k. b * k) (number-zeros b [] n))
number-zeros b (x ∷ xs) n = ap (λ k. x + b * k) (number-zeros b xs n)

-- a number is below the power of the base that has no place in it
pub number-lt : (b : ℕ) (xs : List ℕ) → All (λ x. x < b) xs → number_in b xs < b ^ length xs
number-lt b [] all = rw pow-zero (omega arith)
number-lt b (x ∷ xs) all =
    let low : x < b = All-head (λ y. y < b) x xs all in
    let rest : number_in b xs < b ^ length xs = number-lt b xs (All-tail (λ y. y < b) x xs all) in
    rw pow-suc (omega (arith, mul-le-mul_left b rest))

-- a sum of numbers of so many digits has one digit more at most
pub sum-lt : (b m n k p q : ℕ) → 2 ≤ b → p ≤ k → q ≤ k → m < b ^ p → n < b ^ q → m + n < b ^ suc k
sum-lt b m n k p q two pk qk low other =
    let first : b ^ p ≤ b ^ k = pow-le-pow_right (omega arith) pk in
    let second : b ^ q ≤ b ^ k = pow-le-pow_right (omega arith) qk in
    rw pow-suc (omega (arith, mul-le-mul_left (b ^ k) two))

-- adding digit by digit: a place is written, and what it carries goes to the next
carried : (b w n n' x v y c c' s t : ℕ) → n' + w * x ≡ n + w * v → v + b * c' ≡ x + y + c → n + c * w ≡ s + t → n' + c' * (w * b) ≡ s + (t + w * y)
carried b w n n' x v y c c' s t written sum before = omega (arith, ap (λ k. w * k) sum)

pub added : (b : ℕ) (limbs other : List ℕ) (i v c c' start : ℕ) → i < length limbs → number_in b limbs + c * b ^ i ≡ start + number_in b (take i other)
    → v + b * c' ≡ get_or limbs i 0 + get_or other i 0 + c
    → number_in b (set limbs i v) + c' * b ^ (i + 1) ≡ start + number_in b (take (i + 1) other)
added b limbs other i v c c' start inside before sum =
    rw (add-one, pow-suc, number-take b other i)
    (carried b (b ^ i) (number_in b limbs) (number_in b (set limbs i v)) (get_or limbs i 0) v (get_or other i 0) c c' start (number_in b (take i other))
    (number-set b limbs i v inside) sum before)

-- nothing is carried where the sum has room
none_carried : (w n c s : ℕ) → n + c * w ≡ s → s < w → n ≡ s
none_carried w n zero s is below = omega arith
none_carried w n (suc c) s is below = absurd (omega arith)

-- the whole sum, where it has room
pub all_added : (b : ℕ) (limbs other : List ℕ) (c start : ℕ) → length other ≤ length limbs → start + number_in b other < b ^ length limbs
    → number_in b limbs + c * b ^ length limbs ≡ start + number_in b (take (length limbs) other) → number_in b limbs ≡ start + number_in b other
all_added b limbs other c start fits room is =
    let whole : take (length limbs) other ≡ other = take_all (length limbs) other fits in
    none_carried (b ^ length limbs) (number_in b limbs) c (start + number_in b other) (is ∙ ap (λ l. start + number_in b l) whole) room

-- zeros on top make room for the sum
pub number-padded : (b : ℕ) (xs zs : List ℕ) (n k : ℕ) → zs ≡ take n xs ++ replicate k 0 → length xs < n → number_in b zs ≡ number_in b xs
number-padded b xs zs n k is few =
    ap (number_in b) (is ∙ ap (λ l. l ++ replicate k 0) (take_all n xs (le_of_lt few))) ∙ number-zeros b xs k

pub room_for_sum : (b : ℕ) (xs ys zs : List ℕ) (n k : ℕ) → 2 ≤ b → All (λ x. x < b) xs → All (λ x. x < b) ys
    → zs ≡ take n xs ++ replicate k 0 → length zs ≡ n → length xs < n → length ys < n → number_in b zs + number_in b ys < b ^ length zs
room_for_sum b xs ys zs zero k two here there is long few fewer = absurd (omega arith)
room_for_sum b xs ys zs (suc m) k two here there is long few fewer =
    rw (number-padded b xs zs (suc m) k is few, long)
    (sum-lt b (number_in b xs) (number_in b ys) m (length xs) (length ys) two (omega arith) (omega arith) (number-lt b xs here) (number-lt b ys there))

-- what a list lent whole is afterwards
pub number-lent : (b : ℕ) (back lent old : List ℕ) (n : ℕ) → back ≡ take n (lent ++ old) → n ≡ length lent → number_in b back ≡ number_in b lent
number-lent b back lent old n is long = ap (number_in b) (is ∙ ap (λ k. take k (lent ++ old)) long ∙ take-append_seam lent old)

-- a zero taken off the top
pub number-trimmed : (b : ℕ) (xs ys : List ℕ) (top : Option ℕ) → xs ≡ ys ++ option_to_list top → slice_get xs (length xs - 1) ≡ Some 0
    → number_in b ys ≡ number_in b xs
number-trimmed b xs ys None is above = ap (number_in b) (sym (append-nil ys)) ∙ ap (number_in b) (sym is)
number-trimmed b xs ys (Some x) is above =
    let long : length xs - 1 ≡ length ys = rw is (rw length-append (omega arith)) in
    let last : get_or xs (length ys) 0 ≡ 0 = get_or_from_slice_get xs (length ys) 0 0 (rw long at above) in
    let none : x ≡ 0 = sym (get_or-append_seam ys x [] 0) ∙ ap (λ l. get_or l (length ys) 0) (sym is) ∙ last in
    sym (ap (number_in b) is ∙ number-push b ys x ∙ rw none (omega arith))

-- a number is zero where each of its digits is
pub zero_from_all : (b : ℕ) (xs : List ℕ) → All (λ x. x ≡ 0) xs → number_in b xs ≡ 0
zero_from_all b [] all = refl
zero_from_all b (x ∷ xs) all =
    let low : x ≡ 0 = All-head (λ y. y ≡ 0) x xs all in
    let rest : number_in b xs ≡ 0 = zero_from_all b xs (All-tail (λ y. y ≡ 0) x xs all) in
    rw rest (omega (arith, low))

pub all_from_zero : (b : ℕ) (xs : List ℕ) → 0 < b → number_in b xs ≡ 0 → All (λ x. x ≡ 0) xs
all_from_zero b [] positive is = All-nil (λ y. y ≡ 0)
all_from_zero b (x ∷ xs) positive is =
    All-cons (λ y. y ≡ 0) x xs (omega arith) (all_from_zero b xs positive (zero_factor b (number_in b xs) positive (omega arith)))
  where
    zero_factor : (k n : ℕ) → 0 < k → k * n ≡ 0 → n ≡ 0
    zero_factor k zero pos none = refl
    zero_factor k (suc n) pos none = absurd (omega arith)

-- the lowest digit of what is left comes on top
pub pushed : (b : ℕ) (xs after : List ℕ) (rest n : ℕ) → 0 < b → after ≡ xs ++ rest % b ∷ [] → number_in b xs + b ^ length xs * rest ≡ n
    → number_in b after + b ^ length after * (rest / b) ≡ n
pushed b xs after rest n positive more is =
    rw (more, length-append, number-push b xs (rest % b))
    (rw (add-one, pow-suc) (omega (arith, ap (λ k. b ^ length xs * k) (div-add-mod rest b))))
