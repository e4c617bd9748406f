-- Decimal digits of long numbers.
-- Cited by `+add_last_digits`, `add_limb`, `add_number`, `decimal.rt`.
use Rattle.std.proofs.Common.{◌≡◌, ℕ, zero, suc, ◌+◌, ◌-◌, ◌*◌, ◌/◌, ◌%◌, ◌^◌, ◌<◌, ◌≤◌, ◌↔◌, ◌⊎◌, lit<, lit≤, ◌||◌}
use Rattle.std.proofs.Common.{ltb, Bool, true, false, if◌then◌else◌, List, [], ◌∷◌, ◌++◌}
use Rattle.std.proofs.Common.{append_assoc, add-one, drop, drop-cons, get_or, length, map, refl, subst, sym, ap, ◌∙◌, inl, inr, arith}
use Rattle.std.proofs.lemmas.Bool.{false≢true, le-ltb, lt-ltb, ltb-true, ne_eqb}
use Rattle.std.proofs.Math.Nat.{mul-le-mul, one-le-pow, add-mul-div_right, add-mul-mod_self_right, div-lt_iff_lt-mul, pow-suc, pow-zero}
use Rattle.std.specs.Char.{digit_value}
use Rattle.std.specs.Int.Digits.{AllBelowBase, digits_of, number_from_digits}
use Rattle.std.specs.Str.Parse.{digits_value}
use Rattle.std.proofs.lemmas.List.{append-nil, map-append}
use Rattle.std.proofs.lemmas.Int.Digits.{all_below_base_digits_of, digits_of_step, digits_value_is, first_digits_of, number_digits_of}
use Rattle.std.specs.Prelude.{IsTrue, decimal}
use Rattle.std.proofs.lemmas.Fmt.{decimal-digits_of, decimal_digit}
use Rattle.natural_number.specs.Decimal.{decimal_of, digit_bytes, last_digits}
use Rattle.natural_number.specs.Limbs.{number_of}

-- a number behind which so many digits of another stand
pub digits_of-below : (b k n high : ℕ) → 2 ≤ b → 0 < high → n < b ^ k → digits_of b (n + b ^ k * high) ≡ digits_of b high ++ last_digits b k n
unfolding last_digits
digits_of-below b zero n high two positive below =
    let none : n ≡ 0 = omega (arith, pow-zero b) in
    let whole : n + b ^ zero * high ≡ high = rw (none, pow-zero) (omega arith) in
    ap (λ m. digits_of b m) whole ∙ sym (append-nil (digits_of b high))
digits_of-below b (suc k) n high two positive below =
    let split : n + b ^ suc k * high ≡ n + b ^ k * high * b = rw pow-suc (omega arith) in
    let base : 0 < b = omega arith in
    let low : n / b < b ^ k = (div-lt_iff_lt-mul base).1 (rw pow-suc at below) in
    let above : (n + b ^ k * high * b) / b ≡ n / b + b ^ k * high = add-mul-div_right n (b ^ k * high) (omega arith) in
    let last : (n + b ^ k * high * b) % b ≡ n % b = add-mul-mod_self_right n (b ^ k * high) b in
    let some : 1 * 1 ≤ b ^ k * high = mul-le-mul (one-le-pow k b (omega arith)) positive in
    ap (λ m. digits_of b m) split ∙ digits_of_step b (n + b ^ k * high * b) two (omega arith)
    ∙ ap (λ m. digits_of b m ++ (n + b ^ k * high * b) % b ∷ []) above ∙ ap (λ d. digits_of b (n / b + b ^ k * high) ++ d ∷ []) last
    ∙ ap (λ ds. ds ++ n % b ∷ []) (digits_of-below b k (n / b) high two positive low) ∙ append_assoc (digits_of b high) (last_digits b k (n / b)) (n % b ∷ [])

-- ---- what is written of them

last_digits-more : (b count n : ℕ) → 0 < count → last_digits b count n ≡ last_digits b (count - 1) (n / b) ++ n % b ∷ []
unfolding last_digits
last_digits-more b zero n some = absurd (omega arith)
last_digits-more b (suc count) n some = ap (λ k. last_digits b k (n / b) ++ n % b ∷ []) (sym (suc_less count))
  where
    suc_less : (k : ℕ) → suc k - 1 ≡ k
    suc_less k = omega arith

digit_bytes-append : (one other : List ℕ) → digit_bytes (one ++ other) ≡ digit_bytes one ++ digit_bytes other
digit_bytes-append one other = map-append (λ digit. 48 + digit) one other

-- the last digit behind those in front of it
pub last_digit_added : (text before after : List ℕ) (count n : ℕ) → 0 < count → before ≡ text ++ digit_bytes (last_digits 10 (count - 1) (n / 10))
    → after ≡ before ++ (48 + n % 10) ∷ [] → after ≡ text ++ digit_bytes (last_digits 10 count n)
last_digit_added text before after count n some front last =
    last ∙ ap (λ l. l ++ (48 + n % 10) ∷ []) front ∙ append_assoc text (digit_bytes (last_digits 10 (count - 1) (n / 10))) ((48 + n % 10) ∷ [])
    ∙ ap (λ l. text ++ l) (sym (digit_bytes-append (last_digits 10 (count - 1) (n / 10)) (n % 10 ∷ [])))
    ∙ ap (λ l. text ++ digit_bytes l) (sym (last_digits-more 10 count n some))

-- the text of the limbs from a place on
abbrev pub IsBegun : List ℕ → List ℕ → List ℕ → ℕ → Bool → Type 0
IsBegun start text limbs place begun =
    (text ≡ start ++ digit_bytes (digits_of 10 (number_of (drop place limbs)))) × (IsTrue begun ↔ (0 < number_of (drop place limbs)))

number-from : (limbs : List ℕ) (i : ℕ) → i < length limbs → number_of (drop i limbs) ≡ get_or limbs i 0 + 1000000000 * number_of (drop (i + 1) limbs)
number-from limbs i inside = rw add-one (ap number_of (drop-cons limbs i 0 inside))

digits_in_front : (start text after : List ℕ) (limb high : ℕ) (begun : Bool) → limb < 1000000000
    → text ≡ start ++ digit_bytes (digits_of 10 high) → (IsTrue begun ↔ (0 < high))
    → after ≡ text ++ digit_bytes (if begun then last_digits 10 9 limb else digits_of 10 limb)
    → after ≡ start ++ digit_bytes (digits_of 10 (limb + 1000000000 * high))
digits_in_front start text after limb high true small is some added =
    added ∙ ap (λ l. l ++ digit_bytes (last_digits 10 9 limb)) is ∙ append_assoc start (digit_bytes (digits_of 10 high)) (digit_bytes (last_digits 10 9 limb))
    ∙ ap (λ l. start ++ l) (sym (digit_bytes-append (digits_of 10 high) (last_digits 10 9 limb)))
    ∙ ap (λ l. start ++ digit_bytes l) (sym (digits_of-below 10 9 limb high (lit≤ tt) (some.0 refl) small))
digits_in_front start text after limb zero false small is some added =
    added ∙ ap (λ l. l ++ digit_bytes (digits_of 10 limb)) (is ∙ append-nil start) ∙ ap (λ n. start ++ digit_bytes (digits_of 10 n)) (nothing limb)
  where
    nothing : (n : ℕ) → n ≡ n + 1000000000 * 0
    nothing n = omega arith
digits_in_front start text after limb (suc high) false small is some added = absurd (false≢true (some.1 (omega arith)))

zero_or : (n : ℕ) → (0 < n → ⊥) → n ≡ 0
zero_or zero some = refl
zero_or (suc n) some = absurd (some (omega arith))

pub limb_added : (start text after limbs : List ℕ) (place limb : ℕ) (begun more : Bool) → place < length limbs → limb ≡ get_or limbs place 0 → limb < 1000000000
    → IsBegun start text limbs (place + 1) begun → after ≡ text ++ digit_bytes (if begun then last_digits 10 9 limb else digits_of 10 limb)
    → (IsTrue more ↔ (IsTrue begun ⊎ (0 < limb))) → IsBegun start after limbs place more
limb_added start text after limbs place limb begun more inside at_place small before added on = (
  digits_in_front start text after limb high begun small before.0 before.1 added ∙ ap (λ n. start ++ digit_bytes (digits_of 10 n)) (sym here),
  (λ is. by_either (on.0 is), λ some. on.1 (either begun refl (rw here at some))),
)
  where
    high : ℕ
    high = number_of (drop (place + 1) limbs)

    here : number_of (drop place limbs) ≡ limb + 1000000000 * number_of (drop (place + 1) limbs)
    here = number-from limbs place inside ∙ ap (λ l. l + 1000000000 * number_of (drop (place + 1) limbs)) (sym at_place)

    by_either : IsTrue begun ⊎ (0 < limb) → 0 < number_of (drop place limbs)
    by_either (inl is) = let some : 0 < number_of (drop (place + 1) limbs) = before.1.0 is in omega (arith, here)
    by_either (inr some) = omega (arith, here)

    either : (b : Bool) → begun ≡ b → 0 < limb + 1000000000 * number_of (drop (place + 1) limbs) → IsTrue begun ⊎ (0 < limb)
    either true is some = inl is
    either false is some =
        let none : number_of (drop (place + 1) limbs) ≡ 0 = zero_or (number_of (drop (place + 1) limbs)) (λ more. false≢true (sym is ∙ before.1.1 more)) in
        inr (omega arith)

some_digits : (n : ℕ) → 0 < n → digit_bytes (digits_of 10 n) ≡ decimal_of n
some_digits n some = sym (ap (λ b. if b then 48 ∷ [] else digit_bytes (digits_of 10 n)) (ne_eqb n 0 (λ none. omega arith)))

-- all of it, where the text has begun; zero otherwise
pub whole_number : (start text limbs : List ℕ) → IsBegun start text limbs 0 true → text ≡ start ++ decimal_of (number_of limbs)
whole_number start text limbs all = all.0 ∙ ap (λ l. start ++ l) (some_digits (number_of limbs) (all.1.0 refl))

pub nothing_begun : (start text after limbs : List ℕ) → IsBegun start text limbs 0 false → after ≡ text ++ 48 ∷ []
    → after ≡ start ++ decimal_of (number_of limbs)
nothing_begun start text after limbs all added =
    added ∙ ap (λ l. l ++ 48 ∷ []) (all.0 ∙ ap (λ n. start ++ digit_bytes (digits_of 10 n)) none ∙ append-nil start)
    ∙ ap (λ n. start ++ decimal_of n) (sym none)
  where
    none : number_of limbs ≡ 0
    none = zero_or (number_of limbs) (λ some. false≢true (all.1.1 some))

-- what is written of a number that has digits
pub decimal_is : (n : ℕ) → 0 < n → n < 2 ^ 64 → decimal n ≡ digit_bytes (digits_of 10 n)
decimal_is n some fits = decimal-digits_of n some fits

-- begun before, or by this limb
pub some_more : (begun : Bool) (limb : ℕ) → IsTrue (begun || ltb 0 limb) ↔ (IsTrue begun ⊎ (0 < limb))
some_more true limb = ((λ is. inl refl), (λ is. refl))
some_more false limb = ((λ is. inr (ltb-true 0 limb is)), elim [ inl is ↦ absurd (false≢true is) | inr some ↦ lt-ltb 0 limb some ])

-- ---- what the text of a number says

digit_read : (d : ℕ) → d < 10 → digit_value (48 + d) ≡ d
digit_read d small =
    let past : ltb (48 + d) 48 ≡ false = le-ltb (48 + d) 48 (omega arith) in
    let within : ltb (48 + d) 58 ≡ true = lt-ltb (48 + d) 58 (omega arith) in
    rw (past, within) (omega arith)

digits_read : (ds : List ℕ) → AllBelowBase 10 ds → map digit_value (digit_bytes ds) ≡ ds
digits_read [] all = refl
digits_read (d ∷ ds) all = ap (λ k. k ∷ map digit_value (digit_bytes ds)) (digit_read d all.0) ∙ ap (λ k. d ∷ k) (digits_read ds all.1)

pub decimal_of_reads : (n : ℕ) → digits_value 10 (decimal_of n) ≡ n
decimal_of_reads zero = refl
decimal_of_reads (suc n) =
    ap (digits_value 10) (sym (some_digits (suc n) (omega arith)))
    ∙ digits_value_is 10 (digit_bytes (digits_of 10 (suc n)))
    ∙ ap (number_from_digits 10) (digits_read (digits_of 10 (suc n)) (all_below_base_digits_of 10 (suc n) (lit≤ tt)))
    ∙ number_digits_of 10 (suc n) (lit≤ tt)

pub decimal_of_front : (n : ℕ) → 0 < n → 48 < get_or (decimal_of n) 0 0
decimal_of_front n some =
    subst (λ (l : List ℕ). 48 < get_or l 0 0) (some_digits n some) (front (digits_of 10 n) (first_digits_of 10 n (lit≤ tt) some))
  where
    front : (ds : List ℕ) → 0 < get_or ds 0 0 → 48 < get_or (digit_bytes ds) 0 0
    front [] more = absurd (omega arith)
    front (d ∷ ds) more = omega arith

pub decimal_of_short : (n : ℕ) → n < 2 ^ 64 → decimal_of n ≡ decimal n
decimal_of_short zero fits = sym (decimal_digit 0 (lit< tt))
decimal_of_short (suc n) fits = sym (some_digits (suc n) (omega arith)) ∙ sym (decimal-digits_of (suc n) (omega arith) fits)
