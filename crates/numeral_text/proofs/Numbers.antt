-- The number that a word writes.
-- Cited by `number_64`, `sum_of_few`, `sum_of_many`, `entry_lines`, `event_text`.
use Rattle.std.proofs.Common.{◌≡◌, ◌≢◌, ℕ, zero, suc, ◌<◌, ◌≤◌, ◌+◌, ◌*◌, ◌^◌, List, [], ◌∷◌, length, get_or, drop}
use Rattle.std.proofs.Common.{Option, Some, None, IfSome, drop-cons, refl, sym, ap, ◌∙◌, ◌⊎◌, inl, inr, arith}
use native.Mathlib.Nat.{pow-le-pow_right}
use Rattle.std.specs.Char.{digit_value}
use Rattle.std.specs.Fmt.{decimal}
use Rattle.std.specs.Str.{all_ascii_digits, bytes_eq}
use Rattle.std.specs.Str.Parse.{digits_value, digits_value_after}
use Rattle.std.proofs.Math.Bool.{and-false, and-true}
use Rattle.std.proofs.lemmas.Bool.{and_parts, both_ways, cases_Bool, cases_lt, false_from_ne_true, lt-ltb, le-ltb}
use Rattle.std.proofs.lemmas.List.{drop_all}
use Rattle.std.proofs.lemmas.Grind.{pow_more}
use Rattle.std.proofs.lemmas.Option.{cond_some}
use Rattle.std.proofs.lemmas.Fmt.{decimal_digit, first_decimal, digits_decimal, digits_value-decimal, decimal-digits_value, decimal_nonempty}
use Rattle.std.proofs.lemmas.Slice.Eq.{bytes_eq-Decides}
use Rattle.numeral_text.proofs.Digits.{numerals}
use Rattle.numeral_text.specs.Number.{number_of, sum_of}

-- ---- numbers and their texts

-- the text of a number is read as the number
pub number_of-decimal : (bits n : ℕ) → n < 2 ^ 64 → n < 2 ^ bits → number_of bits (decimal n) ≡ Some n
unfolding number_of
number_of-decimal bits n wide fits = rw (
  digits_value-decimal numerals n wide,
  (bytes_eq-Decides (decimal n) (decimal n)).1 refl,
  lt-ltb n (2 ^ bits) fits,
) refl

-- what is read as a number is its text
pub text_of_number : (bits : ℕ) (word : List ℕ) (o : Option ℕ) → o ≡ number_of bits word → IfSome o (λ n. word ≡ decimal n)
unfolding number_of
text_of_number bits word None h = tt
text_of_number bits word (Some n) h =
    let found = cond_some _ _ _ (sym h) in
    (bytes_eq-Decides word (decimal (digits_value 10 word))).0 (and_parts _ _ found.0).0 ∙ ap decimal found.1

-- a word that is the text of no number
number_of-no_text : (bits : ℕ) (word : List ℕ) → ((n : ℕ) → n < 2 ^ bits → word ≢ decimal n) → number_of bits word ≡ None
unfolding number_of
number_of-no_text bits word other =
    let n = digits_value 10 word in
    elim (cases_lt n (2 ^ bits)) [
      | inl fits ↦ rw (false_from_ne_true (bytes_eq word (decimal n)) (λ same. other n fits ((bytes_eq-Decides word (decimal n)).0 same))) refl
      | inr high ↦ rw (le-ltb n (2 ^ bits) high, and-false (bytes_eq word (decimal n))) refl
    ]

-- the text of a number that begins with a zero is that of 0
lone_zero : (n : ℕ) → n < 2 ^ 64 → get_or (decimal n) 0 0 ≡ 48 → length (decimal n) ≡ 1
lone_zero zero fits first = ap length (decimal_digit 0 (omega arith))
lone_zero (suc n) fits first = let above = first_decimal (suc n) (omega arith) fits in absurd (omega arith)

-- no number's text is empty, or has a zero in front of others
pub number_of-malformed : (word : List ℕ) → (length word ≡ 0) ⊎ ((get_or word 0 0 ≡ 48) × (length word ≢ 1)) → number_of 64 word ≡ None
number_of-malformed word (inl empty) =
    number_of-no_text 64 word (λ n fits same. let some = decimal_nonempty n fits in let long = ap length same in absurd (omega arith))
number_of-malformed word (inr zeros) =
    number_of-no_text 64 word (λ n fits same. zeros.1 (ap length same ∙ lone_zero n fits (ap (λ text. get_or text 0 0) (sym same) ∙ zeros.0)))

-- ---- the sum of digits

-- digits are the text of their sum, and other bytes of none
same_tests : (word : List ℕ) → digits_value 10 word < 2 ^ 64 → 0 < length word → (get_or word 0 0 ≡ 48 → length word ≡ 1)
    → bytes_eq word (decimal (digits_value 10 word)) ≡ all_ascii_digits word
same_tests word fits some lone =
    let text = decimal (digits_value 10 word) in
    elim (cases_Bool (all_ascii_digits word)) [
      | inl digits ↦ (bytes_eq-Decides word text).1 (sym (decimal-digits_value numerals word digits some lone fits)) ∙ sym digits
      | inr other ↦ false_from_ne_true (bytes_eq word text) (λ same.
          both_ways (all_ascii_digits word) other (rw (← (bytes_eq-Decides word text).0 same) at (digits_decimal numerals _ fits))) ∙ sym other
    ]

-- where the sum is too large, there is none
sum_of-large : (word : List ℕ) → 2 ^ 64 ≤ digits_value 10 word → None ≡ sum_of word
sum_of-large word large =
    elim (cases_Bool (all_ascii_digits word)) [
      | inl digits ↦ rw (digits, le-ltb (digits_value 10 word) (2 ^ 64) large) refl
      | inr other ↦ rw other refl
    ]

-- any word but those is the text of the sum of its digits
pub number_of-digits : (word : List ℕ) → 0 < length word → (get_or word 0 0 ≡ 48 → length word ≡ 1) → sum_of word ≡ number_of 64 word
unfolding number_of
number_of-digits word some lone =
    let n = digits_value 10 word in
    elim (cases_lt n (2 ^ 64)) [
      | inl fits ↦ rw (lt-ltb n (2 ^ 64) fits, same_tests word fits some lone, and-true (all_ascii_digits word)) refl
      | inr high ↦ sym (sum_of-large word high) ∙ rw (le-ltb n (2 ^ 64) high, and-false (bytes_eq word (decimal n))) refl
    ]

-- more digits don't make a number smaller
rises : (n : ℕ) (digits : List ℕ) → n ≤ digits_value_after 10 n digits
rises n [] = omega arith
rises n (c ∷ digits) = let more = rises (n * 10 + digit_value c) digits in omega arith

-- where the next digit makes the sum too large, it stays so
pub sum_of-overflow : (word : List ℕ) (n i d : ℕ) → digits_value_after 10 n (drop i word) ≡ digits_value 10 word → i < length word
    → 2 ^ 64 ≤ n * 10 + digit_value (get_or word i d) → None ≡ sum_of word
sum_of-overflow word n i d summed within large =
    let more = rises (n * 10 + digit_value (get_or word i d)) (drop (suc i) word) in
    let next = rw (drop-cons word i d) at summed in
    sum_of-large word (omega arith)

-- at the end it is the sum of all
pub sum_of-end : (word : List ℕ) (n i : ℕ) → digits_value_after 10 n (drop i word) ≡ digits_value 10 word
    → all_ascii_digits (drop i word) ≡ all_ascii_digits word → length word ≤ i → n < 2 ^ 64 → Some n ≡ sum_of word
sum_of-end word n i summed digits end fits =
    let none : drop i word ≡ [] = drop_all i word end in
    rw (← (rw none at digits), ← (rw none at summed), lt-ltb n (2 ^ 64) fits) refl

-- ---- a sum of few digits

-- with one digit more it is below the next power of ten
short_more : (n i d : ℕ) → n < 10 ^ i → d ≤ 9 → n * 10 + d < 10 ^ (i + 1)
short_more n i d short digit = let power : 10 ^ (i + 1) ≡ 10 ^ i * 10 = pow_more 10 i in omega (arith, power)

-- and where these are 19 at most, it has at most 64 bits
pub digit_fits : (n i d : ℕ) → n < 10 ^ i → i < 19 → d ≤ 9 → n * 10 + d < 2 ^ 64
digit_fits n i d short few digit =
    let next = short_more n i d short digit in
    let ten : 0 < 10 = omega arith in
    let within : i + 1 ≤ 19 = omega arith in
    let most : 10 ^ (i + 1) ≤ 10 ^ 19 = pow-le-pow_right ten within in
    omega (arith, next, most)
