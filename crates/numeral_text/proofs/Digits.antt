-- The number that decimal digits write, a digit at a time.
-- Cited by `value_of`, `Numbers`, `entry_lines`, `event_text`.
use Rattle.std.proofs.Common.{◌≡◌, ℕ, ◌^◌, ◌<◌, ◌≤◌, true, List, length, get_or, take, IsTrue, None, refl, arith, rules, tests}
use Rattle.std.specs.Char.{is_ascii_digit}
use Rattle.std.specs.Str.{all_ascii_digits}
use Rattle.std.specs.Str.Parse.{digits_value}
use Rattle.std.proofs.lemmas.Bool.{le-ltb}
use Rattle.std.proofs.lemmas.Str.Parse.{IsNumeralModel, digit_at, digits_value-take-le, numerals_by_value, tells_all_ascii_digits}
use Rattle.numeral_text.specs.Numeral.{value_of}

-- the model's digits and their value are those of `parse`
pub numerals : IsNumeralModel (λ word. all_ascii_digits word ≡ true) (digits_value 10)
numerals = numerals_by_value _ tells_all_ascii_digits

-- each byte of digits is one
pub digit_in : (digits : List ℕ) (i : ℕ) → all_ascii_digits digits ≡ true → i < length digits → IsTrue (is_ascii_digit (get_or digits i 0))
digit_in digits i only within = let digit = digit_at digits i (numerals.to digits only) within in search (rules, tests)

-- where the first of them write more than 64 bits, so do all
pub value_of-wide : (digits : List ℕ) (i : ℕ) → 2 ^ 64 ≤ digits_value 10 (take i digits) → None ≡ value_of digits
value_of-wide digits i wide = rw (le-ltb (digits_value 10 digits) (2 ^ 64) (omega (arith, digits_value-take-le 10 digits i (omega arith)))) refl
