-- The number that a word writes: the text of digits, their value, and the range that it must lie in.
-- Cited by `number_from`, `nested_loop`.
use Rattle.std.proofs.Common.{◌≡◌, ℕ, ◌<◌, ◌^◌, true, false, cond, ltb, leb, List, Some, None, Err, refl, sym, inl, inr, arith, Bool, ◌&&◌, if◌then◌else◌, Option, Ok}
use Rattle.std.specs.Str.Parse.{digits_value}
use Rattle.std.proofs.lemmas.Bool.{cases_lt, lt-ltb, le-ltb, lt-leb}
use Rattle.std.proofs.Math.Bool.{and-false}
use Rattle.std.specs.Result.{result_ok}
use Rattle.std.specs.Option.{option_and_then}
use Rattle.script_model.specs.Reasons.{bad_number, out_of_range}
use Rattle.script_model.specs.Places.{number_from, in_range}
use Rattle.numeral_text.specs.Numeral.{value_of}
use Rattle.line_words.specs.Numerals.{has_form, within}

-- a word of another form is no number
pub number_from-no_numeral : (low high : ℕ) (word : List ℕ) → has_form word ≡ false → number_from low high word ≡ Err bad_number
unfolding number_from
number_from-no_numeral low high word h = rw h refl

-- a number that 64 bits do not hold is in no range that they hold
wide : (low high n : ℕ) → high < 2 ^ 64 → within low high (cond (ltb n (2 ^ 64)) (Some n) None) ≡ within low high (Some n)
wide low high n fits =
    elim (cases_lt n (2 ^ 64)) [
      | inl lt ↦ rw (lt-ltb n (2 ^ 64) lt) refl
      | inr le ↦ rw (le-ltb n (2 ^ 64) le, lt-leb n high (omega arith), and-false (leb low n)) refl
    ]

-- a word of the form of a number is the number that it writes
pub number_from-numeral : (low high : ℕ) (word : List ℕ) → high < 2 ^ 64 → has_form word ≡ true → number_from low high word ≡ within low high (value_of word)
unfolding number_from
number_from-numeral low high word fits h = rw h (sym (wide low high (digits_value 10 word) fits))

-- a number of a script, without the reason where it is none
pub result_ok-in_range : (low high : ℕ) (number : Option ℕ)
    → result_ok (in_range low high number) ≡ option_and_then (λ n. if leb low n && leb n high then Some n else None) number
result_ok-in_range low high None = refl
result_ok-in_range low high (Some n) = by_test (leb low n && leb n high)
  where
    by_test : (b : Bool) → result_ok (if b then Ok n else Err out_of_range) ≡ (if b then Some n else None)
    by_test true = refl
    by_test false = refl
