-- The decimal text of a number of any length.
use Rattle.std.specs.Prelude.{ℕ, zero, suc, ◌+◌, ◌/◌, ◌%◌, ◌==◌, if◌then◌else◌, List, [], ◌∷◌, ◌++◌, map}
use Rattle.std.specs.Int.Digits.{digits_of}

-- the bytes of decimal digits
abbrev pub digit_bytes : List ℕ → List ℕ
digit_bytes digits = map (λ digit. 48 + digit) digits

-- the decimal digits of a number, without zeros in front, and 0 for zero. Below 2^64 it is std's `decimal`, which writes no more
-- than 64 digits
abbrev pub decimal_of : ℕ → List ℕ
decimal_of number = if number == 0 then 48 ∷ [] else digit_bytes (digits_of 10 number)

-- so many of the last digits of a number in a base, zeros in front too
unfoldable pub last_digits : ℕ → ℕ → ℕ → List ℕ
last_digits base zero number = []
last_digits base (suc count) number = last_digits base count (number / base) ++ number % base ∷ []
