-- Numbers as decimal digits.
use Rattle.std.specs.Prelude.{ℕ, ◌^◌, Bool, nat_lt, ◌&&◌, if◌then◌else◌, List, length, Option, Some, None}
use Rattle.std.specs.Str.{all_ascii_digits}
use Rattle.std.specs.Str.Parse.{digits_value}

-- the word is decimal digits, at least one
abbrev pub is_numeral : List ℕ → Bool
is_numeral word = all_ascii_digits word && nat_lt 0 (length word)

-- the number that digits write, if 64 bits hold it
abbrev pub value_of : List ℕ → Option ℕ
value_of digits = if nat_lt (digits_value 10 digits) (2 ^ 64) then Some (digits_value 10 digits) else None
