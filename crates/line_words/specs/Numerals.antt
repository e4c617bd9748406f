-- The number that a word writes, where 64 bits hold it.
use Rattle.std.specs.Prelude.{ℕ, Bool, nat_le, ◌&&◌, if◌then◌else◌, List, length, Option, Some, None, Result, Ok, Err}
use Rattle.numeral_text.specs.Numeral.{is_numeral}
use Rattle.script_model.specs.Reasons.{out_of_range}

-- the word has the form of a number: one to 20 digits
abbrev pub has_form : List ℕ → Bool
has_form word = is_numeral word && nat_le (length word) 20

-- the number, if there is one and it is from low to high
abbrev pub within : ℕ → ℕ → Option ℕ → Result ℕ ℕ
within low high None = Err out_of_range
within low high (Some n) = if nat_le low n && nat_le n high then Ok n else Err out_of_range
