-- The numbers whose texts are words, as logs have them.
use Rattle.std.specs.Prelude.{ℕ, ◌&&◌, ◌^◌, nat_lt, if◌then◌else◌, List, Option, Some, None}
use Rattle.std.specs.Fmt.{decimal}
use Rattle.std.specs.Str.{all_ascii_digits, bytes_eq}
use Rattle.std.specs.Str.Parse.{digits_value}
use Rattle.numeral_text.specs.Numeral.{value_of}

-- the number that digits write, if it has at most 64 bits; there may be zeros in front, and no digits write 0 (this
-- project's own rule)
abbrev pub sum_of : List ℕ → Option ℕ
sum_of word = if all_ascii_digits word then value_of word else None

-- the number whose text a word is, without zeros in front, if it has at most so many bits (this project's own rule)
unfoldable pub number_of : ℕ → List ℕ → Option ℕ
number_of bits word =
    if bytes_eq word (decimal (digits_value 10 word)) && nat_lt (digits_value 10 word) (2 ^ bits) then Some (digits_value 10 word) else None
