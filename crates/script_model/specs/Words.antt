-- How the bytes of a script are cut into lines, words and numbers.
use Rattle.std.specs.Prelude.{ℕ, Bool, not, ◌==◌, ◌&&◌, ◌||◌, nat_lt, nat_le, nat_eq, if◌then◌else◌, List, length, map, filter, codes, slice_index, Option, Some, None}
use Rattle.std.specs.List.{slice_split, list_all}
use Rattle.std.specs.Cmp.Lexicographic.{pointwise}
use Rattle.std.specs.Str.{all_ascii_digits}
use Rattle.std.specs.Str.Lines.{strip_carriage_return}
use Rattle.std.specs.Str.Parse.{digits_value}

-- the lines: what stands between line feeds, without one carriage return at the end (this project's own rule)
abbrev pub lines_of : List ℕ → List (List ℕ)
lines_of bytes = map strip_carriage_return (slice_split (λ b. b == 10) bytes)

-- a space or a tab (this project's own rule)
abbrev pub is_blank : ℕ → Bool
is_blank b = b == 32 || b == 9

-- the words: the longest runs of bytes that are not blank (this project's own rule)
abbrev pub words_of : List ℕ → List (List ℕ)
words_of line = filter (λ word. not (length word == 0)) (slice_split is_blank line)

-- the same bytes
abbrev pub is_word : List ℕ → List ℕ → Bool
is_word a b = pointwise nat_eq a b

-- the word `;`, which parts steps (this project's own rule)
abbrev pub is_mark : List ℕ → Bool
is_mark word = is_word word (codes ";")

-- a word that begins with `#`: as the first of its line it makes the line a comment (this project's own rule)
abbrev pub begins_comment : List ℕ → Bool
begins_comment word = slice_index word 0 == 35

-- no byte is above 127
abbrev pub is_all_ascii : List ℕ → Bool
is_all_ascii bytes = list_all (λ b. nat_lt b 128) bytes

-- a number: one to 20 decimal digits, also with zeros in front (this project's own rule)
abbrev pub number_of : List ℕ → Option ℕ
number_of word = if all_ascii_digits word && nat_lt 0 (length word) && nat_le (length word) 20 then Some (digits_value 10 word) else None
