-- A line of a text, and the bytes before it.
use Rattle.std.specs.Prelude.{ℕ, zero, suc, ◌+◌, ◌-◌, ◌==◌, Bool, List, [], length, take, drop, position, Option, Some, None}
use Rattle.std.specs.List.{slice_split}
use Rattle.std.specs.Str.Lines.{strip_carriage_return}

-- a line feed
abbrev pub is_feed : ℕ → Bool
is_feed b = b == 10

-- the first line of a text: what stands before the first line feed, or all
abbrev pub first_of : List ℕ → Option ℕ → List ℕ
first_of text None = text
first_of text (Some end) = take end text

-- what is behind it, if it has a line feed
abbrev pub behind : List ℕ → Option ℕ → Option (List ℕ)
behind text None = None
behind text (Some end) = Some (drop (end + 1) text)

-- the lines of what is behind a line feed, if there is one
abbrev pub lines_behind : Option (List ℕ) → List (List ℕ)
lines_behind None = []
lines_behind (Some text) = slice_split is_feed text

-- the text from the line on that stands behind so many lines of a text, if there is one
abbrev pub text_from : ℕ → Option (List ℕ) → Option (List ℕ)
text_from zero text = text
text_from (suc count) None = None
text_from (suc count) (Some text) = text_from count (behind text (position is_feed text))

-- the bytes before a text at the end of others
abbrev pub front_to : List ℕ → Option (List ℕ) → List ℕ
front_to bytes None = bytes
front_to bytes (Some text) = take (length bytes - length text) bytes

-- the first line of a text, without one carriage return at its end
abbrev pub line_from : Option (List ℕ) → List ℕ
line_from None = []
line_from (Some text) = strip_carriage_return (first_of text (position is_feed text))

-- the bytes before the line at this place, from 0
abbrev pub front_of : List ℕ → ℕ → List ℕ
front_of bytes k = front_to bytes (text_from k (Some bytes))

-- the line at this place, or nothing where there is none
abbrev pub line_at : List ℕ → ℕ → List ℕ
line_at bytes k = line_from (text_from k (Some bytes))
