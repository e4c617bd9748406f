-- What a line that is an entry's but for its spelling is meant to be.
use Rattle.std.specs.Prelude.{◌≡◌, ℕ, Bool, false, not, ◌==◌, ◌&&◌, ◌||◌, if◌then◌else◌, List, [], ◌∷◌, length, map, filter, Option, None, Some}
use Rattle.std.specs.Char.{is_ascii_digit}
use Rattle.std.specs.List.{slice_split}
use Rattle.task_base.specs.declared.entry.Entry.{Entry}
use Rattle.log_model.specs.Fits.{Fits}
use Rattle.log_model.specs.LogText.{number, parts_of, shown}
use Rattle.numeral_text.specs.Number.{number_of}
use Rattle.entry_lines.specs.Kinds.{◌>>=◌, kind_of}

-- a space, a tab, a carriage return or a line feed (this project's own rule)
abbrev pub is_blank_byte : ℕ → Bool
is_blank_byte byte = byte == 32 || byte == 9 || byte == 13 || byte == 10

-- whether a word begins with a zero in front of a digit
abbrev pub has_zero_in_front : List ℕ → Bool
has_zero_in_front (first ∷ next ∷ word) = first == 48 && is_ascii_digit next
has_zero_in_front word = false

-- a word without the zeros in front of a digit: `007` is `7`, and `0` and `000` are `0` (this project's own rule)
abbrev pub without_zeros : List ℕ → List ℕ
without_zeros [] = []
without_zeros (byte ∷ word) = if has_zero_in_front (byte ∷ word) then without_zeros word else byte ∷ word

-- the words of a line, parted by any blanks, each without zeros in front (this project's own rule)
abbrev pub plain_words : List ℕ → List (List ℕ)
plain_words line = map without_zeros (filter (λ word. not (length word == 0)) (slice_split is_blank_byte line))

-- the line is the entry's but for its spelling: behind any word in place of the place, its plain words are those of the
-- entry (this project's own rule)
pub record IsMeant (line : List ℕ) (e : Entry) : Type 0 where
  pub fits : Fits e
  pub place : List ℕ
  pub words : plain_words line ≡ place ∷ map shown (number e.seat ∷ parts_of e.kind)

-- the entry whose words these are behind the place (this project's own)
unfoldable pub entry_behind_place : List (List ℕ) → Option Entry
entry_behind_place (place ∷ seat ∷ words) = do
  written ← number_of 32 seat
  kind ← kind_of words
  Some (record { seat = written; kind = kind })
entry_behind_place words = None

-- the entry that a line is meant to be, if one is: that of its plain words (this project's own rule)
abbrev pub meant_of : List ℕ → Option Entry
meant_of line = entry_behind_place (plain_words line)
