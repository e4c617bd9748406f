-- What is wrong with a line that is none of a log at its place, by what the line is and what stands around it.
use Rattle.std.specs.Prelude.{ℕ, ◌-◌, ◌==◌, nat_eq, Bool, false, not, ◌&&◌, ◌||◌, if◌then◌else◌, List, [], ◌∷◌, ◌++◌, length, map, drop, slice_get, codes}
use Rattle.std.specs.Prelude.{Option, Some, None, decimal}
use Rattle.std.specs.Char.{to_ascii_lowercase}
use Rattle.std.specs.List.{ends_with, starts_with}
use Rattle.std.specs.Option.{is_none}
use Rattle.std.specs.Str.{bytes_eq}
use Rattle.task_base.specs.declared.entry.Entry.{Entry}
use Rattle.log_model.specs.declared.version.Version.{Version}
use Rattle.log_model.specs.declared.version.Version.TheVariants.{One, Two}
use Rattle.log_model.specs.LogText.{end_of, head_line, line_of, lines_before, version_of}
use Rattle.entry_lines.specs.Spelling.{is_blank_byte, meant_of, without_zeros}
use Rattle.run_log.specs.Beginnings.{may_be_headed}
use Rattle.run_log.specs.TextLines.{text_lines}
use Rattle.log_mistakes.specs.declared.mistake.Mistake.{Mistake}
use Rattle.log_mistakes.specs.declared.mistake.Mistake.TheVariants as mistakes

-- ---- what a line is

-- what stands after the blanks that a text begins with (this project's own rule)
abbrev pub without_blanks : List ℕ → List ℕ
without_blanks [] = []
without_blanks (byte ∷ text) = if is_blank_byte byte then without_blanks text else byte ∷ text

-- a text with small letters
abbrev pub small : List ℕ → List ℕ
small text = map to_ascii_lowercase text

-- whether nothing stands there, or nothing but blanks
abbrev pub is_blank : List ℕ → Bool
is_blank text = length (without_blanks text) == 0

-- whether the text begins as JSON does: with `[` or `{`, after any blanks
abbrev pub is_json : List ℕ → Bool
is_json text = starts_with nat_eq (without_blanks text) (codes "[") || starts_with nat_eq (without_blanks text) (codes "{")

-- the words of the first line of version 2
abbrev pub head_words : List ℕ
head_words = codes "taskenv log 2"

-- whether a line without blanks before it, in small letters, is the first line of version 2, but for blanks at its end
abbrev pub is_head : List ℕ → Bool
is_head line = starts_with nat_eq line head_words && is_blank (drop (length head_words) line)

-- whether the line is that of the entry, letter for letter, if there is one
abbrev pub is_line_of : ℕ → List ℕ → Option Entry → Bool
is_line_of place line None = false
is_line_of place line (Some e) = bytes_eq line (line_of place e)

-- whether it is a line that may come behind the lines of so many entries: that of an entry at its place, the total, or the first line
-- of version 2
abbrev pub is_whole_line : Version → ℕ → List ℕ → Bool
is_whole_line version place line =
    is_line_of place line (meant_of line) || bytes_eq line (end_of version place) || may_be_headed version place && bytes_eq line head_line

-- whether a text begins with a blank
abbrev pub begins_blank : List ℕ → Bool
begins_blank [] = false
begins_blank (byte ∷ text) = is_blank_byte byte

-- whether the first word of a line is this number, also with zeros in front
abbrev pub begins_with_number : ℕ → List ℕ → Bool
begins_with_number number line =
    starts_with nat_eq (without_zeros (without_blanks line)) (decimal number)
    && begins_blank (drop (length (decimal number)) (without_zeros (without_blanks line)))

-- ---- which mistake it is

-- of a line without a line feed
abbrev pub unfed : Version → ℕ → List ℕ → Mistake
unfed version place line = if is_whole_line version place (line ++ 10 ∷ []) then mistakes.NoFeed else mistakes.CutOff

-- of a first line that begins as the first line of version 2 does
abbrev pub head_mistake : List ℕ → Mistake
head_mistake line = if is_head line then mistakes.Head else mistakes.Version

-- of a total: that no first line says so, or that lines stand after it, or else its number, or its spelling
abbrev pub total_mistake : Version → ℕ → Bool → Mistake
total_mistake One place is_last = mistakes.NoHead
total_mistake Two place is_last = if is_last then mistakes.Total place else mistakes.AfterTotal

-- of a line by which entry it is meant to be, and by which with small letters
abbrev pub entry_mistake : ℕ → List ℕ → Option Entry → Option Entry → Mistake
entry_mistake place line (Some e) lowered = if begins_with_number place line then mistakes.Spelling e else mistakes.Place e
entry_mistake place line None (Some e) = mistakes.Letters e
entry_mistake place line None None = mistakes.Unknown

-- of a line, with a line feed, by what it begins with in small letters
abbrev pub word_mistake : Version → ℕ → Bool → List ℕ → List ℕ → Mistake
word_mistake version place is_last line lowered =
    if may_be_headed version place && starts_with nat_eq lowered (codes "taskenv") then head_mistake lowered
    else (if starts_with nat_eq lowered (codes "total") then total_mistake version place is_last
    else entry_mistake place line (meant_of line) (meant_of lowered))

-- of a line
abbrev pub line_mistake : Version → ℕ → Bool → List ℕ → Mistake
line_mistake version place is_last line =
    if not (ends_with nat_eq line (codes "\n")) then unfed version place line
    else (if is_blank line then mistakes.Blank
    else (if starts_with nat_eq (without_blanks line) (codes "#") then mistakes.Comment
    else (if ends_with nat_eq line (codes "\r\n") then mistakes.CarriageReturn
    else word_mistake version place is_last line (small (without_blanks line)))))

-- of a line of the text, if there is one, and by whether it is the last one
abbrev pub mistake_in : List ℕ → Version → ℕ → Option (List ℕ) → Bool → Mistake
mistake_in text version place None is_last = mistakes.NoTotal place
mistake_in text version place (Some line) is_last =
    if may_be_headed version place && is_json text then mistakes.Json else line_mistake version place is_last line

-- the mistake of the line of this number, counted from 1, which is none of a log at its place (this project's own rule)
abbrev pub mistake_at : List ℕ → ℕ → Mistake
mistake_at text number = mistake_in text (version_of text) (number - 1 - lines_before (version_of text))
    (slice_get (text_lines text) (number - 1)) (is_none (slice_get (text_lines text) number))
