-- What is said of a line that is none of a log at its place, in words and in JSON (this project's own form; RFC 8259).
use Rattle.std.specs.Prelude.{ℕ, List, [], ◌++◌, codes}
use Rattle.log_model.specs.LogText.{head_line, line_of, total_line}
use Rattle.log_mistakes.specs.declared.mistake.Mistake.{Mistake}
use Rattle.log_mistakes.specs.declared.mistake.Mistake.TheVariants as mistakes
use Rattle.explain_text.specs.Json.{entry_key, object_of}
use Rattle.explain_text.specs.Plain.{around}

-- the words before the number of the line
abbrev pub words_before : Mistake → List ℕ
words_before mistakes.Unknown = codes "no log has at its place such a line as line "
words_before (mistakes.NoTotal total) = codes "the total is missing: line "
words_before (mistakes.Total total) = codes "the total is wrong: line "
words_before (mistakes.Place e) = codes "the place is wrong: line "
words_before (mistakes.Letters e) = codes "letters are of the wrong case: line "
words_before mistake = codes "line "

-- the words after it
abbrev pub words_after : Mistake → List ℕ
words_after mistakes.Unknown = []
words_after mistakes.Json = codes " begins as JSON; a log is read as text, a line for each entry"
words_after mistakes.NoFeed = codes " is whole, but has no line feed at its end"
words_after mistakes.CutOff = codes " is cut off: it is no whole line, and has no line feed"
words_after mistakes.Blank = codes " is blank; no line of a log is"
words_after mistakes.Comment = codes " is a comment; a log has none"
words_after mistakes.CarriageReturn = codes " ends in CR LF; the lines of a log end in LF alone"
words_after mistakes.Version = codes " names no version that is read here; it should be: "
words_after mistakes.NoHead = codes " is a total, so the first line should be: "
words_after mistakes.AfterTotal = codes " is a total, and lines stand after it"
words_after mistake = codes " should be: "

-- the line that should stand there, or else the end of this line
abbrev pub line_due : ℕ → Mistake → List ℕ
line_due place (mistakes.NoTotal total) = total_line total
line_due place (mistakes.Total total) = total_line total
line_due place mistakes.Head = head_line
line_due place mistakes.Version = head_line
line_due place mistakes.NoHead = head_line
line_due place (mistakes.Place e) = line_of place e
line_due place (mistakes.Spelling e) = line_of place e
line_due place (mistakes.Letters e) = line_of place e
line_due place mistake = codes "\n"

-- what is said of a mistake in the line of this number, at this place
abbrev pub mistake_text : ℕ → ℕ → Mistake → List ℕ
mistake_text line place mistake = around (words_before mistake) line (words_after mistake) ++ line_due place mistake

-- the mistake as a key
abbrev pub mistake_key : Mistake → List ℕ
mistake_key (mistakes.NoTotal total) = codes ",\"mistake\":\"no_total\""
mistake_key mistakes.Json = codes ",\"mistake\":\"json\""
mistake_key mistakes.NoFeed = codes ",\"mistake\":\"no_feed\""
mistake_key mistakes.CutOff = codes ",\"mistake\":\"cut_off\""
mistake_key mistakes.Blank = codes ",\"mistake\":\"blank\""
mistake_key mistakes.Comment = codes ",\"mistake\":\"comment\""
mistake_key mistakes.CarriageReturn = codes ",\"mistake\":\"carriage_return\""
mistake_key mistakes.Head = codes ",\"mistake\":\"head\""
mistake_key mistakes.Version = codes ",\"mistake\":\"version\""
mistake_key mistakes.NoHead = codes ",\"mistake\":\"no_head\""
mistake_key mistakes.AfterTotal = codes ",\"mistake\":\"after_total\""
mistake_key (mistakes.Total total) = codes ",\"mistake\":\"total\""
mistake_key (mistakes.Place e) = codes ",\"mistake\":\"place\""
mistake_key (mistakes.Spelling e) = codes ",\"mistake\":\"spelling\""
mistake_key (mistakes.Letters e) = codes ",\"mistake\":\"letters\""
mistake_key mistakes.Unknown = []

-- what should stand there, as a key: a total or an entry
abbrev pub due_key : ℕ → Mistake → List ℕ
due_key place (mistakes.NoTotal total) = around (codes ",\"total\":") total []
due_key place (mistakes.Total total) = around (codes ",\"total\":") total []
due_key place (mistakes.Place e) = entry_key place e
due_key place (mistakes.Spelling e) = entry_key place e
due_key place (mistakes.Letters e) = entry_key place e
due_key place mistake = []

-- the same as one compact JSON object
abbrev pub mistake_json : ℕ → ℕ → Mistake → List ℕ
mistake_json line place mistake = object_of line (codes "no_line") (mistake_key mistake ++ due_key place mistake)
