-- The beginning of a log's text: the text of a run that isn't over, or of one that was stopped.
use Rattle.std.specs.Prelude.{◌≡◌, ℕ, ◌+◌, ◌==◌, nat_eq, Bool, true, false, ◌&&◌, ◌||◌, not, List, [], ◌∷◌, ◌++◌, length, Option, Some, None, decimal}
use Rattle.std.specs.List.{position, starts_with}
use Rattle.std.specs.Option.{is_some}
use Rattle.std.specs.Str.{bytes_eq}
use Rattle.task_base.specs.declared.entry.Entry.{Entry}
use Rattle.log_model.specs.declared.version.Version.{Version}
use Rattle.log_model.specs.declared.version.Version.TheVariants.{One, Two}
use Rattle.log_model.specs.LogText.{log_lines, head_line, head_of, lines_before, end_of, version_of}

-- what each line begins with that stands behind the lines of so many entries: its place and a space (this project's own)
abbrev pub place_of : ℕ → List ℕ
place_of entries = decimal entries ++ 32 ∷ []

-- whether the first line of version 2 may still come
abbrev pub may_be_headed : Version → ℕ → Bool
may_be_headed One entries = entries == 0
may_be_headed Two entries = false

-- whether the bytes have a line feed
abbrev pub has_feed : List ℕ → Bool
has_feed text = is_some (position (λ byte. byte == 10) text)

-- whether this, behind the lines of so many entries, is a line that is cut off: it has no line feed, and agrees as far as it goes with a
-- line of its place, up to the word behind the place, or is the beginning of the total, or of the first line of version 2 (this
-- project's own rule)
abbrev pub is_cut_off : Version → ℕ → List ℕ → Bool
is_cut_off version entries [] = false
is_cut_off version entries (byte ∷ rest) =
    not (has_feed (byte ∷ rest))
    && (starts_with nat_eq (byte ∷ rest) (place_of entries) || starts_with nat_eq (place_of entries) (byte ∷ rest)
    || starts_with nat_eq (end_of version entries) (byte ∷ rest) || may_be_headed version entries && starts_with nat_eq head_line (byte ∷ rest))

-- whether this is nothing, or the end of a text behind the lines of so many entries
abbrev pub is_end : Version → ℕ → List ℕ → Bool
is_end version entries [] = true
is_end version entries (byte ∷ rest) = bytes_eq (byte ∷ rest) (end_of version entries)

-- what may stand behind the lines of so many entries: nothing, or the end of such a text; or a line that is cut off, of this number
abbrev pub IsTail : Version → ℕ → List ℕ → Option ℕ → Type 0
IsTail version entries rest None = is_end version entries rest ≡ true
IsTail version entries rest (Some line) = (is_cut_off version entries rest ≡ true) × (line ≡ lines_before version + entries + 1)

-- the text begins that of a log with these entries, in the version that its first line says: behind their lines come nothing, the
-- total, or a line that is cut off, of this number (this project's own rule)
pub record IsBeginningOf (text : List ℕ) (log : List Entry) (cut : Option ℕ) : Type 0 where
  pub rest : List ℕ
  pub same : text ≡ head_of (version_of text) ++ (log_lines log ++ rest)
  pub tail : IsTail (version_of text) (length log) rest cut
