-- The lines of a text, and the first that is wrong in the text of a log.
use Rattle.std.specs.Prelude.{◌≡◌, ◌≢◌, ℕ, ◌+◌, ◌==◌, if◌then◌else◌, List, [], ◌∷◌, ◌++◌, All, length}
use Rattle.std.specs.List.{onto_first}
use Rattle.task_base.specs.declared.entry.Entry.{Entry}
use Rattle.log_model.specs.Fits.{Fits}
use Rattle.log_model.specs.LogText.{log_lines, head_of, lines_before, end_of, version_of, BeginsWithNoLine}

-- the lines of a text, each with its line feed; what stands behind the last line feed, if anything, is a line without
-- one (this project's own rule)
abbrev pub text_lines : List ℕ → List (List ℕ)
text_lines [] = []
text_lines (byte ∷ text) = if byte == 10 then (10 ∷ []) ∷ text_lines text else onto_first byte (text_lines text)

-- entries whose lines begin a text, each at its place, and the rest of the text, which begins with no further one (this
-- project's own)
pub record IsRead (text : List ℕ) (entries : List Entry) (rest : List ℕ) : Type 0 where
  pub same : text ≡ log_lines entries ++ rest
  pub fit : All Fits entries
  pub no_further : BeginsWithNoLine (length entries) rest

-- the line of a text, counted from 1, at which it is the text of no log in its version: the first behind its head that is
-- neither the line of an entry at its place nor, with all that follows, the end of such a text. Where no line is left, it
-- is the one that is wanted (this project's own rule)
pub record IsBadLine (text : List ℕ) (line : ℕ) : Type 0 where
  pub entries : List Entry
  pub rest : List ℕ
  pub lines : List ℕ
  pub headed : text ≡ head_of (version_of text) ++ lines
  pub read : IsRead lines entries rest
  pub no_end : rest ≢ end_of (version_of text) (length entries)
  pub number : line ≡ lines_before (version_of text) + length entries + 1
