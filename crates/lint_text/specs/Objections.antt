-- What is wrong with a line, and where.
use Rattle.std.specs.Prelude.{ℕ, List, Option, Some, None}
use Rattle.line_places.specs.declared.expected.Language.{Language}
use Rattle.line_places.specs.declared.expected.Thing.{Thing}
use Rattle.line_places.specs.declared.expected.Expected.{Expected}
use Rattle.line_places.specs.declared.expected.Found.{Found}
use Rattle.line_places.specs.First.{first_place}
use Rattle.line_places.specs.Lengths.{line_length}
use Rattle.line_places.specs.Words.{command_of, word_at}
use Rattle.lint_text.specs.declared.complaint.Complaint.{Complaint}
use Rattle.lint_text.specs.declared.complaint.Complaint.TheVariants.{Unexpected, Undeclared, Breaks}
use Rattle.lint_text.specs.declared.objection.Objection.{Objection}
use Rattle.lint_text.specs.Text.{lint_line}

-- this is wrong at this place
abbrev pub at : ℕ → Complaint → Objection
at place complaint = record { place = place; complaint = complaint }

-- only so many are declared
abbrev pub none_of : Thing → ℕ → Complaint
none_of of count = Undeclared of count

-- a word of a line can't stand where this is expected
abbrev pub unexpected : Language → List ℕ → Expected → ℕ → Complaint
unexpected language line expected reason = Unexpected language expected reason (line_length language (command_of line))

-- what is wrong with a line at the first place for which any reason of its words holds, or rule 1 where there is none
abbrev pub at_found : Language → List ℕ → Option Found → Objection
at_found language line None = at 1 (Breaks 1)
at_found language line (Some found) = at found.place (unexpected language line found.expected found.reason)

abbrev pub by_words : Language → List ℕ → Objection
by_words language line = at_found language line (first_place language None line)

-- the line of text that says what is wrong with a line of this number, from 1, behind a front
abbrev pub objection_line : List ℕ → ℕ → List ℕ → Objection → List ℕ
objection_line front number line objection = lint_line front number objection.place objection.complaint (word_at line objection.place)
