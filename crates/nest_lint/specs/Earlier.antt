-- The lines before a bad one, none of which is bad.
use Rattle.std.specs.Prelude.{ℕ, Bool, not, ◌&&◌, ◌||◌, is_some, List, codes, Option}
use Rattle.std.specs.List.{position_from}
use Rattle.script_model.specs.Words.{lines_of, is_word, begins_comment}
use Rattle.line_places.specs.Words.{command_of}
use Rattle.nest_lint.specs.declared.earlier.Sought.{Sought}
use Rattle.nest_lint.specs.declared.earlier.Sought.TheVariants.{Posts, Acts}
use Rattle.nest_lint.specs.Posts.{posting_place}

-- the command is that of an action
abbrev pub is_action : List ℕ → Bool
is_action command = is_word command (codes "post") || is_word command (codes "run")

-- the line is what is looked for
abbrev pub says : Sought → List ℕ → Bool
says (Posts task) line = not (begins_comment (command_of line)) && is_some (posting_place line task)
says Acts line = is_action (command_of line)

-- the first line of a text, counted from 1, that is what is looked for
unfoldable pub first_line : Sought → List ℕ → Option ℕ
first_line sought text = position_from (says sought) 1 (lines_of text)
