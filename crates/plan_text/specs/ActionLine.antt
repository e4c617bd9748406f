-- The line of a script that has its first action.
use Rattle.std.specs.Prelude.{ℕ, ◌+◌, Bool, not, ◌||◌, List, [], ◌∷◌, length, ◌==◌, codes, if◌then◌else◌}
use Rattle.std.specs.Str.{bytes_eq}
use Rattle.script_model.specs.Words.{begins_comment, lines_of}
use Rattle.line_places.specs.Words.{command_of}

-- the command declares something
abbrev pub is_declaring : List ℕ → Bool
is_declaring command =
    bytes_eq command (codes "workers") || (bytes_eq command (codes "groups") || (bytes_eq command (codes "threshold")
    || (bytes_eq command (codes "runner") || (bytes_eq command (codes "queue") || (bytes_eq command (codes "task") || bytes_eq command (codes "job"))))))

-- a line without a command, and a comment, say nothing
abbrev pub says_nothing : List ℕ → Bool
says_nothing command = length command == 0 || begins_comment command

-- the line is an action: it says something, and declares nothing
abbrev pub is_action : List ℕ → Bool
is_action line = not (says_nothing (command_of line) || is_declaring (command_of line))

-- the number of the first such line, where the first of these lines has this number; 0 where there is none
unfoldable pub first_action : ℕ → List (List ℕ) → ℕ
first_action number [] = 0
first_action number (line ∷ lines) = if is_action line then number else first_action (number + 1) lines

-- the number of the first such line of a text, counted from 1
abbrev pub action_line : List ℕ → ℕ
action_line bytes = first_action 1 (lines_of bytes)
