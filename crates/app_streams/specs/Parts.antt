-- An input of two parts: a script, and behind the line `%%` a log or replies (this project's own form).
use Rattle.std.specs.Prelude.{ℕ, Bool, if◌then◌else◌, List, [], ◌∷◌, codes}
use Rattle.std.specs.List.{concat}
use Rattle.std.specs.Str.Lines.{strip_carriage_return}
use Rattle.std.specs.Io.BufRead.{strip_last}
use Rattle.script_model.specs.Words.{is_word}
use Rattle.run_log.specs.TextLines.{text_lines}

-- the line that divides them: `%%`, without its line feed and without one carriage return before that
abbrev pub is_divider : List ℕ → Bool
is_divider line = is_word (strip_carriage_return (strip_last 10 line)) (codes "%%")

-- the lines before the first that is the divider, or all where none is
abbrev pub before_divider : List (List ℕ) → List (List ℕ)
before_divider [] = []
before_divider (line ∷ lines) = if is_divider line then [] else line ∷ before_divider lines

-- the lines behind it
abbrev pub behind_divider : List (List ℕ) → List (List ℕ)
behind_divider [] = []
behind_divider (line ∷ lines) = if is_divider line then lines else behind_divider lines

-- the bytes of the script
unfoldable pub script_part : List ℕ → List ℕ
script_part bytes = concat (before_divider (text_lines bytes))

-- the bytes of what is behind it
unfoldable pub part_behind : List ℕ → List ℕ
part_behind bytes = concat (behind_divider (text_lines bytes))
