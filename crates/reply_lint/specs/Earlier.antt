-- The lines before a bad one, none of which is bad.
use Rattle.std.specs.Prelude.{ℕ, ◌==◌, Bool, false, ◌&&◌, List, count_by, Option, Some, None}
use Rattle.std.specs.List.{position_from}
use Rattle.script_model.specs.Words.{lines_of}
use Rattle.reply_lint.specs.Said.{id_at, is_reply}

-- the number is there, and this one
abbrev pub is_id : ℕ → Option ℕ → Bool
is_id task None = false
is_id task (Some id) = id == task

-- the reply of the line is this task
abbrev pub has_reply : ℕ → List ℕ → Bool
has_reply task line = is_reply line && is_id task (id_at line 3)

-- the first line of a text, counted from 1, whose reply is this task
unfoldable pub first_reply : List ℕ → ℕ → Option ℕ
first_reply text task = position_from (has_reply task) 1 (lines_of text)

-- how many lines of a text are replies
unfoldable pub replies_in : List ℕ → ℕ
replies_in text = count_by is_reply (lines_of text)
