-- The words of a line by their places, counted from 1, and the number of a thing that a word writes.
use Rattle.std.specs.Prelude.{ℕ, ◌-◌, ◌^◌, List, [], drop, slice_get, unwrap_or, Option}
use Rattle.std.specs.Result.{result_ok}
use Rattle.script_model.specs.Words.{words_of}
use Rattle.script_model.specs.Places.{number_from}

-- the word at a place of a line, if there is one
abbrev pub word_at : List ℕ → ℕ → Option (List ℕ)
word_at line place = slice_get (drop (place - 1) (words_of line)) 0

-- the command of a line
abbrev pub command_of : List ℕ → List ℕ
command_of line = unwrap_or (word_at line 1) []

-- the number of 32 bits that a word writes, if it writes one
abbrev pub id_of : List ℕ → Option ℕ
id_of word = result_ok (number_from 0 (2 ^ 32 - 1) word)
