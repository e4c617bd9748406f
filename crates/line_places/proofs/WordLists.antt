-- The words of a line, as a list: how many they are, and the first of them.
-- Cited by `first_beyond_ascii`, `first_place`, `nest_lint`.
use Rattle.std.proofs.Common.{ℕ, ◌+◌, ◌≤◌, List, length, arith}
use Rattle.std.specs.Prelude.{not, ◌==◌}
use Rattle.std.specs.List.{slice_split}
use Rattle.std.proofs.lemmas.List.Sums.{length-filter, count_by-le-length}
use Rattle.std.proofs.lemmas.List.Splits.{length-slice_split}
use Rattle.script_model.specs.Words.{words_of, is_blank}

-- there are at most as many words as bytes, and one
pub words_short : (line : List ℕ) → length (words_of line) ≤ length line + 1
words_short line =
    let pieces = slice_split is_blank line in
    let filled = length-filter (λ (word : List ℕ). not (length word == 0)) pieces in
    let few = count_by-le-length (λ (word : List ℕ). not (length word == 0)) pieces in
    let parts = length-slice_split is_blank line in
    let marks = count_by-le-length is_blank line in
    omega arith
