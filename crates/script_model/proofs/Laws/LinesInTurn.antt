-- The lines of a text one after the other, as a loop reads the pieces between line feeds.
-- Cited by `nested_loop`, `task_reply`, `task_script`.
use Rattle.std.proofs.Common.{◌≡◌, ℕ, ◌+◌, ◌<◌, List, [], ◌∷◌, length, get_or, drop, map, refl, arith, add-one, drop-cons}
use Rattle.std.specs.Str.Lines.{strip_carriage_return}
use Rattle.std.proofs.lemmas.List.{drop_all, drop-map, length-map}

-- the first of the lines from this one on
pub lines_from : (i : ℕ) (pieces : List (List ℕ)) (line : List ℕ) → i < length pieces → line ≡ get_or pieces i line
    → drop i (map strip_carriage_return pieces) ≡ strip_carriage_return line ∷ drop (i + 1) (map strip_carriage_return pieces)
lines_from i pieces line lt is = rw (
  drop-map strip_carriage_return i pieces,
  drop-map strip_carriage_return (i + 1) pieces,
  add-one,
  drop-cons pieces i line,
  ← is,
) refl

-- behind the last line there is none
pub no_line_behind : (i : ℕ) (pieces : List (List ℕ)) → i ≡ length pieces → drop i (map strip_carriage_return pieces) ≡ []
no_line_behind i pieces e = drop_all i (map strip_carriage_return pieces) (simp length-map (omega arith))
