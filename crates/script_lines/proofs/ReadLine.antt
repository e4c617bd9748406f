-- What the words of a line say, by its first word.
-- Cited by `read_line`.
use Rattle.std.proofs.Common.{◌≡◌, ℕ, List, [], ◌∷◌, drop, cond, refl, Some, None, Ok}
use Rattle.std.specs.Prelude.{not, slice_get}
use Rattle.script_model.specs.Words.{begins_comment, is_all_ascii}
use Rattle.script_model.specs.Reasons.{◌>>◌, refuse, not_ascii}
use Rattle.script_lines.specs.declared.command.Command.TheVariants as commands
use Rattle.script_lines.specs.Said.{words_said, command_said}

pub words_said-none : (line : List ℕ) (words : List (List ℕ)) → slice_get words 0 ≡ None → words_said line words ≡ Ok commands.Nothing
unfolding words_said
words_said-none line [] e = refl
words_said-none line (name ∷ words) e = absurd cc

pub words_said-some : (line : List ℕ) (words : List (List ℕ)) (name : List ℕ) → slice_get words 0 ≡ Some name
    → words_said line words ≡ cond (begins_comment name) (Ok commands.Nothing) (refuse (not (is_all_ascii line)) not_ascii >> command_said name (drop 1 words))
unfolding words_said
words_said-some line [] name e = absurd cc
words_said-some line (first ∷ words) name e = let same : first ≡ name = cc in rw same refl
