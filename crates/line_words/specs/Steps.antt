-- The words of a line cut at the word `;`, and the steps that are read one after the other.
use Rattle.std.specs.Prelude.{ℕ, List, [], ◌∷◌, ◌++◌, Option, Some, None, Result, Ok}
use Rattle.std.specs.List.{slice_split}
use Rattle.task_base.specs.declared.step.Step.{Step}
use Rattle.task_base.specs.declared.step.Step.TheVariants.{Unblock}
use Rattle.script_model.specs.Words.{is_mark}
use Rattle.script_model.specs.Reasons.{◌>>=◌, ◌>>◌, ◌&◌}
use Rattle.script_model.specs.Places.{ends_at}

-- the words of each step, of the words of some steps or of none
abbrev pub pieces_of : Option (List (List ℕ)) → List (List (List ℕ))
pieces_of None = []
pieces_of (Some words) = slice_split is_mark words

-- the steps and one more, or the least of the reasons
abbrev pub with_step : Result (List Step) ℕ → Result Step ℕ → Result (List Step) ℕ
with_step steps step = steps & step >>= λ p. Ok (p.0 ++ p.1 ∷ [])

-- the step that closes a scope, by the words behind its first one
abbrev pub unblock_read : List (List ℕ) → Result Step ℕ
unblock_read words = ends_at words 0 >> Ok Unblock
