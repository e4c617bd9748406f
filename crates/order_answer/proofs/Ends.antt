-- What is said of the end of a script's log.
-- Cited by `end_line`.
use Rattle.std.proofs.Common.{◌≡◌, ℕ, false, List, subst, sym}
use Rattle.task_base.specs.Plan.{Plan}
use Rattle.task_base.specs.declared.entry.Entry.{Entry}
use Rattle.next_entry.specs.declared.cause.Explanation.{Explanation}
use Rattle.env_explain.specs.Explained.{IsExplained}
use Rattle.explain_text.specs.Plain.{told_text}
use Rattle.order_answer.specs.Said.{IsEndSaid}

-- what is told of a plan that is closed is what is told of a script
pub end_of_script : (script : Plan) (log : List Entry) (line : List ℕ) (told : Explanation) → script.is_open ≡ false → IsExplained script log told
    → line ≡ told_text log told → IsEndSaid script.is_open script log line
end_of_script script log line told closed explained is = subst (λ is_open. IsEndSaid is_open script log line) (sym closed) (told, explained, is)
