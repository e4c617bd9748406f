-- Blocking scopes of a task: each is opened while none is, and closed.
use Rattle.std.specs.Prelude.{ℕ, ◌+◌, Bool, true, false, if◌then◌else◌, List, [], ◌∷◌, Option, Some, None}
use Rattle.std.specs.List.{list_any}
use Rattle.std.specs.Option.{option_or}
use Rattle.task_base.specs.Plan.{Plan}
use Rattle.task_base.specs.declared.step.Step.{Step}
use Rattle.task_base.specs.declared.step.Step.TheVariants.{Block, Unblock}
use Rattle.lint_text.specs.declared.complaint.Complaint.TheVariants.{OpensSecond, ClosesNone, StaysOpen}
use Rattle.lint_text.specs.declared.objection.Objection.{Objection}
use Rattle.lint_text.specs.Objections.{at}
use Rattle.script_lint.specs.Steps.{moved, must_not_block, words_in}

-- the step opens or closes a scope
abbrev pub is_scope : Step → Bool
is_scope (Block scope) = true
is_scope Unblock = true
is_scope step = false

-- a scope is open behind a step
abbrev pub inside_behind : Bool → Step → Bool
inside_behind inside (Block scope) = true
inside_behind inside Unblock = false
inside_behind inside step = inside

-- a scope is opened while one is open, or stays open
abbrev pub opened_fault : Bool → List Step → Option Objection
opened_fault inside behind = if inside then Some (at 0 OpensSecond) else (if list_any is_scope behind then None else Some (at 0 StaysOpen))

-- what is wrong with a step, where a scope is open or none, and those steps are behind it
abbrev pub block_fault : Plan → Bool → Step → List Step → Option Objection
block_fault script inside (Block scope) behind = opened_fault inside behind
block_fault script inside Unblock behind = if inside then None else Some (at 0 ClosesNone)
block_fault script inside step behind = must_not_block script step

-- what is wrong with the first step that opens or closes a scope wrongly, or posts a task where it must not block
unfoldable pub block_in : Plan → Bool → List Step → ℕ → Option Objection
block_in script inside [] place = None
block_in script inside (step ∷ steps) place =
    option_or (moved place (block_fault script inside step steps)) (block_in script (inside_behind inside step) steps (place + words_in step))
