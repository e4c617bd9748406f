-- What is wrong with steps, and at which place of their line, where they stand from a place on.
use Rattle.std.specs.Prelude.{ℕ, ◌+◌, not, nat_lt, ◌&&◌, if◌then◌else◌, List, [], ◌∷◌, length, Option, Some, None}
use Rattle.std.specs.Option.{option_or}
use Rattle.task_base.specs.Plan.{Plan}
use Rattle.task_base.specs.Steps.{is_act}
use Rattle.task_base.specs.declared.step.Step.{Step}
use Rattle.task_base.specs.declared.step.Step.TheVariants.{Post, Main, Unblock}
use Rattle.script_model.specs.Draft.{may_block_on, opens_scope}
use Rattle.line_places.specs.declared.expected.Thing.{Thing}
use Rattle.line_places.specs.declared.expected.Thing.TheVariants.{Runner, Queue, Task}
use Rattle.lint_text.specs.declared.complaint.Complaint.TheVariants.{MayNotBlock, NoJobStep}
use Rattle.lint_text.specs.declared.objection.Objection.{Objection}
use Rattle.script_lint.specs.declared.steps.Question.{Question}
use Rattle.script_lint.specs.declared.steps.Question.TheVariants.{Declared, Blocking, Computing}
use Rattle.lint_text.specs.Objections.{at, none_of}

-- how many words a step has, and the `;` behind it
abbrev pub words_in : Step → ℕ
words_in (Post task runner delay) = 5
words_in (Main task queue delay) = 5
words_in Unblock = 2
words_in step = 3

-- an objection to a step, at the place in its line where the step begins
abbrev pub moved : ℕ → Option Objection → Option Objection
moved by None = None
moved by (Some objection) = Some (at (by + objection.place) objection.complaint)

-- of so many tasks this is none, or of so many of its homes that is none
abbrev pub undeclared : ℕ → ℕ → Thing → ℕ → ℕ → Option Objection
undeclared task tasks of home homes =
    if not (nat_lt task tasks) then Some (at 1 (none_of Task tasks))
    else (if not (nat_lt home homes) then Some (at 2 (none_of of homes)) else None)

-- the step posts a task, or to a home, that is not declared
abbrev pub undeclared_step : Plan → Step → Option Objection
undeclared_step script (Post task runner delay) = undeclared task (length script.tasks) Runner runner (length script.runners)
undeclared_step script (Main task queue delay) = undeclared task (length script.tasks) Queue queue (length script.queues)
undeclared_step script step = None

-- the step posts a task that opens a blocking scope where it must not block
abbrev pub must_not_block : Plan → Step → Option Objection
must_not_block script (Post task runner delay) =
    if opens_scope script.tasks task && not (may_block_on script.runners runner) then Some (at 1 (MayNotBlock task (Some runner))) else None
must_not_block script (Main task queue delay) = if opens_scope script.tasks task then Some (at 1 (MayNotBlock task None)) else None
must_not_block script step = None

-- the step does not compute
abbrev pub no_job_step : Step → Option Objection
no_job_step step = if is_act step then Some (at 0 NoJobStep) else None

-- what is wrong with a step, at a place counted from its own first word
abbrev pub step_objection : Plan → Question → Step → Option Objection
step_objection script Declared step = undeclared_step script step
step_objection script Blocking step = must_not_block script step
step_objection script Computing step = no_job_step step

-- what is wrong with the first step that does not pass
unfoldable pub first_step : Plan → Question → List Step → ℕ → Option Objection
first_step script question [] from = None
first_step script question (step ∷ steps) from =
    option_or (moved from (step_objection script question step)) (first_step script question steps (from + words_in step))
