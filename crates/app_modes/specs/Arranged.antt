-- What `arrange` says of what each seat saw (this project's own rule).
use Rattle.std.specs.Prelude.{ℕ, Bool, List, []}
use Rattle.task_base.specs.Plan.{Plan}
use Rattle.script_model.specs.Grammar.{Reads}
use Rattle.log_model.specs.LogText.{log_text}
use Rattle.order_answer.specs.Answers.{IsAnswer}
use Rattle.order_answer.specs.Bad.{IsBad}
use Rattle.order_answer.specs.declared.bad.BadEvents.{BadEvents}
use Rattle.order_answer.specs.declared.answer.Answer.{Answer}
use Rattle.order_answer.specs.declared.answer.Answer.TheVariants.{Order, NoOrder, GaveUp, Bad}
use Rattle.app_streams.specs.Parts.{script_part, part_behind}

-- the status that goes with an answer
abbrev pub answer_status : Answer → ℕ
answer_status (Order log) = 0
answer_status (NoOrder said) = 1
answer_status (GaveUp said) = 8
answer_status (Bad bad) = 3

-- what is written of it
abbrev pub answer_text : Answer → List ℕ
answer_text (Order log) = log_text log.items
answer_text (NoOrder said) = said.items
answer_text (GaveUp said) = said.items
answer_text (Bad bad) = []

-- the input begins with a script, and this holds of the status of an answer to the events after it, and of what is written of it
pub record HasArranged (prefix : Bool) (bytes : List ℕ) (Holds : ℕ → List ℕ → Type 0) : Type 0 where
  pub script : Plan
  pub answer : Answer
  pub reads : Reads (script_part bytes) script
  pub is : IsAnswer script prefix (part_behind bytes) answer
  pub holds : Holds (answer_status answer) (answer_text answer)

-- the input begins with a script, and what stands after it is bad for this
pub record HasBadEvents (bytes : List ℕ) (bad : BadEvents) : Type 0 where
  pub script : Plan
  pub reads : Reads (script_part bytes) script
  pub is : IsBad script (part_behind bytes) bad
