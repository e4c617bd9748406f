-- Where an answer to events says that they are bad.
-- Cited by `arrange`, `arrange_open`.
use Rattle.std.proofs.Common.{◌≡◌, ℕ, Bool, List, Option, Some, None, inl, inr}
use Rattle.task_base.specs.Plan.{Plan, opened}
use Rattle.script_model.specs.Grammar.{Reads}
use Rattle.command_line.specs.declared.words.Command.TheVariants.{ArrangeOpen}
use Rattle.open_check.specs.Plans.{plan_fault}
use Rattle.order_answer.specs.Answers.{IsAnswer}
use Rattle.order_answer.specs.Bad.{IsBad}
use Rattle.order_answer.specs.declared.answer.Answer.{Answer}
use Rattle.order_answer.specs.declared.answer.Answer.TheVariants.{Bad}
use Rattle.order_answer.specs.declared.bad.BadEvents.{BadEvents}
use Rattle.app_streams.specs.Ends.{Ends}
use Rattle.app_streams.specs.Parts.{part_behind, script_part}
use Rattle.app_streams.specs.Taken.{TookAll}
use Rattle.app_modes.specs.Arranged.{answer_status, answer_text}
use Rattle.app_modes.specs.Outcome.{Does}

-- then they are bad for that
pub bad_for : (script : Plan) (prefix : Bool) (text : List ℕ) (bad : BadEvents) → IsAnswer script prefix text (Bad bad) → IsBad script text bad
bad_for script prefix text bad (inl h) = absurd h.is
bad_for script prefix text bad (inr h) = h

-- so they are by the rules of its open plan
pub bad_for_plan : (script : Plan) (prefix : Bool) (text : List ℕ) (bad : BadEvents) → IsAnswer (opened script) prefix text (Bad bad) → IsBad script text bad
bad_for_plan script prefix text bad (inl h) = absurd h.is
bad_for_plan script prefix text bad (inr (inl none)) = inl none
bad_for_plan script prefix text bad (inr (inr is)) =
    inr (record { seen = is.seen; of = is.of; mistake = is.mistake; is = is.is; bad_is = is.bad_is })

-- what `arrange --open` does, by its input and the answer to it
pub does_arrange : (prefix : Bool) (most : ℕ) (told : ℕ → Option ℕ) (source : Ends) (bytes : List ℕ) (script : Plan) (answer : Answer) → TookAll source bytes
    → Reads (script_part bytes) script → plan_fault script (script_part bytes) ≡ None → IsAnswer (opened script) prefix (part_behind bytes) answer
    → (Holds : ℕ → List ℕ → Type 0) → Holds (answer_status answer) (answer_text answer) → Does (Some (ArrangeOpen prefix most)) told source Holds
does_arrange prefix most told source bytes script answer took reads plan is Holds holds = record {
  bytes = bytes;
  took = took;
  holds = record { script = script; answer = answer; reads = reads; plan = plan; is = is; holds = holds };
}
