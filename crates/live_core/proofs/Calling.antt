-- What every list of calls gives.
-- Cited by `live_theorem`.
use Rattle.std.proofs.Common.{List, [], ◌∷◌, Ok, Err, Result}
use Rattle.task_base.specs.Plan.{Plan}
use Rattle.task_base.specs.declared.entry.Entry.{Entry}
use Rattle.task_base.specs.declared.entry.Kind.{Kind}
use Rattle.hist_model.specs.Legal.{IsLegal}
use Rattle.live_core.specs.Answers.{Gives}
use Rattle.live_core.specs.Histories.{AreMadeOf, AreRight, Made, history, with_answer}
use Rattle.live_core.specs.StandsFor.{StandsFor}
use Rattle.live_core.specs.declared.call.Call.{Call}
use Rattle.live_core.specs.declared.live.LiveCore.{LiveCore}
use Rattle.live_core.specs.declared.unmade.Unmade.{Unmade}
use Rattle.live_core.specs.declared.unmade.Unmade.TheVariants.{Misuse, Full, Nothing, Over, NotYet, Blocked}

-- whatever a call gives, the core stands for the past with its entry, if there is one
stands_on : (plan : Plan) (past : List Entry) (call : Call) (before after : LiveCore) (answer : Result Kind Unmade) → StandsFor plan past before
    → Gives plan past call before after answer → StandsFor plan (with_answer past call answer) after
stands_on plan past call before after (Ok kind) stands gives = gives.stands
stands_on plan past call before after (Err Misuse) stands gives = rw gives.kept stands
stands_on plan past call before after (Err Full) stands gives = rw gives.kept stands
stands_on plan past call before after (Err Nothing) stands gives = gives.stands
stands_on plan past call before after (Err Over) stands gives = gives.stands
stands_on plan past call before after (Err (NotYet not_yet)) stands gives = gives.stands
stands_on plan past call before after (Err (Blocked blocked)) stands gives = gives.stands

pub calls_are_right : (plan : Plan) (past : List Entry) (live : LiveCore) (calls : List Made) → StandsFor plan past live → AreMadeOf live calls
    → AreRight plan past live calls
calls_are_right plan past live [] stands made = stands.legal
calls_are_right plan past live (call ∷ later) stands made =
    let gives = made.0 plan past stands in (
      stands.legal,
      gives,
      calls_are_right plan (with_answer past call.call call.answer) call.after later
          (stands_on plan past call.call live call.after call.answer stands gives) made.1,
    )

pub history_is_legal : (plan : Plan) (past : List Entry) (live : LiveCore) (calls : List Made) → StandsFor plan past live → AreMadeOf live calls
    → IsLegal plan (history past calls)
history_is_legal plan past live [] stands made = stands.legal
history_is_legal plan past live (call ∷ later) stands made =
    history_is_legal plan (with_answer past call.call call.answer) call.after later
    (stands_on plan past call.call live call.after call.answer stands (made.0 plan past stands)) made.1
