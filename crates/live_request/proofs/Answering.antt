-- What an environment answers is what the slot answers that it lies in; and both stand for some past again.
-- Cited by `Slot::call`, `laws.rt`.
use Rattle.std.proofs.Common.{◌≡◌, ℕ, List, [], refl, Option, Some, None, Result, Ok, Err}
use Rattle.std.specs.Prelude.{IfSome}
use Rattle.std.specs.Result.{result_ok}
use Rattle.task_base.specs.Plan.{Plan, opened}
use Rattle.task_base.specs.declared.entry.Entry.{Entry}
use Rattle.live_core.specs.Histories.{with_answer}
use Rattle.live_core.specs.declared.call.Call.{Call}
use Rattle.live_roster.specs.Answers.{RestGives}
use Rattle.live_roster.specs.declared.rest.Unrested.{Unrested}
use Rattle.live_roster.specs.declared.rest.Unrested.TheVariants.{Misuse, HasCome}
use Rattle.live_roster.specs.declared.wake.Wake.{Wake}
use Rattle.live_request.specs.Answers.{IsAnswered, IsDone}
use Rattle.live_request.specs.Opening.{ComesOf}
use Rattle.live_request.specs.Requests.{ask_of}
use Rattle.live_request.specs.Slots.{IsCalled, IsCalledOf, IsSlotOpened, Stands}
use Rattle.live_request.specs.StandsFor.{StandsFor}
use Rattle.live_request.specs.declared.answer.Answer.{Answer}
use Rattle.live_request.specs.declared.live.Live.{Live}
use Rattle.live_request.specs.declared.opened.Opened.{Opened}
use Rattle.live_request.specs.declared.opened.Unopened.{Unopened}
use Rattle.live_request.specs.declared.request.Ask.{Ask}
use Rattle.live_request.specs.declared.request.Ask.TheVariants as asks
use Rattle.live_request.specs.declared.request.Request.{Request}
use Rattle.live_request.specs.declared.slot.Slot.{Slot}

-- the environment stands for some past of some plan
abbrev StandsSome : Live → Type 0
StandsSome live = (plan : Plan) × (past : List Entry) × StandsFor plan past live

pub slot_answered : (request : Request) (before after : Slot) (live new : Live) (answer : Answer) → before.live ≡ Some live → after.live ≡ Some new
    → ((plan : Plan) (past : List Entry) → StandsFor plan past live → IsAnswered plan past request live new answer) → IsCalled request before after answer
slot_answered request before after live new answer was is gives =
    rw was (λ plan past stands. record { live = new; lies = is; answered = gives plan past stands })

-- a rest leaves the past as it was
rest_stands : (plan : Plan) (past : List Entry) (call : Call) (before after : Live) (rest : Result ℕ Unrested) (wake : Wake) → StandsFor plan past before
    → RestGives plan past call before.roster after.roster rest wake → StandsFor plan past after
rest_stands plan past call before after (Ok seat) wake stands gives = gives.3.stands
rest_stands plan past call before after (Err HasCome) wake stands gives = gives.2.stands
rest_stands plan past call before after (Err Misuse) wake stands gives = rw gives.1 stands

-- what was asked leaves the environment standing for some past
done_stands : (plan : Plan) (past : List Entry) (ask : Option Ask) (before after : Live) (answer : Answer) → StandsFor plan past before
    → IsDone plan past ask before after answer → StandsSome after
done_stands plan past (Some (asks.Make by_seat call)) before after answer stands gives = (plan, with_answer past call gives.made, gives.gives.roused.stands)
done_stands plan past (Some (asks.Rest call)) before after answer stands gives =
    (plan, past, rest_stands plan past call before after gives.rest gives.wake stands gives.gives)
done_stands plan past None before after answer stands gives = (plan, past, rw gives.0 stands)

pub answered_stands : (plan : Plan) (past : List Entry) (request : Request) (before after : Live) (answer : Answer) → StandsFor plan past before
    → IsAnswered plan past request before after answer → (plan : Plan) × (past : List Entry) × StandsFor plan past after
answered_stands plan past request before after answer = done_stands plan past (ask_of request) before after answer

-- so does the slot
called_stands : (request : Request) (was : Option Live) (before after : Slot) (answer : Answer) → before.live ≡ was → IfSome was StandsSome
    → IsCalledOf request was before after answer → Stands after
called_stands request (Some live) before after answer is stands gives =
    let it = gives stands.0 stands.1 stands.2 in
    rw it.lies (answered_stands stands.0 stands.1 request live it.live answer stands.2 it.answered)
called_stands request None before after answer is stands gives = rw (gives.0, is) tt

pub slot_stands : (request : Request) (before after : Slot) (answer : Answer) → Stands before → IsCalled request before after answer → Stands after
slot_stands request before after answer stands gives = called_stands request before.live before after answer refl stands gives

-- what came of a plan stands for the empty past, if it is an environment
outcome_stands : (bytes : List ℕ) (outcome : Result Live Unopened) (slot : Slot) → slot.live ≡ result_ok outcome → ComesOf bytes outcome → Stands slot
outcome_stands bytes (Ok live) slot lies comes = rw lies (opened comes.script, [], comes.stands)
outcome_stands bytes (Err why) slot lies comes = rw lies tt

pub opened_stands : (bytes : List ℕ) (slot : Slot) (told : Opened) (reason : ℕ) → IsSlotOpened bytes slot told reason → Stands slot
opened_stands bytes slot told reason opens = outcome_stands bytes opens.outcome slot opens.lies opens.comes
