-- What a request gives.
use Rattle.std.specs.Prelude.{◌≡◌, ℕ, List, Option, Some, None, Result}
use Rattle.task_base.specs.Plan.{Plan}
use Rattle.task_base.specs.declared.entry.Entry.{Entry}
use Rattle.task_base.specs.declared.entry.Kind.{Kind}
use Rattle.live_core.specs.declared.call.Call.{Call}
use Rattle.live_core.specs.declared.unmade.Unmade.{Unmade}
use Rattle.live_roster.specs.Answers.{CallGives, RestGives}
use Rattle.live_roster.specs.declared.rest.Unrested.{Unrested}
use Rattle.live_roster.specs.declared.wake.Wake.{Wake}
use Rattle.live_request.specs.Requests.{ask_of}
use Rattle.live_request.specs.Told.{bare, made_answer, rest_answer, with_wake}
use Rattle.live_request.specs.declared.answer.Answer.{Answer}
use Rattle.live_request.specs.declared.codes.TheConstants as codes
use Rattle.live_request.specs.declared.live.Live.{Live}
use Rattle.live_request.specs.declared.request.Ask.{Ask}
use Rattle.live_request.specs.declared.request.Ask.TheVariants as asks
use Rattle.live_request.specs.declared.request.Request.{Request}

-- the call was made, by the thread of that seat, and all that came of it is told
pub record IsMade (plan : Plan) (past : List Entry) (by_seat : ℕ) (call : Call) (before after : Live) (answer : Answer) : Type 0 where
  pub made : Result Kind Unmade
  pub wake : Wake
  pub gives : CallGives plan past by_seat call before.roster after.roster made wake
  pub told : answer ≡ with_wake (made_answer made) wake

-- the call's seat asked to rest for it, and all that came of that is told
pub record IsRested (plan : Plan) (past : List Entry) (call : Call) (before after : Live) (answer : Answer) : Type 0 where
  pub rest : Result ℕ Unrested
  pub wake : Wake
  pub gives : RestGives plan past call before.roster after.roster rest wake
  pub told : answer ≡ with_wake (rest_answer rest) wake

-- what is asked was done; nothing is a misuse, which changes nothing and wakes nobody
abbrev pub IsDone : Plan → List Entry → Option Ask → Live → Live → Answer → Type 0
IsDone plan past (Some (asks.Make by_seat call)) before after answer = IsMade plan past by_seat call before after answer
IsDone plan past (Some (asks.Rest call)) before after answer = IsRested plan past call before after answer
IsDone plan past None before after answer = (after ≡ before) × (answer ≡ bare codes.MISUSE)

-- what a request gives
abbrev pub IsAnswered : Plan → List Entry → Request → Live → Live → Answer → Type 0
IsAnswered plan past request before after answer = IsDone plan past (ask_of request) before after answer
