-- What lies in the memory that C hands in, and what the calls make of it.
use Rattle.std.specs.Prelude.{◌≡◌, ℕ, List, Option, Some, None, IfSome, Result}
use Rattle.std.specs.Result.{result_ok}
use Rattle.task_base.specs.Plan.{Plan}
use Rattle.task_base.specs.declared.entry.Entry.{Entry}
use Rattle.live_request.specs.Answers.{IsAnswered}
use Rattle.live_request.specs.Opening.{ComesOf, opened_of}
use Rattle.live_request.specs.StandsFor.{StandsFor}
use Rattle.live_request.specs.Told.{bare}
use Rattle.live_request.specs.declared.answer.Answer.{Answer}
use Rattle.live_request.specs.declared.codes.TheConstants as codes
use Rattle.live_request.specs.declared.live.Live.{Live}
use Rattle.live_request.specs.declared.opened.Opened.{Opened}
use Rattle.live_request.specs.declared.opened.Unopened.{Unopened}
use Rattle.live_request.specs.declared.request.Request.{Request}
use Rattle.live_request.specs.declared.slot.Slot.{Slot}

-- the environment in the slot, if there is one, stands for some past of some plan
abbrev pub Stands : Slot → Type 0
Stands slot = IfSome slot.live (λ live. (plan : Plan) × (past : List Entry) × StandsFor plan past live)

-- what may come of the bytes came of them, it is told, and where it is an environment that lies in the slot
pub record IsSlotOpened (bytes : List ℕ) (slot : Slot) (opened : Opened) (reason : ℕ) : Type 0 where
  pub outcome : Result Live Unopened
  pub comes : ComesOf bytes outcome
  pub lies : slot.live ≡ result_ok outcome
  pub told : opened ≡ opened_of outcome
  pub first : reason ≡ opened.reason

-- the environment in the slot was asked, and lies there
pub record IsLiveAnswered (plan : Plan) (past : List Entry) (request : Request) (before : Live) (after : Slot) (answer : Answer) : Type 0 where
  pub live : Live
  pub lies : after.live ≡ Some live
  pub answered : IsAnswered plan past request before live answer

-- what a request gives of the environment in the slot, for every plan and past that it stands for; of none it is a misuse
abbrev pub IsCalledOf : Request → Option Live → Slot → Slot → Answer → Type 0
IsCalledOf request (Some live) before after answer = (plan : Plan)
    (past : List Entry) → StandsFor plan past live → IsLiveAnswered plan past request live after answer
IsCalledOf request None before after answer = (after ≡ before) × (answer ≡ bare codes.MISUSE)

-- what a request gives
abbrev pub IsCalled : Request → Slot → Slot → Answer → Type 0
IsCalled request before after answer = IsCalledOf request before.live before after answer
