-- What every list of calls gives: one history, legal at each moment, in which each answer is the rule's.
use Rattle.std.specs.Prelude.{List, [], ◌∷◌, Result, Ok, Err, fold}
use Rattle.task_base.specs.Plan.{Plan}
use Rattle.task_base.specs.Entries.{next}
use Rattle.task_base.specs.declared.entry.Entry.{Entry}
use Rattle.task_base.specs.declared.entry.Kind.{Kind}
use Rattle.hist_model.specs.Legal.{IsLegal}
use Rattle.live_core.specs.Answers.{Gives}
use Rattle.live_core.specs.Calls.{seat_of}
use Rattle.live_core.specs.StandsFor.{StandsFor}
use Rattle.live_core.specs.declared.call.Call.{Call}
use Rattle.live_core.specs.declared.live.LiveCore.{LiveCore}
use Rattle.live_core.specs.declared.unmade.Unmade.{Unmade}

-- a call, its answer, and the core after it
pub record Made : Type 0 where
  pub call : Call
  pub answer : Result Kind Unmade
  pub after : LiveCore

-- the call was made of this core: what `LiveCore::call` promises holds of it
abbrev pub IsMadeOf : LiveCore → Made → Type 0
IsMadeOf before made = (plan : Plan) (past : List Entry) → StandsFor plan past before → Gives plan past made.call before made.after made.answer

-- the calls were made one after the other, the first one of this core
abbrev pub AreMadeOf : LiveCore → List Made → Type 0
AreMadeOf live [] = Unit {0}
AreMadeOf live (made ∷ later) = IsMadeOf live made × AreMadeOf made.after later

-- the past with the entry that a call made, if it made one
abbrev pub with_answer : List Entry → Call → Result Kind Unmade → List Entry
with_answer past call (Ok kind) = next past (seat_of call) kind
with_answer past call (Err why) = past

-- the history of some calls: the entries that they made, in order
abbrev pub history : List Entry → List Made → List Entry
history past calls = fold (λ before made. with_answer before made.call made.answer) past calls

-- each answer is what the rules say of the history as it stood, which is legal before and after it
abbrev pub AreRight : Plan → List Entry → LiveCore → List Made → Type 0
AreRight plan past live [] = IsLegal plan past
AreRight plan past live (made ∷ later) =
    IsLegal plan past × Gives plan past made.call live made.after made.answer × AreRight plan (with_answer past made.call made.answer) made.after later
