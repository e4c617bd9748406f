-- What every list of calls and rests gives: no wake is lost.
use Rattle.std.specs.Prelude.{ℕ, List, [], ◌∷◌, Result}
use Rattle.task_base.specs.Plan.{Plan}
use Rattle.task_base.specs.declared.entry.Entry.{Entry}
use Rattle.task_base.specs.declared.entry.Kind.{Kind}
use Rattle.live_core.specs.Histories.{with_answer}
use Rattle.live_core.specs.declared.call.Call.{Call}
use Rattle.live_core.specs.declared.unmade.Unmade.{Unmade}
use Rattle.live_roster.specs.Answers.{CallGives, RestGives}
use Rattle.live_roster.specs.StandsFor.{StandsFor}
use Rattle.live_roster.specs.Wakes.{NoWakeIsLost}
use Rattle.live_roster.specs.declared.rest.Unrested.{Unrested}
use Rattle.live_roster.specs.declared.roster.LiveRoster.{LiveRoster}
use Rattle.live_roster.specs.declared.wake.Wake.{Wake}

-- what was done, and the answer: the thread of a seat made a call, or a seat was to rest for one
pub data Deed : Type 0 where
  Called : ℕ → Call → Result Kind Unmade → Deed
  Rested : Call → Result ℕ Unrested → Deed

-- a deed, whom it said to wake, and the roster after it
pub record Done : Type 0 where
  pub deed : Deed
  pub wake : Wake
  pub after : LiveRoster

-- what `LiveRoster::call` and `LiveRoster::rest` promise
abbrev pub Gives : Plan → List Entry → LiveRoster → Deed → Wake → LiveRoster → Type 0
Gives plan past before (Called by_seat call answer) wake after = CallGives plan past by_seat call before after answer wake
Gives plan past before (Rested call answer) wake after = RestGives plan past call before after answer wake

-- it was done to this roster
abbrev pub IsDoneTo : LiveRoster → Done → Type 0
IsDoneTo before done = (plan : Plan) (past : List Entry) → StandsFor plan past before → Gives plan past before done.deed done.wake done.after

-- these were done one after the other, the first one to this roster
abbrev pub AreDoneTo : LiveRoster → List Done → Type 0
AreDoneTo roster [] = Unit {0}
AreDoneTo roster (done ∷ later) = IsDoneTo roster done × AreDoneTo done.after later

-- the past with the entry of a call, if it made one
abbrev pub with_deed : List Entry → Deed → List Entry
with_deed past (Called by_seat call answer) = with_answer past call answer
with_deed past (Rested call answer) = past

-- no wake is lost, before and after each
abbrev pub AreKept : Plan → List Entry → LiveRoster → List Done → Type 0
AreKept plan past roster [] = NoWakeIsLost plan past roster.wish roster.notes.items
AreKept plan past roster (done ∷ later) =
    NoWakeIsLost plan past roster.wish roster.notes.items × AreKept plan (with_deed past done.deed) done.after later
