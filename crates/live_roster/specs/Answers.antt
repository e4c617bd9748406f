-- What the calls of a roster give.
use Rattle.std.specs.Prelude.{◌≡◌, ℕ, ◌==◌, ◌||◌, true, false, if◌then◌else◌, List, slice_set, Result, Ok, Err}
use Rattle.task_base.specs.Plan.{Plan}
use Rattle.task_base.specs.declared.entry.Entry.{Entry}
use Rattle.task_base.specs.declared.entry.Kind.{Kind}
use Rattle.task_model.specs.Phase.{phase_of}
use Rattle.hist_model.specs.Open.{is_done}
use Rattle.live_core.specs.Answers.{Gives}
use Rattle.live_core.specs.Calls.{fits, seat_of}
use Rattle.live_core.specs.Histories.{with_answer}
use Rattle.live_core.specs.Waits.{has_come}
use Rattle.live_core.specs.declared.call.Call.{Call}
use Rattle.live_core.specs.declared.live.LiveCore.{LiveCore}
use Rattle.live_core.specs.declared.unmade.Unmade.{Unmade}
use Rattle.live_roster.specs.StandsFor.{StandsFor}
use Rattle.live_roster.specs.Wakes.{after_wake, wakes_well}
use Rattle.live_roster.specs.declared.note.Note.{Note}
use Rattle.live_roster.specs.declared.note.Note.TheVariants as notes_of
use Rattle.live_roster.specs.declared.rest.Unrested.{Unrested}
use Rattle.live_roster.specs.declared.rest.Unrested.TheVariants.{Misuse, HasCome}
use Rattle.live_roster.specs.declared.roster.LiveRoster.{LiveRoster}
use Rattle.live_roster.specs.declared.wake.Wake.{Wake}
use Rattle.live_roster.specs.declared.wake.Wake.TheVariants as wakes

-- the notes of the roster, of which one seat has this note
abbrev pub noted_as : Note → ℕ → LiveRoster → List Note
noted_as note seat roster = slice_set roster.notes.items seat note

-- those who are named are woken well, and noted; no wake is lost; and the core is this one, and the driver rests for this
pub record HasRoused (plan : Plan) (past : List Entry) (core : LiveCore) (wish : Call) (notes : List Note) (after : LiveRoster) (wake : Wake) : Type 0 where
  pub core_is : after.core ≡ core
  pub wish_is : after.wish ≡ wish
  pub noted : after.notes.items ≡ after_wake wake notes
  pub needed : wakes_well plan past wish notes wake
  pub stands : StandsFor plan past after

-- the call was made of the core, the seat that made it is awake, and whoever is named is woken by the past with the entry
pub record CallGives (plan : Plan) (past : List Entry) (by_seat : ℕ) (call : Call) (before after : LiveRoster) (answer : Result Kind Unmade)
    (wake : Wake) : Type 0 where
  pub made : Gives plan past call before.core after.core answer
  pub roused : HasRoused plan (with_answer past call answer) after.core before.wish (noted_as notes_of.Awake by_seat before) after wake

-- the driver rests for the call, if it is the driver's
abbrev pub wish_after : Call → Call → Call
wish_after call wish = if seat_of call == 0 then call else wish

-- whether a seat that asks to rest until a call is answered does
abbrev pub RestGives : Plan → List Entry → Call → LiveRoster → LiveRoster → Result ℕ Unrested → Wake → Type 0
RestGives plan past call before after (Ok seat) wake =
    (fits plan past call ≡ true) × ((is_done (phase_of past) || has_come plan past call) ≡ false) × (seat ≡ seat_of call)
    × HasRoused plan past before.core (wish_after call before.wish) (noted_as notes_of.Resting seat before) after wake
RestGives plan past call before after (Err HasCome) wake =
    (fits plan past call ≡ true) × ((is_done (phase_of past) || has_come plan past call) ≡ true)
    × HasRoused plan past before.core before.wish (noted_as notes_of.Awake (seat_of call) before) after wake
RestGives plan past call before after (Err Misuse) wake = (fits plan past call ≡ false) × (after ≡ before) × (wake ≡ wakes.Nobody)
