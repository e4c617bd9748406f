-- Who rests, and who is woken (this project's own rules), as in the environment of a script.
use Rattle.std.specs.Prelude.{◌≡◌, ℕ, ◌==◌, Bool, true, false, if◌then◌else◌, ◌&&◌, nat_le, List, length, replicate, Some, slice_get, slice_set}
use Rattle.task_base.specs.Plan.{Plan}
use Rattle.task_base.specs.declared.entry.Entry.{Entry}
use Rattle.task_model.specs.Phase.{phase_of}
use Rattle.task_model.specs.Sources.{best_of}
use Rattle.hist_model.specs.Open.{is_done}
use Rattle.pool_core.specs.Calls.{is_own}
use Rattle.live_core.specs.Waits.{has_come}
use Rattle.live_core.specs.declared.call.Call.{Call}
use Rattle.live_core.specs.declared.call.Call.TheVariants as calls
use Rattle.live_roster.specs.declared.note.Note.{Note}
use Rattle.live_roster.specs.declared.note.Note.TheVariants as notes_of
use Rattle.live_roster.specs.declared.wake.Wake.{Wake}
use Rattle.live_roster.specs.declared.wake.Wake.TheVariants as wakes

-- what the seat rests for has come: the driver's wish, or, for a worker, a source that it may take
abbrev pub has_to_do : Plan → List Entry → Call → ℕ → Bool
has_to_do plan past wish seat = if seat == 0 then has_come plan past wish else has_come plan past (calls.Take seat)

-- it has come, and no other seat may have it: what the driver wished for, or a source that only this worker may take
abbrev pub has_own : Plan → List Entry → Call → ℕ → Bool
has_own plan past wish seat = if seat == 0 then has_come plan past wish else nat_le seat plan.workers && is_own (best_of plan past seat)

-- the one or the other
abbrev pub has_work : Plan → List Entry → Call → Bool → ℕ → Bool
has_work plan past wish own = if own then has_own plan past wish else has_to_do plan past wish

-- the seat has this note, and work
pub record HasWorkAt (work : ℕ → Bool) (notes : List Note) (note : Note) (seat : ℕ) : Type 0 where
  pub noted : slice_get notes seat ≡ Some note
  pub has : work seat ≡ true

-- some seat with this note has work
pub record SomeHaveWork (work : ℕ → Bool) (notes : List Note) (note : Note) : Type 0 where
  pub seat : ℕ
  pub at : HasWorkAt work notes note seat

-- no seat with this note has
abbrev pub NobodyHasWork : (ℕ → Bool) → List Note → Note → Type 0
NobodyHasWork work notes note = (seat : ℕ) → HasWorkAt work notes note seat → ⊥

-- where a seat that rests has work, a seat that has was woken and hasn't held the lock since
abbrev pub IsHandedOn : (ℕ → Bool) → List Note → Type 0
IsHandedOn work notes = (seat : ℕ) → HasWorkAt work notes notes_of.Resting seat → SomeHaveWork work notes notes_of.Woken

-- nobody rests
abbrev pub NobodyRests : List Note → Type 0
NobodyRests notes = (seat : ℕ) → slice_get notes seat ≡ Some notes_of.Resting → ⊥

-- all that seats which rest have to do is handed on, and what is a seat's own besides, to one that has such
pub record IsAllHandedOn (plan : Plan) (past : List Entry) (wish : Call) (notes : List Note) : Type 0 where
  pub all_work : IsHandedOn (has_to_do plan past wish) notes
  pub own_work : IsHandedOn (has_own plan past wish) notes

-- no wake is lost: all work is handed on, and where shutdown is done nobody rests
pub record NoWakeIsLost (plan : Plan) (past : List Entry) (wish : Call) (notes : List Note) : Type 0 where
  pub handed : IsAllHandedOn plan past wish notes
  pub all_woken : is_done (phase_of past) ≡ true → NobodyRests notes

-- who is to be woken rests and has something to do; and where that is not its own, nobody that was woken before has anything to do
pub record IsNeeded (plan : Plan) (past : List Entry) (wish : Call) (notes : List Note) (seat : ℕ) : Type 0 where
  pub at : HasWorkAt (has_to_do plan past wish) notes notes_of.Resting seat
  pub alone : has_own plan past wish seat ≡ false → NobodyHasWork (has_to_do plan past wish) notes notes_of.Woken

-- to wake the seat is needed, and where it is woken all is handed on
pub record IsPick (plan : Plan) (past : List Entry) (wish : Call) (notes : List Note) (seat : ℕ) : Type 0 where
  pub needed : IsNeeded plan past wish notes seat
  pub handed : IsAllHandedOn plan past wish (slice_set notes seat notes_of.Woken)

-- the notes, with those that are woken
abbrev pub after_wake : Wake → List Note → List Note
after_wake wakes.Nobody notes = notes
after_wake (wakes.One seat) notes = slice_set notes seat notes_of.Woken
after_wake wakes.Everyone notes = replicate (length notes) notes_of.Woken

-- one is woken only where that is needed, and everyone only where shutdown is done
abbrev pub wakes_well : Plan → List Entry → Call → List Note → Wake → Type 0
wakes_well plan past wish notes wakes.Nobody = Unit {0}
wakes_well plan past wish notes (wakes.One seat) = IsNeeded plan past wish notes seat
wakes_well plan past wish notes wakes.Everyone = is_done (phase_of past) ≡ true
