-- Who rests, and who is woken (this project's own rules).
use Rattle.std.specs.Prelude.{◌≡◌, ℕ, ◌==◌, ◌≤◌, ◌+◌, ◌^◌, Bool, true, false, if◌then◌else◌, List, length, replicate, is_some, Some, slice_get, slice_set}
use Rattle.task_base.specs.Plan.{Plan}
use Rattle.task_base.specs.declared.entry.Entry.{Entry}
use Rattle.task_model.specs.Sources.{best_of}
use Rattle.hist_model.specs.Script.{is_finished}
use Rattle.pool_core.specs.Calls.{is_own}
use Rattle.env_core.specs.Waits.{may_go_on}
use Rattle.env_core.specs.Views.{EnvView}
use Rattle.env_roster.specs.declared.note.Note.{Note}
use Rattle.env_roster.specs.declared.note.Note.TheVariants as notes_of
use Rattle.env_roster.specs.declared.note.Wake.{Wake}
use Rattle.env_roster.specs.declared.note.Wake.TheVariants as wakes

-- the seat has something to do: the driver may go on with its action, or the worker may take a source
abbrev pub has_to_do : Plan → List Entry → ℕ → Bool
has_to_do script past seat = if seat == 0 then may_go_on script past else is_some (best_of script past seat)

-- the seat is a worker's, and the best source that it may take is one that no other seat may
abbrev pub has_own : Plan → List Entry → ℕ → Bool
has_own script past seat = if seat == 0 then false else is_own (best_of script past seat)

-- the one or the other
abbrev pub has_work : Plan → List Entry → Bool → ℕ → Bool
has_work script past own = if own then has_own script past else has_to_do script past

-- the seat has this note, and work
pub record HasWorkAt (work : ℕ → Bool) (notes : List Note) (note : Note) (seat : ℕ) : Type 0 where
  pub noted : slice_get notes seat ≡ Some note
  pub has : work seat ≡ true

-- some seat with this note has work
pub record SomeHaveWork (work : ℕ → Bool) (notes : List Note) (note : Note) : Type 0 where
  pub seat : ℕ
  pub at : HasWorkAt work notes note seat

-- no seat with this note has
abbrev pub NobodyHasWork : (ℕ → Bool) → List Note → Note → Type 0
NobodyHasWork work notes note = (seat : ℕ) → HasWorkAt work notes note seat → ⊥

-- where a seat that rests has work, a seat that has was woken and hasn't held the turn since
abbrev pub IsHandedOn : (ℕ → Bool) → List Note → Type 0
IsHandedOn work notes = (seat : ℕ) → HasWorkAt work notes notes_of.Resting seat → SomeHaveWork work notes notes_of.Woken

-- nobody rests
abbrev pub NobodyRests : List Note → Type 0
NobodyRests notes = (seat : ℕ) → slice_get notes seat ≡ Some notes_of.Resting → ⊥

-- the notes are those of seats, whose numbers have 32 bits, and where this is false nobody rests
pub record AreNotes (notes : List Note) (some_rest : Bool) : Type 0 where
  pub few : length notes ≤ 2 ^ 32
  pub nobody : some_rest ≡ false → NobodyRests notes

-- no wake is lost: all work is handed on, and that of a seat's own besides, to one who has such; and where the script is finished
-- nobody rests
pub record NoWakeIsLost (script : Plan) (past : List Entry) (notes : List Note) : Type 0 where
  pub all_work : IsHandedOn (has_to_do script past) notes
  pub own_work : IsHandedOn (has_own script past) notes
  pub all_woken : is_finished script past ≡ true → NobodyRests notes

-- who is to be woken rests and has something to do; and where that is no work of its own, nobody that was woken before has anything to do
pub record IsNeeded (script : Plan) (past : List Entry) (notes : List Note) (seat : ℕ) : Type 0 where
  pub at : HasWorkAt (has_to_do script past) notes notes_of.Resting seat
  pub alone : has_own script past seat ≡ false → NobodyHasWork (has_to_do script past) notes notes_of.Woken

-- to wake the seat is needed, and where it is woken all is handed on
pub record IsPick (script : Plan) (past : List Entry) (notes : List Note) (seat : ℕ) : Type 0 where
  pub needed : IsNeeded script past notes seat
  pub all_work : IsHandedOn (has_to_do script past) (slice_set notes seat notes_of.Woken)
  pub own_work : IsHandedOn (has_own script past) (slice_set notes seat notes_of.Woken)

-- the notes, with those that are woken
abbrev pub after_wake : Wake → List Note → List Note
after_wake wakes.Nobody notes = notes
after_wake (wakes.One seat) notes = slice_set notes seat notes_of.Woken
after_wake wakes.Everyone notes = replicate (length notes) notes_of.Woken

-- one is woken only where that is needed, and everyone only where the script is finished
abbrev pub wakes_well : Plan → List Entry → List Note → Wake → Type 0
wakes_well script past notes wakes.Nobody = Unit {0}
wakes_well script past notes (wakes.One seat) = IsNeeded script past notes seat
wakes_well script past notes wakes.Everyone = is_finished script past ≡ true

-- whoever is named is a seat of so many workers, or the driver
abbrev pub names_seats : ℕ → Wake → Type 0
names_seats workers (wakes.One seat) = seat ≤ workers
names_seats workers wake = Unit {0}

-- what contracts see of an environment with the notes of its seats
pub record RosterView : Type 0 where
  pub env : EnvView
  pub notes : List Note

-- each seat has a note, and no wake is lost
pub record IsKept (env : EnvView) (notes : List Note) : Type 0 where
  pub all : length notes ≡ env.script.workers + 1
  pub kept : NoWakeIsLost env.script env.history notes
