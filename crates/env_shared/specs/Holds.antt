-- One hold of the turn, by a seat at a desk.
use Rattle.std.specs.Prelude.{◌≡◌, ℕ, ◌+◌, Bool, List, Option, Some, None, slice_get}
use Rattle.task_base.specs.declared.entry.Entry.{Entry}
use Rattle.task_base.specs.declared.entry.Kind.{Kind}
use Rattle.task_base.specs.Entries.{starts_shutdown}
use Rattle.hist_model.specs.Legal.{IsLegal}
use Rattle.hist_model.specs.Views.{IsPrefix, own_entries}
use Rattle.turn_table.specs.Seats.{TurnKey, SeatView}
use Rattle.env_core.specs.Views.{EnvView, Enters}
use Rattle.env_roster.specs.declared.note.Note.{Note}
use Rattle.env_roster.specs.declared.note.Note.TheVariants as notes_of
use Rattle.env_shared.specs.Sits.{Sits, SitterView}

-- a hold: the shared environment, the seat at its desk that took the turn, as it was before, the history that it found, and whether the
-- seat is noted as one that will rest
pub record HoldView : Type 0 where
  pub of : TurnKey
  pub sitter : SitterView
  pub past : List Entry
  pub rests : Bool

-- the environment as it was found
abbrev pub found : HoldView → EnvView
found h = record { script = h.of.basis; history = h.past }

-- the seat, which sat at a desk, holds the turn, and has seen what it found
pub record HasTurn (key : TurnKey) (seat held : SeatView) : Type 0 where
  pub sits : Sits key seat
  pub of_is : held.of ≡ key
  pub number_is : held.number ≡ seat.number
  pub made_is : held.made ≡ seat.made
  pub turned : held.turns ≡ seat.turns + 1
  pub loads_is : held.loads ≡ seat.loads
  pub last_is : held.last ≡ seat.last
  pub told_is : held.told ≡ seat.told
  pub begins : IsPrefix seat.seen held.seen
  pub own : own_entries seat.number held.seen ≡ own_entries seat.number seat.seen
  pub legal : IsLegal key.basis held.seen

-- the environment is as it was found, with one more entry of the seat, and this says whether that is a shutdown
pub record HasEntered (shut : Bool) (h : HoldView) (env : EnvView) : Type 0 where
  pub before : EnvView
  pub number : ℕ
  pub kind : Kind
  pub enters : Enters before env number kind
  pub found_is : before ≡ found h
  pub number_is : number ≡ h.sitter.seat.number
  pub shut_is : starts_shutdown kind ≡ shut

-- the seat's note: where a seat was noted as one that rests it was this seat, and it does; else it is awake
abbrev pub IsNoted : ℕ → List Note → Option ℕ → Type 0
IsNoted number notes (Some noted) = (noted ≡ number) × (slice_get notes number ≡ Some notes_of.Resting)
IsNoted number notes None = slice_get notes number ≡ Some notes_of.Awake
