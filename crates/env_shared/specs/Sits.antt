-- A seat of a shared environment, at a desk.
use Rattle.std.specs.Prelude.{◌≡◌, ◌≤◌, Bool, true, false, [], Option, Some, None}
use Rattle.hist_model.specs.Views.{own_entries}
use Rattle.turn_table.specs.Seats.{TurnKey, SeatView}
use Rattle.env_crew.specs.Desk.{DeskView}

-- what is known of each seat at a desk: its shared environment stands, and its own entries are those of its number in what it has seen
pub record Seated (seat : SeatView) : Type 0 where
  pub stands : seat.of.stands ≡ true
  pub own : own_entries seat.number seat.seen ≡ seat.mine

-- the seat is of the shared environment, one of the script's, and at a desk
pub record Sits (key : TurnKey) (seat : SeatView) : Type 0 where
  pub of_is : seat.of ≡ key
  pub known : seat.number ≤ key.basis.workers
  pub seated : Seated seat

-- a seat at a desk, and whether it was noted by its last hold as one that rests, and hasn't slept since
pub record SitterView : Type 0 where
  pub seat : SeatView
  pub rests : Bool

-- the seat is there, and sits at a desk of the shared environment
abbrev pub IsSat : TurnKey → Option SitterView → Type 0
IsSat key (Some sitter) = Sits key sitter.seat
IsSat key None = ⊥

-- the seat that is there
abbrev pub sitter_there : TurnKey → Option SitterView → SitterView
sitter_there key (Some sitter) = sitter
sitter_there key None = record {
  seat = record { of = key; number = 0; seen = []; mine = []; made = 0; loads = 0; last = 0; turns = 0; told = false };
  rests = false;
}

-- what contracts see of the desk at which the seat sits
abbrev pub desk_of : SitterView → DeskView
desk_of sitter = record {
  script = sitter.seat.of.basis;
  seat = sitter.seat.number;
  origin = record { table = sitter.seat.of.table; made = sitter.seat.made };
  seen = sitter.seat.seen;
  turns = sitter.seat.turns;
  loads = sitter.seat.loads;
  last = sitter.seat.last;
  told = sitter.seat.told;
  rests = sitter.rests;
}
