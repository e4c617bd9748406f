-- The views of seats, and how splitting, joining and closing make them (this project's own rules).
use Rattle.std.specs.Prelude.{◌≡◌, ℕ, ◌+◌, Bool, true, false, List, [], ◌∷◌}
use Rattle.task_base.specs.Plan.{Plan}
use Rattle.task_base.specs.declared.entry.Entry.{Entry}
use Rattle.atomic_table.specs.Seated.{TableId}
use Rattle.hist_model.specs.Legal.{IsLegal}
use Rattle.hist_model.specs.Views.{own_entries}
use Rattle.turn_table.specs.Places.{Kept}
use Rattle.turn_table.specs.Seats.{TurnKey, SeatView}
use Rattle.turn_table.specs.Shutdowns.{has_shutdown}
use Rattle.turn_table.specs.declared.view.View.{View}

-- a seat that knows this beginning of the history, and has done nothing
abbrev pub fresh : Plan → ℕ → ℕ → List Entry → Bool → View
fresh basis number made seen told = record {
  basis = basis;
  number = number;
  seen = seen;
  mine = [];
  made = made;
  drawn = 0;
  kept = [];
  loads = 0;
  last = 0;
  turns = 0;
  holds = false;
  told = told;
  live = true;
}

-- seat 0 as it is made
abbrev pub first_view : Plan → View
first_view basis = fresh basis 0 1 [] false

-- seat 0 with the next number drawn
abbrev pub with_draw : View → View
with_draw v = record v { made = v.made + 1; drawn = v.made }

-- what seat 0 keeps as it splits: the number that was drawn is given
abbrev pub after_split : View → View
after_split v = record v { drawn = 0 }

-- the seat that is split off: it has the number that was drawn, and sees what seat 0 sees
abbrev pub split_off : View → View
split_off v = fresh v.basis v.drawn 0 v.seen v.told

-- a spent view that looks like the seat
abbrev pub spent_copy : View → View
spent_copy v = record v { kept = []; live = false }

-- what seat 0 keeps of a seat that is joined
abbrev pub kept_of : View → Kept
kept_of v = record { number = v.number; seen = v.seen; mine = v.mine }

-- the same, of what contracts see
abbrev pub kept_seat : SeatView → Kept
kept_seat seat = record { number = seat.number; seen = seat.seen; mine = seat.mine }

-- seat 0 with one more seat kept
abbrev pub with_kept : View → View → View
with_kept v other = record v { kept = kept_of other ∷ v.kept }

-- the script of a spent view
abbrev pub no_script : Plan
no_script = record {
  workers = 0;
  foreground = 0;
  foreground_best = 0;
  background = 0;
  threshold = 0;
  runners = [];
  queues = [];
  tasks = [];
  jobs = [];
  actions = [];
  is_open = false;
}

-- the view that a joined seat leaves
abbrev pub spent : View
spent = spent_copy (first_view no_script)

-- which turnstile a seat of this table with this view is of: one that stands, unless the view is spent
abbrev pub key_of : TableId → View → TurnKey
key_of table v = record { table = table; basis = v.basis; stands = v.live }

-- what contracts see of a seat with this view
abbrev pub seat_view : TableId → View → SeatView
seat_view table v = record {
  of = key_of table v;
  number = v.number;
  seen = v.seen;
  mine = v.mine;
  made = v.made;
  loads = v.loads;
  last = v.last;
  turns = v.turns;
  told = v.told;
}

-- a seat that has entered a shutdown is told of it
abbrev pub KnowsItsOwn : View → Type 0
KnowsItsOwn v = has_shutdown v.mine ≡ true → v.told ≡ true

-- the seat's own entries are those of its number in what it has seen
abbrev pub SeesItsOwn : View → Type 0
SeesItsOwn v = own_entries v.number v.seen ≡ v.mine

-- the view of the seat that holds the turn: what it has seen is legal, and its own entries are those of its number
pub record IsHeld (v : View) : Type 0 where
  pub holds : v.holds ≡ true
  pub kept : v.kept ≡ []
  pub own : SeesItsOwn v
  pub legal : IsLegal v.basis v.seen
  pub told : KnowsItsOwn v
