-- What contracts see of a turnstile and of its seats (this project's own rules).
use Rattle.std.specs.Prelude.{◌≡◌, ℕ, ◌+◌, Bool, false, List, [], ◌∷◌, ◌++◌}
use Rattle.task_base.specs.Plan.{Plan}
use Rattle.task_base.specs.declared.entry.Entry.{Entry}
use Rattle.hist_model.specs.Allowed.{IsAllowed}
use Rattle.hist_model.specs.Views.{IsPrefix, own_entries}
use Rattle.atomic_table.specs.Seated.{TableId}
use Rattle.task_base.specs.Entries.{starts_shutdown}

-- which turnstile: its table, the script that it began with, and whether it stands; one that was closed stands no more
pub record TurnKey : Type 0 where
  pub table : TableId
  pub basis : Plan
  pub stands : Bool

-- the key of a turnstile that was closed
abbrev pub closed : TurnKey → TurnKey
closed key = record { table = key.table; basis = key.basis; stands = false }

-- a seat: its turnstile, its number, the beginning of the history that it has seen, its own entries, at seat 0 how many seats were made,
-- how many loads it made and which word the last of them read, how many turns it took, and whether it is told of a shutdown
pub record SeatView : Type 0 where
  pub of : TurnKey
  pub number : ℕ
  pub seen : List Entry
  pub mine : List Entry
  pub made : ℕ
  pub loads : ℕ
  pub last : ℕ
  pub turns : ℕ
  pub told : Bool

-- the same seat, with this history seen
pub record Reseated (old : SeatView) (history : List Entry) (new : SeatView) : Type 0 where
  pub of_is : new.of ≡ old.of
  pub number_is : new.number ≡ old.number
  pub seen_is : new.seen ≡ history
  pub made_is : new.made ≡ old.made
  pub loads_is : new.loads ≡ old.loads
  pub last_is : new.last ≡ old.last

-- the later history is the held one with one entry of the seat that is allowed after it
pub record EntersOne (basis : Plan) (number : ℕ) (held later : List Entry) : Type 0 where
  pub entry : Entry
  pub later_is : later ≡ held ++ entry ∷ []
  pub seat_is : entry.seat ≡ number
  pub allowed : IsAllowed basis held entry

-- the entry that the later history has beyond the held one is a shutdown, or is none
abbrev pub EntersShutdown : Bool → List Entry → List Entry → Type 0
EntersShutdown shut held later = (e : Entry) → later ≡ held ++ e ∷ [] → starts_shutdown e.kind ≡ shut

-- these are the seats of the turnstile with this number and those that follow it, in rising order
abbrev pub Rising : TurnKey → ℕ → List SeatView → Type 0
Rising key number [] = Unit {0}
Rising key number (seat ∷ rest) = (seat.of ≡ key) × (seat.number ≡ number) × Rising key (number + 1) rest

-- the history begins with what the seat has seen, and the seat's own entries are those of its number
pub record Tells (history : List Entry) (seat : SeatView) : Type 0 where
  pub begins : IsPrefix seat.seen history
  pub own : own_entries seat.number history ≡ seat.mine
