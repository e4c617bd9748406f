-- What holds of the turn: the rule of the table (this project's own rule).
-- The first word is twice the number of entries, and one more while the turn is held. The second word is the next number of a seat. The third
-- word is the place of a shutdown and one more, or 0. The one slot has the value that keeps the history, or is out with the seat that holds the turn.
use Rattle.std.specs.Prelude.{◌≡◌, ◌≢◌, ℕ, ◌+◌, ◌-◌, ◌*◌, ◌^◌, ◌<◌, ◌≤◌, Bool, true, false, List, [], ◌∷◌, length, Option, Some}
use Rattle.std.specs.List.{AllByRecursion}
use mathlib.Core.Option as maybe
use lib.ListN.{get_elem?}
use Rattle.atomic_table.specs.Table.{State}
use Rattle.task_base.specs.Plan.{Plan}
use Rattle.task_base.specs.declared.entry.Entry.{Entry}
use Rattle.hist_model.specs.Legal.{IsLegal}
use Rattle.hist_model.specs.Views.{IsPrefix, own_entries}
use Rattle.turn_table.specs.Places.{Place, not_given, joined, at, Kept, AreApart}
use Rattle.turn_table.specs.Shutdowns.{IsShutdownAt}
use Rattle.turn_table.specs.declared.view.View.{View}

-- the part of the first word that says whether the turn is held
abbrev pub held_bit : Bool → ℕ
held_bit true = 1
held_bit false = 0

-- what is known of a seat that was joined
pub record KeptFits (log : List Entry) (place : ℕ → Place) (k : Kept) : Type 0 where
  -- its number is that of no live seat
  pub placed : place k.number ≡ joined
  -- what it had seen begins the history
  pub begins : IsPrefix k.seen log
  -- its own entries are those of its number
  pub own : own_entries k.number log ≡ k.mine

-- what is known of a live seat, whose view is the one at the place `id`
pub record SeatFits (basis : Plan) (log : List Entry) (made front : ℕ) (held : Bool) (holder : ℕ) (place : ℕ → Place) (id : ℕ) (v : View) : Type 0 where
  -- its script is the turnstile's
  pub basis_is : v.basis ≡ basis
  -- no other live seat has its number
  pub placed : place v.number ≡ at id
  -- what it has seen begins the history
  pub begins : IsPrefix v.seen log
  -- its own entries are those of its number in the history
  pub own : own_entries v.number log ≡ v.mine
  -- where it holds the turn the word says so, it is the holder, and the history is what it has seen
  pub holding : v.holds ≡ true → (held ≡ true) × (id ≡ holder) × (v.seen ≡ log)
  -- where it is told, the third word is not 0
  pub told : v.told ≡ true → front ≢ 0
  -- seat 0 counts the seats that were made
  pub made_is : v.number ≡ 0 → v.made ≡ made
  -- a number that seat 0 has drawn and not yet given to a seat is below the next number, and nobody has it
  pub drawn : v.number ≡ 0 → 0 < v.drawn → (v.drawn < made) × (place v.drawn ≡ not_given)
  -- the same holds of the seats that were joined to it, and their numbers differ from one another
  pub kept : AllByRecursion (KeptFits log place) v.kept
  pub apart : AreApart v.kept

-- the seat that holds the turn
pub record Holder (views : List View) (holder : ℕ) : Type 0 where
  pub view : View
  pub stands : get_elem? views holder ≡ maybe.some view
  pub live : view.live ≡ true
  pub holds : view.holds ≡ true

-- the value is in the slot, keeps this history, and has the turnstile's script
pub record AtHome {V : Type 0} (history : V → List Entry) (basis_of : V → Plan) (basis : Plan) (log : List Entry)
    (homes : List (maybe.Option (Option V))) : Type 0 where
  pub value : V
  pub homes_are : homes ≡ maybe.some (Some value) ∷ []
  pub history_is : history value ≡ log
  pub basis_is : basis_of value ≡ basis

-- what holds between any two steps on the words, with the one history as `log`
pub record TurnHolds {V : Type 0} (history : V → List Entry) (basis_of : V → Plan) (basis : Plan) (s : State (Option V) View) : Type 0 where
  pub log : List Entry
  pub made : ℕ
  pub front : ℕ
  pub held : Bool
  pub holder : ℕ
  pub place : ℕ → Place
  -- the first word is twice the number of entries and the bit that says whether the turn is held, the second is the number of seats that were made
  pub words_are : s.words ≡ (2 * length log + held_bit held) ∷ made ∷ front ∷ []
  -- while nobody holds the turn, the slot has the value, with this history
  pub home : held ≡ false → AtHome history basis_of basis log s.homes
  -- while the turn is held, the slot is out
  pub out : held ≡ true → s.homes ≡ maybe.none ∷ []
  -- while the turn is held, a live seat holds it
  pub holder_is : held ≡ true → Holder s.views holder
  -- the history is legal for the script
  pub legal : IsLegal basis log
  -- its places are numbers of 32 bits
  pub room : length log < 2 ^ 32
  -- so are the numbers of seats
  pub few : made < 2 ^ 32
  -- a number from the next one on is given to no seat
  pub not_made : (n : ℕ) → made ≤ n → place n ≡ not_given
  -- no entry has a number that is given to no seat
  pub unused : (n : ℕ) → place n ≡ not_given → own_entries n log ≡ []
  -- where the third word is not 0, it is one more than the place of a shutdown
  pub shutdown : front ≢ 0 → IsShutdownAt log (front - 1)
  -- what is known of each live seat; nothing is said of a spent view
  pub seats : (id : ℕ) (v : View) → get_elem? s.views id ≡ maybe.some v → v.live ≡ true → SeatFits basis log made front held holder place id v
