-- What each step on a word tells the seat that makes it (this project's own rules).
use Rattle.std.specs.Prelude.{◌≡◌, ◌≢◌, ℕ, ◌+◌, ◌-◌, ◌*◌, ◌/◌, ◌^◌, ◌<◌, true, false, List, [], ◌∷◌, length, Option, Some}
use Rattle.atomic_table.specs.Table.{Me}
use Rattle.task_base.specs.Plan.{Plan}
use Rattle.task_base.specs.declared.entry.Entry.{Entry}
use Rattle.hist_model.specs.Legal.{IsLegal}
use Rattle.hist_model.specs.Views.{IsPrefix, own_entries}
use Rattle.turn_table.specs.Shutdowns.{IsShutdownAt}
use Rattle.turn_table.specs.Views.{with_draw}
use Rattle.turn_table.specs.declared.view.View.{View}

-- a look: the history has as many entries as half of the word, and is seen
pub record Looked (old : View) (found : ℕ) (new : View) : Type 0 where
  pub same : new ≡ record old { seen = new.seen; loads = old.loads + 1; last = found }
  pub begins : IsPrefix old.seen new.seen
  pub counted : length new.seen ≡ found / 2
  pub own : own_entries old.number new.seen ≡ old.mine

-- a load of the third word: where it is 0 the seat is not told, and nothing is seen; else a shutdown stands at the place before it, which is seen
pub record FrontRead (old : View) (found : ℕ) (new : View) : Type 0 where
  pub none : found ≡ 0 → (old.told ≡ false) × (new ≡ record old { loads = old.loads + 1; last = found })
  pub same : found ≢ 0 → new ≡ record old { seen = new.seen; loads = old.loads + 1; last = found; told = true }
  pub begins : found ≢ 0 → IsPrefix old.seen new.seen
  pub stands : found ≢ 0 → IsShutdownAt new.seen (found - 1)
  pub own : found ≢ 0 → own_entries old.number new.seen ≡ old.mine

module _ {V : Type 0} where
  -- a number is drawn: the word was the number of seats that were made, seat 0 among them, and no entry that was seen has it
  abbrev pub drew : Me (Option V) View → ℕ → Me (Option V) View → Type 0
  drew m found n = (found ≡ m.0.made) × (0 < found) × (n ≡ (with_draw m.0, m.1)) × (own_entries m.0.made m.0.seen ≡ [])

  abbrev pub looked : Me (Option V) View → ℕ → Me (Option V) View → Type 0
  looked m found n = Looked m.0 found n.0 × (n.1 ≡ m.1)

  -- the turn was taken: the slot's value keeps the history, which is seen, and has what the seat knows of it
  pub record Grabbed (history : V → List Entry) (basis_of : V → Plan) (m n : Me (Option V) View) : Type 0 where
    pub value : V
    pub slot_is : n.1 ≡ (0, Some value) ∷ []
    pub view_is : n.0 ≡ record m.0 { seen = history value; turns = m.0.turns + 1; holds = true }
    pub basis_is : basis_of value ≡ m.0.basis
    pub begins : IsPrefix m.0.seen (history value)
    pub legal : IsLegal m.0.basis (history value)
    pub own : own_entries m.0.number (history value) ≡ m.0.mine
    pub room : length (history value) < 2 ^ 32

  -- a try for the turn: it is taken where the word was the one expected, and otherwise nothing changes
  abbrev pub tried : (V → List Entry) → (V → Plan) → ℕ → Me (Option V) View → ℕ → Me (Option V) View → Type 0
  tried history basis_of expected m found n = (found ≡ expected → Grabbed history basis_of m n) × (found ≢ expected → n ≡ m)

  -- an entry was made and the turn given back: the word was odd, and the value in the slot has the history with the entry
  abbrev pub entered : (V → List Entry) → Me (Option V) View → ℕ → Me (Option V) View → Type 0
  entered history m found n = (found ≡ 2 * length m.0.seen + 1) × (n.1 ≡ [])
      × ((value : V) → m.1 ≡ (0, Some value) ∷ [] → n.0 ≡ record m.0 { seen = history value; mine = own_entries m.0.number (history value); holds = false })

  -- the turn was given back without an entry
  abbrev pub backed : Me (Option V) View → ℕ → Me (Option V) View → Type 0
  backed m found n = n ≡ (record m.0 { holds = false }, [])

  -- the place of a shutdown was set, now or earlier
  abbrev pub front_set : Me (Option V) View → ℕ → Me (Option V) View → Type 0
  front_set m found n = n ≡ (record m.0 { told = true }, m.1)

  abbrev pub front_read : Me (Option V) View → ℕ → Me (Option V) View → Type 0
  front_read m found n = FrontRead m.0 found n.0 × (n.1 ≡ m.1)
