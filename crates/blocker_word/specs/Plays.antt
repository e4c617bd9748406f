-- What each step on the word tells the token that makes it (this project's own rules).
use Rattle.std.specs.Prelude.{◌≡◌, ◌≢◌, ℕ, ◌+◌, ◌≤◌}
use mathlib.Core.Option.{Option, none, some}
use Rattle.atomic_table.specs.Table.{Me}
use Rattle.blocker_word.specs.Roles.{Role, item, refused, idle, started, done}
use Rattle.blocker_word.specs.Word.{HasDoneBit, bits_of}
use Rattle.blocker_word.specs.Tokens.{IsWord}
use Rattle.blocker_word.specs.declared.view.View.{View}

-- a token with its view, at a table without slots
abbrev pub Sat : Type 0
Sat = Me ℕ View

-- the token has this role after one more step, which found this word
abbrev pub met_as : Role → View → ℕ → View
met_as role v found = record v { role = role; tries = v.tries + 1; met = found }

-- what a step that a token counts tells of the word that it found: the rule allows it, and it has the bits that were met before
pub record Found (m : Sat) (found : ℕ) : Type 0 where
  pub counted : IsWord found
  pub rises : bits_of m.0.met ≤ bits_of found

-- a begin: it is refused exactly where the word has the done bit
pub record Began (m : Sat) (found : ℕ) (n : Sat) : Type 0 where
  pub found_is : Found m found
  pub given : ¬ HasDoneBit found → n ≡ (met_as item m.0 found, m.1)
  pub refused_is : HasDoneBit found → n ≡ (met_as refused m.0 found, m.1)

-- an end, or a refused begin taking its count back
abbrev pub ended : Sat → Sat → Type 0
ended m n = n ≡ (record m.0 { role = idle }, m.1)

-- the start: no bit was set before
pub record StartedAt (m : Sat) (found : ℕ) (n : Sat) : Type 0 where
  pub found_is : Found m found
  pub first : bits_of found ≡ 0
  pub started_is : n ≡ (met_as started m.0 found, m.1)

-- a try for done: the start bit alone was set, and shutdown is done exactly where nothing was counted
pub record TriedAt (m : Sat) (found : ℕ) (n : Sat) : Type 0 where
  pub found_is : Found m found
  pub between : bits_of found ≡ 1
  pub won : found ≡ 1 → n ≡ (met_as done m.0 found, m.1)
  pub lost : found ≢ 1 → n ≡ (met_as started m.0 found, m.1)

-- a look
pub record TokenLooked (m : Sat) (found : ℕ) (n : Sat) : Type 0 where
  pub found_is : Found m found
  pub seen : n ≡ (met_as m.0.role m.0 found, m.1)

-- the width that the step says is offered, which the next split gives
abbrev pub offered : Option ℕ → Sat → ℕ → Sat → Type 0
offered (some give) m found n = n ≡ (record m.0 { offered = give }, m.1)
offered none m found n = Unit {0}

-- a token learns that its width fits 32 bits
abbrev pub weighed : Sat → ℕ → Sat → Type 0
weighed m found n = (n ≡ m) × (m.0.width ≤ 4294967295)
