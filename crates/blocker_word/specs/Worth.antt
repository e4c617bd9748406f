-- What the word is worth (this project's own rules).
use Rattle.std.specs.Prelude.{◌≡◌, ℕ, List}
use mathlib.Core.Option.{some}
use lib.ListN.{get_elem?}
use Rattle.blocker_word.specs.Roles.{refused, done}
use Rattle.blocker_word.specs.Word.{live_items, refused_begins, count_of, HasDoneBit}
use Rattle.blocker_word.specs.Plays.{Sat, Began}
use Rattle.blocker_word.specs.declared.view.View.{View}

-- what a word that counts these tokens says of the live items
pub record CountsLive (word : ℕ) (tokens : List View) : Type 0 where
  -- without the done bit its count is that of the live items
  pub before : ¬ HasDoneBit word → count_of word ≡ live_items tokens
  -- a word at which shutdown becomes done counts none
  pub at_done : word ≡ 1 → live_items tokens ≡ 0
  -- with the done bit none is live
  pub after : HasDoneBit word → live_items tokens ≡ 0
  -- what is counted then are refused begins
  pub shown : HasDoneBit word → count_of word ≡ refused_begins tokens
  -- and each begin that finds the word is refused
  pub refuses : HasDoneBit word → (m n : Sat) → Began m word n → n.0.role ≡ refused
  -- where a token says that shutdown is done, the word has the done bit
  pub stays : (id : ℕ) (v : View) → get_elem? tokens id ≡ some v → v.role ≡ done → HasDoneBit word
