-- What contracts see of a token, and how tokens are made, split and joined (this project's own rules).
use Rattle.std.specs.Prelude.{◌≡◌, ℕ, ◌+◌, ◌-◌, ◌≤◌, List}
use Rattle.atomic_table.specs.Seated.{TableId}
use Rattle.blocker_word.specs.Roles.{Role, idle, control, spent}
use Rattle.blocker_word.specs.Word.{IsCounted, bits_of}
use Rattle.blocker_word.specs.declared.view.View.{View}

-- a token: its word, the number of idle tokens that it may be split into (0 at those of shutdown), the number of its steps that
-- are begins, starts, tries for done or looks, and the word that the last of them found (0 before the first)
pub record TokenView : Type 0 where
  pub of : TableId
  pub width : ℕ
  pub tries : ℕ
  pub met : ℕ

-- what contracts see of a token of this table with this view
abbrev pub token_view : TableId → View → TokenView
token_view table v = record { of = table; width = v.width; tries = v.tries; met = v.met }

-- a number that the word can be: the rule holds of it and of some tokens
pub record IsWord (found : ℕ) : Type 0 where
  pub tokens : List View
  pub counted : IsCounted found tokens

-- the same token after one more step, whose word the rule allows, with the bits that the token met before
pub record Stepped (old new : TokenView) : Type 0 where
  pub of_is : new.of ≡ old.of
  pub width_is : new.width ≡ old.width
  pub tries_is : new.tries ≡ old.tries + 1
  pub counted : IsWord new.met
  pub rises : bits_of old.met ≤ bits_of new.met

-- a token that has done nothing
abbrev pub fresh_token : Role → ℕ → View
fresh_token role width = record {
  role = role;
  width = width;
  offered = 0;
  tries = 0;
  met = 0;
}

-- the token that a word is made with: that of shutdown, which has the width of all until the first idle token is split off
abbrev pub first_token : View
first_token = fresh_token control 4294967295

-- the token of shutdown without its width
abbrev pub without_width : View → View
without_width v = record v { width = 0 }

-- an idle token with all of the width
abbrev pub all_width : View → View
all_width v = fresh_token idle v.width

-- what a token keeps as it splits
abbrev pub kept_part : View → View
kept_part v = record v { width = v.width - v.offered; offered = 0 }

-- the token that is split off
abbrev pub given_part : View → View
given_part v = fresh_token idle v.offered

-- a token with the width of another added to its own
abbrev pub with_width : View → View → View
with_width v other = record v { width = v.width + other.width }

-- what a joined token leaves
abbrev pub spent_view : View
spent_view = fresh_token spent 0
