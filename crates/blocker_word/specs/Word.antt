-- What the word counts: the rule that holds between any two steps (this project's own rule, after the state of Chromium's `task_tracker.cc`).
-- The word is four times a count, plus 1 from the start of shutdown on, plus 2 once shutdown is done.
use Rattle.std.specs.Prelude.{◌≡◌, ℕ, ◌+◌, ◌*◌, ◌/◌, ◌%◌, ◌≤◌, List}
use Rattle.std.specs.List.{All, sum_by}
use Rattle.blocker_word.specs.Roles.{one_if_item, one_if_refused, one_if_control, one_if_started, one_if_done, least_width}
use Rattle.blocker_word.specs.declared.view.View.{View}

-- the number of live items
abbrev pub live_items : List View → ℕ
live_items tokens = sum_by (λ v. one_if_item v.role) tokens

-- the number of refused begins that have not taken their count back
abbrev pub refused_begins : List View → ℕ
refused_begins tokens = sum_by (λ v. one_if_refused v.role) tokens

-- the number of tokens with which shutdown can start
abbrev pub controls : List View → ℕ
controls tokens = sum_by (λ v. one_if_control v.role) tokens

-- the number of those with which it was started and is not done
abbrev pub starts : List View → ℕ
starts tokens = sum_by (λ v. one_if_started v.role) tokens

-- the number of those with which it is done
abbrev pub dones : List View → ℕ
dones tokens = sum_by (λ v. one_if_done v.role) tokens

-- the width of all tokens together
abbrev pub widths : List View → ℕ
widths tokens = sum_by (λ v. v.width) tokens

-- the start bit and the done bit, which are set as long as tokens say that shutdown was started and is done
abbrev pub bits : List View → ℕ
bits tokens = starts tokens + dones tokens + 2 * dones tokens

-- the bits of a word
abbrev pub bits_of : ℕ → ℕ
bits_of word = word % 4

-- the count of a word
abbrev pub count_of : ℕ → ℕ
count_of word = word / 4

-- the done bit of the word is set
abbrev pub HasDoneBit : ℕ → Type 0
HasDoneBit word = 2 ≤ bits_of word

-- what holds of each token
pub record FitsToken (bits : ℕ) (v : View) : Type 0 where
  -- it has the width that it needs
  pub room : least_width v.role ≤ v.width
  -- the bits that it met are still set
  pub rises : bits_of v.met ≤ bits

-- the word counts these tokens
pub record IsCounted (word : ℕ) (tokens : List View) : Type 0 where
  -- it is four times the live items and the refused begins, plus the bits
  pub word_is : word ≡ 4 * (live_items tokens + refused_begins tokens) + bits tokens
  -- one token makes the steps of shutdown
  pub one : controls tokens + starts tokens + dones tokens ≡ 1
  -- a begin is refused only once shutdown is done
  pub before_done : dones tokens ≡ 0 → refused_begins tokens ≡ 0
  -- once shutdown is done, no item is live
  pub after_done : dones tokens ≡ 1 → live_items tokens ≡ 0
  -- the widths fit 32 bits, so no sum in the word wraps
  pub widths_fit : widths tokens ≤ 4294967295
  -- what holds of each token
  pub each : All (FitsToken (bits tokens)) tokens
