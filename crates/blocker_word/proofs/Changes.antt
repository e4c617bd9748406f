-- The word counts the tokens after one of them has changed.
-- Cited by `Plays`, `Steps`, `Widths`, `Worth`, `blocker_word.rt`.
use Rattle.std.proofs.Common.{◌≡◌, ℕ, ◌+◌, ◌-◌, ◌*◌, ◌/◌, ◌%◌, ◌^◌, ◌<◌, ◌≤◌, List, get_or, set, sym, subst, ap, arith}
use Rattle.std.specs.List.{All}
use Rattle.std.proofs.lemmas.List.Elements.{All-set}
use Rattle.std.specs.Int.Bits.{bit_and}
use Rattle.std.proofs.lemmas.Nat.Bits.{and_pow}
use mathlib.Core.Option.{some}
use lib.ListN.{get_elem?}
use Rattle.atomic_table.specs.Table.{keeps, Allows}
use Rattle.blocker_word.specs.Word.{live_items, refused_begins, controls, starts, dones, widths, bits, FitsToken, IsCounted}
use Rattle.blocker_word.specs.Table.{TableCounts}
use Rattle.blocker_word.specs.Plays.{Sat}
use Rattle.blocker_word.specs.declared.view.View.{View}
use Rattle.blocker_word.proofs.Sums.{fits_more, count_within}

-- whatever the word and the tokens are when the word becomes f of what it was, the token has a new view that is counted
abbrev pub Keeps : ℕ → Sat → (ℕ → ℕ) → (ℕ → Sat → Type 0) → Type 0
Keeps id me f then = (word : ℕ) (tokens : List View) → IsCounted word tokens → get_elem? tokens id ≡ some me.0
    → (w : View) × IsCounted (f word) (set tokens id w) × then word (w, me.1)

-- such a step is allowed at the table
pub allowed : (slots id : ℕ) (me : Sat) (f : ℕ → ℕ) (then : ℕ → Sat → Type 0) → Keeps id me f then → Allows TableCounts slots id me 0 f then
allowed slots id me f then kept s h wide here small =
    let t = kept h.word s.views h.counted here in
    let found : get_or s.words 0 0 ≡ h.word = ap (λ l. get_or l 0 0) h.words_are in (
      t.0,
      keeps,
      tt,
      record { word = f h.word; words_are = ap (λ l. set l 0 (f (get_or l 0 0))) h.words_are; counted = t.1 },
      subst (λ n. then n (t.0, me.1)) (sym found) t.2,
    )

-- what numbers show of the tokens after a change; none of it speaks of each
pub record Recounts (word : ℕ) (before after : List View) : Type 0 where
  pub word_is : word ≡ 4 * (live_items after + refused_begins after) + bits after
  pub one : controls after + starts after + dones after ≡ 1
  pub before_done : dones after ≡ 0 → refused_begins after ≡ 0
  pub after_done : dones after ≡ 1 → live_items after ≡ 0
  pub widths_fit : widths after ≤ 4294967295
  pub bits_rise : bits before ≤ bits after

pub recounted : (word : ℕ) (before after : List View) → All (FitsToken (bits before)) after → Recounts word before after → IsCounted word after
recounted word before after each r = record {
  word_is = r.word_is;
  one = r.one;
  before_done = r.before_done;
  after_done = r.after_done;
  widths_fit = r.widths_fit;
  each = fits_more (bits before) (bits after) r.bits_rise after each;
}

-- the same where one token becomes w
pub turned : (word word' id : ℕ) (tokens : List View) (w : View) → IsCounted word tokens → FitsToken (bits tokens) w → Recounts word' tokens (set tokens id w)
    → IsCounted word' (set tokens id w)
turned word word' id tokens w c fits =
    recounted word' tokens (set tokens id w) (All-set (FitsToken (bits tokens)) tokens id w fits c.each)

-- a word that is counted is far below 2 ^ 64
pub small : (word : ℕ) (tokens : List View) → IsCounted word tokens → word < 17179869184
small word tokens c = let within = count_within (bits tokens) tokens c.each in omega arith

-- so the sum in the word does not wrap, nor does the difference
pub added : (n : ℕ) → n + 4 < 17179869184 → n + 4 ≡ (n + 4) % 2 ^ 64
added n lt = grind arith

pub subtracted : (n m : ℕ) → n < 17179869184 → m + 4 ≡ n → m ≡ (n + (2 ^ 64 - 4)) % 2 ^ 64
subtracted n m lt is = grind arith

-- what the bits of a word that is counted are
pub bits_are : (word : ℕ) (tokens : List View) → IsCounted word tokens → word % 4 ≡ bits tokens
bits_are word tokens c = omega arith

-- the test of the done bit
pub tested : (n : ℕ) → bit_and n 2 ≡ (n / 2) % 2 * 2
tested n = and_pow n 1
