-- What the steps on the word ask of the table: each is allowed, whatever the word is.
-- Cited by 5 functions of `BlockerWord`.
use Rattle.std.proofs.Common.{◌≡◌, ℕ, ◌+◌, ◌-◌, ◌%◌, ◌^◌, List, set, eqb, refl, sym, subst, ◌∙◌, arith}
use Rattle.std.specs.Int.Bits.{bit_or, bit_and}
use Rattle.std.proofs.lemmas.Nat.{and_mask, or_disjoint}
use mathlib.Core.Option.{some}
use native.Mathlib.Decide.{dec_le}
use prog.Atomic.{either}
use lib.ListN.{get_elem?}
use Rattle.atomic_table.specs.Table.{Allows}
use Rattle.atomic_table.proofs.Lists.{exchanged}
use Rattle.blocker_word.specs.Roles.{idle, item, refused, control, started, done, one_if_item, one_if_refused}
use Rattle.blocker_word.specs.Word.{IsCounted, HasDoneBit}
use Rattle.blocker_word.specs.Table.{TableCounts}
use Rattle.blocker_word.specs.Plays.{Sat, met_as, Began, ended, StartedAt, TriedAt, TokenLooked}
use Rattle.blocker_word.specs.declared.view.View.{View}
use Rattle.blocker_word.proofs.Changes.{Keeps, allowed, small, added, subtracted, bits_are}
use Rattle.blocker_word.proofs.Steps.{found, counting, gains, loses, starts_once, done_at_one, meets, started_bits}

-- a begin, whether it finds the done bit or not
begun : (id : ℕ) (me : Sat) (word : ℕ) (tokens : List View) → me.0.role ≡ idle → IsCounted word tokens → get_elem? tokens id ≡ some me.0
    → Dec (HasDoneBit word) → (w : View) × IsCounted (word + 4) (set tokens id w) × Began me word (w, me.1)
begun id me word tokens is c here (yes d) = let are = bits_are word tokens c in let one = c.one in (
  met_as refused me.0 word,
  gains id me refused word tokens is (counting refused refl) (λ none. absurd (omega arith)) (λ _. refl) c here,
  record { found_is = found id me word tokens c here; given = λ n. absurd (n d); refused_is = λ _. refl },
)
begun id me word tokens is c here (no d) = let are = bits_are word tokens c in let one = c.one in (
  met_as item me.0 word,
  gains id me item word tokens is (counting item refl) (λ _. refl) (λ some. absurd (d (omega arith))) c here,
  record { found_is = found id me word tokens c here; given = λ _. refl; refused_is = λ h. absurd (d h) },
)

begins : (id : ℕ) (me : Sat) → me.0.role ≡ idle → Keeps id me (λ n. (n + 4) % 2 ^ 64) (Began me)
begins id me is word tokens c here =
    let t = begun id me word tokens is c here (dec_le 2 (word % 4)) in
    let less = small (word + 4) (set tokens id t.0) t.1 in
    (t.0, subst (λ n. IsCounted n (set tokens id t.0)) (added word less) t.1, t.2)

-- an end
ends : (id : ℕ) (me : Sat) → one_if_item me.0.role + one_if_refused me.0.role ≡ 1 → Keeps id me (λ n. (n + (2 ^ 64 - 4)) % 2 ^ 64) (λ _ n. ended me n)
ends id me counts word tokens c here =
    let t = loses id me word tokens (counting me.0.role counts) c here in
    let w : View = record me.0 { role = idle } in
    (w, subst (λ n. IsCounted n (set tokens id w)) (subtracted word (word - 4) (small word tokens c) t.0) t.1, refl)

-- the start bit is added where it was not set
start_bit_added : (n : ℕ) → n % 4 ≡ 0 → n + 1 ≡ bit_or n 1
start_bit_added n none = let masked : bit_and n 1 ≡ n % 2 = and_mask n 1 in sym (or_disjoint n 1 (masked ∙ omega arith))

starts_so : (id : ℕ) (me : Sat) → me.0.role ≡ control → Keeps id me (λ n. bit_or n 1) (StartedAt me)
starts_so id me is word tokens c here =
    let t = starts_once id me word tokens is c here in
    let w : View = met_as started me.0 word in
    let play : StartedAt me word (w, me.1) = record { found_is = found id me word tokens c here; first = t.0; started_is = refl } in
    (w, subst (λ n. IsCounted n (set tokens id w)) (start_bit_added word t.0) t.1, play)

-- a try for done, whether it finds 1 or not
finishes : (id : ℕ) (me : Sat) → me.0.role ≡ started → Keeps id me (λ n. either (eqb n 1) 3 n) (TriedAt me)
finishes id me is word tokens c here = exchanged word 1 3 (λ n. (w : View) × IsCounted n (set tokens id w) × TriedAt me word (w, me.1))
    (λ hit. (
      met_as done me.0 word,
      subst (λ n. IsCounted 3 (set tokens id (met_as done me.0 n))) (sym hit) (done_at_one id me tokens is (subst (λ n. IsCounted n tokens) hit c) here),
      record { found_is = found id me word tokens c here; between = between; won = λ _. refl; lost = λ miss. absurd (miss hit) },
    ))
    (λ miss. (
      met_as started me.0 word,
      subst (λ r. IsCounted word (set tokens id (met_as r me.0 word))) is (meets id me word tokens c here),
      record { found_is = found id me word tokens c here; between = between; won = λ hit. absurd (miss hit); lost = λ _. refl },
    ))
  where
    between : word % 4 ≡ 1
    between = started_bits id me word tokens is c here

looks : (id : ℕ) (me : Sat) → Keeps id me (λ n. n) (TokenLooked me)
looks id me word tokens c here = (met_as me.0.role me.0 word, meets id me word tokens c here, record { found_is = found id me word tokens c here; seen = refl })

-- each of them at the table
pub begin_allowed : (slots id : ℕ) (me : Sat) → me.0.role ≡ idle → Allows TableCounts slots id me 0 (λ n. (n + 4) % 2 ^ 64) (Began me)
begin_allowed slots id me is = allowed slots id me (λ n. (n + 4) % 2 ^ 64) (Began me) (begins id me is)

pub end_allowed : (slots id : ℕ) (me : Sat) → one_if_item me.0.role + one_if_refused me.0.role ≡ 1
    → Allows TableCounts slots id me 0 (λ n. (n + (2 ^ 64 - 4)) % 2 ^ 64) (λ _ n. ended me n)
end_allowed slots id me counts = allowed slots id me (λ n. (n + (2 ^ 64 - 4)) % 2 ^ 64) (λ _ n. ended me n) (ends id me counts)

pub start_allowed : (slots id : ℕ) (me : Sat) → me.0.role ≡ control → Allows TableCounts slots id me 0 (λ n. bit_or n 1) (StartedAt me)
start_allowed slots id me is = allowed slots id me (λ n. bit_or n 1) (StartedAt me) (starts_so id me is)

pub finish_allowed : (slots id : ℕ) (me : Sat) → me.0.role ≡ started → Allows TableCounts slots id me 0 (λ n. either (eqb n 1) 3 n) (TriedAt me)
finish_allowed slots id me is = allowed slots id me (λ n. either (eqb n 1) 3 n) (TriedAt me) (finishes id me is)

pub look_allowed : (slots id : ℕ) (me : Sat) → Allows TableCounts slots id me 0 (λ n. n) (TokenLooked me)
look_allowed slots id me = allowed slots id me (λ n. n) (TokenLooked me) (looks id me)
