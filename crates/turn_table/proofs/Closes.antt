-- What the close finds.
-- Cited by `Turnstile::into_value`, `Turnstile::join_all`.
use Rattle.std.proofs.Common.{◌≡◌, ℕ, ◌+◌, ◌-◌, ◌^◌, ◌<◌, ◌≤◌, Bool, true, false, List, [], ◌∷◌, ◌++◌, map, length, refl}
use Rattle.std.proofs.Common.{sym, ap, subst, ◌∙◌, add-zero, eq-zero-or-pos, ⊎_elim, lt_of_not-le, arith, Option, Some}
use Rattle.std.specs.List.{AllByRecursion}
use mathlib.Core.Option.{some, some-injective}
use native.Mathlib.Decide.{dec_le}
use lib.ListN.{get_elem?}
use Rattle.atomic_table.specs.Table.{State, Final, Seen}
use Rattle.task_base.specs.Plan.{Plan}
use Rattle.task_base.specs.declared.entry.Entry.{Entry}
use Rattle.hist_model.specs.Legal.{IsLegal}
use Rattle.hist_model.specs.Views.{IsPrefix, own_entries}
use Rattle.turn_table.specs.Closing.{Closing}
use Rattle.turn_table.specs.Places.{Place, joined, at, Kept}
use Rattle.turn_table.specs.Seats.{TurnKey, SeatView, Rising, Tells}
use Rattle.turn_table.specs.Turn.{KeptFits, SeatFits, Holder, AtHome, TurnHolds}
use Rattle.turn_table.specs.Views.{kept_seat}
use Rattle.turn_table.specs.declared.view.View.{View}

-- the last of rising seats, and those before it
pub rising_last : (key : TurnKey) (n : ℕ) (seats : List SeatView) (last : SeatView) → Rising key n (seats ++ last ∷ [])
    → Rising key n seats × (last.of ≡ key) × (last.number ≡ n + length seats)
rising_last key n [] last r = (tt, r.0, r.1 ∙ sym (add-zero n))
rising_last key n (x ∷ xs) last r = let (front, of_is, number_is) = rising_last key (n + 1) xs last r.2 in
    ((r.0, r.1, front), of_is, omega (arith, number_is))

-- what is kept of a list is kept of its last seat before all others
pub kept_last : (seats : List SeatView) (last : SeatView) (kept : List Kept)
    → map kept_seat (seats ++ last ∷ []) ++ kept ≡ map kept_seat seats ++ kept_seat last ∷ kept
kept_last [] last kept = refl
kept_last (x ∷ xs) last kept = ap (λ l. kept_seat x ∷ l) (kept_last xs last kept)

-- a view that has changed in what it keeps alone
pub view_with : (first before after : View) (kept : List Kept) → before ≡ record first { kept = before.kept } → after ≡ record before { kept = kept }
    → after ≡ record first { kept = after.kept }
view_with first before after kept b a = a ∙ ap (λ v. with_list v kept) b ∙ ap (with_list first) (sym (ap (λ (v : View). v.kept) a))
  where
    with_list : View → List Kept → View
    with_list v k = record v { kept = k }

-- a number that some of the rising seats has was joined
joined_among : (key : TurnKey) (log : List Entry) (place : ℕ → Place) (n m : ℕ) (seats : List SeatView) → Rising key n seats → n ≤ m → m < n + length seats
    → AllByRecursion (KeptFits log place) (map kept_seat seats) → place m ≡ joined
joined_among key log place n m [] r low high all = absurd (omega (arith, low, high))
joined_among key log place n m (x ∷ xs) r low high all = ⊎_elim
    (λ (same : m - n ≡ 0). ap place (let number = r.1 in let e : m ≡ x.number = omega (arith, number, same, low) in e) ∙ all.0.placed)
    (λ (more : 0 < m - n). joined_among key log place (n + 1) m xs r.2 (omega (arith, more)) (omega (arith, high)) all.1) (eq-zero-or-pos (m - n))

-- what was kept of seats that fit is told by the history
told_by : (log : List Entry) (place : ℕ → Place) (seats : List SeatView) → AllByRecursion (KeptFits log place) (map kept_seat seats)
    → AllByRecursion (Tells log) seats
told_by log place [] all = tt
told_by log place (x ∷ xs) all = (record { begins = all.0.begins; own = all.0.own }, told_by log place xs all.1)

module _ {V : Type 0} (history : V → List Entry) (basis_of : V → Plan) (basis : Plan) where
  -- once all other seats were joined nobody holds the turn
  nobody_holds : (s : State (Option V) View) (h : TurnHolds history basis_of basis s) (id : ℕ) (v : View) → get_elem? s.views id ≡ some v → v.live ≡ true
      → v.holds ≡ false → v.number ≡ 0 → (key : TurnKey) (rest : List SeatView) → Rising key 1 rest → v.made ≡ length rest + 1 → v.kept ≡ map kept_seat rest
      → (held : Bool) → h.held ≡ held → h.held ≡ false
  nobody_holds s h id v here live free first key rest rising all kept false is = is
  nobody_holds s h id v here live free first key rest rising all kept true is = ⊎_elim zero_holds other_holds (eq-zero-or-pos holder.view.number)
    where
      holder : Holder s.views h.holder
      holder = h.holder_is is

      theirs : SeatFits basis h.log h.made h.front h.held h.holder h.place h.holder holder.view
      theirs = h.seats h.holder holder.view holder.stands holder.live

      mine : SeatFits basis h.log h.made h.front h.held h.holder h.place id v
      mine = h.seats id v here live

      zero_holds : holder.view.number ≡ 0 → h.held ≡ false
      zero_holds z =
          let places : at h.holder ≡ at id = sym theirs.placed ∙ ap h.place (z ∙ sym first) ∙ mine.placed in
          let same : h.holder ≡ id = cc in
          let one : holder.view ≡ v = some-injective holder.view v (sym holder.stands ∙ ap (get_elem? s.views) same ∙ here) in
          let holds = holder.holds in
          absurd cc

      below : Dec (h.made ≤ holder.view.number) → holder.view.number < h.made
      below (yes le) = let none = h.not_made holder.view.number le in let there = theirs.placed in absurd cc
      below (no more) = lt_of_not-le more

      other_holds : 0 < holder.view.number → h.held ≡ false
      other_holds more =
          let less = below (dec_le h.made holder.view.number) in
          let was : h.place holder.view.number ≡ joined = joined_among key h.log h.place 1 holder.view.number rest rising (omega (arith, more))
          (omega (arith, less, all, mine.made_is first)) (subst (AllByRecursion (KeptFits h.log h.place)) kept mine.kept) in
          let there = theirs.placed in
          absurd cc

  pub closes : (id : ℕ) (v : View) (words : List ℕ) (slots : List (Option V)) → Final (Seen (TurnHolds history basis_of basis) id v) words slots → v.live ≡ true
      → v.holds ≡ false → v.number ≡ 0 → (key : TurnKey) (rest : List SeatView) → Rising key 1 rest → v.made ≡ length rest + 1 → v.kept ≡ map kept_seat rest
      → (slot : Option V) → get_elem? slots 0 ≡ some slot → Closing history basis_of basis v rest slot
  closes id v words slots (s, seen, words_are, wide, there) live free first key rest rising all kept slot is = record {
    value = home.value;
    slot_is = some-injective slot (Some home.value) (sym is ∙ there 0 (Some home.value) (ap (λ l. get_elem? l 0) home.homes_are));
    basis_is = home.basis_is;
    legal = subst (IsLegal basis) (sym home.history_is) h.legal;
    room = subst (λ l. length l < 2 ^ 32) (sym home.history_is) h.room;
    begins = subst (IsPrefix v.seen) (sym home.history_is) mine.begins;
    own = ap (own_entries v.number) home.history_is ∙ mine.own;
    others = subst (λ l. AllByRecursion (Tells l) rest) (sym home.history_is)
        (told_by h.log h.place rest (subst (AllByRecursion (KeptFits h.log h.place)) kept mine.kept));
  }
    where
      h : TurnHolds history basis_of basis s
      h = seen.0

      mine : SeatFits basis h.log h.made h.front h.held h.holder h.place id v
      mine = h.seats id v seen.1 live

      home : AtHome history basis_of basis h.log s.homes
      home = h.home (nobody_holds s h id v seen.1 live free first key rest rising all kept h.held refl)
