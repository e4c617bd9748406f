-- Making, drawing a number and looking keep what holds of the turn.
-- Cited by `Turnstile::load_count`, `Turnstile::new`, `Turnstile::split`.
use Rattle.std.proofs.Common.{◌≡◌, ℕ, zero, suc, ◌+◌, ◌*◌, ◌/◌, ◌%◌, ◌^◌, ◌<◌, ◌≤◌, Bool, true, false, List, [], ◌∷◌, ◌++◌, eqb, length}
use Rattle.std.proofs.Common.{set, get_or, refl, sym, ap, subst, ◌∙◌, append-nil, eq-zero-or-pos, ⊎_elim, arith, Option, Some}
use mathlib.Core.Option.{some, some-injective, some-ne-none}
use lib.ListN.{get_elem?}
use Rattle.atomic_table.specs.Table.{Me, keeps, stepped, Allows, opening}
use Rattle.task_base.specs.Plan.{Plan}
use Rattle.task_base.specs.declared.entry.Entry.{Entry}
use Rattle.std.proofs.lemmas.List.Elements.{filter-append}
use Rattle.hist_model.specs.Views.{own_entries}
use Rattle.hist_model.proofs.Laws.Legal.{nothing_is_legal}
use Rattle.turn_table.specs.Places.{not_given, at}
use Rattle.turn_table.specs.Turn.{held_bit, SeatFits, TurnHolds}
use Rattle.turn_table.specs.Views.{first_view, with_draw}
use Rattle.turn_table.specs.Plays.{drew, looked}
use Rattle.turn_table.specs.declared.view.View.{View}
use Rattle.turn_table.proofs.Numbers.{first_place, at_differs, each_after_set, holder_stays}
use Rattle.turn_table.proofs.Others.{after_draw}

first_not_made : (n : ℕ) → 1 ≤ n → first_place n ≡ not_given
first_not_made zero le = absurd (omega (arith, le))
first_not_made (suc n) le = refl

-- the front of nothing is nothing
no_front : (xs ys : List Entry) → xs ++ ys ≡ [] → xs ≡ []
no_front [] ys is = refl
no_front (x ∷ xs) ys is = absurd cc

-- a number plus one does not wrap
pub no_wrap : (n : ℕ) → n < 4294967296 → (n + 1) % 2 ^ 64 ≡ n + 1
no_wrap n small = grind arith

module _ {V : Type 0} (history : V → List Entry) (basis_of : V → Plan) where
  -- at the start, with a value whose history is empty
  pub opens : (value : V) → history value ≡ []
      → TurnHolds history basis_of (basis_of value) (opening (0 ∷ 1 ∷ 0 ∷ []) (Some value ∷ []) (first_view (basis_of value)))
  opens value empty = record {
    log = [];
    made = 1;
    front = 0;
    held = false;
    holder = 0;
    place = first_place;
    words_are = refl;
    home = λ _. record { value = value; homes_are = refl; history_is = empty; basis_is = refl };
    out = λ h. absurd cc;
    holder_is = λ h. absurd cc;
    legal = nothing_is_legal (basis_of value);
    room = omega arith;
    few = omega arith;
    not_made = first_not_made;
    unused = λ n _. refl;
    shutdown = λ ne. absurd (ne refl);
    seats = known;
  }
    where
      first : SeatFits (basis_of value) [] 1 0 false 0 first_place 0 (first_view (basis_of value))
      first = record {
        basis_is = refl;
        placed = refl;
        begins = ([], refl);
        own = refl;
        holding = λ h. absurd cc;
        told = λ h. absurd cc;
        made_is = λ _. refl;
        drawn = λ _ h. absurd (omega (arith, h));
        kept = tt;
        apart = tt;
      }

      known : (id : ℕ) (v : View) → get_elem? (first_view (basis_of value) ∷ []) id ≡ some v → v.live ≡ true
          → SeatFits (basis_of value) [] 1 0 false 0 first_place id v
      known zero v is live = subst (SeatFits (basis_of value) [] 1 0 false 0 first_place 0) (some-injective _ v is) first
      known (suc id) v is live = absurd (some-ne-none v (sym is))

  module _ (basis : Plan) (slots id : ℕ) (me : Me (Option V) View) (live : me.0.live ≡ true) (free : me.0.holds ≡ false) where
    -- seat 0 draws a number
    pub draws : me.0.number ≡ 0 → me.0.made < 4294967295
        → Allows (TurnHolds history basis_of basis) slots id me 1 (λ n. (n + 1) % 2 ^ 64) (drew me)
    draws first room s h wide here small = (
      with_draw me.0,
      keeps,
      tt,
      after,
      (word ∙ sym (mine.made_is first), subst (λ n. 0 < n) (sym word) some, refl, unseen),
    )
      where
        mine : SeatFits basis h.log h.made h.front h.held h.holder h.place id me.0
        mine = h.seats id me.0 here live

        word : get_or s.words 1 0 ≡ h.made
        word = ap (λ l. get_or l 1 0) h.words_are

        below : h.made < 4294967295
        below = subst (λ n. n < 4294967295) (mine.made_is first) room

        -- seat 0 is there, so its number was given
        some : 0 < h.made
        some = ⊎_elim (λ (none : h.made ≡ 0).
            let given : h.place 0 ≡ at id = ap h.place (sym first) ∙ mine.placed in
            let not : h.place 0 ≡ not_given = h.not_made 0 (omega (arith, none)) in
            absurd cc) (λ (some : 0 < h.made). some) (eq-zero-or-pos h.made)

        -- the next number is given to no seat, so no entry has it
        unseen : own_entries me.0.made me.0.seen ≡ []
        unseen = no_front (own_entries me.0.made me.0.seen) (own_entries me.0.made mine.begins.0)
            (sym (filter-append (λ e. eqb e.seat me.0.made) me.0.seen mine.begins.0) ∙ ap (own_entries me.0.made) (sym mine.begins.1)
            ∙ h.unused me.0.made (h.not_made me.0.made (omega (arith, mine.made_is first))))

        after : TurnHolds history basis_of basis (stepped s 1 ((get_or s.words 1 0 + 1) % 2 ^ 64) id me.1 (with_draw me.0) keeps)
        after = record {
          log = h.log;
          made = h.made + 1;
          front = h.front;
          held = h.held;
          holder = h.holder;
          place = h.place;
          words_are = ap (λ l. set l 1 ((get_or l 1 0 + 1) % 2 ^ 64)) h.words_are
              ∙ ap (λ n. (2 * length h.log + held_bit h.held) ∷ n ∷ h.front ∷ []) (no_wrap h.made (omega (arith, below)));
          home = h.home;
          out = h.out;
          holder_is = λ held. holder_stays s.views h.holder id me.0 (with_draw me.0) (h.holder_is held) here free;
          legal = h.legal;
          room = h.room;
          few = omega (arith, below);
          not_made = λ n le. h.not_made n (omega (arith, le));
          unused = h.unused;
          shutdown = h.shutdown;
          seats = each_after_set (SeatFits basis h.log (h.made + 1) h.front h.held h.holder h.place) s.views id (with_draw me.0)
              (λ _. record {
                basis_is = mine.basis_is;
                placed = mine.placed;
                begins = mine.begins;
                own = mine.own;
                holding = mine.holding;
                told = mine.told;
                made_is = λ z. ap (λ n. n + 1) (mine.made_is z);
                drawn = λ z some_drawn. let same = mine.made_is z in (omega (arith, same), h.not_made me.0.made (omega (arith, same)));
                kept = mine.kept;
                apart = mine.apart;
              })
              (λ j w ne is up. let k = h.seats j w is up in
              after_draw basis h.log h.made h.front h.held h.holder h.place j w
              (λ z. at_differs h.place me.0.number w.number id j mine.placed k.placed ne (z ∙ sym first)) k);
        }

    -- a seat looks
    pub looks : Allows (TurnHolds history basis_of basis) slots id me 0 (λ n. n) (looked me)
    looks s h wide here small = (new, keeps, tt, after, (record { same = refl; begins = mine.begins; counted = counted h.held word; own = mine.own }, refl))
      where
        mine : SeatFits basis h.log h.made h.front h.held h.holder h.place id me.0
        mine = h.seats id me.0 here live

        word : get_or s.words 0 0 ≡ 2 * length h.log + held_bit h.held
        word = ap (λ l. get_or l 0 0) h.words_are

        new : View
        new = record me.0 { seen = h.log; loads = me.0.loads + 1; last = get_or s.words 0 0 }

        counted : (held : Bool) → get_or s.words 0 0 ≡ 2 * length h.log + held_bit held → length h.log ≡ get_or s.words 0 0 / 2
        counted true is = omega (arith, is)
        counted false is = omega (arith, is)

        after : TurnHolds history basis_of basis (stepped s 0 (get_or s.words 0 0) id me.1 new keeps)
        after = record {
          log = h.log;
          made = h.made;
          front = h.front;
          held = h.held;
          holder = h.holder;
          place = h.place;
          words_are = ap (λ l. set l 0 (get_or l 0 0)) h.words_are;
          home = h.home;
          out = h.out;
          holder_is = λ held. holder_stays s.views h.holder id me.0 new (h.holder_is held) here free;
          legal = h.legal;
          room = h.room;
          few = h.few;
          not_made = h.not_made;
          unused = h.unused;
          shutdown = h.shutdown;
          seats = each_after_set (SeatFits basis h.log h.made h.front h.held h.holder h.place) s.views id new
              (λ _. record {
                basis_is = mine.basis_is;
                placed = mine.placed;
                begins = ([], sym (append-nil h.log));
                own = mine.own;
                holding = λ holds. let held = mine.holding holds in (held.0, held.1, refl);
                told = mine.told;
                made_is = mine.made_is;
                drawn = mine.drawn;
                kept = mine.kept;
                apart = mine.apart;
              })
              (λ j w ne is up. h.seats j w is up);
        }
