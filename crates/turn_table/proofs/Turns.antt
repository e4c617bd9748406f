-- Taking the turn, entering and giving it back keep what holds of it.
-- Cited by 5 functions of `Turnstile`, `Fronts`.
use Rattle.std.proofs.Common.{◌≡◌, ◌≢◌, ℕ, zero, suc, ◌+◌, ◌-◌, ◌*◌, ◌%◌, ◌^◌, ◌<◌, Bool, true, false, eqb, List, [], ◌∷◌, ◌++◌, length}
use Rattle.std.proofs.Common.{length-append, set, get_or, refl, sym, ap, ap₂, subst, ◌∙◌, append-nil, arith, Option, Some, None}
use Rattle.std.specs.Prelude.{◌&&◌, slice_get}
use Rattle.std.proofs.lemmas.Option.{same_Some}
use mathlib.Core.Option.{some, none}
use lib.ListN.{get_elem?}
use prog.Atomic.{either}
use Rattle.atomic_table.specs.Table.{State, Me, Act, keeps, takes, gives, stepped, homes_after, carried_after, put_back, rest, Valid, Allows}
use Rattle.atomic_table.proofs.Lists.{exchanged, set_again}
use Rattle.task_base.specs.Plan.{Plan}
use Rattle.task_base.specs.declared.entry.Entry.{Entry}
use Rattle.hist_model.specs.Allowed.{is_allowed}
use Rattle.hist_model.specs.Legal.{IsLegal}
use Rattle.hist_model.specs.Views.{IsPrefix, own_entries}
use Rattle.hist_model.proofs.Laws.Legal.{is_legal_push}
use Rattle.turn_table.specs.Places.{joined}
use Rattle.turn_table.specs.Seats.{EntersOne, EntersShutdown}
use Rattle.turn_table.specs.Shutdowns.{IsShutdownAt}
use Rattle.turn_table.specs.Turn.{held_bit, SeatFits, AtHome, TurnHolds}
use Rattle.turn_table.specs.Plays.{Grabbed, tried, entered, backed}
use Rattle.turn_table.specs.declared.view.View.{View}
use Rattle.turn_table.proofs.Numbers.{at_differs, not_given_differs, joined_differs, each_after_set, set_there}
use Rattle.turn_table.proofs.Others.{own_stays, after_turn, after_entry, kept_after_entry}

-- what the slot that was taken last has
abbrev pub first_out : {A : Type 0} → List (ℕ × Option A) → Option A
first_out [] = None
first_out (x ∷ xs) = x.1

-- a word that is even says that nobody holds the turn
even_is_free : (held : Bool) (n word : ℕ) → word ≡ 2 * n + held_bit held → word % 2 ≡ 0 → held ≡ false
even_is_free true n word is even = absurd (omega (arith, is, even))
even_is_free false n word is even = refl

-- the word with one more entry, and the turn given back
word_after_entry : (n : ℕ) → n < 2 ^ 32 → (2 * n + 1 + 1) % 2 ^ 64 ≡ 2 * (n + 1) + 0
word_after_entry n small = grind arith

-- the word with the turn given back
word_after_back : (n : ℕ) → n < 2 ^ 32 → (2 * n + 1 + (2 ^ 64 - 1)) % 2 ^ 64 ≡ 2 * n + 0
word_after_back n small = grind arith

-- a shutdown that stands in a history stands in a longer one
pub shutdown_grows : (log rest : List Entry) (place : ℕ) → IsShutdownAt log place → IsShutdownAt (log ++ rest) place
shutdown_grows log rest place h = record { entry = h.entry; stands = stands log place h.entry h.stands; is = h.is }
  where
    stands : (xs : List Entry) (k : ℕ) (e : Entry) → slice_get xs k ≡ Some e → slice_get (xs ++ rest) k ≡ Some e
    stands [] k e is = absurd cc
    stands (x ∷ xs) zero e is = is
    stands (x ∷ xs) (suc k) e is = stands xs k e is

-- a legal history with an allowed entry is legal
pub later_is_legal : (basis : Plan) (number : ℕ) (held later : List Entry) → IsLegal basis held → EntersOne basis number held later → IsLegal basis later
later_is_legal basis number held later legal one = subst (IsLegal basis) (sym one.later_is)
    (is_legal_push basis held one.entry ∙ ap (λ b. b && is_allowed basis held one.entry) legal ∙ one.allowed)

-- a shutdown that was entered stands behind what was held
pub shutdown_entered : (basis : Plan) (number : ℕ) (held later : List Entry) → EntersOne basis number held later → EntersShutdown true held later
    → IsShutdownAt later (length held)
shutdown_entered basis number held later one kind = record {
  entry = one.entry;
  stands = ap (λ l. slice_get l (length held)) one.later_is ∙ last held;
  is = kind one.entry one.later_is;
}
  where
    last : (xs : List Entry) → slice_get (xs ++ one.entry ∷ []) (length xs) ≡ Some one.entry
    last [] = refl
    last (x ∷ xs) = last xs

module _ {V : Type 0} (history : V → List Entry) (basis_of : V → Plan) (basis : Plan) (slots id : ℕ) (me : Me (Option V) View) (live : me.0.live ≡ true) where
  -- a seat tries to take the turn, where the word that it expects is even
  pub grabs : (old new : ℕ) → old % 2 ≡ 0 → new ≡ old + 1 → me.0.holds ≡ false → me.1 ≡ []
      → Allows (TurnHolds history basis_of basis) slots id me 0 (λ n. either (eqb n old) new n) (tried history basis_of old me)
  grabs old new even next free empty s h wide here small = exchanged found old new Goes hit miss
    where
      found : ℕ
      found = get_or s.words 0 0

      Goes : ℕ → Type 0
      Goes x = (w : View) × (a : Act (Option V)) × Valid s.homes me.1 a × TurnHolds history basis_of basis (stepped s 0 x id me.1 w a)
          × tried history basis_of old me found (w, carried_after me.1 a)

      mine : SeatFits basis h.log h.made h.front h.held h.holder h.place id me.0
      mine = h.seats id me.0 here live

      word : found ≡ 2 * length h.log + held_bit h.held
      word = ap (λ l. get_or l 0 0) h.words_are

      hit : found ≡ old → Goes new
      hit is = (taken, takes 0 (Some home.value), ap (λ l. get_elem? l 0) home.homes_are, after, ((λ _. grabbed), (λ ne. absurd (ne is))))
        where
          nobody : h.held ≡ false
          nobody = even_is_free h.held (length h.log) found word (ap (λ n. n % 2) is ∙ even)

          home : AtHome history basis_of basis h.log s.homes
          home = h.home nobody

          taken : View
          taken = record me.0 { seen = history home.value; turns = me.0.turns + 1; holds = true }

          seen_is : history home.value ≡ h.log
          seen_is = home.history_is

          value_now : new ≡ 2 * length h.log + 1
          value_now = let w : found ≡ 2 * length h.log + 0 = word ∙ ap (λ b. 2 * length h.log + held_bit b) nobody in omega (arith, w, is, next)

          grabbed : Grabbed history basis_of me (taken, (0, Some home.value) ∷ me.1)
          grabbed = record {
            value = home.value;
            slot_is = ap (λ l. (0, Some home.value) ∷ l) empty;
            view_is = refl;
            basis_is = home.basis_is ∙ sym mine.basis_is;
            begins = subst (IsPrefix me.0.seen) (sym seen_is) mine.begins;
            legal = subst (IsLegal me.0.basis) (sym seen_is) (subst (λ b. IsLegal b h.log) (sym mine.basis_is) h.legal);
            own = ap (own_entries me.0.number) seen_is ∙ mine.own;
            room = subst (λ l. length l < 2 ^ 32) (sym seen_is) h.room;
          }

          after : TurnHolds history basis_of basis (stepped s 0 new id me.1 taken (takes 0 (Some home.value)))
          after = record {
            log = h.log;
            made = h.made;
            front = h.front;
            held = true;
            holder = id;
            place = h.place;
            words_are = ap (λ l. set l 0 new) h.words_are ∙ ap (λ n. n ∷ h.made ∷ h.front ∷ []) value_now;
            home = λ e. absurd cc;
            out = λ _. ap (λ l. set l 0 none) home.homes_are;
            holder_is = λ _. record { view = taken; stands = stands_now; live = live; holds = refl };
            legal = h.legal;
            room = h.room;
            few = h.few;
            not_made = h.not_made;
            unused = h.unused;
            shutdown = h.shutdown;
            seats = each_after_set (SeatFits basis h.log h.made h.front true id h.place) s.views id taken (λ _. record {
              basis_is = mine.basis_is;
              placed = mine.placed;
              begins = ([], sym (append-nil (history home.value) ∙ seen_is));
              own = mine.own;
              holding = λ _. (refl, refl, seen_is);
              told = mine.told;
              made_is = mine.made_is;
              drawn = mine.drawn;
              kept = mine.kept;
              apart = mine.apart;
            })
                (λ j w ne is up. let k = h.seats j w is up in
                after_turn basis h.log h.made h.front h.held true h.holder id h.place j w
                (λ holds. let t = (k.holding holds).0 in let none = nobody in absurd cc) k);
          }
            where
              stands_now : get_elem? (set s.views id taken) id ≡ some taken
              stands_now = set_there s.views id me.0 taken here

      miss : found ≢ old → Goes found
      miss ne = (me.0, keeps, tt, after, ((λ is. absurd (ne is)), (λ _. refl)))
        where
          words : s.words ≡ set s.words 0 (get_or s.words 0 0)
          words = h.words_are ∙ sym (ap (λ l. set l 0 (get_or l 0 0)) h.words_are)

          after : TurnHolds history basis_of basis (stepped s 0 found id me.1 me.0 keeps)
          after = subst (TurnHolds history basis_of basis)
              (λ i. record { words = words i; homes = s.homes; views = sym (set_again s.views id me.0 here) i }) h

  module _ (holds : me.0.holds ≡ true) (value : V) (slot_is : me.1 ≡ (0, Some value) ∷ []) (script_is : basis_of value ≡ basis) where
    -- another seat does not hold the turn
    only_holder : (s : State (Option V) View) (h : TurnHolds history basis_of basis s) → get_elem? s.views id ≡ some me.0 → (j : ℕ) (w : View) → j ≢ id
        → SeatFits basis h.log h.made h.front h.held h.holder h.place j w → w.holds ≡ true → ⊥
    only_holder s h here j w ne k w_holds = ne ((k.holding w_holds).1 ∙ sym ((h.seats id me.0 here live).holding holds).1)

    -- the value comes home
    comes_home : (s : State (Option V) View) (h : TurnHolds history basis_of basis s) → get_elem? s.views id ≡ some me.0
        → homes_after s.homes me.1 gives ≡ some (Some value) ∷ []
    comes_home s h here = ap₂ (λ hs c. put_back hs c) (h.out ((h.seats id me.0 here live).holding holds).0) slot_is

    -- the word while the turn is held
    odd : (s : State (Option V) View) (h : TurnHolds history basis_of basis s) → get_elem? s.views id ≡ some me.0 → get_or s.words 0 0 ≡ 2 * length h.log + 1
    odd s h here = ap (λ l. get_or l 0 0) h.words_are ∙ ap (λ b. 2 * length h.log + held_bit b) ((h.seats id me.0 here live).holding holds).0

    -- the holder makes an entry and gives the turn back
    pub enters : EntersOne basis me.0.number me.0.seen (history value) → length (history value) < 2 ^ 32
        → Allows (TurnHolds history basis_of basis) slots id me 0 (λ n. (n + 1) % 2 ^ 64) (entered history me)
    enters one room s h wide here small = (new, gives, tt, after, (found, ap rest slot_is, views))
      where
        mine : SeatFits basis h.log h.made h.front h.held h.holder h.place id me.0
        mine = h.seats id me.0 here live

        seen_is : me.0.seen ≡ h.log
        seen_is = (mine.holding holds).2

        log : List Entry
        log = h.log ++ one.entry ∷ []

        log_is : history value ≡ log
        log_is = one.later_is ∙ ap (λ l. l ++ one.entry ∷ []) seen_is

        new : View
        new = record me.0 { seen = history value; mine = own_entries me.0.number (history value); holds = false }

        found : get_or s.words 0 0 ≡ 2 * length me.0.seen + 1
        found = odd s h here ∙ ap (λ l. 2 * length l + 1) (sym seen_is)

        views : (other : V) → me.1 ≡ (0, Some other) ∷ []
            → new ≡ record me.0 { seen = history other; mine = own_entries me.0.number (history other); holds = false }
        views other is = ap (λ x. record me.0 { seen = history x; mine = own_entries me.0.number (history x); holds = false })
            (same_Some value other (ap first_out (sym slot_is ∙ is)))

        longer : length log ≡ length h.log + 1
        longer = length-append h.log (one.entry ∷ [])

        -- nobody else has the number of the entry
        joined_ne : (m : ℕ) → h.place m ≡ joined → m ≢ one.entry.seat
        joined_ne m is e = joined_differs h.place me.0.number m id mine.placed is (e ∙ one.seat_is)

        after : TurnHolds history basis_of basis (stepped s 0 ((get_or s.words 0 0 + 1) % 2 ^ 64) id me.1 new gives)
        after = record {
          log = log;
          made = h.made;
          front = h.front;
          held = false;
          holder = h.holder;
          place = h.place;
          words_are = ap₂ (λ n l. set l 0 n) (ap (λ n. (n + 1) % 2 ^ 64) (odd s h here) ∙ word_after_entry (length h.log) h.room
              ∙ ap (λ n. 2 * n + 0) (sym longer)) h.words_are;
          home = λ _. record { value = value; homes_are = comes_home s h here; history_is = log_is; basis_is = script_is };
          out = λ e. absurd cc;
          holder_is = λ e. absurd cc;
          legal = subst (IsLegal basis) log_is (later_is_legal basis me.0.number me.0.seen (history value) (subst (IsLegal basis) (sym seen_is) h.legal) one);
          room = subst (λ l. length l < 2 ^ 32) log_is room;
          few = h.few;
          not_made = h.not_made;
          unused = λ n none. own_stays n h.log one.entry (λ e. not_given_differs h.place me.0.number n id mine.placed none (e ∙ one.seat_is)) ∙ h.unused n none;
          shutdown = λ ne. shutdown_grows h.log (one.entry ∷ []) (h.front - 1) (h.shutdown ne);
          seats = each_after_set (SeatFits basis log h.made h.front false h.holder h.place) s.views id new (λ _. record {
            basis_is = mine.basis_is;
            placed = mine.placed;
            begins = ([], sym (append-nil (history value) ∙ log_is));
            own = ap (own_entries me.0.number) (sym log_is);
            holding = λ e. absurd cc;
            told = mine.told;
            made_is = mine.made_is;
            drawn = mine.drawn;
            kept = kept_after_entry basis h.log h.place one.entry me.0.kept joined_ne mine.kept;
            apart = mine.apart;
          })
              (λ j w ne is up. let k = h.seats j w is up in
              after_entry basis h.log h.made h.front h.held h.holder h.place j w one.entry
              (λ e. at_differs h.place me.0.number w.number id j mine.placed k.placed ne (e ∙ one.seat_is)) joined_ne (only_holder s h here j w ne k) k);
        }

    -- the holder gives the turn back as it found it
    pub backs : history value ≡ me.0.seen → Allows (TurnHolds history basis_of basis) slots id me 0 (λ n. (n + (2 ^ 64 - 1)) % 2 ^ 64) (backed me)
    backs history_is s h wide here small = (new, gives, tt, after, ap (λ c. (new, rest c)) slot_is)
      where
        mine : SeatFits basis h.log h.made h.front h.held h.holder h.place id me.0
        mine = h.seats id me.0 here live

        new : View
        new = record me.0 { holds = false }

        log_is : history value ≡ h.log
        log_is = history_is ∙ (mine.holding holds).2

        after : TurnHolds history basis_of basis (stepped s 0 ((get_or s.words 0 0 + (2 ^ 64 - 1)) % 2 ^ 64) id me.1 new gives)
        after = record {
          log = h.log;
          made = h.made;
          front = h.front;
          held = false;
          holder = h.holder;
          place = h.place;
          words_are = ap₂ (λ n l. set l 0 n) (ap (λ n. (n + (2 ^ 64 - 1)) % 2 ^ 64) (odd s h here) ∙ word_after_back (length h.log) h.room) h.words_are;
          home = λ _. record { value = value; homes_are = comes_home s h here; history_is = log_is; basis_is = script_is };
          out = λ e. absurd cc;
          holder_is = λ e. absurd cc;
          legal = h.legal;
          room = h.room;
          few = h.few;
          not_made = h.not_made;
          unused = h.unused;
          shutdown = h.shutdown;
          seats = each_after_set (SeatFits basis h.log h.made h.front false h.holder h.place) s.views id new (λ _. record {
            basis_is = mine.basis_is;
            placed = mine.placed;
            begins = mine.begins;
            own = mine.own;
            holding = λ e. absurd cc;
            told = mine.told;
            made_is = mine.made_is;
            drawn = mine.drawn;
            kept = mine.kept;
            apart = mine.apart;
          })
              (λ j w ne is up. let k = h.seats j w is up in
              after_turn basis h.log h.made h.front h.held false h.holder h.holder h.place j w (only_holder s h here j w ne k) k);
        }
