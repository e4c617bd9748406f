-- Splitting a seat and joining seats keep what holds of the turn.
-- Cited by `Turnstile::close`, `Turnstile::join`, `Turnstile::split`.
use Rattle.std.proofs.Common.{◌≡◌, ◌≢◌, ℕ, ◌<◌, true, false, List, length, set, sym, ◌∙◌, arith}
use Rattle.list_laws.proofs.Elements.{AllByRecursion-map}
use Rattle.atomic_table.specs.Table.{Splits, Joins}
use Rattle.atomic_table.proofs.Lists.{set_else}
use Rattle.task_base.specs.Plan.{Plan}
use Rattle.task_base.specs.declared.entry.Entry.{Entry}
use Rattle.turn_table.specs.Places.{Place, not_given, joined, at}
use Rattle.turn_table.specs.Turn.{KeptFits, SeatFits, TurnHolds}
use Rattle.turn_table.specs.Views.{after_split, split_off, spent_copy, with_kept, spent}
use Rattle.turn_table.specs.declared.view.View.{View}
use Rattle.turn_table.proofs.Numbers.{placed, placed_here, placed_else, at_differs, not_given_differs, joined_differs, joined_is_given}
use Rattle.turn_table.proofs.Numbers.{placed_not_given, each_after_set, each_after_split, holder_stays, holder_stays_longer}
use Rattle.turn_table.proofs.Others.{after_placed}

module _ {V : Type 0} (history : V → List Entry) (basis_of : V → Plan) (basis : Plan) (id : ℕ) (v : View) (live : v.live ≡ true) (free : v.holds ≡ false) where
  -- seat 0 gives the number that it has drawn to a second seat
  pub deals : v.number ≡ 0 → 0 < v.drawn → Splits (TurnHolds history basis_of basis) id v (after_split v) (split_off v)
  deals first has s h here = record {
    log = h.log;
    made = h.made;
    front = h.front;
    held = h.held;
    holder = h.holder;
    place = place;
    words_are = h.words_are;
    home = h.home;
    out = h.out;
    holder_is = λ held. holder_stays_longer (set s.views id (after_split v)) h.holder (split_off v)
        (holder_stays s.views h.holder id v (after_split v) (h.holder_is held) here free);
    legal = h.legal;
    room = h.room;
    few = h.few;
    not_made = λ n le. placed_else h.place v.drawn (at new) n (let below = drawn.0 in λ same. absurd (omega arith)) ∙ h.not_made n le;
    unused = λ n none. h.unused n (placed_not_given h.place v.drawn (at new) n (λ e. absurd cc) none);
    shutdown = h.shutdown;
    seats = each_after_split (SeatFits basis h.log h.made h.front h.held h.holder place) s.views id (after_split v) (split_off v)
        (λ _. given id (after_split v) (λ same. not_given_differs h.place v.number v.drawn id mine.placed drawn.1 (sym same))
        (λ z d. absurd (omega (arith, d))) left)
        (λ _. right)
        (λ j w ne is up. let k = h.seats j w is up in
        let other = at_differs h.place v.number w.number id j mine.placed k.placed ne in
        given j w (λ same. not_given_differs h.place w.number v.drawn j k.placed drawn.1 (sym same)) (λ z d. absurd (other (z ∙ sym first))) k);
  }
    where
      mine : SeatFits basis h.log h.made h.front h.held h.holder h.place id v
      mine = h.seats id v here live

      drawn : (v.drawn < h.made) × (h.place v.drawn ≡ not_given)
      drawn = mine.drawn first has

      new : ℕ
      new = length s.views

      place : ℕ → Place
      place = placed h.place v.drawn (at new)

      given : (j : ℕ) (w : View) → w.number ≢ v.drawn → (w.number ≡ 0 → 0 < w.drawn → w.drawn ≢ v.drawn)
          → SeatFits basis h.log h.made h.front h.held h.holder h.place j w → SeatFits basis h.log h.made h.front h.held h.holder place j w
      given j w ne drawn_ne = after_placed basis h.log h.made h.front h.held h.holder h.place j w v.drawn (at new) ne drawn_ne
          (λ m is. joined_is_given h.place v.drawn m drawn.1 is)

      left : SeatFits basis h.log h.made h.front h.held h.holder h.place id (after_split v)
      left = record {
        basis_is = mine.basis_is;
        placed = mine.placed;
        begins = mine.begins;
        own = mine.own;
        holding = mine.holding;
        told = mine.told;
        made_is = mine.made_is;
        drawn = λ z d. absurd (omega (arith, d));
        kept = mine.kept;
        apart = mine.apart;
      }

      right : SeatFits basis h.log h.made h.front h.held h.holder place new (split_off v)
      right = record {
        basis_is = mine.basis_is;
        placed = placed_here h.place v.drawn (at new);
        begins = mine.begins;
        own = h.unused v.drawn drawn.1;
        holding = λ holds. absurd cc;
        told = mine.told;
        made_is = λ z. absurd (omega (arith, has, z));
        drawn = λ z d. absurd (omega (arith, d));
        kept = tt;
        apart = tt;
      }

  -- a spent copy is cut off
  pub copies : Splits (TurnHolds history basis_of basis) id v v (spent_copy v)
  copies s h here = record {
    log = h.log;
    made = h.made;
    front = h.front;
    held = h.held;
    holder = h.holder;
    place = h.place;
    words_are = h.words_are;
    home = h.home;
    out = h.out;
    holder_is = λ held. holder_stays_longer (set s.views id v) h.holder (spent_copy v) (holder_stays s.views h.holder id v v (h.holder_is held) here free);
    legal = h.legal;
    room = h.room;
    few = h.few;
    not_made = h.not_made;
    unused = h.unused;
    shutdown = h.shutdown;
    seats = each_after_split (SeatFits basis h.log h.made h.front h.held h.holder h.place) s.views id v (spent_copy v)
        (λ _. h.seats id v here live) (λ up. absurd cc) (λ j w ne is up. h.seats j w is up);
  }

  -- another seat is joined to this one
  pub joins : (other : ℕ) (w : View) → w.live ≡ true → w.holds ≡ false → Joins (TurnHolds history basis_of basis) id v other w (with_kept v w) spent
  joins other w live' free' s h here apart there = record {
    log = h.log;
    made = h.made;
    front = h.front;
    held = h.held;
    holder = h.holder;
    place = place;
    words_are = h.words_are;
    home = h.home;
    out = h.out;
    holder_is = λ held. holder_stays (set s.views id both) h.holder other w spent
        (holder_stays s.views h.holder id v both (h.holder_is held) here free) there free';
    legal = h.legal;
    room = h.room;
    few = h.few;
    not_made = λ n le. placed_else h.place w.number joined n (not_given_differs h.place w.number n other theirs.placed (h.not_made n le)) ∙ h.not_made n le;
    unused = λ n none. h.unused n (placed_not_given h.place w.number joined n (λ e. absurd cc) none);
    shutdown = h.shutdown;
    seats = each_after_set (SeatFits basis h.log h.made h.front h.held h.holder place) (set s.views id both) other spent (λ up. absurd cc)
        (λ j u ne is up. each_after_set (λ i x. i ≢ other → SeatFits basis h.log h.made h.front h.held h.holder place i x) s.views id both
        (λ _ _. all_kept)
        (λ i x _ x_is x_up i_ne. let k = h.seats i x x_is x_up in
        given i x k (at_differs h.place w.number x.number other i theirs.placed k.placed i_ne)) j u is up ne);
  }
    where
      both : View
      both = with_kept v w

      place : ℕ → Place
      place = placed h.place w.number joined

      mine : SeatFits basis h.log h.made h.front h.held h.holder h.place id v
      mine = h.seats id v here live

      theirs : SeatFits basis h.log h.made h.front h.held h.holder h.place other w
      theirs = h.seats other w (sym (set_else s.views id other both apart) ∙ there) live'

      given : (j : ℕ) (x : View) → SeatFits basis h.log h.made h.front h.held h.holder h.place j x → x.number ≢ w.number
          → SeatFits basis h.log h.made h.front h.held h.holder place j x
      given j x k ne = after_placed basis h.log h.made h.front h.held h.holder h.place j x w.number joined ne
          (λ z d. not_given_differs h.place w.number x.drawn other theirs.placed (k.drawn z d).1)
          (λ m is. joined_differs h.place w.number m other theirs.placed is) k

      all_kept : SeatFits basis h.log h.made h.front h.held h.holder place id both
      all_kept = let k = given id v mine (at_differs h.place w.number v.number other id theirs.placed mine.placed (λ same. apart (sym same))) in record {
        basis_is = k.basis_is;
        placed = k.placed;
        begins = k.begins;
        own = k.own;
        holding = k.holding;
        told = k.told;
        made_is = k.made_is;
        drawn = k.drawn;
        kept = (record { placed = placed_here h.place w.number joined; begins = theirs.begins; own = theirs.own }, k.kept);
        apart = (
          AllByRecursion-map (KeptFits h.log h.place) (λ x. x.number ≢ w.number) v.kept
              (λ x f. joined_differs h.place w.number x.number other theirs.placed f.placed) mine.kept,
          mine.apart,
        );
      }
