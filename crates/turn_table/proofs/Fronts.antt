-- Setting and reading the place of a shutdown keep what holds of the turn.
-- Cited by `Turnstile::load_front`, `Turnstile::set_front`.
use Rattle.std.proofs.Common.{◌≡◌, ◌≢◌, ℕ, ◌+◌, ◌-◌, ◌*◌, Bool, true, false, eqb, List, [], ◌∷◌, length}
use Rattle.std.proofs.Common.{set, get_or, refl, sym, ap, subst, ◌∙◌, append-nil, arith, Option}
use mathlib.Core.Option.{some}
use mathlib.Core.Logic.{dite}
use native.Mathlib.Decide.{ℕ_discrete}
use lib.ListN.{get_elem?}
use prog.Atomic.{either}
use Rattle.atomic_table.specs.Table.{State, Me, Act, keeps, stepped, carried_after, Valid, Allows}
use Rattle.atomic_table.proofs.Lists.{exchanged}
use Rattle.task_base.specs.Plan.{Plan}
use Rattle.task_base.specs.declared.entry.Entry.{Entry}
use Rattle.hist_model.specs.Views.{IsPrefix}
use Rattle.turn_table.specs.Shutdowns.{IsShutdownAt}
use Rattle.turn_table.specs.Turn.{held_bit, SeatFits, TurnHolds}
use Rattle.turn_table.specs.Plays.{front_set, front_read}
use Rattle.turn_table.specs.declared.view.View.{View}
use Rattle.turn_table.proofs.Numbers.{each_after_set, holder_stays}
use Rattle.turn_table.proofs.Others.{after_front}
use Rattle.turn_table.proofs.Turns.{shutdown_grows}

module _ {V : Type 0} (history : V → List Entry) (basis_of : V → Plan) (basis : Plan) (slots id : ℕ)
    (me : Me (Option V) View) (live : me.0.live ≡ true) (free : me.0.holds ≡ false) where
  -- the rule where this seat learned of the history and of the third word, which may have been set
  module _ (s : State (Option V) View) (h : TurnHolds history basis_of basis s) (here : get_elem? s.views id ≡ some me.0) where
    mine : SeatFits basis h.log h.made h.front h.held h.holder h.place id me.0
    mine = h.seats id me.0 here live

    word : get_or s.words 2 0 ≡ h.front
    word = ap (λ l. get_or l 2 0) h.words_are

    after : (front : ℕ) (n : ℕ) (new : View) → n ≡ front → (front ≢ 0 → IsShutdownAt h.log (front - 1))
        → ((j : ℕ) (w : View) → SeatFits basis h.log h.made h.front h.held h.holder h.place j w → SeatFits basis h.log h.made front h.held h.holder h.place j w)
        → SeatFits basis h.log h.made front h.held h.holder h.place id new
        → TurnHolds history basis_of basis (stepped s 2 n id me.1 new keeps)
    after front n new n_is shutdown others fits = record {
      log = h.log;
      made = h.made;
      front = front;
      held = h.held;
      holder = h.holder;
      place = h.place;
      words_are = ap (λ l. set l 2 n) h.words_are ∙ ap (λ x. (2 * length h.log + held_bit h.held) ∷ h.made ∷ x ∷ []) n_is;
      home = h.home;
      out = h.out;
      holder_is = λ held. holder_stays s.views h.holder id me.0 new (h.holder_is held) here free;
      legal = h.legal;
      room = h.room;
      few = h.few;
      not_made = h.not_made;
      unused = h.unused;
      shutdown = shutdown;
      seats = each_after_set (SeatFits basis h.log h.made front h.held h.holder h.place) s.views id new (λ _. fits)
          (λ j w ne is up. others j w (h.seats j w is up));
    }

    -- what the seat knows, with another mark and what it has seen
    retold : (front : ℕ) (new : View) → SeatFits basis h.log h.made front h.held h.holder h.place id me.0 → (new.told ≡ true → front ≢ 0)
        → IsPrefix new.seen h.log
        → (loads last : ℕ) → new ≡ record me.0 { seen = new.seen; loads = loads; last = last; told = new.told }
        → SeatFits basis h.log h.made front h.held h.holder h.place id new
    retold front new k told begins loads last same = subst (SeatFits basis h.log h.made front h.held h.holder h.place id) (sym same) (record {
      basis_is = k.basis_is;
      placed = k.placed;
      begins = begins;
      own = k.own;
      holding = λ holds. let f = free in absurd cc;
      told = told;
      made_is = k.made_is;
      drawn = k.drawn;
      kept = k.kept;
      apart = k.apart;
    })

  -- a seat that has seen a shutdown at this place sets it
  pub sets_front : (place new : ℕ) → new ≡ place + 1 → IsShutdownAt me.0.seen place
      → Allows (TurnHolds history basis_of basis) slots id me 2 (λ n. either (eqb n 0) new n) (front_set me)
  sets_front place new next stands s h wide here small = exchanged (get_or s.words 2 0) 0 new Goes hit miss
    where
      told : View
      told = record me.0 { told = true }

      Goes : ℕ → Type 0
      Goes x = (w : View) × (a : Act (Option V)) × Valid s.homes me.1 a × TurnHolds history basis_of basis (stepped s 2 x id me.1 w a)
          × front_set me (get_or s.words 2 0) (w, carried_after me.1 a)

      k : SeatFits basis h.log h.made h.front h.held h.holder h.place id me.0
      k = mine s h here

      above : new ≢ 0
      above zero_is = absurd (omega (arith, next, zero_is))

      shutdown : IsShutdownAt h.log (new - 1)
      shutdown = let (rest, is) = k.begins in let at : place ≡ new - 1 = omega (arith, next) in
          subst (λ p. IsShutdownAt h.log p) at (subst (λ l. IsShutdownAt l place) (sym is) (shutdown_grows me.0.seen rest place stands))

      hit : get_or s.words 2 0 ≡ 0 → Goes new
      hit is = (
        told,
        keeps,
        tt,
        after s h here new new told refl (λ _. shutdown) (λ j w. after_front basis h.log h.made h.front new h.held h.holder h.place j w above)
            (retold s h here new told (after_front basis h.log h.made h.front new h.held h.holder h.place id me.0 above k)
            (λ _. above) k.begins me.0.loads me.0.last refl),
        refl,
      )

      miss : get_or s.words 2 0 ≢ 0 → Goes (get_or s.words 2 0)
      miss ne = (
        told,
        keeps,
        tt,
        after s h here h.front (get_or s.words 2 0) told (word s h here) h.shutdown (λ j w x. x)
            (retold s h here h.front told k (λ _ z. ne (word s h here ∙ z)) k.begins me.0.loads me.0.last refl),
        refl,
      )

  -- a seat reads the place of a shutdown
  pub reads_front : Allows (TurnHolds history basis_of basis) slots id me 2 (λ n. n) (front_read me)
  reads_front s h wide here small = dite (ℕ_discrete found 0) none some_place
    where
      found : ℕ
      found = get_or s.words 2 0

      Goes : Type 0
      Goes = (w : View) × (a : Act (Option V)) × Valid s.homes me.1 a × TurnHolds history basis_of basis (stepped s 2 found id me.1 w a)
          × front_read me found (w, carried_after me.1 a)

      k : SeatFits basis h.log h.made h.front h.held h.holder h.place id me.0
      k = mine s h here

      none : found ≡ 0 → Goes
      none is = (
        new,
        keeps,
        tt,
        after s h here h.front found new (word s h here) h.shutdown (λ j w x. x)
            (retold s h here h.front new k k.told k.begins (me.0.loads + 1) found refl),
        (
          record {
            none = λ _. (untold me.0.told refl, refl);
            same = λ ne. absurd (ne is);
            begins = λ ne. absurd (ne is);
            stands = λ ne. absurd (ne is);
            own = λ ne. absurd (ne is);
          },
          refl,
        ),
      )
        where
          new : View
          new = record me.0 { loads = me.0.loads + 1; last = found }

          untold : (b : Bool) → me.0.told ≡ b → me.0.told ≡ false
          untold true b_is = absurd (k.told b_is (sym (word s h here) ∙ is))
          untold false b_is = b_is

      some_place : found ≢ 0 → Goes
      some_place ne = (
        new,
        keeps,
        tt,
        after s h here h.front found new (word s h here) h.shutdown (λ j w x. x)
            (retold s h here h.front new k (λ _. set_already) ([], sym (append-nil h.log)) (me.0.loads + 1) found refl),
        (
          record {
            none = λ is. absurd (ne is);
            same = λ _. refl;
            begins = λ _. k.begins;
            stands = λ _. subst (λ p. IsShutdownAt h.log (p - 1)) (sym (word s h here)) (h.shutdown set_already);
            own = λ _. k.own;
          },
          refl,
        ),
      )
        where
          new : View
          new = record me.0 { seen = h.log; loads = me.0.loads + 1; last = found; told = true }

          set_already : h.front ≢ 0
          set_already z = ne (word s h here ∙ z)
