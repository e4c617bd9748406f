-- What is known of a seat still holds after a step of another seat.
-- Cited by `Fronts`, `Splits`, `Steps`, `Turns`.
use Rattle.std.proofs.Common.{◌≡◌, ◌≢◌, ℕ, ◌+◌, ◌<◌, Bool, true, false, cond, List, [], ◌∷◌, ◌++◌, sym, ap, ◌∙◌, append_assoc, ne_eqb}
use Rattle.std.specs.List.{AllByRecursion}
use Rattle.list_laws.proofs.Elements.{AllByRecursion-map}
use Rattle.task_base.specs.Plan.{Plan}
use Rattle.task_base.specs.declared.entry.Entry.{Entry}
use Rattle.hist_model.specs.Views.{IsPrefix, own_entries}
use Rattle.hist_model.proofs.Laws.Own.{own_entries_push}
use Rattle.turn_table.specs.Places.{Place, joined, Kept}
use Rattle.turn_table.specs.Turn.{KeptFits, SeatFits}
use Rattle.turn_table.specs.declared.view.View.{View}
use Rattle.turn_table.proofs.Numbers.{placed, placed_else}

-- what was seen begins a longer history too
pub prefix_grows : (seen log : List Entry) (e : Entry) → IsPrefix seen log → IsPrefix seen (log ++ e ∷ [])
prefix_grows seen log e (rest, is) = (rest ++ e ∷ [], ap (λ l. l ++ e ∷ []) is ∙ append_assoc seen rest (e ∷ []))

-- an entry of one number is none of another's
pub own_stays : (number : ℕ) (log : List Entry) (e : Entry) → number ≢ e.seat → own_entries number (log ++ e ∷ []) ≡ own_entries number log
own_stays number log e ne = own_entries_push log e number
    ∙ ap (λ b. cond b (own_entries number log ++ e ∷ []) (own_entries number log)) (ne_eqb e.seat number (λ same. ne (sym same)))

module _ (basis : Plan) where
  -- a seat was made, by another than this one
  pub after_draw : (log : List Entry) (made front : ℕ) (held : Bool) (holder : ℕ) (place : ℕ → Place) (id : ℕ) (v : View) → v.number ≢ 0
      → SeatFits basis log made front held holder place id v → SeatFits basis log (made + 1) front held holder place id v
  after_draw log made front held holder place id v ne k = record {
    basis_is = k.basis_is;
    placed = k.placed;
    begins = k.begins;
    own = k.own;
    holding = k.holding;
    told = k.told;
    made_is = λ z. absurd (ne z);
    drawn = λ z. absurd (ne z);
    kept = k.kept;
    apart = k.apart;
  }

  -- one number was placed, which is not this seat's, nor one that it has drawn or that was joined
  pub after_placed : (log : List Entry) (made front : ℕ) (held : Bool) (holder : ℕ) (place : ℕ → Place) (id : ℕ) (v : View) (n : ℕ) (p : Place) → v.number ≢ n
      → (v.number ≡ 0 → 0 < v.drawn → v.drawn ≢ n) → ((m : ℕ) → place m ≡ joined → m ≢ n) → SeatFits basis log made front held holder place id v
      → SeatFits basis log made front held holder (placed place n p) id v
  after_placed log made front held holder place id v n p ne drawn_ne joined_ne k = record {
    basis_is = k.basis_is;
    placed = placed_else place n p v.number ne ∙ k.placed;
    begins = k.begins;
    own = k.own;
    holding = k.holding;
    told = k.told;
    made_is = k.made_is;
    drawn = λ z some. let d = k.drawn z some in (d.0, placed_else place n p v.drawn (drawn_ne z some) ∙ d.1);
    kept = AllByRecursion-map (KeptFits log place) (KeptFits log (placed place n p)) v.kept (λ x f. record {
      placed = placed_else place n p x.number (joined_ne x.number f.placed) ∙ f.placed;
      begins = f.begins;
      own = f.own;
    }) k.kept;
    apart = k.apart;
  }

  -- another seat took or gave back the turn, which this one does not hold
  pub after_turn : (log : List Entry) (made front : ℕ) (held held' : Bool) (holder holder' : ℕ) (place : ℕ → Place) (id : ℕ) (v : View) → (v.holds ≡ true → ⊥)
      → SeatFits basis log made front held holder place id v → SeatFits basis log made front held' holder' place id v
  after_turn log made front held held' holder holder' place id v free k = record {
    basis_is = k.basis_is;
    placed = k.placed;
    begins = k.begins;
    own = k.own;
    holding = λ holds. absurd (free holds);
    told = k.told;
    made_is = k.made_is;
    drawn = k.drawn;
    kept = k.kept;
    apart = k.apart;
  }

  -- what was joined still fits after an entry of a live seat
  pub kept_after_entry : (log : List Entry) (place : ℕ → Place) (e : Entry) (kept : List Kept) → ((m : ℕ) → place m ≡ joined → m ≢ e.seat)
      → AllByRecursion (KeptFits log place) kept → AllByRecursion (KeptFits (log ++ e ∷ []) place) kept
  kept_after_entry log place e kept ne = AllByRecursion-map (KeptFits log place) (KeptFits (log ++ e ∷ []) place) kept (λ x f. record {
    placed = f.placed;
    begins = prefix_grows x.seen log e f.begins;
    own = own_stays x.number log e (ne x.number f.placed) ∙ f.own;
  })

  -- another seat made an entry and gave back the turn
  pub after_entry : (log : List Entry) (made front : ℕ) (held : Bool) (holder : ℕ) (place : ℕ → Place) (id : ℕ) (v : View) (e : Entry) → v.number ≢ e.seat
      → ((m : ℕ) → place m ≡ joined → m ≢ e.seat) → (v.holds ≡ true → ⊥) → SeatFits basis log made front held holder place id v
      → SeatFits basis (log ++ e ∷ []) made front false holder place id v
  after_entry log made front held holder place id v e ne joined_ne free k = record {
    basis_is = k.basis_is;
    placed = k.placed;
    begins = prefix_grows v.seen log e k.begins;
    own = own_stays v.number log e ne ∙ k.own;
    holding = λ holds. absurd (free holds);
    told = k.told;
    made_is = k.made_is;
    drawn = k.drawn;
    kept = kept_after_entry log place e v.kept joined_ne k.kept;
    apart = k.apart;
  }

  -- the third word was set, to another number than 0
  pub after_front : (log : List Entry) (made front front' : ℕ) (held : Bool) (holder : ℕ) (place : ℕ → Place) (id : ℕ) (v : View) → front' ≢ 0
      → SeatFits basis log made front held holder place id v → SeatFits basis log made front' held holder place id v
  after_front log made front front' held holder place id v set k = record {
    basis_is = k.basis_is;
    placed = k.placed;
    begins = k.begins;
    own = k.own;
    holding = k.holding;
    told = λ _. set;
    made_is = k.made_is;
    drawn = k.drawn;
    kept = k.kept;
    apart = k.apart;
  }
