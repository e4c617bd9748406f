-- What seats have in hand, as the history grows.
-- Cited by `Behind`, `UnderWay`.
use Rattle.std.proofs.Common.{◌≡◌, ℕ, ◌+◌, ◌<◌, ◌≤◌, Bool, true, false, List, [], ◌∷◌, ◌++◌, length, refl, sym, ap, subst, ◌∙◌, Option, Some, arith, eqb}
use Rattle.std.proofs.lemmas.Bool.{eq-eqb, eqb-true, true≢false}
use Rattle.std.proofs.lemmas.List.{length-set}
use Rattle.std.proofs.lemmas.Option.{same_Some}
use Rattle.std.specs.Prelude.{◌==◌, slice_get, slice_set}
use Rattle.list_laws.proofs.Places.{slice_get-set_same, slice_get-set_other}
use Rattle.list_laws.proofs.Values.{eqb-same}
use Rattle.task_base.specs.declared.entry.Kind.{Kind}
use Rattle.task_base.specs.Entries.{entry_by}
use Rattle.task_model.specs.Seats.{Holding, Running, acts_after, acts_done, holding, holding_after, is_free, running, running_after}
use Rattle.task_model.proofs.Growth.{acts_done_push, holding_push, running_push}
use Rattle.hist_model.specs.Legal.{IsLegal}
use Rattle.hist_model.specs.Open.{IsClosed}
use Rattle.hist_model.specs.Views.{own_entries}
use Rattle.hist_model.proofs.Laws.Own.{own_entries_push}
use Rattle.env_core.specs.Views.{EnvView, Enters}
use Rattle.env_step.specs.Hands.{AreInHand, IsInHand}
use Rattle.env_step.specs.declared.hand.Hand.{Hand}
use Rattle.env_step.specs.declared.hand.Hand.TheVariants.{Free, Task, Item}

module _ {before after : EnvView} {seat : ℕ} {kind : Kind} (enters : Enters before after seat kind) where
  -- the entry stands at the end
  pub history_is : after.history ≡ before.history ++ entry_by seat kind ∷ []
  history_is = ap (λ v. v.history) enters.entered

  -- the script stays
  pub script_is : after.script ≡ before.script
  script_is = ap (λ v. v.script) enters.entered

  -- it is one more of its seat's own
  pub own_more : own_entries seat after.history ≡ own_entries seat before.history ++ entry_by seat kind ∷ []
  own_more = ap (own_entries seat) history_is ∙ own_entries_push before.history (entry_by seat kind) seat ∙ rw (eqb-same seat) refl

  -- and none of another's
  pub own_same : (other : ℕ) → (seat == other) ≡ false → own_entries other after.history ≡ own_entries other before.history
  own_same other apart = ap (own_entries other) history_is ∙ own_entries_push before.history (entry_by seat kind) other ∙ rw apart refl

  -- what its seat runs from then on
  pub runs_now : running (own_entries seat after.history) seat ≡ running_after (running (own_entries seat before.history) seat) kind
  runs_now = ap (λ own. running own seat) own_more
      ∙ running_push (own_entries seat before.history) (entry_by seat kind) seat ∙ rw (eqb-same seat) refl

  -- and holds
  pub holds_now : holding (own_entries seat after.history) seat ≡ holding_after (holding (own_entries seat before.history) seat) kind
  holds_now = ap (λ own. holding own seat) own_more
      ∙ holding_push (own_entries seat before.history) (entry_by seat kind) seat ∙ rw (eqb-same seat) refl

  -- and how many act steps it has entered
  pub acts_now : acts_done (own_entries seat after.history) seat ≡ acts_after (acts_done (own_entries seat before.history) seat) kind
  acts_now = ap (λ own. acts_done own seat) own_more
      ∙ acts_done_push (own_entries seat before.history) (entry_by seat kind) seat ∙ rw (eqb-same seat) refl

-- what a seat has in hand is told by its own entries
pub hand_same : (before after : EnvView) (seat : ℕ) (hand : Hand) → after.script ≡ before.script
    → own_entries seat after.history ≡ own_entries seat before.history → IsInHand before seat hand → IsInHand after seat hand
hand_same before after seat Free script own in_hand = ap (λ entries. is_free entries seat) own ∙ in_hand
hand_same before after seat (Task at) script own in_hand = record {
  seats = rw (script, own) in_hand.seats;
  due = rw own in_hand.due;
}
hand_same before after seat (Item pass) script own in_hand =
    record { known = rw script in_hand.known; holds = ap (λ entries. holding entries seat) own ∙ in_hand.holds }

-- an entry of one seat leaves what the others have in hand
pub others_stay : {before after : EnvView} {seat : ℕ} {kind : Kind} (other : ℕ) (hand : Hand) → Enters before after seat kind → (seat == other) ≡ false
    → IsInHand before other hand → IsInHand after other hand
others_stay {before} {after} other hand enters apart = hand_same before after other hand (script_is enters) (own_same enters other apart)

-- with a hand put at a seat's place all have in hand what is at their places, where that seat has, and the others had
set_in_hand : {view : EnvView} {seat : ℕ} (hands : List Hand) (hand : Hand) → IsClosed view.script → IsLegal view.script view.history
    → length hands ≡ view.script.workers + 1 → seat ≤ view.script.workers → IsInHand view seat hand
    → ((other : ℕ) (now : Hand) → (seat == other) ≡ false → slice_get hands other ≡ Some now → IsInHand view other now)
    → AreInHand view (slice_set hands seat hand)
set_in_hand {view} {seat} hands hand closed legal all known own others = record {
  closed = closed;
  legal = legal;
  all = length-set hands seat hand ∙ all;
  each = λ other now at. at_other other now at (eqb seat other) refl;
}
  where
    at_other : (other : ℕ) (now : Hand) → slice_get (slice_set hands seat hand) other ≡ Some now → (same : Bool) → eqb seat other ≡ same
        → IsInHand view other now
    at_other other now at true same =
        let is : seat ≡ other = eqb-true seat other same in
        let there : seat < length hands = omega (arith, all, known) in
        let hand_is : hand ≡ now = same_Some hand now (sym (slice_get-set_same hands seat hand there)
        ∙ ap (slice_get (slice_set hands seat hand)) is ∙ at) in
        subst (λ s. IsInHand view s now) is (subst (IsInHand view seat) hand_is own)
    at_other other now at false apart = others other now apart
        (sym (slice_get-set_other hands seat other hand (λ is. true≢false (sym (eq-eqb seat other is) ∙ apart))) ∙ at)

-- so it is behind an entry of the seat
pub all_in_hand : {before after : EnvView} {seat : ℕ} {kind : Kind} (hands : List Hand) (hand : Hand) → AreInHand before hands
    → seat ≤ before.script.workers → Enters before after seat kind → IsInHand after seat hand → AreInHand after (slice_set hands seat hand)
all_in_hand hands hand are known enters own = set_in_hand hands hand (ap (λ s. s.is_open) (script_is enters) ∙ are.closed) enters.legal
    (are.all ∙ ap (λ s. s.workers + 1) (sym (script_is enters))) (rw (script_is enters) known) own
    (λ other now apart at. others_stay other now enters apart (are.each other now at))

-- and where nothing was entered
pub all_same : {view : EnvView} {seat : ℕ} (hands : List Hand) (hand : Hand) → AreInHand view hands → seat ≤ view.script.workers
    → IsInHand view seat hand → AreInHand view (slice_set hands seat hand)
all_same hands hand are known own =
    set_in_hand hands hand are.closed are.legal are.all known own (λ other now apart at. are.each other now at)

-- a seat with nothing in hand has nothing behind an entry that neither takes nor ends
pub free_stays : {before after : EnvView} {seat : ℕ} {kind : Kind} → Enters before after seat kind
    → ((now : Option Running) → running_after now kind ≡ now) → ((now : Option Holding) → holding_after now kind ≡ now)
    → is_free (own_entries seat before.history) seat ≡ true → is_free (own_entries seat after.history) seat ≡ true
free_stays {before} {after} {seat} enters runs holds free =
    rw (runs_now enters ∙ runs (running (own_entries seat before.history) seat), holds_now enters ∙ holds (holding (own_entries seat before.history) seat)) free
