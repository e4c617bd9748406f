-- By what sources are compared, found in a log and in the hands of seats.
-- Cited by `seats_inside`.
use Rattle.std.proofs.Common.{◌≡◌, ℕ, ◌+◌, suc, Bool, true, false, cond, eqb, List, [], ◌∷◌, length, refl, sym, ap, ◌∙◌, Option, Some, None, arith}
use Rattle.std.specs.List.{range_with_len}
use Rattle.std.specs.Prelude.{◌==◌, filter, slice_get}
use Rattle.list_laws.specs.Lists.{count, holds_of}
use Rattle.task_model.specs.Seats.{Holding, holding, inside}
use Rattle.pool_laws.proofs.Room.Capacity.{free_parts}
use Rattle.hist_model.proofs.Laws.OneThing.{legal_does_one_thing}
use Rattle.hist_model.proofs.Laws.Own.{holding_own}
use Rattle.env_core.specs.Views.{EnvView}
use Rattle.env_step.specs.Hands.{AreInHand, IsInHand}
use Rattle.env_step.specs.declared.hand.Hand.{Hand}
use Rattle.env_step.specs.declared.hand.Hand.TheVariants.{Free, Item, Task}
use Rattle.env_step.proofs.Free.{free_hand}
use Rattle.env_step.proofs.UnderWay.{runs_it}
use Rattle.next_entry.specs.Ranks.{is_item_of}

-- so many of some elements, which are told by their places, pass a test as places pass it
count_at : {A : Type 0} (p : A → Bool) (q : ℕ → Bool) (xs : List A) (start : ℕ) → ((i : ℕ) (x : A) → slice_get xs i ≡ Some x → p x ≡ q (start + i))
    → count p xs ≡ count q (range_with_len start (length xs))
count_at p q [] start same = refl
count_at {A} p q (x ∷ xs) start same =
    let first : p x ≡ q start = same 0 x refl ∙ ap q (omega arith) in
    let others : count p xs ≡ count q (range_with_len (start + 1) (length xs)) =
    count_at p q xs (start + 1) (λ i y at. same (suc i) y at ∙ ap q (omega arith)) in
    rw first (by_test (q start) others)
  where
    by_test : (b : Bool) → count p xs ≡ count q (range_with_len (start + 1) (length xs))
        → length (cond b (x ∷ filter p xs) (filter p xs))
        ≡ length (cond b (start ∷ filter q (range_with_len (start + 1) (length xs))) (filter q (range_with_len (start + 1) (length xs))))
    by_test true others = ap suc others
    by_test false others = others

-- a seat has an item of the job in hand exactly where it holds one
item_told : {view : EnvView} {hands : List Hand} (j seat : ℕ) (hand : Hand) → AreInHand view hands → IsInHand view seat hand
    → is_item_of j hand ≡ holds_of (λ h. h.job == j) (holding view.history seat)
item_told {view} j seat Free are in_hand = rw (free_parts view.history seat (sym (free_hand view seat Free in_hand))).1 refl
item_told {view} j seat (Task at) are in_hand = by_holding (holding view.history seat) refl
  where
    by_holding : (o : Option Holding) → holding view.history seat ≡ o → false ≡ holds_of (λ h. eqb h.job j) o
    by_holding None is = refl
    by_holding (Some h) is = absurd ((legal_does_one_thing view.script view.history are.legal).one_thing seat in_hand.seats.now h (runs_it in_hand) is)
item_told {view} j seat (Item pass) are in_hand = rw (← holding_own view.history seat, in_hand.holds) refl

-- so as many seats are inside a job as have items of it in hand
pub inside_told : {view : EnvView} {hands : List Hand} (j : ℕ) → AreInHand view hands
    → count (is_item_of j) hands ≡ length (inside view.script view.history j)
unfolding inside
inside_told {view} {hands} j are = count_at (is_item_of j) (λ seat. holds_of (λ h. h.job == j) (holding view.history seat)) hands 0
    (λ seat hand at. item_told j seat hand are (are.each seat hand at) ∙ ap (λ s. holds_of (λ h. h.job == j) (holding view.history s)) (omega arith))
    ∙ ap (λ n. count (λ seat. holds_of (λ h. h.job == j) (holding view.history seat)) (range_with_len 0 n)) are.all
