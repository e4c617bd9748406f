-- Whether a seat is free, by its hand.
-- Cited by `Hands::is_free`, `env_explain`, `log_replay`, `next_entry`.
use Rattle.std.proofs.Common.{◌≡◌, ℕ, false, Option, Some, None, refl, sym}
use Rattle.std.specs.Prelude.{is_none, ◌&&◌}
use Rattle.task_model.specs.Seats.{Running, is_free, running}
use Rattle.hist_model.proofs.Laws.Own.{holding_own, running_own}
use Rattle.env_core.specs.Views.{EnvView}
use Rattle.env_step.specs.Hands.{IsInHand, is_empty}
use Rattle.env_step.specs.declared.hand.Hand.{Hand}
use Rattle.env_step.specs.declared.hand.Hand.TheVariants.{Free, Task, Item}

-- a seat is free exactly where its hand is empty
pub free_hand : (view : EnvView) (seat : ℕ) (hand : Hand) → IsInHand view seat hand → is_empty hand ≡ is_free view.history seat
free_hand view seat Free in_hand = sym (rw (← running_own view.history seat, ← holding_own view.history seat) in_hand)
free_hand view seat (Task at) in_hand = rw (← running_own view.history seat, in_hand.seats.runs) refl
free_hand view seat (Item pass) in_hand = rw (← holding_own view.history seat, in_hand.holds) (no_none (running view.history seat))
  where
    no_none : (o : Option Running) → false ≡ (is_none o && false)
    no_none None = refl
    no_none (Some w) = refl

-- a hand other than the free one is not empty
pub not_empty : (hand : Hand) → (hand ≡ Free → ⊥) → is_empty hand ≡ false
not_empty Free other = absurd (other refl)
not_empty (Task at) other = refl
not_empty (Item pass) other = refl
