-- Two pieces that were added one after the other.
-- Cited by `add_limits`, `add_priorities`.
use Rattle.std.proofs.Common.{◌≡◌, ℕ, List, ◌++◌, append_assoc, ap, ◌∙◌}
use Rattle.std.specs.Prelude.{OnOk, Result, Ok, Err}

pub two_pieces : {A B : Type 0} (result : Result A B) (old mid new a b : List ℕ) → mid ≡ old ++ a → OnOk result (new ≡ mid ++ b)
    → OnOk result (new ≡ old ++ (a ++ b))
two_pieces (Ok x) old mid new a b first second = second ∙ ap (λ (l : List ℕ). l ++ b) first ∙ append_assoc old a b
two_pieces (Err x) old mid new a b first second = second
