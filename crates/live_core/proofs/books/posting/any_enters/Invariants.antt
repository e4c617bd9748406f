use Rattle.std.proofs.Common.{◌≡◌, ℕ, false, take}
use Rattle.std.specs.List.{list_any}
use Rattle.hist_model.specs.Allowed.{enters}
use Rattle.live_core.proofs.books.posting.any_enters.Given as goal

abbrev pub invariant-loop-step : goal.invariant-loop-step
invariant-loop-step l = (t : ℕ) → list_any (λ step. enters t step l.kind) (take l.step-index l.steps) ≡ false
