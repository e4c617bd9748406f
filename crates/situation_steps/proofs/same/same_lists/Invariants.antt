use Rattle.std.proofs.Common.{◌≡◌, ℕ, ◌<◌, true, get_or}
use Rattle.situation_steps.proofs.same.same_lists.Given as goal

abbrev pub invariant-loop-place : goal.invariant-loop-place
invariant-loop-place g l = (k : ℕ) → k < l.place → (d e : g.row.T.Denot) → g.T.Same.same (get_or l.one k d) (get_or l.other k e) ≡ true
