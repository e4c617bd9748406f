use Rattle.std.proofs.Common.{◌≡◌}
use Rattle.env_check.proofs.Verdicts.{IsFollowed}
use Rattle.env_check.proofs.check.follow_all.Given as goal

abbrev pub invariant-loop-entry : goal.invariant-loop-entry
invariant-loop-entry l = IsFollowed l.replay l.script l.entries l.entry-index × (l.place ≡ l.entry-index)
