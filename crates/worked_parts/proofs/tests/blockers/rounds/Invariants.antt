use Rattle.std.proofs.Common.{◌≡◌}
use Rattle.worked_parts.proofs.tests.blockers.rounds.Given as goal

abbrev pub invariant-loop : goal.invariant-loop
invariant-loop l = l.idle.of ≡ l.word
