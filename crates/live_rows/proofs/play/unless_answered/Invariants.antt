use Rattle.live_rows.specs.Stands.{Stands}
use Rattle.live_rows.proofs.play.unless_answered.Given as goal

abbrev pub invariant-loop-line : goal.invariant-loop-line
invariant-loop-line l = (goal.iterator-loop-line).can_next l.line-iterator × (goal.iterator-loop-line).is_finite l.line-iterator × Stands l.roster
