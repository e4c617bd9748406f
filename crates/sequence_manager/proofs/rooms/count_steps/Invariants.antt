-- What the steps so far post is counted.
use Rattle.sequence_manager.specs.Postings.{posting_of_step}
use Rattle.sequence_manager.proofs.Counting.{AreCounted}
use Rattle.sequence_manager.proofs.rooms.count_steps.Given as goal

abbrev pub invariant-loop-step : goal.invariant-loop-step
invariant-loop-step l = AreCounted posting_of_step l.fn.counts.items l.steps l.counts.items l.step-index
