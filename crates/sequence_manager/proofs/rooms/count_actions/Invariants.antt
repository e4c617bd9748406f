-- What the actions so far post is counted.
use Rattle.sequence_manager.specs.Postings.{posting_of_action}
use Rattle.sequence_manager.proofs.Counting.{AreCounted}
use Rattle.sequence_manager.proofs.rooms.count_actions.Given as goal

abbrev pub invariant-loop-action : goal.invariant-loop-action
invariant-loop-action l = AreCounted posting_of_action l.fn.counts.items l.actions l.counts.items l.action-index
