use Rattle.task_sequence.proofs.Held.{fresh_room, fresh_view}
use Rattle.task_sequence.proofs.sequences.Sequences.new.Goals as goal

pub returns-clause-sequences : goal.returns-clause-sequences
returns-clause-sequences c = fresh_view _ _ c.args.sequences c.in_ok-nodes.ensures.empty c.in_ok-lines.ensures

pub returns-clause-room : goal.returns-clause-room
returns-clause-room c = fresh_room _ c.args.tasks c.in_ok-nodes.ensures.empty
