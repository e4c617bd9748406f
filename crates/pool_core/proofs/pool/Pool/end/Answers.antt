use Rattle.pool_core.proofs.Works.AtSeat.{cell_is_out, closed_at, closed_work, its_counts, posting_is, posting_there, runner_is_home}
use Rattle.pool_core.proofs.Works.AtSeat.{runner_there, seat_fits, sequence_is, task_is, task_there}
use Rattle.pool_core.proofs.Calls.Ends.{stands_at_end}
use Rattle.pool_core.proofs.Sources.Following.{has_place}
use Rattle.pool_core.proofs.Lines.{sequence_there}
use Rattle.std.proofs.Common.{arith, ◌∙◌}
use Rattle.std.proofs.lemmas.List.{length-set}
use Rattle.pool_core.proofs.pool.Pool.end.Goals as goal

pub task_at-task-requires : goal.task_at-task-requires
task_at-task-requires c = task_there (closed_at c.requires.3)

pub posting-posting-requires : goal.posting-posting-requires
posting-posting-requires c = posting_there (closed_at c.requires.3) c.task_at-task.ensures

pub ended-requires-clause-worker : goal.ended-requires-clause-worker
ended-requires-clause-worker c = (closed_at c.requires.3).worker

pub ended-requires-clause-seat : goal.ended-requires-clause-seat
ended-requires-clause-seat c = seat_fits (closed_at c.requires.3)

pub ended-requires-clause-runs : goal.ended-requires-clause-runs
ended-requires-clause-runs c = closed_work c.requires.3

pub ended-requires-2-clause-block_counted : goal.ended-requires-2-clause-block_counted
ended-requires-2-clause-block_counted c = (its_counts (closed_at c.requires.3) c.task_at-task.ensures c.posting-posting.ensures).0

pub ended-requires-2-clause-skip_counted : goal.ended-requires-2-clause-skip_counted
ended-requires-2-clause-skip_counted c = (its_counts (closed_at c.requires.3) c.task_at-task.ensures c.posting-posting.ensures).1

pub index_mut-requires : goal.index_mut-requires
index_mut-requires c = let at = closed_at c.requires.3 in omega (arith, at.known, at.stands.seats.all, c.args.self.now.seats.ok.0)

pub seq_of-seq-requires-clause-declared : goal.seq_of-seq-requires-clause-declared
seq_of-seq-requires-clause-declared c = runner_there (closed_at c.requires.3) c.task_at-task.ensures c.posting-posting.ensures

pub seq_of-seq-requires-clause-fits : goal.seq_of-seq-requires-clause-fits
seq_of-seq-requires-clause-fits c =
    let at = closed_at c.requires.3 in
    rw (at.stands.runners, task_is at c.task_at-task.ensures)
    (omega (arith, at.stands.script_fits.runners_fit, at.stands.script_fits.tasks_fit, at.task_declared))

pub put_back-requires-clause-there : goal.put_back-requires-clause-there
put_back-requires-clause-there c =
    let at = closed_at c.requires.3 in
    rw (c.seq_of-seq.ensures, sequence_is at c.task_at-task.ensures c.posting-posting.ensures, at.stands.lines.all)
    (sequence_there c.requires.0 c.requires.2.home c.requires.2.task at.runner_declared at.task_declared)

pub put_back-requires-clause-out : goal.put_back-requires-clause-out
put_back-requires-clause-out c =
    let at = closed_at c.requires.3 in
    rw (c.seq_of-seq.ensures, sequence_is at c.task_at-task.ensures c.posting-posting.ensures) (cell_is_out at)

pub refresh-requires : goal.refresh-requires
refresh-requires c =
    let at = closed_at c.requires.3 in
    rw (
      c.put_back.ensures,
      c.seq_of-seq.ensures,
      sequence_is at c.task_at-task.ensures c.posting-posting.ensures,
      runner_is_home at c.task_at-task.ensures c.posting-posting.ensures,
    ) (has_place c.requires.0 _ c.requires.2.home c.requires.2.task at.stands.script_fits at.stands.runners at.stands.priorities.all
    (length-set c.args.self.now.sequences.sequences _ _ ∙ at.stands.lines.all) at.stands.queues.roomy at.runner_declared at.task_declared)

pub returns : goal.returns
returns c = λ script past w can.
    let at = closed_at can in
    rw (
      c.refresh.ensures,
      c.put_back.ensures,
      c.ended-2.ensures,
      c.ended.ensures,
      c.seq_of-seq.ensures,
      sequence_is at c.task_at-task.ensures c.posting-posting.ensures,
      runner_is_home at c.task_at-task.ensures c.posting-posting.ensures,
      posting_is at c.task_at-task.ensures c.posting-posting.ensures,
    ) (stands_at_end c.args.cell at)
