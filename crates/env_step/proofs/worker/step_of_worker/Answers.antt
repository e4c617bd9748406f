use Rattle.env_step.proofs.UnderWay.{at_task_taken}
use Rattle.env_step.specs.declared.wait.Wait.TheVariants as waits
use Rattle.env_step.proofs.Behind.{free_all, goes_in, waits_so}
use Rattle.env_step.proofs.worker.step_of_worker.Goals as goal

pub returns-in-Over : goal.returns-in-Over
returns-in-Over c reading = waits_so reading waits.Over c.requires.closed c.in-Over.ensures.kept
    (free_all c.args.env.now c.args.seat c.requires.worker.free, c.in-Over.ensures.finished)

pub returns-in-Nothing : goal.returns-in-Nothing
returns-in-Nothing c reading = waits_so reading waits.NoSource c.requires.closed c.in-Nothing.ensures.kept (
  (c.requires.worker.worker, free_all c.args.env.now c.args.seat c.requires.worker.free),
  c.in-Nothing.ensures.unfinished,
  c.in-Nothing.ensures.none,
)

pub returns-in-Item : goal.returns-in-Item
returns-in-Item c reading = rw (c.job.ensures, c.id.ensures, c.item.ensures)
    (goes_in reading c.in-Item.pass c.requires.worker.known c.in-Item.ensures.goes_in.enters)

pub returns-in-Task : goal.returns-in-Task
returns-in-Task c reading =
    let taken = c.in-Task.ensures in
    record {
      in_hand = at_task_taken c.in-Task.work c.advance.result.work c.advance.result.next taken (record {
        same = c.advance.ensures.same;
        reaches = c.advance.ensures.acts;
        stops = c.advance.ensures.stops;
        ends = c.advance.ensures.ends;
      });
      steps = (rw (c.task.ensures, c.home.ensures, c.found.ensures) taken.enters, tt);
    }
