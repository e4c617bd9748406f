use Rattle.env_crew.proofs.Holds.{later_asleep, later_trans}
use Rattle.env_crew.proofs.worker.work.Goals as goal

pub loop-preserved : goal.loop-preserved
loop-preserved g c =
    let was = c.loop.invariant in
    let start = g.D.Desk.desk c.args.desk.now in
    let served = g.D.Desk.desk c.serve_or.new.desk in
    let done = c.in-Nothing.ensures in
    rw c.sleep.ensures (_, _, done.free, later_asleep start served (later_trans start (g.D.Desk.desk c.loop.desk) served was.3 done.later))
