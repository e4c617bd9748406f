use Rattle.std.proofs.Common.{◌∙◌, arith}
use Rattle.worked_calls.proofs.Spare.{back_alone, free_alone}
use Rattle.worked_calls.proofs.alone.drive_seats.Goals as goal

pub drive-requires-clause-free : goal.drive-requires-clause-free
drive-requires-clause-free g c κs within i d here =
    free_alone c.args.shared.now c.args.script.now c.desk-worker.result (c.desk-worker.ensures.seat ∙ c.requires.second) c.requires.script
    (omega (arith, c.requires.one)) i d (rw (c.from_vec-spare.ensures.items ∙ c.in_ok-vec.ensures.items) at here)

pub returns-clause-second : goal.returns-clause-second
returns-clause-second g c =
    rw c.into_seat-second.ensures.seat (back_alone c.args.shared.now c.desk-worker.result c.in-Some.desk c.from_vec-spare.result.items c.drive.new.spare.items c.pop.new.self.items
    (c.desk-worker.ensures.seat ∙ c.requires.second) c.desk-worker.ensures.seated (c.from_vec-spare.ensures.items ∙ c.in_ok-vec.ensures.items)
    c.drive.ensures.same c.in-Some.ensures.items (rw (← c.into_seat-second.ensures.seat) c.into_seat-second.ensures.seated))
