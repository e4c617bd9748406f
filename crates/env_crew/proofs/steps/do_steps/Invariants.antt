use Rattle.std.proofs.Common.{◌≡◌, length}
use Rattle.env_crew.specs.Tasks.{HasDoneActs, IsUnderWay}
use Rattle.env_crew.proofs.steps.do_steps.Given as goal

abbrev pub invariant-loop-work : goal.invariant-loop-work
invariant-loop-work g l =
    let begun = g.D.Work.Assigned.work l.fn.work in
    let work = g.D.Work.Assigned.work l.work in
    IsUnderWay (g.D.Desk.desk l.desk) work × (work ≡ record begun { value = work.value; rest = work.rest })
    × HasDoneActs (g.D.Desk.desk l.fn.desk) (g.D.Desk.desk l.desk)

abbrev pub decreases-loop-work : goal.decreases-loop-work
decreases-loop-work g l = length (g.D.Work.Assigned.work l.work).rest
