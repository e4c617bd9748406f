use Rattle.env_crew.specs.Desk.{IsLater}
use Rattle.env_crew.specs.Serving.{IsFree}
use Rattle.env_crew.proofs.worker.work.Given as goal

abbrev pub invariant-loop : goal.invariant-loop
invariant-loop g l =
    (goal.iterator-loop g).can_next l.iterator' × (goal.iterator-loop g).is_finite l.iterator'
    × IsFree (g.D.Desk.desk l.desk) × IsLater (g.D.Desk.desk l.fn.desk) (g.D.Desk.desk l.desk)
