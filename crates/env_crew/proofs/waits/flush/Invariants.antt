use Rattle.std.proofs.Common.{◌≡◌}
use Rattle.env_crew.specs.Desk.{IsLater, mine}
use Rattle.env_crew.specs.Driving.{AllFree, SameDesks}
use Rattle.env_crew.proofs.waits.flush.Given as goal

abbrev pub invariant-loop : goal.invariant-loop
invariant-loop g l =
    (goal.iterator-loop g).can_next l.iterator' × (goal.iterator-loop g).is_finite l.iterator'
    × AllFree g.D.Desk.desk l.spare.items × SameDesks g.D.Desk.desk l.fn.spare.items l.spare.items
    × IsLater (g.D.Desk.desk l.fn.desk) (g.D.Desk.desk l.desk) × (mine (g.D.Desk.desk l.desk) ≡ mine (g.D.Desk.desk l.fn.desk))
