use Rattle.env_crew.proofs.Visits.{EndsItems}
use Rattle.env_crew.proofs.items.do_items.Given as goal

abbrev pub invariant-loop : goal.invariant-loop
invariant-loop g l =
    (goal.iterator-loop g).can_next l.iterator' × (goal.iterator-loop g).is_finite l.iterator'
    × EndsItems (g.D.Desk.desk l.fn.desk) (g.D.Desk.desk l.desk) l.pass
