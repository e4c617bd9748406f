use Rattle.env_crew.specs.Driving.{AllFree, SameDesks}
use Rattle.env_crew.proofs.Spares.{ServedBelow}
use Rattle.env_crew.proofs.waits.serve_each.Given as goal

abbrev pub invariant-loop-place : goal.invariant-loop-place
invariant-loop-place g l =
    AllFree g.D.Desk.desk l.spare.items × SameDesks g.D.Desk.desk l.fn.spare.items l.spare.items
    × ServedBelow g.D.Desk.desk l.place l.fn.spare.items l.spare.items
