use Rattle.std.proofs.Common.{◌≡◌, true, [], drop}
use Rattle.task_model.specs.Seats.{is_free}
use Rattle.env_crew.specs.Desk.{IsLater, mine}
use Rattle.env_crew.specs.Driving.{AllFree, AreLeft, KeepsTime, SameDesks}
use Rattle.env_crew.proofs.driver.drive.Given as goal

abbrev pub invariant-loop-action : goal.invariant-loop-action
invariant-loop-action g l =
    IsLater (g.D.Desk.desk l.fn.desk) (g.D.Desk.desk l.desk)
    × AreLeft (g.D.Desk.desk l.desk) (drop l.action-index l.action-items) []
    × (is_free (mine (g.D.Desk.desk l.desk)) 0 ≡ true)
    × KeepsTime (g.C.Clock.readings l.fn.clock) (g.C.Clock.readings l.clock) (mine (g.D.Desk.desk l.desk))
    × AllFree g.D.Desk.desk l.spare.items × SameDesks g.D.Desk.desk l.fn.spare.items l.spare.items
