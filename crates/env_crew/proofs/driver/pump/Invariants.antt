use Rattle.env_crew.proofs.Pump.{Pumping}
use Rattle.env_crew.proofs.driver.pump.Given as goal

abbrev pub invariant-loop : goal.invariant-loop
invariant-loop g l = Pumping (g.D.Desk.desk l.fn.desk) (g.D.Desk.desk l.desk) l.count l.counter
