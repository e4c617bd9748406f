use Rattle.std.proofs.Common.{length}
use Rattle.situation_after.proofs.driver.+driver_of.Given as goal

abbrev pub decreases-driver_of : goal.decreases-driver_of
decreases-driver_of l = length l.actions.now
