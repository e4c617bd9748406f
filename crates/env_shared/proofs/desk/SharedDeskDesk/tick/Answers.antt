use Rattle.std.proofs.Common.{rules}
use Rattle.env_shared.proofs.desk.SharedDeskDesk.tick.Goals as goal

pub tick-now-requires : goal.tick-now-requires
tick-now-requires g c now = let wanted = c.requires now in record { driver = search rules; wanted = search rules }
