use Rattle.std.proofs.Common.{rules}
use Rattle.env_shared.proofs.desk.SharedDeskDesk.try_joined.Goals as goal

pub try_joined-requires : goal.try_joined-requires
try_joined-requires g c reply = let wanted = c.requires reply in record { driver = search rules; wanted = search rules }
