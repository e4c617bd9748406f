use Rattle.std.proofs.Common.{rules}
use Rattle.env_shared.proofs.desk.SharedDeskDesk.post.Goals as goal

pub post-ok-requires : goal.post-ok-requires
post-ok-requires g c ok = let wanted = c.requires ok in record { driver = search rules; wanted = search rules }
