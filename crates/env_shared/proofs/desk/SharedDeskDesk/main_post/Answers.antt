use Rattle.std.proofs.Common.{rules}
use Rattle.env_shared.proofs.desk.SharedDeskDesk.main_post.Goals as goal

pub main_post-ok-requires : goal.main_post-ok-requires
main_post-ok-requires g c ok = let wanted = c.requires ok in record { driver = search rules; wanted = search rules }
