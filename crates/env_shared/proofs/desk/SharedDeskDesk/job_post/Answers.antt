use Rattle.std.proofs.Common.{rules}
use Rattle.env_shared.proofs.desk.SharedDeskDesk.job_post.Goals as goal

pub job_post-ok-requires : goal.job_post-ok-requires
job_post-ok-requires g c ok = let wanted = c.requires ok in record { driver = search rules; wanted = search rules }
