use Rattle.std.proofs.Common.{rules}
use Rattle.env_shared.proofs.desk.SharedDeskDesk.job_take.Goals as goal

pub job_take-requires : goal.job_take-requires
job_take-requires g c id item = let wanted = c.requires id item in record { driver = search rules; wanted = search rules }
