use Rattle.env_pauses.proofs.desk.PausingDeskDesk.job_take.Goals as goal

pub job_take-requires : goal.job_take-requires
job_take-requires g c id item = rw (c.self.view_is, c.pause.ensures) (c.requires id item)
