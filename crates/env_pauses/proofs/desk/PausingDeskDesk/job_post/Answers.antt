use Rattle.env_pauses.proofs.desk.PausingDeskDesk.job_post.Goals as goal

pub job_post-requires : goal.job_post-requires
job_post-requires g c ok = rw (c.self.view_is, c.pause.ensures) (c.requires ok)
