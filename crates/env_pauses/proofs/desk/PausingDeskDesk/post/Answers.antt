use Rattle.env_pauses.proofs.desk.PausingDeskDesk.post.Goals as goal

pub post-requires : goal.post-requires
post-requires g c ok = rw (c.self.view_is, c.pause.ensures) (c.requires ok)
