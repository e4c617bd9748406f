use Rattle.env_pauses.proofs.desk.PausingDeskDesk.main_post.Goals as goal

pub main_post-requires : goal.main_post-requires
main_post-requires g c ok = rw (c.self.view_is, c.pause.ensures) (c.requires ok)
