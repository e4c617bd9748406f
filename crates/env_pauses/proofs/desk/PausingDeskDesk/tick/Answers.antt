use Rattle.env_pauses.proofs.desk.PausingDeskDesk.tick.Goals as goal

pub tick-requires : goal.tick-requires
tick-requires g c now = rw (c.self.view_is, c.pause.ensures) (c.requires now)
