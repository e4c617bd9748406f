use Rattle.env_pauses.proofs.desk.PausingDeskDesk.try_joined.Goals as goal

pub try_joined-requires : goal.try_joined-requires
try_joined-requires g c reply = rw (c.self.view_is, c.pause.ensures) (c.requires reply)
