use Rattle.std.proofs.Common.{refl, arith}
use Rattle.task_model.specs.Seats.{holding, running}
use Rattle.hist_model.specs.Script.{current, is_wanted}
use Rattle.worked_calls.proofs.one_env.tick_on.Goals as goal

pub tick-requires : goal.tick-requires
unfolding is_wanted current
tick-requires g c now = simp c.requires (record { driver = refl; wanted = refl })

pub take_nothing-requires : goal.take_nothing-requires
unfolding holding running
take_nothing-requires g c = simp (c.tick.ensures, c.requires) (record { worker = omega arith; known = omega arith; free = refl })

pub tick-requires-2 : goal.tick-requires-2
unfolding is_wanted current
tick-requires-2 g c now = simp (c.take_nothing.ensures, c.tick.ensures, c.requires) (record { driver = refl; wanted = refl })

pub returns : goal.returns
returns g c = simp (c.tick-2.ensures, c.take_nothing.ensures, c.tick.ensures, c.requires) refl
