use Rattle.std.proofs.Common.{refl, arith}
use Rattle.task_model.specs.Seats.{acts_done, holding, running}
use Rattle.worked_calls.proofs.one_env.yield_item.Goals as goal

pub leave-requires : goal.leave-requires
unfolding holding
leave-requires g c = simp (c.requires.env, c.requires.pass) (record { held = record { known = omega arith; holds = refl }; value_is = refl })

pub take-work-requires : goal.take-work-requires
unfolding holding running
take-work-requires g c = simp (c.leave.ensures, c.requires.env, c.requires.pass) (record { worker = omega arith; known = omega arith; free = refl })

pub end-requires-clause-last : goal.end-requires-clause-last
unfolding running acts_done
end-requires-clause-last g c = simp (c.take-work.ensures.entered, c.leave.ensures, c.requires.env, c.requires.pass)
    (record { known = omega arith; runs = refl; all_entered = refl })

pub returns : goal.returns
returns g c = simp (c.end.ensures, c.take-work.ensures.entered, c.leave.ensures, c.requires.env, c.requires.pass) refl
