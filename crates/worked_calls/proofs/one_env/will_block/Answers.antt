use Rattle.std.proofs.Common.{refl, arith}
use Rattle.task_base.specs.declared.step.Scope.TheVariants as scopes
use Rattle.task_model.specs.Seats.{holding, running}
use Rattle.worked_calls.proofs.Scopes.{comes_idle}
use Rattle.worked_calls.proofs.one_env.will_block.Goals as goal

pub take_nothing-requires : goal.take_nothing-requires
unfolding holding running
take_nothing-requires g c = rw c.take_long-long.ensures.env (record { worker = omega arith; known = omega arith; free = refl })

pub try_idle-requires : goal.try_idle-requires
try_idle-requires g c = rw c.end_long.ensures (comes_idle scopes.Will)
