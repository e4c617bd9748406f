use Rattle.task_base.specs.declared.step.Scope.TheVariants as scopes
use Rattle.worked_calls.proofs.Scopes.{comes_idle}
use Rattle.worked_calls.proofs.one_env.may_block.Goals as goal

pub try_idle-requires : goal.try_idle-requires
try_idle-requires g c = rw c.end_long.ensures (comes_idle scopes.May)
