use Rattle.std.proofs.Common.{refl}
use Rattle.script_model.proofs.Worked.Tables.{opened}
use Rattle.worked_calls.specs.Plans.{flush_plan}
use Rattle.worked_calls.proofs.scripts.flushing.Goals as goal

pub returns-clause-plan : goal.returns-clause-plan
unfolding opened
returns-clause-plan c = c.script_of.ensures.plan flush_plan refl
