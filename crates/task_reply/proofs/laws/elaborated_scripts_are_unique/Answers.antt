use Rattle.task_reply.proofs.OneScript.{one_script}
use Rattle.task_reply.proofs.laws.elaborated_scripts_are_unique.Goals as goal

pub returns : goal.returns
returns c = one_script
