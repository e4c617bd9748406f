use Rattle.std.proofs.Common.{◌≡◌, ◌∷◌, take}
use Rattle.task_base.specs.declared.script.Action.TheVariants.{StartJob}
use Rattle.task_script.specs.Generated.{postings_from}
use Rattle.task_script.proofs.generator.actions_of.Given as goal

abbrev pub invariant-loop-task : goal.invariant-loop-task
invariant-loop-task l = l.actions.items ≡ StartJob 0 ∷ postings_from 0 (take l.task l.numbers)
