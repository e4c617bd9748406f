use Rattle.std.proofs.Common.{◌-◌, ◌∙◌, refl, arith}
use Rattle.task_sequence.specs.Links.{tasks_of}
use Rattle.task_sequence.proofs.LinkedNodes.{IsLinked-has, tasks_of-has}
use Rattle.task_sequence.proofs.Changes.{Has-take, KeepsOthers-take}
use Rattle.task_sequence.proofs.links.take_first.Goals as goal

pub returns-clause-linked : goal.returns-clause-linked
returns-clause-linked c =
    IsLinked-has _ (record { first = c.unwrap_or-ends.result; last = c.args.ends.now.last; count = c.args.ends.now.count - 1 }) _
    (Has-take _ _ c.args.ends.now c.remove-node.result c.remove-node.ensures.value
    (λ other node ne is. c.remove-node.ensures.updates.others other ne ∙ is)
    c.unwrap_or-ends.result c.unwrap_or-ends.ensures _ c.requires.linked)

pub returns-clause-tasks : goal.returns-clause-tasks
returns-clause-tasks c =
    tasks_of-has _ (record { first = c.unwrap_or-ends.result; last = c.args.ends.now.last; count = c.args.ends.now.count - 1 }) _
    (Has-take _ _ c.args.ends.now c.remove-node.result c.remove-node.ensures.value
    (λ other node ne is. c.remove-node.ensures.updates.others other ne ∙ is)
    c.unwrap_or-ends.result c.unwrap_or-ends.ensures _ c.requires.linked)

pub returns-clause-others : goal.returns-clause-others
returns-clause-others c =
    KeepsOthers-take _ _ c.args.ends.now (record { first = c.unwrap_or-ends.result; last = c.args.ends.now.last; count = c.args.ends.now.count - 1 })
    (λ other node ne is. c.remove-node.ensures.updates.others other ne ∙ is)
    (tasks_of c.args.nodes.now.slots c.args.ends.now) c.requires.linked (omega arith) refl
