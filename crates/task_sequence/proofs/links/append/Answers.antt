use Rattle.std.proofs.Common.{refl, arith}
use Rattle.task_sequence.specs.Links.{tasks_of}
use Rattle.task_sequence.specs.declared.links.Ends.{Ends}
use Rattle.task_sequence.proofs.LinkedNodes.{Has-last}
use Rattle.task_sequence.proofs.Changes.{appended, KeepsOthers-first, kept_by}
use Rattle.task_sequence.proofs.links.append.Goals as goal

pub returns-then-ends-eq0-clause-others : goal.returns-then-ends-eq0-clause-others
returns-then-ends-eq0-clause-others c =
    let key = c.insert_reserved-key.result in
    let after : Ends = record { first = key; last = key; count = 1 } in
    KeepsOthers-first _ _ key c.args.ends.now after c.insert_reserved-key.ensures.was_vacant
    (kept_by _ _ key c.insert_reserved-key.ensures.was_vacant c.insert_reserved-key.ensures.updates.others) refl

pub lead-requires : goal.lead-requires
lead-requires c =
    let end = Has-last c.args.nodes.now.slots c.args.ends.now (tasks_of c.args.nodes.now.slots c.args.ends.now) c.requires.linked (omega arith) in
    let kept = kept_by _ _ c.insert_reserved-key.result c.insert_reserved-key.ensures.was_vacant c.insert_reserved-key.ensures.updates.others in
    let is = kept c.args.ends.now.last _ end.1 in
    rw is refl

pub returns-clause-linked : goal.returns-clause-linked
returns-clause-linked c =
    let done = appended _ _ c.lead.new.nodes.slots c.args.ends.now c.insert_reserved-key.result c.args.node c.requires.linked (omega arith) c.requires.last
    c.insert_reserved-key.ensures.was_vacant c.insert_reserved-key.ensures.updates.changed c.insert_reserved-key.ensures.updates.others
    c.lead.ensures.leads c.lead.ensures.others in
    done.linked

pub returns-clause-tasks : goal.returns-clause-tasks
returns-clause-tasks c =
    let done = appended _ _ c.lead.new.nodes.slots c.args.ends.now c.insert_reserved-key.result c.args.node c.requires.linked (omega arith) c.requires.last
    c.insert_reserved-key.ensures.was_vacant c.insert_reserved-key.ensures.updates.changed c.insert_reserved-key.ensures.updates.others
    c.lead.ensures.leads c.lead.ensures.others in
    done.tasks

pub returns-clause-others : goal.returns-clause-others
returns-clause-others c =
    let done = appended _ _ c.lead.new.nodes.slots c.args.ends.now c.insert_reserved-key.result c.args.node c.requires.linked (omega arith) c.requires.last
    c.insert_reserved-key.ensures.was_vacant c.insert_reserved-key.ensures.updates.changed c.insert_reserved-key.ensures.updates.others
    c.lead.ensures.leads c.lead.ensures.others in
    done.others
