use Rattle.std.proofs.Common.{[], arith}
use Rattle.order_model.specs.Plans.{plan_of}
use Rattle.order_answer.proofs.Few.{few_answered, few_begun}
use Rattle.order_answer.proofs.Seated.{right_seated}
use Rattle.order_answer.proofs.answer.answer_to.Goals as goal

pub arrange-requires-clause-seated : goal.arrange-requires-clause-seated
arrange-requires-clause-seated c = right_seated c.args.script.now.workers [] c.args.seen.now c.requires.right

pub said_of-requires-clause-few : goal.said_of-requires-clause-few
said_of-requires-clause-few c =
    let found = rw c.in-NoOrder.is at c.in_ok-events.ensures in
    let few = few_begun (plan_of c.args.kind c.args.script.now) c.args.seen.now c.in-NoOrder.events.items c.in-NoOrder.rest.items found.longest.begins in
    rw c.deref-in-NoOrder.ensures.value (omega (arith, few, c.requires.few))

pub said_of-requires-in-GaveUp-clause-few : goal.said_of-requires-in-GaveUp-clause-few
said_of-requires-in-GaveUp-clause-few c =
    let found = rw c.in-GaveUp.is at c.in_ok-events.ensures in
    let few = few_begun (plan_of c.args.kind c.args.script.now) c.args.seen.now c.in-GaveUp.events.items c.in-GaveUp.rest.items found in
    rw c.deref-in-GaveUp.ensures.value (omega (arith, few, c.requires.few))

pub returns-in_ok-log-in-Order-clause-few : goal.returns-in_ok-log-in-Order-clause-few
returns-in_ok-log-in-Order-clause-few c =
    let found = rw c.in-Order.is at c.in_ok-events.ensures in
    rw (c.in_ok-log-in-Order.ensures, c.deref.ensures.value)
    (few_answered c.args.kind c.args.script.now c.args.seen.now c.in-Order.events.items c.requires.plan c.requires.few found.begins)
