use Rattle.order_model.specs.Plans.{plan_of}
use Rattle.order_search.proofs.EachKind.{linked_of_kind}
use Rattle.order_search.proofs.Merged.{arranged_other}
use Rattle.order_search.proofs.orders.arrange.Goals as goal

pub search-requires-clause-task : goal.search-requires-clause-task
search-requires-clause-task c = linked_of_kind c.args.kind c.args.script.now c.args.prefix c.in_ok-tries.tries (c.in_ok-tries.ensures.task c.args.prefix)

pub returns : goal.returns
returns c = arranged_other (plan_of c.args.kind c.args.script.now) c.args.prefix c.in_ok-tries.tries.events.items c.args.seen.now c.in_ok-found.found
    c.in_ok-tries.ensures.own c.in_ok-found.ensures
