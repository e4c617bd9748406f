use Rattle.order_model.specs.Plans.{plan_of}
use Rattle.order_search.specs.Search.{Stood, task_of}
use Rattle.order_search.proofs.search.search.Given as goal

abbrev pub ghost-go_on : goal.ghost-go_on
ghost-go_on a = task_of (plan_of a.kind a.script.now) a.prefix a.tries.now

abbrev pub invariant-loop : goal.invariant-loop
invariant-loop l = Stood (task_of (plan_of l.kind l.script) l.prefix l.tries) l.walk
