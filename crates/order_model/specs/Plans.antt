-- The plan that a script is of each kind.
use Rattle.task_base.specs.Plan.{Plan, opened}
use Rattle.order_model.specs.declared.plan_kind.PlanKind.{PlanKind}
use Rattle.order_model.specs.declared.plan_kind.PlanKind.TheVariants.{Closed, Open}

-- the script itself, or its open plan
abbrev pub plan_of : PlanKind → Plan → Plan
plan_of Closed script = script
plan_of Open script = opened script
