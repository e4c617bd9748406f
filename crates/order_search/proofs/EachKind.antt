-- What holds of a plan of a script, whatever its kind.
-- Cited by `arrange`, `are_seated`.
use Rattle.std.proofs.Common.{◌≡◌, Bool, false, List}
use Rattle.std.specs.Prelude.{nat_le}
use Rattle.std.specs.List.{list_all}
use Rattle.task_base.specs.Plan.{Plan, opened}
use Rattle.order_model.specs.Plans.{plan_of}
use Rattle.order_model.specs.declared.event.Event.{Event}
use Rattle.order_model.specs.declared.plan_kind.PlanKind.{PlanKind}
use Rattle.order_model.specs.declared.plan_kind.PlanKind.TheVariants.{Closed, Open}
use Rattle.order_search.specs.Arranged.{HasNoOrder}
use Rattle.order_search.specs.Search.{task_of}
use Rattle.order_search.specs.Walk.{IsTask}
use Rattle.order_search.specs.declared.tries.Tries.{Tries}
use Rattle.order_search.proofs.Seated.{none_unseated}

-- the links are those of all the events
pub linked_of_kind : (kind : PlanKind) (script : Plan) (prefix : Bool) (tries : Tries) → IsTask (task_of script prefix tries)
    → IsTask (task_of (plan_of kind script) prefix tries)
linked_of_kind Closed script prefix tries is = is
linked_of_kind Open script prefix tries is = record { linked = is.linked; few = is.few; seated = is.seated }

-- events of other seats have no order
pub none_of_kind : (kind : PlanKind) (script : Plan) (prefix : Bool) (seen : List Event)
    → list_all (λ (e : Event). nat_le e.entry.seat script.workers) seen ≡ false → HasNoOrder (plan_of kind script) prefix seen
none_of_kind Closed script prefix seen unseated = none_unseated script prefix seen unseated
none_of_kind Open script prefix seen unseated = none_unseated (opened script) prefix seen unseated
