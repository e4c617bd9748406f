-- What the search for an order tells (this project's own rule).
use Rattle.std.specs.Prelude.{◌≤◌, Bool, List, length}
use Rattle.task_base.specs.Plan.{Plan}
use Rattle.order_model.specs.declared.event.Event.{Event}
use Rattle.order_model.specs.Orders.{IsBeginning, IsOrder}
use Rattle.order_search.specs.declared.arranged.Arranged.{Arranged}
use Rattle.order_search.specs.declared.arranged.Arranged.TheVariants.{Order, NoOrder, GaveUp}

-- there is no order of these events
abbrev pub HasNoOrder : Plan → Bool → List Event → Type 0
HasNoOrder script prefix seen = (events : List Event) → IsOrder script prefix seen events → ⊥

-- a beginning, and no other one is longer
pub record IsLongest (script : Plan) (seen events rest : List Event) : Type 0 where
  pub begins : IsBeginning script seen events rest
  pub longest : (others left : List Event) → IsBeginning script seen others left → length others ≤ length events

-- no order, and the longest beginning of one that there is
pub record IsWithout (script : Plan) (prefix : Bool) (seen events rest : List Event) : Type 0 where
  pub none : HasNoOrder script prefix seen
  pub longest : IsLongest script seen events rest

-- an order, or that there is none and the longest beginning, or some beginning where the search gave up
abbrev pub IsArranged : Plan → Bool → List Event → Arranged → Type 0
IsArranged script prefix seen (Order events) = IsOrder script prefix seen events.items
IsArranged script prefix seen (NoOrder events rest) = IsWithout script prefix seen events.items rest.items
IsArranged script prefix seen (GaveUp events rest) = IsBeginning script seen events.items rest.items
