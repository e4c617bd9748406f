-- What the close gives (this project's own rule).
use Rattle.std.specs.Prelude.{◌≡◌, ◌^◌, ◌<◌, List, length, Option, Some}
use Rattle.std.specs.List.{AllByRecursion}
use Rattle.task_base.specs.Plan.{Plan}
use Rattle.task_base.specs.declared.entry.Entry.{Entry}
use Rattle.hist_model.specs.Legal.{IsLegal}
use Rattle.hist_model.specs.Views.{IsPrefix, own_entries}
use Rattle.turn_table.specs.Seats.{SeatView, Tells}
use Rattle.turn_table.specs.declared.view.View.{View}

-- what the slot has at the end: the one history's value, whose entries are those of the first seat and of the others
pub record Closing {V : Type 0} (history : V → List Entry) (basis_of : V → Plan) (basis : Plan) (first : View)
    (rest : List SeatView) (slot : Option V) : Type 0 where
  pub value : V
  pub slot_is : slot ≡ Some value
  pub basis_is : basis_of value ≡ basis
  pub legal : IsLegal basis (history value)
  pub room : length (history value) < 2 ^ 32
  pub begins : IsPrefix first.seen (history value)
  pub own : own_entries first.number (history value) ≡ first.mine
  pub others : AllByRecursion (Tells (history value)) rest
