-- Which entries come next in a situation.
use Rattle.std.specs.Prelude.{◌≡◌, ℕ}
use Rattle.task_base.specs.Plan.{Plan}
use Rattle.task_base.specs.declared.entry.Entry.{Entry}
use Rattle.task_base.specs.declared.entry.Kind.{Kind}
use Rattle.hist_model.specs.Allowed.{IsAllowed}
use Rattle.situation.specs.Alike.{without_items}
use Rattle.situation.specs.Situation.{Situation}
use Rattle.situation_steps.specs.Reached.{IsReached}

-- an entry of this seat, of this kind but for the item of a job, is allowed after some legal past in the situation
pub record ComesNext (script : Plan) (s : Situation) (seat : ℕ) (kind : Kind) : Type 0 where
  pub reached : IsReached script s
  pub entry : Entry
  pub allowed : IsAllowed script reached.past entry
  pub seat_is : entry.seat ≡ seat
  pub kind_is : without_items entry.kind ≡ kind
