-- What every legal past gives, in one place: what a machine that stands for the past may rest on.
use Rattle.std.specs.Prelude.{◌≡◌, ℕ, ◌+◌, List, length}
use Rattle.task_base.specs.Plan.{Plan}
use Rattle.task_base.specs.declared.entry.Entry.{Entry}
use Rattle.script_model.specs.Laws.Postings.{IsPostedOnce}
use Rattle.task_model.specs.Seats.{inside}
use Rattle.task_model.specs.Jobs.{claimed, done}
use Rattle.queue_laws.specs.Orders.{OrdersDistinct}
use Rattle.hist_model.specs.Laws.Consistent.{IsConsistent, DoesOneThing, HoldsApart}
use Rattle.hist_model.specs.Laws.Postings.{AreAcceptedOnce}
use Rattle.hist_model.specs.Laws.Rising.{Rises}

-- who runs what, that a seat does one thing, what rises, that orders differ, that holders of a job are apart, that claimed
-- items are done or held, and that accepted tasks differ where the script posts each task once
pub record IsLegalPast (script : Plan) (past : List Entry) : Type 0 where
  pub consistent : IsConsistent script past
  pub one_thing : DoesOneThing script past
  pub rises : Rises past
  pub distinct : OrdersDistinct past
  pub apart : HoldsApart script past
  pub claimed_is : (job : ℕ) → claimed past job ≡ done past job + length (inside script past job)
  pub accepted_once : IsPostedOnce script → AreAcceptedOnce past
