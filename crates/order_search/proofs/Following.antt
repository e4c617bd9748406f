-- What a replay and a core tell of the next entry, and of the end.
-- Cited by `Follower::follow`, `Follower::is_ended`.
use Rattle.std.proofs.Common.{◌≡◌, Bool, List, refl, ◌∙◌}
use Rattle.std.proofs.lemmas.Bool.{true≢false}
use Rattle.task_base.specs.Plan.{Plan}
use Rattle.task_base.specs.declared.entry.Entry.{Entry}
use Rattle.task_model.specs.Seats.{is_quiet}
use Rattle.hist_model.specs.Script.{is_whole}
use Rattle.env_core.specs.Views.{EnvView}
use Rattle.live_core.specs.StandsFor.{StandsFor}
use Rattle.live_core.specs.declared.live.LiveCore.{LiveCore}
use Rattle.order_model.specs.Orders.{is_ended}
use Rattle.order_model.specs.Plans.{plan_of}
use Rattle.order_model.specs.declared.plan_kind.PlanKind.{PlanKind}
use Rattle.order_model.specs.declared.plan_kind.PlanKind.TheVariants as plan_kinds
use Rattle.order_search.specs.Following.{IsReplayed}

-- a replay by a plan of a script is one by the script itself
pub replayed_by : (kind : PlanKind) (script : Plan) (past : List Entry) (replay : EnvView) → IsReplayed (plan_of kind script) past replay
    → replay.script ≡ script
replayed_by plan_kinds.Closed script past replay is = is.script_is
replayed_by plan_kinds.Open script past replay is = absurd (true≢false is.closed)

-- what is told of the end
pub ended_by_replay : (plan : Plan) (past : List Entry) (replay : EnvView) (answer : Bool) → IsReplayed plan past replay
    → answer ≡ is_whole replay.script replay.history → answer ≡ is_ended plan past
ended_by_replay plan past replay answer is whole = whole ∙ rw (is.script_is, is.history_is, is.closed) refl

pub ended_by_core : (plan : Plan) (past : List Entry) (live : LiveCore) (answer : Bool) → StandsFor plan past live → answer ≡ is_quiet plan past
    → answer ≡ is_ended plan past
ended_by_core plan past live answer stands quiet = quiet ∙ rw stands.opened refl
