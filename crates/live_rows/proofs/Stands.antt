-- A call leaves the roster standing for some past, and so does a rest.
-- Cited by `play.rt`.
use Rattle.std.proofs.Common.{List, ℕ}
use Rattle.std.specs.Prelude.{Result, Ok, Err}
use Rattle.task_base.specs.Plan.{Plan}
use Rattle.task_base.specs.declared.entry.Entry.{Entry}
use Rattle.task_base.specs.declared.entry.Kind.{Kind}
use Rattle.live_core.specs.Histories.{with_answer}
use Rattle.live_core.specs.declared.call.Call.{Call}
use Rattle.live_core.specs.declared.unmade.Unmade.{Unmade}
use Rattle.live_roster.specs.Answers.{CallGives, RestGives}
use Rattle.live_roster.specs.StandsFor.{StandsFor}
use Rattle.live_roster.specs.declared.rest.Unrested.{Unrested}
use Rattle.live_roster.specs.declared.rest.Unrested.TheVariants.{Misuse, HasCome}
use Rattle.live_roster.specs.declared.roster.LiveRoster.{LiveRoster}
use Rattle.live_roster.specs.declared.wake.Wake.{Wake}
use Rattle.live_rows.specs.Stands.{Stands}

pub stands_called : (plan : Plan) (past : List Entry) (by_seat : ℕ) (call : Call) (before after : LiveRoster) (answer : Result Kind Unmade)
    (wake : Wake) → CallGives plan past by_seat call before after answer wake → Stands after
stands_called plan past by_seat call before after answer wake gives = (plan, with_answer past call answer, gives.roused.stands)

pub stands_rested : (plan : Plan) (past : List Entry) (call : Call) (before after : LiveRoster) (answer : Result ℕ Unrested) (wake : Wake)
    → StandsFor plan past before → RestGives plan past call before after answer wake → Stands after
stands_rested plan past call before after (Ok seat) wake stands gives = (plan, past, gives.3.stands)
stands_rested plan past call before after (Err HasCome) wake stands gives = (plan, past, gives.2.stands)
stands_rested plan past call before after (Err Misuse) wake stands gives = (plan, past, rw gives.1 stands)
