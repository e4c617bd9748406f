-- What every list of calls and rests gives.
-- Cited by `no_wake_is_lost`.
use Rattle.std.proofs.Common.{List, [], ◌∷◌}
use Rattle.std.specs.Prelude.{Ok, Err}
use Rattle.task_base.specs.Plan.{Plan}
use Rattle.task_base.specs.declared.entry.Entry.{Entry}
use Rattle.live_roster.specs.Histories.{AreDoneTo, AreKept, Called, Deed, Done, Gives, Rested, with_deed}
use Rattle.live_roster.specs.StandsFor.{StandsFor}
use Rattle.live_roster.specs.declared.rest.Unrested.TheVariants.{Misuse, HasCome}
use Rattle.live_roster.specs.declared.roster.LiveRoster.{LiveRoster}
use Rattle.live_roster.specs.declared.wake.Wake.{Wake}

-- whatever is done, the roster stands for the past with its entry, if there is one
stands_on : (plan : Plan) (past : List Entry) (before after : LiveRoster) (deed : Deed) (wake : Wake) → StandsFor plan past before
    → Gives plan past before deed wake after → StandsFor plan (with_deed past deed) after
stands_on plan past before after (Called by_seat call answer) wake stands gives = gives.roused.stands
stands_on plan past before after (Rested call (Ok seat)) wake stands gives = gives.3.stands
stands_on plan past before after (Rested call (Err HasCome)) wake stands gives = gives.2.stands
stands_on plan past before after (Rested call (Err Misuse)) wake stands gives = rw gives.1 stands

pub all_are_kept : (plan : Plan) (past : List Entry) (roster : LiveRoster) (done : List Done) → StandsFor plan past roster → AreDoneTo roster done
    → AreKept plan past roster done
all_are_kept plan past roster [] stands made = stands.kept
all_are_kept plan past roster (done ∷ later) stands made = (
  stands.kept,
  all_are_kept plan (with_deed past done.deed) done.after later
      (stands_on plan past roster done.after done.deed done.wake stands (made.0 plan past stands)) made.1,
)
