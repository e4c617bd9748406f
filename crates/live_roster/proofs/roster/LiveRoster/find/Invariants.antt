use Rattle.std.specs.Prelude.{◌<◌, ℕ, List}
use Rattle.task_base.specs.Plan.{Plan}
use Rattle.task_base.specs.declared.entry.Entry.{Entry}
use Rattle.live_roster.specs.StandsFor.{HasNotes}
use Rattle.live_roster.specs.Wakes.{HasWorkAt, has_work}
use Rattle.live_roster.proofs.roster.LiveRoster.find.Given as goal

abbrev pub invariant-loop-seat : goal.invariant-loop-seat
invariant-loop-seat l = (plan : Plan) (past : List Entry) → HasNotes plan past l.self
    → (seat : ℕ) → seat < l.seat → HasWorkAt (has_work plan past l.self.wish l.own) l.self.notes.items l.note seat → ⊥
