use Rattle.std.proofs.Common.{refl}
use Rattle.env_crew.specs.Desk.{as_seen}
use Rattle.env_shared.specs.Sits.{desk_of}
use Rattle.worked_calls.proofs.Known.{can_end, still}
use Rattle.worked_calls.proofs.desk_calls.end.Goals as goal

pub end-requires : goal.end-requires
end-requires g c =
    can_end (as_seen (desk_of c.args.desk.now)) c.args.desk.now.seat.number c.args.task c.step.new.self
    (still c.args.desk.now.seat.of.basis c.args.task c.args.work c.step.new.self c.requires.work c.in-Finished.ensures.unchanged)
    (c.in-Finished.ensures.finished refl) c.requires.last
