use Rattle.std.proofs.Common.{refl}
use Rattle.worked_calls.proofs.Known.{can_end, still}
use Rattle.worked_calls.proofs.calls.end.Goals as goal

pub end-requires : goal.end-requires
end-requires g c =
    can_end c.args.env.now c.args.seat c.args.task c.step.new.self
    (still c.args.env.now.script c.args.task c.args.work c.step.new.self c.requires.work c.in-Finished.ensures.unchanged)
    (c.in-Finished.ensures.finished refl) c.requires.last
