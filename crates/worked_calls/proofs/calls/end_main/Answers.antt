use Rattle.std.proofs.Common.{refl}
use Rattle.worked_calls.proofs.Known.{can_end_main, still}
use Rattle.worked_calls.proofs.calls.end_main.Goals as goal

pub main_end-requires : goal.main_end-requires
main_end-requires g c =
    can_end_main c.args.env.now c.args.task c.step.new.self
    (still c.args.env.now.script c.args.task c.args.work c.step.new.self c.requires.work c.in-Finished.ensures.unchanged)
    (c.in-Finished.ensures.finished refl) c.requires.last
