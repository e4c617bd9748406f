use Rattle.std.proofs.Common.{◌∙◌}
use Rattle.env_crew.proofs.Holds.{later_trans, later_kept, mine_kept}
use Rattle.env_crew.proofs.Spares.{desks_trans}
use Rattle.env_crew.proofs.waits.finish_shutdown.Goals as goal

pub loop-preserved : goal.loop-preserved
loop-preserved g c =
    let was = c.loop.invariant in
    let asked = c.in-Err.ensures in (
      _,
      _,
      c.pause.ensures.free,
      desks_trans g.D.Desk.desk c.args.spare.now.items c.loop.spare.items c.pause.new.spare.items was.3 c.pause.ensures.same,
      later_trans (g.D.Desk.desk c.args.desk.now) (g.D.Desk.desk c.loop.desk) (g.D.Desk.desk c.pause.new.desk) was.4
          (later_trans (g.D.Desk.desk c.loop.desk) (g.D.Desk.desk c.try_done.new.self) (g.D.Desk.desk c.pause.new.desk)
          (later_kept asked.holds asked.answered.kept) c.pause.ensures.later),
      c.pause.ensures.entered ∙ mine_kept asked.holds asked.answered.kept ∙ was.5,
    )
