use Rattle.std.proofs.Common.{sym, subst}
use Rattle.env_crew.proofs.Visits.{EndsItems, items_go_on}
use Rattle.env_crew.proofs.items.do_items.Goals as goal

pub loop-preserved : goal.loop-preserved
loop-preserved g c =
    let start = g.D.Desk.desk c.args.desk.now in
    let now = g.D.Desk.desk c.loop.desk in
    let ended = c.job_step-pass.ensures in (
      _,
      _,
      items_go_on start now (g.D.Desk.desk c.job_step-pass.new.self) ended.past c.in-Some-take.held c.job_value-value.result c.job_step-pass.result
          (subst (λ pass. EndsItems start now pass) (sym c.in-Some-take.ensures.value) c.loop.invariant.2) ended.holds ended.answered,
    )
