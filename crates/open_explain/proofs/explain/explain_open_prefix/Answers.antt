use Rattle.std.proofs.Common.{Some, None, arith, ◌∙◌}
use Rattle.task_base.specs.Plan.{opened}
use Rattle.open_check.proofs.Following.{prefix_verdict}
use Rattle.open_explain.proofs.explain.explain_open_prefix.Goals as goal

pub returns-in-Ok-clause-verdict : goal.returns-in-Ok-clause-verdict
returns-in-Ok-clause-verdict c = prefix_verdict (opened c.args.script.now) c.args.log.now None
    (c.in-Ok.ensures (opened c.args.script.now) c.requires.fresh).0

pub barred-requires-clause-workers : goal.barred-requires-clause-workers
barred-requires-clause-workers c = omega (arith, c.requires.fresh.pool.script_fits.workers_fit)

pub barred-requires-clause-stopped : goal.barred-requires-clause-stopped
barred-requires-clause-stopped c = c.in-Err.ensures (opened c.args.script.now) c.requires.fresh

pub returns-in-Err-clause-verdict : goal.returns-in-Err-clause-verdict
returns-in-Err-clause-verdict c = c.barred.ensures.verdict ∙ prefix_verdict (opened c.args.script.now) c.args.log.now (Some c.in-Err.stop.place)
    (c.in-Err.ensures (opened c.args.script.now) c.requires.fresh).first
