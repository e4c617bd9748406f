use Rattle.std.proofs.Common.{true, false, arith, refl, sym, ◌∙◌}
use Rattle.task_base.specs.Plan.{opened}
use Rattle.open_check.proofs.Following.{verdict_nowhere, verdict_there}
use Rattle.open_explain.proofs.AtWork.{some_at_work}
use Rattle.open_explain.proofs.explain.explain_open.Goals as goal

pub barred-requires-clause-workers : goal.barred-requires-clause-workers
barred-requires-clause-workers c = omega (arith, c.requires.fresh.pool.script_fits.workers_fit)

pub barred-requires-clause-stopped : goal.barred-requires-clause-stopped
barred-requires-clause-stopped c = c.in-Err.ensures (opened c.args.script.now) c.requires.fresh

pub returns-in-Err-clause-verdict : goal.returns-in-Err-clause-verdict
returns-in-Err-clause-verdict c = c.barred.ensures.verdict
    ∙ verdict_there (opened c.args.script.now) c.args.log.now c.in-Err.stop.place (c.in-Err.ensures (opened c.args.script.now) c.requires.fresh).first

pub returns-then-is_quiet-clause-verdict : goal.returns-then-is_quiet-clause-verdict
returns-then-is_quiet-clause-verdict c =
    let followed = c.in_default.ensures (opened c.args.script.now) c.requires.fresh in
    verdict_nowhere (opened c.args.script.now) c.args.log.now true followed.0
    (sym (c.is_quiet.ensures (opened c.args.script.now) c.args.log.now followed.1) ∙ c.if-is_quiet.true)

pub returns-clause-verdict : goal.returns-clause-verdict
returns-clause-verdict c =
    let followed = c.in_default.ensures (opened c.args.script.now) c.requires.fresh in
    verdict_nowhere (opened c.args.script.now) c.args.log.now false followed.0
    (sym (c.is_quiet.ensures (opened c.args.script.now) c.args.log.now followed.1) ∙ c.if-is_quiet.false)

pub returns-clause-told : goal.returns-clause-told
returns-clause-told c =
    let plan = opened c.args.script.now in
    let followed = c.in_default.ensures plan c.requires.fresh in
    let busy = sym (c.is_quiet.ensures plan c.args.log.now followed.1) ∙ c.if-is_quiet.false in
    (refl, c.in_ok-busy.ensures, rw c.in_ok-busy.ensures (some_at_work plan c.args.log.now busy))
