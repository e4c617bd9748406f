use Rattle.std.proofs.Common.{arith, refl, subst}
use Rattle.std.proofs.lemmas.List.{take_all}
use Rattle.task_model.specs.Capacity.{taken_with}
use Rattle.task_model.specs.Past.{fold_past}
use Rattle.task_model.specs.Seats.{holding, running}
use Rattle.log_context.specs.Work.{IsWorkOf}
use Rattle.log_context.proofs.Working.{work_more}
use Rattle.log_context.proofs.work.work_of.Goals as goal

pub loop-i-init : goal.loop-i-init
unfolding running holding taken_with fold_past
loop-i-init c = record { task = refl; taken = refl; job = refl }

pub loop-i-preserved : goal.loop-i-preserved
loop-i-preserved c =
    work_more c.args.script.now c.args.past.now c.args.seat c.loop-i.i _ _ _ c.loop-i-test.true c.loop-i.invariant c.work_after-work.ensures

pub returns : goal.returns
returns c = subst (λ l. IsWorkOf c.args.script.now l c.args.seat c.loop-i.work)
    (take_all c.loop-i.i c.args.past.now (omega (arith, c.loop-i-test.false))) c.loop-i.invariant
