use Rattle.env_core.proofs.Entries.{holds_at_pool, plain}
use Rattle.env_core.proofs.JobCalls.{knows_job}
use Rattle.std.proofs.Common.{refl}
use Rattle.task_base.specs.declared.entry.Kind.TheVariants as kinds
use Rattle.env_core.proofs.env.Env.job_cancel.Goals as goal

pub job_cancel-requires : goal.job_cancel-requires
job_cancel-requires g c = (_, _, knows_job c.self.invariant c.args.seat c.args.job (kinds.JobCancel c.args.job) refl (rw c.self.view_is c.requires))

pub enter-requires : goal.enter-requires
enter-requires g c = plain (rw c.self.view_is c.requires) refl refl

pub invariant_of-self : goal.invariant_of-self
invariant_of-self g c = holds_at_pool c.self.invariant c.enter.ensures refl (λ t. refl)
    (c.job_cancel.ensures _ _ c.args.seat (knows_job c.self.invariant c.args.seat c.args.job (kinds.JobCancel c.args.job) refl (rw c.self.view_is c.requires)))

pub returns : goal.returns
returns g c = rw (← c.self.view_is) c.enter.ensures
