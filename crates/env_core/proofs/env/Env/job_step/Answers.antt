use Rattle.env_core.proofs.Entries.{holds_at_pool}
use Rattle.env_core.proofs.JobCalls.{can_step, goes_on, has_to_leave, may_step}
use Rattle.env_core.proofs.Own.{pass_is_own}
use Rattle.env_core.specs.Jobs.{CanEndItem, held_by}
use Rattle.env_core.specs.Views.{Enters}
use Rattle.std.proofs.Common.{Some, refl}
use Rattle.task_base.specs.declared.entry.Kind.TheVariants as kinds
use Rattle.env_core.proofs.env.Env.job_step.Goals as goal

pub job_step-next-requires : goal.job_step-next-requires
job_step-next-requires g c =
    let can : CanEndItem c.self.inside.ledger c.args.seat c.args.pass c.args.value = rw c.self.view_is c.requires in
    (_, _, held_by c.args.pass, can_step c.self.invariant can)

pub enter-requires : goal.enter-requires
enter-requires g c =
    let can : CanEndItem c.self.inside.ledger c.args.seat c.args.pass c.args.value = rw c.self.view_is c.requires in
    rw (c.job-job.ensures, c.id-id.ensures, c.item-item.ensures)
    (may_step can (c.job_step-next.ensures.answer _ _ (held_by c.args.pass) (can_step c.self.invariant can)))

pub invariant_of-self : goal.invariant_of-self
invariant_of-self g c =
    let can : CanEndItem c.self.inside.ledger c.args.seat c.args.pass c.args.value = rw c.self.view_is c.requires in
    let enters : Enters c.self.inside.ledger c.enter.new.self c.args.seat
    (kinds.JobStep c.args.pass.job c.args.pass.id c.args.pass.item c.args.value c.job_step-next.result) =
    rw (c.job-job.ensures, c.id-id.ensures, c.item-item.ensures) at c.enter.ensures in
    holds_at_pool c.self.invariant enters refl (λ t. refl) (c.job_step-next.ensures.stands _ _ (held_by c.args.pass) (can_step c.self.invariant can))

pub returns-in_err-next : goal.returns-in_err-next
returns-in_err-next g c =
    let view = c.self.inside.ledger in
    let can : CanEndItem c.self.inside.ledger c.args.seat c.args.pass c.args.value = rw c.self.view_is c.requires in
    let none = c.in_err-next.ensures.answer _ _ (held_by c.args.pass) (can_step c.self.invariant can) in
    rw (c.from_residual.ensures, ← c.self.view_is) (record {
      has_to = has_to_leave view.script view.history c.args.seat c.args.pass.job none;
      enters = rw (c.job-job.ensures, c.id-id.ensures, c.item-item.ensures, c.in_err-next.was) at c.enter.ensures;
    })

pub invariant_of-self-2 : goal.invariant_of-self-2
invariant_of-self-2 g c =
    let can : CanEndItem c.self.inside.ledger c.args.seat c.args.pass c.args.value = rw c.self.view_is c.requires in
    let enters : Enters c.self.inside.ledger c.enter.new.self c.args.seat
    (kinds.JobStep c.args.pass.job c.args.pass.id c.args.pass.item c.args.value c.job_step-next.result) =
    rw (c.job-job.ensures, c.id-id.ensures, c.item-item.ensures) at c.enter.ensures in
    holds_at_pool c.self.invariant enters refl (λ t. refl) (c.job_step-next.ensures.stands _ _ (held_by c.args.pass) (can_step c.self.invariant can))

pub returns : goal.returns
returns g c =
    let view = c.self.inside.ledger in
    let can : CanEndItem c.self.inside.ledger c.args.seat c.args.pass c.args.value = rw c.self.view_is c.requires in
    let some = c.in_ok-next.ensures.answer _ _ (held_by c.args.pass) (can_step c.self.invariant can) in
    let on = goes_on view.script view.history c.args.seat c.args.pass.job c.in_ok-next.field-0 some in
    let enters : Enters c.self.inside.ledger c.enter.new.self c.args.seat
    (kinds.JobStep c.args.pass.job c.args.pass.id c.args.pass.item c.args.value (Some c.in_ok-next.field-0)) =
    rw (c.job-job.ensures, c.id-id.ensures, c.item-item.ensures, c.in_ok-next.was) at c.enter.ensures in
    rw (c.new.ensures, ← c.self.view_is) (record {
      stays = on.0;
      next_is = rw (c.job-job.ensures, c.id-id.ensures, on.1) refl;
      enters = enters;
      seats = rw (c.job-job.ensures, c.id-id.ensures) (pass_is_own view c.enter.new.self c.args.seat
          (kinds.JobStep c.args.pass.job c.args.pass.id c.args.pass.item c.args.value (Some c.in_ok-next.field-0))
          (record { job = c.args.pass.job; id = c.args.pass.id; item = c.in_ok-next.field-0 }) enters (λ old. refl));
    })
