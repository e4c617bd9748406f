use Rattle.env_core.proofs.Entries.{counts, holds_at_pool, pool_still}
use Rattle.env_core.proofs.JobCalls.{knows_job}
use Rattle.env_core.proofs.JobEntries.{cancelled_allowed}
use Rattle.std.proofs.Common.{false, refl, sym, true}
use Rattle.std.proofs.lemmas.Bool.{false_from_ne_true, true≢false}
use Rattle.std.proofs.lemmas.Result.{err_from_is_err_and}
use Rattle.task_base.specs.declared.entry.Kind.TheVariants as kinds
use Rattle.env_core.proofs.env.Env.try_cancelled.Goals as goal

pub cancelled-requires : goal.cancelled-requires
cancelled-requires g c = (_, _, knows_job c.self.invariant c.args.seat c.args.job (kinds.Cancelled c.args.job) refl (rw c.self.view_is c.requires))

pub returns-in_err-cancelled : goal.returns-in_err-cancelled
returns-in_err-cancelled g c =
    let knows = knows_job c.self.invariant c.args.seat c.args.job (kinds.Cancelled c.args.job) refl (rw c.self.view_is c.requires) in
    let empty = c.in_err-cancelled.ensures.ok _ _ knows in
    let not_yet = c.in_err-cancelled.ensures.not_yet _ _ knows in
    let p = err_from_is_err_and c.from_residual.result c.from_residual.ensures.1 in
    rw (p.1, p.2, ← c.self.view_is) (record {
      busy = false_from_ne_true _ (λ k. true≢false (sym {a = false} (empty.1 k)));
      running = not_yet.0;
      ready = not_yet.1;
      kept = refl;
    })

pub enter-requires : goal.enter-requires
enter-requires g c =
    let empty = c.in_ok-cancelled.ensures.ok _ _ (knows_job c.self.invariant c.args.seat c.args.job (kinds.Cancelled c.args.job) refl
    (rw c.self.view_is c.requires)) in
    counts (rw c.self.view_is c.requires) refl (λ plan. cancelled_allowed c.self.inside.ledger c.args.seat c.args.job plan.closed c.self.invariant.legal
    (rw c.self.view_is c.requires) (empty.0 (refl {a = true})))

pub invariant_of-self : goal.invariant_of-self
invariant_of-self g c = holds_at_pool c.self.invariant c.enter.ensures refl (λ t. refl) (pool_still c.self.invariant _ refl)

pub returns : goal.returns
returns g c =
    let empty = c.in_ok-cancelled.ensures.ok _ _ (knows_job c.self.invariant c.args.seat c.args.job (kinds.Cancelled c.args.job) refl
    (rw c.self.view_is c.requires)) in
    rw (← c.self.view_is) (record { empty = empty.0 (refl {a = true}); enters = c.enter.ensures })
