use Rattle.env_core.proofs.Entries.{counts, holds_at_pool, pool_still}
use Rattle.call_laws.proofs.Jobs.{joined_is}
use Rattle.env_core.proofs.JobCalls.{knows_job, unanswered_is}
use Rattle.env_core.proofs.JobEntries.{join_may_go_in, joined_allowed}
use Rattle.env_core.specs.Calls.{IsWantedNext}
use Rattle.std.proofs.Common.{ap, refl, sym, ◌∙◌}
use Rattle.std.proofs.lemmas.Result.{err_from_is_err_and}
use Rattle.std.specs.Prelude.{◌==◌}
use Rattle.task_base.specs.declared.entry.JobReply.TheVariants as replies
use Rattle.task_base.specs.declared.entry.Kind.TheVariants as kinds
use Rattle.env_core.proofs.env.Env.try_joined.Goals as goal

pub joined-requires : goal.joined-requires
joined-requires g c = (
  _,
  _,
  knows_job c.self.invariant c.args.seat c.args.job (kinds.Joined c.args.job replies.Refused) refl (rw c.self.view_is (c.requires replies.Refused)),
)

pub returns-in_err-reply : goal.returns-in_err-reply
returns-in_err-reply g c =
    let view = c.self.inside.ledger in
    let knows = knows_job c.self.invariant c.args.seat c.args.job (kinds.Joined c.args.job replies.Refused) refl
    (rw c.self.view_is (c.requires replies.Refused)) in
    let not_yet = c.in_err-reply.ensures.not_yet view.script view.history knows in
    let p = err_from_is_err_and c.from_residual.result c.from_residual.ensures.1 in
    let unanswered = unanswered_is view.script view.history c.args.job not_yet.0 in
    rw (p.1, p.2, ← c.self.view_is) (record {
      unanswered = unanswered;
      running = not_yet.1;
      ready = not_yet.2;
      some = λ none.
          let empty = ap (λ n. n == 0) (sym not_yet.1 ∙ none) in
          not_yet.2 ∙ join_may_go_in view c.args.seat c.args.job replies.Refused
          c.self.invariant.plan c.self.invariant.legal (rw c.self.view_is (c.requires replies.Refused)) empty (unanswered empty);
      kept = refl;
    })

pub enter-requires : goal.enter-requires
enter-requires g c =
    let view = c.self.inside.ledger in
    let wanted : IsWantedNext view c.args.seat (kinds.Joined c.args.job c.in_ok-reply.reply) = rw c.self.view_is (c.requires c.in_ok-reply.reply) in
    let is = joined_is view.script view.history c.args.job c.in_ok-reply.reply (c.in_ok-reply.ensures.ok view.script view.history
    (knows_job c.self.invariant c.args.seat c.args.job (kinds.Joined c.args.job c.in_ok-reply.reply) refl wanted)) in
    counts wanted refl (λ plan. joined_allowed view c.args.seat c.args.job c.in_ok-reply.reply wanted is.0 is.1)

pub invariant_of-self : goal.invariant_of-self
invariant_of-self g c = holds_at_pool c.self.invariant c.enter.ensures refl (λ t. refl) (pool_still c.self.invariant _ refl)

pub returns : goal.returns
returns g c =
    let view = c.self.inside.ledger in
    let is = joined_is view.script view.history c.args.job c.in_ok-reply.reply (c.in_ok-reply.ensures.ok view.script view.history
    (knows_job c.self.invariant c.args.seat c.args.job (kinds.Joined c.args.job replies.Refused) refl
    (rw c.self.view_is (c.requires replies.Refused)))) in
    rw (← c.self.view_is) (record { empty = is.0; reply_is = is.1; enters = c.enter.ensures })
