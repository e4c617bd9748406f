use Rattle.env_core.proofs.Waits.{answered, at_start, behind_start, empty_is, idle_is, knows_its_job, others_wait_not, unanswered, waits_for, waits_for_none}
use Rattle.std.proofs.Common.{ap, refl, sym, ◌∙◌}
use Rattle.std.specs.Prelude.{◌==◌}
use Rattle.env_core.proofs.env.Env.may_go_on.Goals as goal

pub returns-in_default : goal.returns-in_default
returns-in_default g c = rw (← c.self.view_is) (sym (waits_for_none c.self.inside.ledger c.made-made.result c.made-made.ensures c.action.ensures
    c.in_default.not-Some))

pub returns-in-Flush : goal.returns-in-Flush
returns-in-Flush g c = rw (← c.self.view_is) (c.is_ok.ensures.value
    ∙ idle_is c.idle.result _ _ (c.idle.ensures.ok c.self.inside.ledger.script c.self.inside.ledger.history c.self.invariant.stands)
    ∙ sym (waits_for c.self.inside.ledger c.made-made.result c.made-made.ensures c.action.ensures c.in-Some.is c.in-Flush.is))

pub joined-requires : goal.joined-requires
joined-requires g c = (
  c.self.inside.ledger.script,
  c.self.inside.ledger.history,
  knows_its_job c.in-Join.job c.self.invariant.plan c.self.invariant.stands c.action.ensures c.in-Some.is c.in-Join.is (λ sound. sound),
)

pub returns-in-Ok : goal.returns-in-Ok
returns-in-Ok g c =
    let knows = knows_its_job c.in-Join.job c.self.invariant.plan c.self.invariant.stands c.action.ensures c.in-Some.is c.in-Join.is (λ sound. sound) in
    rw (← c.self.view_is) (sym (waits_for c.self.inside.ledger c.made-made.result c.made-made.ensures c.action.ensures c.in-Some.is c.in-Join.is
    ∙ answered _ _ c.in-Ok.field-0 (c.in-Ok.ensures.ok c.self.inside.ledger.script c.self.inside.ledger.history knows)))

pub returns-in-Err : goal.returns-in-Err
returns-in-Err g c =
    let knows = knows_its_job c.in-Join.job c.self.invariant.plan c.self.invariant.stands c.action.ensures c.in-Some.is c.in-Join.is (λ sound. sound) in
    let not_yet = c.in-Err.ensures.not_yet c.self.inside.ledger.script c.self.inside.ledger.history knows in
    rw (← c.self.view_is) (not_yet.2 ∙ sym (waits_for c.self.inside.ledger c.made-made.result c.made-made.ensures c.action.ensures c.in-Some.is c.in-Join.is
    ∙ unanswered _ _ not_yet.0))

pub returns-then-made-eq0 : goal.returns-then-made-eq0
returns-then-made-eq0 g c = rw (← c.self.view_is) (sym (waits_for c.self.inside.ledger c.made-made.result c.made-made.ensures c.action.ensures c.in-Some.is
    c.in-Cancel.is
    ∙ at_start c.made-made.result _ c.if-made-eq0.true))

pub cancelled-requires : goal.cancelled-requires
cancelled-requires g c = (
  c.self.inside.ledger.script,
  c.self.inside.ledger.history,
  knows_its_job c.in-Cancel.job c.self.invariant.plan c.self.invariant.stands c.action.ensures c.in-Some.is c.in-Cancel.is (λ sound. sound),
)

pub returns-else-made-eq0 : goal.returns-else-made-eq0
returns-else-made-eq0 g c =
    let knows = knows_its_job c.in-Cancel.job c.self.invariant.plan c.self.invariant.stands c.action.ensures c.in-Some.is c.in-Cancel.is (λ sound. sound) in
    rw (← c.self.view_is) (c.is_ok-else-made-eq0.ensures.value
    ∙ empty_is c.cancelled.result _ (c.cancelled.ensures.ok c.self.inside.ledger.script c.self.inside.ledger.history knows)
    ∙ sym (waits_for c.self.inside.ledger c.made-made.result c.made-made.ensures c.action.ensures c.in-Some.is c.in-Cancel.is
    ∙ behind_start c.made-made.result _ c.if-made-eq0.false))

pub returns-then-made-eq0-2 : goal.returns-then-made-eq0-2
returns-then-made-eq0-2 g c = rw (← c.self.view_is) (sym (waits_for c.self.inside.ledger c.made-made.result c.made-made.ensures c.action.ensures
    c.in-Some.is c.in-Shutdown.is
    ∙ at_start c.made-made.result _ c.if-made-eq0-2.true))

pub returns-else-made-eq0-2 : goal.returns-else-made-eq0-2
returns-else-made-eq0-2 g c = rw (← c.self.view_is) (ap (λ n. n == 0)
    (c.blockers.ensures c.self.inside.ledger.script c.self.inside.ledger.history c.self.invariant.stands)
    ∙ sym (waits_for c.self.inside.ledger c.made-made.result c.made-made.ensures c.action.ensures c.in-Some.is c.in-Shutdown.is
    ∙ behind_start c.made-made.result _ c.if-made-eq0-2.false))

pub returns-in_default-action : goal.returns-in_default-action
returns-in_default-action g c =
    let arm = c.in_default-action in
    rw (← c.self.view_is) (sym (waits_for c.self.inside.ledger c.made-made.result c.made-made.ensures c.action.ensures c.in-Some.is refl
    ∙ others_wait_not c.self.inside.ledger.script c.self.inside.ledger.history c.made-made.result c.in-Some.action arm.not-Flush arm.not-Join arm.not-Cancel
    arm.not-Shutdown))
