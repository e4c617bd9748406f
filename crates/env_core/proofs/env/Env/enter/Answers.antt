use Rattle.env_core.proofs.Acts.{DoesNext, at_enter, does_next, enter_closed, is_told, may_enter, told_task}
use Rattle.env_core.proofs.Entries.{holds_at_pool}
use Rattle.env_core.specs.Views.{Enters}
use Rattle.std.proofs.Common.{refl}
use Rattle.task_base.specs.declared.entry.Kind.TheVariants as kinds
use Rattle.task_body.specs.declared.act.Act.TheVariants as acts
use Rattle.env_core.proofs.env.Env.enter.Goals as goal

pub unwrap-task-requires : goal.unwrap-task-requires
unwrap-task-requires g c =
    let does : DoesNext c.self.inside.ledger c.args.seat (acts.Enter c.args.scope) = does_next (rw c.self.view_is c.requires) in
    is_told does (at_enter c.self.invariant does).is_pool (c.task_of.ensures _ _ c.self.invariant.stands does.known)

pub enter-requires : goal.enter-requires
enter-requires g c =
    let does : DoesNext c.self.inside.ledger c.args.seat (acts.Enter c.args.scope) = does_next (rw c.self.view_is c.requires) in
    (_, _, does.now, enter_closed c.self.invariant does)

pub enter-requires-2 : goal.enter-requires-2
enter-requires-2 g c =
    let does : DoesNext c.self.inside.ledger c.args.seat (acts.Enter c.args.scope) = does_next (rw c.self.view_is c.requires) in
    let same = told_task does (at_enter c.self.invariant does).is_pool (c.task_of.ensures _ _ c.self.invariant.stands does.known) c.unwrap-task.ensures in
    rw same (may_enter does refl refl refl)

pub invariant_of-self : goal.invariant_of-self
invariant_of-self g c =
    let does : DoesNext c.self.inside.ledger c.args.seat (acts.Enter c.args.scope) = does_next (rw c.self.view_is c.requires) in
    let same = told_task does (at_enter c.self.invariant does).is_pool (c.task_of.ensures _ _ c.self.invariant.stands does.known) c.unwrap-task.ensures in
    let enters : Enters c.self.inside.ledger c.enter-2.new.self c.args.seat (kinds.Enter does.now.task c.args.scope) = rw same at c.enter-2.ensures in
    holds_at_pool c.self.invariant enters refl (λ t. refl) (c.enter.ensures _ _ does.now (enter_closed c.self.invariant does))

pub returns-clause-enters : goal.returns-clause-enters
returns-clause-enters g c =
    let does : DoesNext c.self.inside.ledger c.args.seat (acts.Enter c.args.scope) = does_next (rw c.self.view_is c.requires) in
    let same = told_task does (at_enter c.self.invariant does).is_pool (c.task_of.ensures _ _ c.self.invariant.stands does.known) c.unwrap-task.ensures in
    rw (← c.self.view_is) (record {
      now = does.now;
      runs = does.runs;
      kind = kinds.Enter does.now.task c.args.scope;
      kind_is = refl;
      enters = rw same at c.enter-2.ensures;
    })
