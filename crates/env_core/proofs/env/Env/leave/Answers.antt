use Rattle.env_core.proofs.Acts.{DoesNext, at_leave, does_next, is_told, leave_open, may_enter, told_task}
use Rattle.env_core.proofs.Entries.{holds_at_pool}
use Rattle.env_core.specs.Views.{Enters}
use Rattle.std.proofs.Common.{refl}
use Rattle.task_base.specs.declared.entry.Kind.TheVariants as kinds
use Rattle.task_body.specs.declared.act.Act.TheVariants as acts
use Rattle.env_core.proofs.env.Env.leave.Goals as goal

pub unwrap-task-requires : goal.unwrap-task-requires
unwrap-task-requires g c =
    let does : DoesNext c.self.inside.ledger c.args.seat acts.Leave = does_next (rw c.self.view_is c.requires) in
    is_told does (at_leave c.self.invariant does).is_pool (c.task_of.ensures _ _ c.self.invariant.stands does.known)

pub leave-requires : goal.leave-requires
leave-requires g c =
    let does : DoesNext c.self.inside.ledger c.args.seat acts.Leave = does_next (rw c.self.view_is c.requires) in
    let opens = leave_open c.self.invariant does in
    (_, _, does.now, opens.0, opens.1)

pub enter-requires : goal.enter-requires
enter-requires g c =
    let does : DoesNext c.self.inside.ledger c.args.seat acts.Leave = does_next (rw c.self.view_is c.requires) in
    let same = told_task does (at_leave c.self.invariant does).is_pool (c.task_of.ensures _ _ c.self.invariant.stands does.known) c.unwrap-task.ensures in
    rw same (may_enter does refl refl refl)

pub invariant_of-self : goal.invariant_of-self
invariant_of-self g c =
    let does : DoesNext c.self.inside.ledger c.args.seat acts.Leave = does_next (rw c.self.view_is c.requires) in
    let same = told_task does (at_leave c.self.invariant does).is_pool (c.task_of.ensures _ _ c.self.invariant.stands does.known) c.unwrap-task.ensures in
    let enters : Enters c.self.inside.ledger c.enter.new.self c.args.seat (kinds.Leave does.now.task) = rw same at c.enter.ensures in
    let opens = leave_open c.self.invariant does in
    holds_at_pool c.self.invariant enters refl (λ t. refl) (c.leave.ensures _ _ does.now opens.0 opens.1)

pub returns-clause-enters : goal.returns-clause-enters
returns-clause-enters g c =
    let does : DoesNext c.self.inside.ledger c.args.seat acts.Leave = does_next (rw c.self.view_is c.requires) in
    let same = told_task does (at_leave c.self.invariant does).is_pool (c.task_of.ensures _ _ c.self.invariant.stands does.known) c.unwrap-task.ensures in
    rw (← c.self.view_is) (record {
      now = does.now;
      runs = does.runs;
      kind = kinds.Leave does.now.task;
      kind_is = refl;
      enters = rw same at c.enter.ensures;
    })
