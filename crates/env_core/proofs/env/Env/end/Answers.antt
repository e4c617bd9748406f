use Rattle.env_core.proofs.Acts.{end_closed, ends_at_worker}
use Rattle.env_core.proofs.Entries.{by_worker, holds_kept}
use Rattle.env_core.proofs.Wanted.{end_allowed}
use Rattle.env_core.specs.Calls.{CanEnd}
use Rattle.env_core.specs.Views.{Enters}
use Rattle.pool_core.specs.StandsFor.{StandsFor}
use Rattle.sequence_manager.proofs.Others.{stands_pool}
use Rattle.std.proofs.Common.{[], refl, sym, ◌++◌, ◌∙◌, ◌∷◌}
use Rattle.task_base.specs.declared.entry.Kind.TheVariants as kinds
use Rattle.env_core.proofs.env.Env.end.Goals as goal

pub end-requires : goal.end-requires
end-requires g c =
    let can : CanEnd c.self.inside.ledger c.args.seat c.args.work = rw c.self.view_is c.requires in
    (_, _, can.seats.now, end_closed c.self.invariant can)

pub enter-requires : goal.enter-requires
enter-requires g c =
    let can : CanEnd c.self.inside.ledger c.args.seat c.args.work = rw c.self.view_is c.requires in
    rw (c.task-task.ensures, c.value-left.ensures, c.split_up-cell.ensures.cell) (by_worker (ends_at_worker c.self.invariant can)
    (λ plan. end_allowed c.self.inside.ledger c.args.seat c.args.work plan.closed can (sym c.split_up-cell.ensures.cell ∙ c.split_up-cell.ensures.left)))

pub invariant_of-self : goal.invariant_of-self
invariant_of-self g c =
    let view = c.self.inside.ledger in
    let can : CanEnd c.self.inside.ledger c.args.seat c.args.work = rw c.self.view_is c.requires in
    let enters : Enters view c.enter.new.self c.args.seat (kinds.End c.args.work.task c.args.work.value) =
    rw (c.task-task.ensures, c.value-left.ensures, c.split_up-cell.ensures.cell) at c.enter.ensures in
    let stands : StandsFor view.script
    (view.history ++ (record { seat = c.args.seat; kind = kinds.End c.args.work.task c.args.work.value }) ∷ []) c.end.new.self =
    rw (← can.seats.task_is, c.split_up-cell.ensures.cell) at (c.end.ensures view.script view.history can.seats.now (end_closed c.self.invariant can)) in
    holds_kept c.self.invariant enters (λ t. refl) stands (stands_pool view.script view.history c.self.inside.main
    (record { seat = c.args.seat; kind = kinds.End c.args.work.task c.args.work.value }) refl (ends_at_worker c.self.invariant can) c.self.invariant.main)

pub returns : goal.returns
returns g c = rw (← c.self.view_is) (rw (c.task-task.ensures, c.value-left.ensures, c.split_up-cell.ensures.cell) at c.enter.ensures)
