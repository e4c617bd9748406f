use Rattle.env_core.proofs.Acts.{may_end_main, runs_main}
use Rattle.env_core.proofs.Entries.{holds_kept}
use Rattle.env_core.specs.Calls.{CanEndMain}
use Rattle.env_core.specs.Views.{Enters}
use Rattle.pool_core.proofs.Calls.Others.{stands_at_main}
use Rattle.sequence_manager.specs.StandsFor.{StandsFor as MainStandsFor}
use Rattle.std.proofs.Common.{[], refl, subst, sym, ◌++◌, ◌∙◌, ◌∷◌}
use Rattle.task_base.specs.declared.entry.Kind.TheVariants as kinds
use Rattle.task_base.specs.declared.entry.Kind.{Kind}
use Rattle.env_core.proofs.env.Env.main_end.Goals as goal

pub end-requires : goal.end-requires
end-requires g c =
    let can : CanEndMain c.self.inside.ledger c.args.seat c.args.work = rw c.self.view_is c.requires in
    (c.self.inside.ledger.script, c.self.inside.ledger.history, can.seats.now, rw c.home-queue.ensures (runs_main c.self.invariant can).2)

pub enter-requires : goal.enter-requires
enter-requires g c =
    let can : CanEndMain c.self.inside.ledger c.args.seat c.args.work = rw c.self.view_is c.requires in
    rw (c.task-task.ensures, c.value-left.ensures, c.split_up-cell.ensures.cell)
    (may_end_main c.self.invariant can (sym c.split_up-cell.ensures.cell ∙ c.split_up-cell.ensures.left))

pub invariant_of-self : goal.invariant_of-self
invariant_of-self g c =
    let view = c.self.inside.ledger in
    let can : CanEndMain c.self.inside.ledger c.args.seat c.args.work = rw c.self.view_is c.requires in
    let runs = runs_main c.self.invariant can in
    let kind : Kind = kinds.MainEnd c.args.work.task c.args.work.value in
    let enters : Enters view c.enter.new.self c.args.seat kind =
    rw (c.task-task.ensures, c.value-left.ensures, c.split_up-cell.ensures.cell) at c.enter.ensures in
    let stands : MainStandsFor view.script (view.history ++ (record { seat = 0; kind = kind }) ∷ []) c.end.new.self =
    rw (← can.seats.task_is, c.split_up-cell.ensures.cell) at (c.end.ensures view.script view.history can.seats.now (rw c.home-queue.ensures runs.2)) in
    holds_kept c.self.invariant enters (λ t. refl)
    (stands_at_main view.script view.history (record { seat = c.args.seat; kind = kind }) c.self.inside.pool refl runs.0 c.self.invariant.stands)
    (subst (λ s. MainStandsFor view.script (view.history ++ (record { seat = s; kind = kind }) ∷ []) c.end.new.self) (sym runs.0) stands)

pub returns : goal.returns
returns g c = rw (← c.self.view_is) (rw (c.task-task.ensures, c.value-left.ensures, c.split_up-cell.ensures.cell) at c.enter.ensures)
