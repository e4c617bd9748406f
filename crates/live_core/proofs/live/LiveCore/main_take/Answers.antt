use Rattle.std.proofs.Common.{arith, refl, ◌+◌}
use Rattle.std.proofs.lemmas.Bool.{and_parts}
use Rattle.task_base.specs.Entries.{entry_by}
use Rattle.task_base.specs.declared.entry.Kind.TheVariants as kinds
use Rattle.pool_core.proofs.Calls.Others.{stands_at_main}
use Rattle.sequence_manager.proofs.Others.{stands_still}
use Rattle.live_core.proofs.Asks.{can_main_take}
use Rattle.live_core.proofs.May.{main_none_may, main_take_may}
use Rattle.live_core.proofs.Moved.{main_moved}
use Rattle.live_core.proofs.Serving.{served}
use Rattle.live_core.proofs.Works.{cells_moved}
use Rattle.live_core.proofs.live.LiveCore.main_take.Goals as goal

pub take-requires : goal.take-requires
take-requires c = (_, _, can_main_take c.requires.2)

pub returns-in-None : goal.returns-in-None
returns-in-None c = λ plan past can.
    main_moved plan past _ c.args.self.now kinds.MainNone _ can.stands refl refl (record { scope = tt; job = tt; task = tt }) tt
    (main_none_may plan past (served plan past kinds.MainNone can.stands.opened can.stands.legal (and_parts _ _ can.may.fit).0 refl)
    (c.in-None.ensures.answer plan past (can_main_take can)))
    (stands_still plan past _ (entry_by 0 kinds.MainNone) refl (c.in-None.ensures.stands plan past (can_main_take can)))

pub returns-in-Some : goal.returns-in-Some
returns-in-Some c = λ plan past can.
    let kind = kinds.MainTake c.in-Some.task c.in-Some.queue c.in-Some.cell in
    let taken = c.in-Some.ensures.answer plan past (can_main_take can) in
    rw c.value-found.ensures (record {
      made = tt;
      allowed = main_take_may plan past c.in-Some.task c.in-Some.queue c.in-Some.cell taken.front
          (served plan past kind can.stands.opened can.stands.legal (and_parts _ _ can.may.fit).0 refl) taken.chosen taken.task_is taken.queue_is taken.cell_is;
      pool = stands_at_main plan past (entry_by 0 kind) c.args.self.now.pool refl refl can.stands.pool;
      main = c.in-Some.ensures.stands plan past (can_main_take can);
      cells = cells_moved past 0 kind (plan.workers + 1) c.args.self.now.cells.items _ can.stands.cells (omega arith) refl;
      books = refl;
      scope = tt;
      job = tt;
      task = tt;
    })
