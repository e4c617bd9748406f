use Rattle.std.proofs.Common.{ap, arith, false, refl, sym, ◌+◌, ◌∙◌, ◌≡◌}
use Rattle.std.proofs.lemmas.Bool.{and_parts, leb-true}
use Rattle.std.specs.Prelude.{◌&&◌, nat_le, nat_lt}
use Rattle.task_base.specs.Entries.{entry_by}
use Rattle.task_base.specs.declared.entry.Kind.TheVariants as kinds
use Rattle.task_model.specs.Phase.{phase_of}
use Rattle.task_model.specs.Seats.{is_free}
use Rattle.hist_model.specs.Open.{is_done}
use Rattle.sequence_manager.proofs.Others.{stands_pool}
use Rattle.live_core.proofs.Asks.{below, can_take}
use Rattle.live_core.proofs.May.{item_may, take_may}
use Rattle.live_core.proofs.Moved.{pool_moved, still_stands}
use Rattle.live_core.proofs.Works.{cells_moved}
use Rattle.live_core.proofs.live.LiveCore.take.Goals as goal

pub take-requires : goal.take-requires
take-requires c = (_, _, can_take c.requires.2)

pub returns-then-is_done : goal.returns-then-is_done
returns-then-is_done c = λ plan past can. record {
  lacks = ap is_done (sym can.stands.books.phase) ∙ sym c.is_done.ensures ∙ c.if-is_done.true;
  stands = can.stands;
}

pub returns-in-Nothing : goal.returns-in-Nothing
returns-in-Nothing c = λ plan past can. record {
  lacks = (
    ap is_done (sym can.stands.books.phase) ∙ sym c.is_done.ensures ∙ c.if-is_done.false,
    c.in-Nothing.ensures.answer plan past (can_take can),
  );
  stands = still_stands plan past c.args.self.now _ can.stands (c.in-Nothing.ensures.stands plan past (can_take can));
}

pub returns-in-Item : goal.returns-in-Item
returns-in-Item c = λ plan past can.
    let going : is_done (phase_of past) ≡ false = ap is_done (sym can.stands.books.phase) ∙ sym c.is_done.ensures ∙ c.if-is_done.false in
    let fit = and_parts (nat_le 1 c.args.seat && nat_lt c.args.seat plan.workers) (is_free past c.args.seat) can.may.fit in
    let worker = (and_parts (nat_le 1 c.args.seat) (nat_lt c.args.seat plan.workers) fit.0).0 in
    pool_moved plan past _ c.args.self.now (kinds.JobTake c.in-Item.job c.in-Item.id c.in-Item.item) _ can.stands refl refl
    (record { scope = tt; job = tt; task = tt }) (leb-true 1 c.args.seat worker)
    (item_may plan past c.args.seat c.in-Item.job c.in-Item.id c.in-Item.item can.stands.opened can.stands.legal worker (below can) fit.1 going
    (c.in-Item.ensures.answer plan past (can_take can)))
    (c.in-Item.ensures.stands plan past (can_take can))

pub returns-in-Task : goal.returns-in-Task
returns-in-Task c = λ plan past can.
    let going : is_done (phase_of past) ≡ false = ap is_done (sym can.stands.books.phase) ∙ sym c.is_done.ensures ∙ c.if-is_done.false in
    let fit = and_parts (nat_le 1 c.args.seat && nat_lt c.args.seat plan.workers) (is_free past c.args.seat) can.may.fit in
    let worker = (and_parts (nat_le 1 c.args.seat) (nat_lt c.args.seat plan.workers) fit.0).0 in
    let kind = kinds.Take c.in-Task.task c.in-Task.runner c.in-Task.cell in
    rw c.value-found.ensures (record {
      made = tt;
      allowed = take_may plan past c.args.seat c.in-Task.task c.in-Task.runner c.in-Task.cell can.stands.opened can.stands.legal worker (below can) fit.1
          going (c.in-Task.ensures.answer plan past (can_take can));
      pool = c.in-Task.ensures.stands plan past (can_take can);
      main = stands_pool plan past c.args.self.now.main (entry_by c.args.seat kind) refl (leb-true 1 c.args.seat worker) can.stands.main;
      cells = cells_moved past c.args.seat kind (plan.workers + 1) c.args.self.now.cells.items _ can.stands.cells (omega (arith, below can)) refl;
      books = refl;
      scope = tt;
      job = tt;
      task = tt;
    })
