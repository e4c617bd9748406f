use Rattle.std.proofs.Common.{ap, arith, refl, sym, ◌+◌, ◌∙◌, ◌≡◌}
use Rattle.std.specs.Option.{option_map}
use Rattle.std.specs.Prelude.{is_some}
use Rattle.list_laws.proofs.Values.{some-injective}
use Rattle.task_base.specs.Entries.{entry_by}
use Rattle.task_base.specs.declared.entry.Kind.TheVariants as kinds
use Rattle.pool_core.proofs.Works.AtSeat.{closed_at}
use Rattle.sequence_manager.proofs.Others.{stands_pool}
use Rattle.live_core.proofs.Entered.{table_get}
use Rattle.live_core.proofs.May.{end_may}
use Rattle.live_core.proofs.Works.{cells_moved, closed_test, left_is, runs_closed, runs_work}
use Rattle.live_core.specs.Books.{work_of}
use Rattle.live_core.specs.StandsFor.{cell_at}
use Rattle.live_core.proofs.live.LiveCore.end.Goals as goal

pub unwrap-work-requires : goal.unwrap-work-requires
unwrap-work-requires c =
    let can = c.requires.2 in
    ap is_some (runs_work c.requires.0 c.requires.1 c.args.seat _ (closed_test c.requires.1) (c.runs.ensures _ _ can.stands.books) can.may.fit).told_is

pub index_mut-requires : goal.index_mut-requires
index_mut-requires c =
    let can = c.requires.2 in
    let work = runs_work c.requires.0 c.requires.1 c.args.seat _ (closed_test c.requires.1) (c.runs.ensures _ _ can.stands.books) can.may.fit in
    omega (arith, work.known, can.stands.cells.all)

pub unwrap-cell-requires : goal.unwrap-cell-requires
unwrap-cell-requires c =
    let can = c.requires.2 in
    let work = runs_work c.requires.0 c.requires.1 c.args.seat _ (closed_test c.requires.1) (c.runs.ensures _ _ can.stands.books) can.may.fit in
    ap is_some (c.take.ensures.value ∙ c.index_mut.ensures.value
    ∙ table_get (cell_at c.requires.1) _ c.args.self.now.cells.items c.args.seat _ can.stands.cells (omega (arith, work.known))
    ∙ ap (option_map (λ w. w.found)) work.runs)

pub end-requires : goal.end-requires
end-requires c =
    let can = c.requires.2 in
    let work = runs_work c.requires.0 c.requires.1 c.args.seat _ (closed_test c.requires.1) (c.runs.ensures _ _ can.stands.books) can.may.fit in
    (_, _, work.now, runs_closed can.stands work)

pub returns : goal.returns
returns c = λ plan past can.
    let work = runs_work plan past c.args.seat _ (closed_test past) (c.runs.ensures plan past can.stands.books) can.may.fit in
    let closed = runs_closed can.stands work in
    let same : c.unwrap-work.result ≡ work_of work.now = some-injective (sym c.unwrap-work.ensures ∙ work.told_is) in
    let left = left_is plan past c.args.self.now.books c.script.result.now c.left_by-left.result c.unwrap-work.result work.now can.stands.books
    c.script.ensures c.left_by-left.ensures same in
    rw same (record {
      made = tt;
      allowed = rw left (end_may plan past c.args.seat work.now can.stands.opened work.runs closed.is_pool (rw closed.closed refl));
      pool = rw c.set.ensures at (c.end.ensures plan past work.now closed);
      main = stands_pool plan past c.args.self.now.main (entry_by c.args.seat (kinds.End work.now.task c.left_by-left.result)) refl (closed_at closed).worker
          can.stands.main;
      cells = rw c.take.ensures.after (cells_moved past c.args.seat (kinds.End work.now.task c.left_by-left.result) (plan.workers + 1)
          c.args.self.now.cells.items _ can.stands.cells (omega (arith, work.known)) refl);
      books = refl;
      scope = tt;
      job = tt;
      task = tt;
    })
