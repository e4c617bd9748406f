use Rattle.std.proofs.Common.{ap, arith, refl, sym, ◌+◌, ◌∙◌, ◌≡◌}
use Rattle.std.specs.Option.{option_map}
use Rattle.std.specs.Prelude.{is_some}
use Rattle.list_laws.proofs.Values.{some-injective}
use Rattle.task_base.specs.Entries.{entry_by}
use Rattle.task_base.specs.declared.entry.Kind.TheVariants as kinds
use Rattle.pool_core.proofs.Calls.Others.{stands_at_main}
use Rattle.live_core.proofs.Entered.{table_get}
use Rattle.live_core.proofs.May.{main_end_may}
use Rattle.live_core.proofs.Works.{cells_moved, driver_work, left_is, runs_main}
use Rattle.live_core.specs.Books.{work_of}
use Rattle.live_core.specs.StandsFor.{cell_at}
use Rattle.live_core.proofs.live.LiveCore.main_end.Goals as goal

pub unwrap-work-requires : goal.unwrap-work-requires
unwrap-work-requires c =
    let can = c.requires.2 in ap is_some (driver_work c.requires.0 c.requires.1 _ (c.runs.ensures _ _ can.stands.books) can.may.fit).told_is

pub index_mut-requires : goal.index_mut-requires
index_mut-requires c = let can = c.requires.2 in omega (arith, can.stands.cells.all)

pub unwrap-cell-requires : goal.unwrap-cell-requires
unwrap-cell-requires c =
    let can = c.requires.2 in
    let work = driver_work c.requires.0 c.requires.1 _ (c.runs.ensures _ _ can.stands.books) can.may.fit in
    ap is_some (c.take.ensures.value ∙ c.index_mut.ensures.value
    ∙ table_get (cell_at c.requires.1) _ c.args.self.now.cells.items 0 _ can.stands.cells (omega arith)
    ∙ ap (option_map (λ w. w.found)) work.runs)

pub end-requires : goal.end-requires
end-requires c =
    let can = c.requires.2 in
    let work = driver_work c.requires.0 c.requires.1 _ (c.runs.ensures _ _ can.stands.books) can.may.fit in
    let same : c.unwrap-work.result ≡ work_of work.now = some-injective (sym c.unwrap-work.ensures ∙ work.told_is) in
    (c.requires.0, c.requires.1, work.now, rw same (runs_main can.stands work).main)

pub returns : goal.returns
returns c = λ plan past can.
    let work = driver_work plan past _ (c.runs.ensures plan past can.stands.books) can.may.fit in
    let runs = runs_main can.stands work in
    let same : c.unwrap-work.result ≡ work_of work.now = some-injective (sym c.unwrap-work.ensures ∙ work.told_is) in
    let left = left_is plan past c.args.self.now.books c.script.result.now c.left_by-left.result c.unwrap-work.result work.now can.stands.books
    c.script.ensures c.left_by-left.ensures same in
    let kind = kinds.MainEnd work.now.task c.left_by-left.result in
    rw same (record {
      made = tt;
      allowed = rw left (main_end_may plan past work.now can.stands.opened work.runs runs.is_main runs.closed);
      pool = stands_at_main plan past (entry_by 0 kind) c.args.self.now.pool refl refl can.stands.pool;
      main = rw c.set.ensures at (c.end.ensures plan past work.now (rw same runs.main));
      cells = rw c.take.ensures.after (cells_moved past 0 kind (plan.workers + 1) c.args.self.now.cells.items _ can.stands.cells (omega arith) refl);
      books = refl;
      scope = tt;
      job = tt;
      task = tt;
    })
