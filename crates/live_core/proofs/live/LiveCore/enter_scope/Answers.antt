use Rattle.std.proofs.Common.{ap, refl, sym, ◌∙◌, ◌≡◌}
use Rattle.std.specs.Prelude.{is_some}
use Rattle.list_laws.proofs.Values.{some-injective}
use Rattle.task_base.specs.declared.entry.Kind.TheVariants as kinds
use Rattle.live_core.proofs.May.{enter_may}
use Rattle.live_core.proofs.Moved.{pool_moved}
use Rattle.live_core.proofs.Works.{may_block, runs_blocking, runs_work, blocking_test, task_there}
use Rattle.live_core.specs.Books.{work_of}
use Rattle.live_core.proofs.live.LiveCore.enter_scope.Goals as goal

pub unwrap-work-requires : goal.unwrap-work-requires
unwrap-work-requires c =
    let can = c.requires.2 in
    ap is_some (runs_work c.requires.0 c.requires.1 c.args.seat _ (blocking_test c.requires.0 c.requires.1)
    (c.runs.ensures _ _ can.stands.books) can.may.fit).told_is

pub enter-requires : goal.enter-requires
enter-requires c =
    let can = c.requires.2 in
    let work = runs_work c.requires.0 c.requires.1 c.args.seat _ (blocking_test c.requires.0 c.requires.1) (c.runs.ensures _ _ can.stands.books) can.may.fit in
    (_, _, work.now, runs_blocking can.stands work)

pub returns : goal.returns
returns c = λ plan past can.
    let work = runs_work plan past c.args.seat _ (blocking_test plan past) (c.runs.ensures plan past can.stands.books) can.may.fit in
    let same : c.unwrap-work.result ≡ work_of work.now = some-injective (sym c.unwrap-work.ensures ∙ work.told_is) in
    let kind = kinds.Enter work.now.task c.args.scope in
    let closed = runs_blocking can.stands work in
    let blocks = may_block work in
    rw same (pool_moved plan past _ c.args.self.now kind _ can.stands refl refl (record { scope = task_there closed; job = tt; task = tt }) refl
    (enter_may plan past c.args.seat work.now c.args.scope can.stands.opened work.runs closed.is_pool blocks.1 blocks.2)
    (c.enter.ensures plan past work.now closed))
