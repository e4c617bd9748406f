use Rattle.std.proofs.Common.{ap, refl, sym, ◌∙◌, ◌≡◌}
use Rattle.std.proofs.lemmas.Bool.{and_parts}
use Rattle.std.specs.Prelude.{is_some, not}
use Rattle.list_laws.proofs.Values.{some-injective}
use Rattle.task_base.specs.declared.entry.Kind.TheVariants as kinds
use Rattle.live_core.proofs.May.{leave_may}
use Rattle.live_core.proofs.Moved.{pool_moved}
use Rattle.live_core.proofs.Works.{open_test, runs_open, runs_work}
use Rattle.live_core.specs.Books.{work_of}
use Rattle.live_core.proofs.live.LiveCore.leave_scope.Goals as goal

pub unwrap-work-requires : goal.unwrap-work-requires
unwrap-work-requires c =
    let can = c.requires.2 in
    ap is_some (runs_work c.requires.0 c.requires.1 c.args.seat _ (open_test c.requires.1) (c.runs.ensures _ _ can.stands.books) can.may.fit).told_is

pub leave-requires : goal.leave-requires
leave-requires c =
    let can = c.requires.2 in
    let work = runs_work c.requires.0 c.requires.1 c.args.seat _ (open_test c.requires.1) (c.runs.ensures _ _ can.stands.books) can.may.fit in
    (let at = runs_open can.stands work in (_, _, work.now, at.opened, at.in_scope))

pub returns : goal.returns
returns c = λ plan past can.
    let work = runs_work plan past c.args.seat _ (open_test past) (c.runs.ensures plan past can.stands.books) can.may.fit in
    let same : c.unwrap-work.result ≡ work_of work.now = some-injective (sym c.unwrap-work.ensures ∙ work.told_is) in
    let kind = kinds.Leave work.now.task in
    let at = runs_open can.stands work in
    rw same (pool_moved plan past _ c.args.self.now kind _ can.stands refl refl (record { scope = at.there; job = tt; task = tt }) tt
    (leave_may plan past c.args.seat work.now can.stands.opened work.runs (and_parts (not work.now.is_main) _ work.passes).1)
    (c.leave.ensures plan past work.now at.opened at.in_scope))
