use Rattle.std.proofs.Common.{ap, refl, sym, ◌∙◌, ◌≡◌}
use Rattle.std.specs.Prelude.{is_some}
use Rattle.list_laws.proofs.Values.{some-injective}
use Rattle.task_base.specs.declared.entry.Kind.TheVariants as kinds
use Rattle.live_core.proofs.May.{step_may}
use Rattle.live_core.proofs.Moved.{pool_moved}
use Rattle.live_core.proofs.Works.{holds_item, value_is}
use Rattle.live_core.specs.Books.{item_of}
use Rattle.live_core.proofs.live.LiveCore.job_step.Goals as goal

pub unwrap-held-requires : goal.unwrap-held-requires
unwrap-held-requires c =
    let can = c.requires.2 in ap is_some (holds_item c.requires.0 c.requires.1 c.args.seat _ (c.holds.ensures _ _ can.stands.books) can.may.fit).told_is

pub job_step-next-requires : goal.job_step-next-requires
job_step-next-requires c =
    let can = c.requires.2 in
    let held = holds_item c.requires.0 c.requires.1 c.args.seat _ (c.holds.ensures _ _ can.stands.books) can.may.fit in
    (_, _, held.now, record { stands = can.stands.pool; holds = held.holds })

pub returns : goal.returns
returns c = λ plan past can.
    let held = holds_item plan past c.args.seat _ (c.holds.ensures plan past can.stands.books) can.may.fit in
    let same : c.unwrap-held.result ≡ item_of held.now = some-injective (sym c.unwrap-held.ensures ∙ held.told_is) in
    let value = value_is plan past c.args.self.now.books c.script.result.now c.value_of-value.result c.unwrap-held.result held.now can.stands.books
    c.script.ensures c.value_of-value.ensures same in
    let next = c.job_step-next.result in
    rw same (pool_moved plan past _ c.args.self.now
    (kinds.JobStep held.now.job held.now.id held.now.item c.value_of-value.result next) _ can.stands refl refl
    (record { scope = tt; job = tt; task = tt }) tt
    (rw value (step_may plan past c.args.seat held.now next held.holds
    (c.job_step-next.ensures.answer plan past held.now (record { stands = can.stands.pool; holds = held.holds }))))
    (c.job_step-next.ensures.stands plan past held.now (record { stands = can.stands.pool; holds = held.holds })))
