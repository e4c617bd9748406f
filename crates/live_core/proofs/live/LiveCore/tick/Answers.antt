use Rattle.std.proofs.Common.{◌∙◌, ap, refl}
use Rattle.std.proofs.lemmas.Bool.{not-true}
use Rattle.std.specs.Prelude.{max, min}
use Rattle.task_base.specs.declared.entry.Kind.TheVariants as kinds
use Rattle.task_base.specs.declared.limits.TheConstants.{LAST_MOMENT}
use Rattle.live_core.proofs.Asks.{can_tick, main_can_tick}
use Rattle.live_core.proofs.May.{tick_may}
use Rattle.live_core.proofs.Moved.{both_moved}
use Rattle.live_core.proofs.Serving.{ticks}
use Rattle.live_core.proofs.live.LiveCore.tick.Goals as goal

pub tick-requires : goal.tick-requires
tick-requires c =
    let can = c.requires.2 in
    (_, _, can_tick can c.entries.ensures (c.moment.ensures _ _ can.stands.pool) c.max.ensures c.min-now.ensures)

pub tick-requires-2 : goal.tick-requires-2
tick-requires-2 c =
    let can = c.requires.2 in
    (_, _, main_can_tick can (can_tick can c.entries.ensures (c.moment.ensures _ _ can.stands.pool) c.max.ensures c.min-now.ensures))

pub returns : goal.returns
returns c = λ plan past can.
    let tick = can_tick can c.entries.ensures (c.moment.ensures plan past can.stands.pool) c.max.ensures c.min-now.ensures in
    both_moved plan past _ c.args.self.now (kinds.Tick c.min-now.result) _ _ can.stands refl (record { scope = tt; job = tt; task = tt })
    (c.min-now.ensures ∙ ap (λ n. min n LAST_MOMENT) (c.max.ensures ∙ ap (max c.args.reading) (c.moment.ensures plan past can.stands.pool)))
    (tick_may plan past c.min-now.result (ticks plan past c.min-now.result can.stands.opened can.stands.legal (not-true _ can.may.fit)) tick.later tick.fits)
    (c.tick.ensures plan past 0 tick) (c.tick-2.ensures plan past 0 (main_can_tick can tick))
