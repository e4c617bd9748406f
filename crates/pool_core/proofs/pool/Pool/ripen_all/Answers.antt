use Rattle.pool_core.proofs.Calls.Ticks.{ripens_at_start, stands_at_tick, step_can, step_ripens, step_smaller, steps}
use Rattle.pool_core.specs.Calls.{after_tick}
use Rattle.pool_core.specs.StandsFor.{StandsFor}
use Rattle.pool_core.specs.Tables.{unripe}
use Rattle.std.proofs.Common.{[], ap, subst, sym, ◌<◌, ◌∙◌}
use Rattle.std.specs.Prelude.{All, is_some}
use Rattle.pool_core.proofs.pool.Pool.ripen_all.Goals as goal

pub loop-ripe-init : goal.loop-ripe-init
loop-ripe-init c = λ script past tick.
    ([], unripe past, ripens_at_start script past c.args.self.now c.args.place c.args.moment tick)

pub ripen-requires-in-Some : goal.ripen-requires-in-Some
ripen-requires-in-Some c = step_can (steps c.requires.2 (c.loop-ripe.invariant c.requires.0 c.requires.1 c.requires.2)
    (sym c.in-Some.is ∙ c.ripen.ensures.first) c.in-Some.ensures.removed)

pub loop-ripe-smaller : goal.loop-ripe-smaller
loop-ripe-smaller c = step_smaller c.ripen-in-Some.new.self (steps c.requires.2 (c.loop-ripe.invariant c.requires.0 c.requires.1 c.requires.2)
    (sym c.in-Some.is ∙ c.ripen.ensures.first) c.in-Some.ensures.removed) c.ripen-in-Some.ensures

pub loop-ripe-preserved : goal.loop-ripe-preserved
loop-ripe-preserved c = λ script past tick. step_ripens c.ripen-in-Some.new.self (steps tick (c.loop-ripe.invariant script past tick)
    (sym c.in-Some.is ∙ c.ripen.ensures.first) c.in-Some.ensures.removed) c.ripen-in-Some.ensures

pub returns : goal.returns
returns c = λ script past seat tick.
    let l = c.loop-ripe.invariant script past tick in
    let none : All (λ other. c.args.moment < other.ripe) c.loop-ripe.self.delayed.held = c.ripen.ensures.none.0 (ap is_some c.in_default.is) in
    subst (λ d. StandsFor script (after_tick past seat c.args.moment) (record c.loop-ripe.self { delayed = d })) (sym c.in_default.ensures.unchanged)
    (stands_at_tick script past seat c.args.moment c.args.place l.0 l.1 c.args.self.now c.loop-ripe.self tick l.2 none)
