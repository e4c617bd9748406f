use Rattle.env_core.proofs.Entries.{counts, few_entries, holds_kept}
use Rattle.env_core.proofs.Wanted.{tick_allowed}
use Rattle.env_core.specs.Views.{EnvView}
use Rattle.pool_core.specs.Calls.{CanTick}
use Rattle.pool_core.specs.StandsFor.{StandsFor}
use Rattle.pool_core.specs.declared.pool.Pool.{Pool}
use Rattle.sequence_manager.specs.Calls.{CanTick as MainCanTick}
use Rattle.sequence_manager.specs.StandsFor.{StandsFor as MainStandsFor}
use Rattle.sequence_manager.specs.declared.manager.Manager.{Manager}
use Rattle.std.proofs.Common.{arith, length, max, min, refl, ℕ, ◌<◌, ◌≡◌, ◌≤◌, ◌^◌}
use Rattle.task_base.specs.declared.limits.TheConstants.{LAST_MOMENT}
use Rattle.task_model.specs.Time.{now_of}
use Rattle.env_core.proofs.env.Env.tick.Goals as goal

-- the moment that a reading becomes is not before the last one
can_tick : (view : EnvView) (pool : Pool) (place reading before raised now : ℕ) → StandsFor view.script view.history pool → place ≡ length view.history
    → before ≡ now_of view.history → raised ≡ max reading before → now ≡ min raised LAST_MOMENT → CanTick view.script view.history pool place now
can_tick view pool place reading before raised now stands place_is before_is raised_is now_is = record {
  stands = stands;
  place_is = place_is;
  later = omega (arith, before_is, raised_is, now_is, stands.past_fits.moment_fits);
  fits = omega (arith, now_is);
}

-- the main queues' condition
main_can_tick : (view : EnvView) (manager : Manager) (moment : ℕ) → MainStandsFor view.script view.history manager → length view.history < 2 ^ 32
    → now_of view.history ≤ moment → moment ≤ LAST_MOMENT → MainCanTick view.script view.history manager moment
main_can_tick view manager moment stands few later fits = record { stands = stands; few = few; later = later; fits = fits }

pub tick-requires-2 : goal.tick-requires-2
tick-requires-2 g c =
    let view = c.self.inside.ledger in
    let can = can_tick view c.self.inside.pool c.len.result c.args.reading c.moment.result c.max.result c.min-now.result c.self.invariant.stands
    c.len.ensures (c.moment.ensures view.script view.history c.self.invariant.stands) c.max.ensures c.min-now.ensures in
    (view.script, view.history, main_can_tick view c.self.inside.main c.min-now.result c.self.invariant.main (few_entries c.self.invariant) can.later can.fits)

pub enter-requires : goal.enter-requires
enter-requires g c =
    let view = c.self.inside.ledger in
    let can = can_tick view c.self.inside.pool c.len.result c.args.reading c.moment.result c.max.result c.min-now.result c.self.invariant.stands
    c.len.ensures (c.moment.ensures view.script view.history c.self.invariant.stands) c.max.ensures c.min-now.ensures in
    counts (rw c.self.view_is (c.requires c.min-now.result)) refl
    (λ plan. tick_allowed view c.args.seat c.min-now.result (rw c.self.view_is (c.requires c.min-now.result)) can.later can.fits)

pub invariant_of-self : goal.invariant_of-self
invariant_of-self g c =
    let view = c.self.inside.ledger in
    let can = can_tick view c.self.inside.pool c.len.result c.args.reading c.moment.result c.max.result c.min-now.result c.self.invariant.stands
    c.len.ensures (c.moment.ensures view.script view.history c.self.invariant.stands) c.max.ensures c.min-now.ensures in
    holds_kept c.self.invariant c.enter.ensures (λ t. refl) (c.tick.ensures view.script view.history c.args.seat can)
    (c.tick-2.ensures view.script view.history c.args.seat
    (main_can_tick view c.self.inside.main c.min-now.result c.self.invariant.main (few_entries c.self.invariant) can.later can.fits))

pub returns-clause-enters : goal.returns-clause-enters
returns-clause-enters g c = rw (← c.self.view_is) c.enter.ensures
