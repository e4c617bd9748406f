use Rattle.env_core.proofs.Entries.{counts, holds_at_pool}
use Rattle.env_core.proofs.Wanted.{done_allowed}
use Rattle.env_core.proofs.Declared.{done_while_started}
use Rattle.env_core.specs.Calls.{IsWantedNext}
use Rattle.env_core.specs.Views.{EnvView}
use Rattle.hist_model.specs.Legal.{IsLegal}
use Rattle.pool_core.specs.Calls.{IsInPhase}
use Rattle.pool_core.specs.StandsFor.{StandsFor}
use Rattle.pool_core.specs.declared.pool.Pool.{Pool}
use Rattle.script_model.specs.Laws.Sound.{IsSound}
use Rattle.std.proofs.Common.{refl, true, ℕ}
use Rattle.std.proofs.lemmas.Result.{err_from_is_err_and}
use Rattle.task_base.specs.declared.entry.Kind.TheVariants as kinds
use Rattle.task_traits.specs.declared.phase.Phase.TheVariants as phases
use Rattle.env_core.proofs.env.Env.try_done.Goals as goal

-- the script wants the end of shutdown only where shutdown has started
ends : (view : EnvView) (pool : Pool) (seat : ℕ) → IsSound view.script → IsLegal view.script view.history → IsWantedNext view seat kinds.Done
    → StandsFor view.script view.history pool → IsInPhase view.script view.history pool phases.Started
ends view pool seat plan legal wanted stands = record { stands = stands; phase_is = done_while_started view seat plan legal wanted }

pub try_done-requires : goal.try_done-requires
try_done-requires g c = (
  _,
  _,
  ends c.self.inside.ledger c.self.inside.pool c.args.seat c.self.invariant.plan c.self.invariant.legal
      (rw c.self.view_is c.requires) c.self.invariant.stands,
)

pub returns-in_err-try_done-clause-ok : goal.returns-in_err-try_done-clause-ok
returns-in_err-try_done-clause-ok g c =
    let phase = ends c.self.inside.ledger c.self.inside.pool c.args.seat c.self.invariant.plan c.self.invariant.legal (rw c.self.view_is c.requires)
    c.self.invariant.stands in
    let p = err_from_is_err_and c.from_residual.result c.from_residual.ensures.1 in
    rw (p.1, ← c.self.view_is) (c.in_err-try_done.ensures.ok _ _ phase)

pub returns-in_err-try_done-clause-blocked : goal.returns-in_err-try_done-clause-blocked
returns-in_err-try_done-clause-blocked g c =
    let phase = ends c.self.inside.ledger c.self.inside.pool c.args.seat c.self.invariant.plan c.self.invariant.legal (rw c.self.view_is c.requires)
    c.self.invariant.stands in
    let p = err_from_is_err_and c.from_residual.result c.from_residual.ensures.1 in
    rw (p.1, p.2, ← c.self.view_is) (c.in_err-try_done.ensures.blocked _ _ phase)

pub enter-requires : goal.enter-requires
enter-requires g c =
    let phase = ends c.self.inside.ledger c.self.inside.pool c.args.seat c.self.invariant.plan c.self.invariant.legal (rw c.self.view_is c.requires)
    c.self.invariant.stands in
    counts (rw c.self.view_is c.requires) refl (λ plan. done_allowed c.self.inside.ledger c.args.seat (rw c.self.view_is c.requires) phase.phase_is
    ((c.in_ok-try_done.ensures.ok _ _ phase).0 (refl {a = true})))

pub invariant_of-self-2 : goal.invariant_of-self-2
invariant_of-self-2 g c =
    let phase = ends c.self.inside.ledger c.self.inside.pool c.args.seat c.self.invariant.plan c.self.invariant.legal (rw c.self.view_is c.requires)
    c.self.invariant.stands in
    holds_at_pool c.self.invariant c.enter.ensures refl (λ t. refl) (c.in_ok-try_done.ensures.done _ _ c.args.seat phase)

pub returns-clause-ok : goal.returns-clause-ok
returns-clause-ok g c =
    let phase = ends c.self.inside.ledger c.self.inside.pool c.args.seat c.self.invariant.plan c.self.invariant.legal (rw c.self.view_is c.requires)
    c.self.invariant.stands in
    rw (← c.self.view_is) (c.in_ok-try_done.ensures.ok _ _ phase)

pub returns-clause-enters : goal.returns-clause-enters
returns-clause-enters g c = rw (← c.self.view_is) c.enter.ensures
