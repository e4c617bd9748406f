use Rattle.list_laws.proofs.Counts.{count_le}
use Rattle.pool_core.proofs.Sources.Idling.{running_is}
use Rattle.std.proofs.Common.{arith, refl, sym, ◌∙◌}
use Rattle.std.proofs.lemmas.Bool.{false≢true}
use Rattle.std.specs.Prelude.{is_some}
use Rattle.pool_core.proofs.pool.Pool.idle.Goals.{then-running-gt0-via-then-running-gt0, then-running-gt0-via-else-running-gt0+then-ready}
use Rattle.pool_core.proofs.pool.Pool.idle.Goals as goal

pub running-running-requires : goal.running-running-requires
running-running-requires c = let groups = c.requires.2.groups in omega (
  arith,
  count_le is_some c.args.self.now.groups.foreground.seats,
  count_le is_some c.args.self.now.groups.background.seats,
  groups.foreground.places,
  groups.background.places,
)

pub returns-then-running-gt0-clause-ok : goal.returns-then-running-gt0-clause-ok
returns-then-running-gt0-clause-ok c script past stands = (
  (λ e. absurd (false≢true e)),
  (λ none. elim c.then-running-gt0.branch [
    | then-running-gt0-via-then-running-gt0 w ↦
        absurd (omega (arith, w.if-running-gt0.true, c.running-running.ensures, running_is script past c.args.self.now stands, none.0))
    | then-running-gt0-via-else-running-gt0+then-ready w ↦
        sym none.1 ∙ sym (c.is_any_ready-ready.ensures script past stands) ∙ w.if-ready.true
  ]),
)

pub returns-then-running-gt0-clause-not_yet : goal.returns-then-running-gt0-clause-not_yet
returns-then-running-gt0-clause-not_yet c script past stands =
    (c.running-running.ensures ∙ running_is script past c.args.self.now stands, c.is_any_ready-ready.ensures script past stands)

pub returns-clause-ok : goal.returns-clause-ok
returns-clause-ok c script past stands = (
  (λ e. (
    omega (arith, c.if-running-gt0.false, c.running-running.ensures, running_is script past c.args.self.now stands),
    sym (c.is_any_ready-ready.ensures script past stands) ∙ c.if-ready.false,
  )),
  (λ none. refl),
)
