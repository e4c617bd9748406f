use Rattle.std.proofs.Common.{refl, subst, sym, true, ◌∙◌}
use Rattle.std.proofs.lemmas.Bool.{and_parts, false≢true}
use Rattle.task_base.specs.declared.entry.Kind.TheVariants as kinds
use Rattle.pool_core.specs.StandsFor.{StandsFor as PoolStandsFor}
use Rattle.live_core.proofs.Asks.{is_started_by}
use Rattle.live_core.proofs.May.{done_may}
use Rattle.live_core.proofs.Moved.{pool_moved, still_stands}
use Rattle.live_core.proofs.Serving.{served}
use Rattle.live_core.proofs.live.LiveCore.try_done.Goals as goal

pub try_done-requires : goal.try_done-requires
try_done-requires c = (_, _, is_started_by c.requires.2)

pub returns-in-Ok : goal.returns-in-Ok
returns-in-Ok c = λ plan past can.
    let fit = and_parts _ _ can.may.fit in
    let phase = is_started_by can in
    pool_moved plan past _ c.args.self.now kinds.Done _ can.stands refl refl (record { scope = tt; job = tt; task = tt }) tt
    (done_may plan past (served plan past kinds.Done can.stands.opened can.stands.legal fit.0 refl) fit.1
    ((c.in-Ok.ensures.ok plan past phase).0 (refl {a = true})))
    (c.in-Ok.ensures.done plan past 0 phase)

pub returns-in-Err : goal.returns-in-Err
returns-in-Err c = λ plan past can.
    let phase = is_started_by can in
    let told = c.in-Err.ensures.blocked plan past phase in
    record {
      lacks = (λ none. false≢true ((c.in-Err.ensures.ok plan past phase).1 (sym told ∙ none)), told);
      stands = still_stands plan past c.args.self.now _ can.stands (subst (PoolStandsFor plan past) (sym c.in-Err.ensures.unchanged) can.stands.pool);
    }
