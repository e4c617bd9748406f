use Rattle.std.proofs.Common.{refl, sym, ◌∙◌}
use Rattle.std.proofs.lemmas.Bool.{false≢true}
use Rattle.env_core.specs.Calls.{IsIdle}
use Rattle.env_step.specs.declared.wait.Wait.TheVariants as waits
use Rattle.env_step.proofs.Behind.{takes_nothing, waits_so}
use Rattle.env_step.proofs.Waits.{waits_for_idle}
use Rattle.env_step.proofs.Wants.{not_idle_yet, wants_idle}
use Rattle.env_step.proofs.driver.flush.Goals as goal

pub try_idle-requires : goal.try_idle-requires
try_idle-requires c = wants_idle c.requires

pub returns-in-Ok : goal.returns-in-Ok
returns-in-Ok c reading = takes_nothing reading c.requires.free (λ now. refl) (λ now. refl) tt c.in-Ok.ensures.enters

pub returns-in-Err : goal.returns-in-Err
returns-in-Err c reading =
    let (running, ready) = c.in-Err.ensures.not_yet in
    let busy : IsIdle c.args.env.now → ⊥ = λ idle. false≢true (c.in-Err.ensures.ok.1 idle) in
    waits_so reading (waits.NotIdle _ _) c.requires.closed c.in-Err.ensures.unchanged
    (waits_for_idle c.requires busy, running, ready, not_idle_yet _ _ (λ idle. busy (sym running ∙ idle.0, sym ready ∙ idle.1)))
