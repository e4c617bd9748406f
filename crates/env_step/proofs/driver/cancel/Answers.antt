use Rattle.std.proofs.Common.{◌∙◌, arith, inl, refl, sym}
use Rattle.std.proofs.lemmas.Bool.{eq-eqb, false≢true}
use Rattle.env_step.specs.declared.wait.Wait.TheVariants as waits
use Rattle.env_step.proofs.Behind.{takes_nothing, waits_so}
use Rattle.env_step.proofs.Waits.{waits_for_seats}
use Rattle.env_step.proofs.Wants.{some_are, wants_cancel, wants_cancelled}
use Rattle.env_step.proofs.driver.cancel.Goals as goal

pub job_cancel-requires : goal.job_cancel-requires
job_cancel-requires c = wants_cancel c.args.made c.requires.counts c.args.job c.requires.at c.if-made-eq0.true

pub try_cancelled-requires : goal.try_cancelled-requires
try_cancelled-requires c = wants_cancelled c.args.made c.requires.counts c.args.job c.requires.at (omega arith)

pub returns-then-made-eq0 : goal.returns-then-made-eq0
returns-then-made-eq0 c reading = takes_nothing reading c.requires.at.free (λ now. refl) (λ now. refl) tt c.job_cancel.ensures

pub returns-in-Ok : goal.returns-in-Ok
returns-in-Ok c reading = takes_nothing reading c.requires.at.free (λ now. refl) (λ now. refl) tt c.in-Ok.ensures.enters

pub returns-in-Err : goal.returns-in-Err
returns-in-Err c reading =
    let told = c.in-Err.ensures in
    waits_so reading (waits.Inside _ _) c.requires.at.closed told.kept (
      inl (waits_for_seats c.args.made c.requires.counts (omega arith) c.args.job c.requires.at told.busy),
      told.running,
      some_are _ (λ none. false≢true (sym told.busy ∙ eq-eqb _ _ (sym told.running ∙ none))),
    )
