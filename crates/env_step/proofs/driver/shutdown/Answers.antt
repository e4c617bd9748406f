use Rattle.std.proofs.Common.{◌≡◌, ◌∙◌, arith, refl, sym}
use Rattle.std.proofs.lemmas.Bool.{false≢true}
use Rattle.task_model.specs.Blockers.{blockers_of}
use Rattle.env_step.specs.declared.wait.Wait.TheVariants as waits
use Rattle.env_step.proofs.Behind.{takes_nothing, waits_so}
use Rattle.env_step.proofs.Waits.{waits_for_blockers}
use Rattle.env_step.proofs.Wants.{some_are, wants_done, wants_shutdown}
use Rattle.env_step.proofs.driver.shutdown.Goals as goal

pub start_shutdown-requires : goal.start_shutdown-requires
start_shutdown-requires c = wants_shutdown c.args.made c.requires.counts c.requires.at c.if-made-eq0.true

pub try_done-requires : goal.try_done-requires
try_done-requires c = wants_done c.args.made c.requires.counts c.requires.at (omega arith)

pub returns-then-made-eq0 : goal.returns-then-made-eq0
returns-then-made-eq0 c reading = takes_nothing reading c.requires.at.free (λ now. refl) (λ now. refl) tt c.start_shutdown.ensures.enters

pub returns-in-Ok : goal.returns-in-Ok
returns-in-Ok c reading = takes_nothing reading c.requires.at.free (λ now. refl) (λ now. refl) tt c.in-Ok.ensures.enters

pub returns-in-Err : goal.returns-in-Err
returns-in-Err c reading =
    let told = c.in-Err.ensures in
    let blocked : blockers_of c.args.env.now.script c.args.env.now.history ≡ 0 → ⊥ = λ none. false≢true (told.ok.1 none) in
    waits_so reading (waits.Blocked _) c.requires.at.closed told.unchanged (
      waits_for_blockers c.args.made c.requires.counts (omega arith) c.requires.at blocked,
      told.blocked,
      some_are _ (λ none. blocked (sym told.blocked ∙ none)),
    )
