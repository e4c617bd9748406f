use Rattle.std.proofs.Common.{◌≡◌, ◌∙◌, false, inr, refl, subst, sym, arith}
use Rattle.std.proofs.lemmas.Bool.{false≢true}
use Rattle.task_base.specs.declared.entry.Kind.TheVariants as kinds
use Rattle.task_model.specs.Jobs.{may_enter}
use Rattle.env_core.specs.Views.{EnvView, Enters}
use Rattle.env_step.specs.declared.wait.Wait.TheVariants as waits
use Rattle.env_step.proofs.Behind.{goes_in, takes_nothing, waits_so}
use Rattle.env_step.proofs.Waits.{waits_for_job}
use Rattle.env_step.proofs.Wants.{some_are, wants_item, wants_joined}
use Rattle.env_step.proofs.driver.join.Goals as goal

pub try_joined-requires : goal.try_joined-requires
try_joined-requires c reply = wants_joined c.args.job reply c.requires

pub returns-in-Ok : goal.returns-in-Ok
returns-in-Ok c reading = takes_nothing reading c.requires.free (λ now. refl) (λ now. refl) tt c.in-Ok.ensures.enters

pub job_take-requires : goal.job_take-requires
job_take-requires c id item = rw c.in-Err.ensures.kept (wants_item c.args.job id item c.requires)

pub returns-in-None : goal.returns-in-None
returns-in-None c reading =
    let told = c.in-Err.ensures in
    let barred : may_enter c.args.env.now.script c.args.env.now.history c.args.job ≡ false =
    subst (λ (v : EnvView). may_enter v.script v.history c.args.job ≡ false) told.kept c.in-None.ensures.barred in
    waits_so reading (waits.Inside _ _) c.requires.closed (c.in-None.ensures.kept ∙ told.kept) (
      inr (waits_for_job c.args.job c.requires barred told.unanswered),
      told.running,
      some_are _ (λ none. false≢true (sym barred ∙ sym told.ready ∙ told.some none)),
    )

pub returns-in-Some : goal.returns-in-Some
returns-in-Some c reading =
    let pass = c.in-Some.pass in
    let enters : Enters c.args.env.now c.job_take.new.self 0 (kinds.JobTake pass.job pass.id pass.item) =
    subst (λ (v : EnvView). Enters v c.job_take.new.self 0 (kinds.JobTake pass.job pass.id pass.item)) c.in-Err.ensures.kept
    c.in-Some.ensures.goes_in.enters in
    rw (c.job.ensures, c.id.ensures, c.item.ensures) (goes_in reading pass (omega arith) enters)
