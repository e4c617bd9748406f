use Rattle.std.proofs.Common.{refl}
use Rattle.env_step.proofs.Behind.{goes_on, leaves_job}
use Rattle.env_step.proofs.item.step_of_item.Goals as goal

pub job_step-requires : goal.job_step-requires
job_step-requires c = record {
  held = c.requires.held;
  value_is = rw (c.value_of-value.ensures, c.requires.script, c.job-job.ensures, c.item-item.ensures) refl;
}

pub returns-in-None : goal.returns-in-None
returns-in-None c reading = rw (c.job-job.ensures, c.id-id.ensures, c.item-item.ensures)
    (leaves_job reading c.args.pass c.requires.legal c.requires.held c.in-None.ensures)

pub returns-in-Some : goal.returns-in-Some
returns-in-Some c reading = rw (c.job-job.ensures, c.id-id.ensures, c.item-item.ensures, c.item.ensures)
    (goes_on reading c.args.pass c.in-Some.pass c.requires.held c.in-Some.ensures)
