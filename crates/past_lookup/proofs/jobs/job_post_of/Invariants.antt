use Rattle.std.proofs.Common.{◌≡◌, take}
use Rattle.std.specs.Option.{option_map}
use Rattle.task_model.specs.Jobs.{job_post_of}
use Rattle.past_lookup.specs.Jobs.{job_posted}
use Rattle.past_lookup.proofs.jobs.job_post_of.Given as goal

abbrev pub invariant-loop-entry : goal.invariant-loop-entry
invariant-loop-entry l = record {
  post_is : option_map job_posted l.post ≡ job_post_of (take l.entry-index l.past) l.job;
  place_is : l.place ≡ l.entry-index;
}
