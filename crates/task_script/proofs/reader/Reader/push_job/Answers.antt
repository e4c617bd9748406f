use Rattle.std.proofs.Common.{◌≡◌, [], ◌∷◌, ◌++◌, refl}
use Rattle.task_script.specs.Reader.{draft}
use Rattle.task_script.proofs.Flags.{flags-job, totals-job}
use Rattle.task_script.proofs.reader.Reader.push_job.Goals as goal

pub returns : goal.returns
returns c =
    let jobs : c.push-2.new.self.items ≡ c.args.self.now.jobs.items ++ c.args.job ∷ [] = c.in_ok-push-2.ensures.items in (
      record {
        flags = rw jobs (flags-job c.args.self.now.marks (draft c.args.self.now) c.args.job c.push.new.self c.requires.tables.flags c.in_ok-push.ensures.items);
        totals = rw (jobs, c.items_of_job-items.ensures.items, c.steps_of_job.ensures) (totals-job c.args.self.now.totals (draft c.args.self.now) c.args.job
            c.requires.tables.totals c.requires.few_items c.requires.few_steps c.requires.few_events);
      },
      rw jobs refl,
    )
