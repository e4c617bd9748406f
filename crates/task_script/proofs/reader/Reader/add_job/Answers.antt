use Rattle.std.proofs.Common.{◌≡◌, false, sym, ap, subst}
use Rattle.std.specs.List.{list_any}
use Rattle.task_base.specs.Steps.{is_act}
use Rattle.script_model.specs.Draft.{Draft, posted_in}
use Rattle.task_script.specs.declared.reader.Reader.{Reader}
use Rattle.task_script.specs.Reader.{draft, AreFlags}
use Rattle.task_script.proofs.Flags.{flags-computing}
use Rattle.task_script.proofs.reader.Reader.add_job.Goals as goal

pub push_job-requires-clause-tables : goal.push_job-requires-clause-tables
push_job-requires-clause-tables c =
    let same : draft c.posts_again.new.self ≡ draft c.args.self.now = ap draft c.posts_again.ensures.others in
    let totals : c.posts_again.new.self.totals ≡ c.args.self.now.totals = ap (λ (r : Reader). r.totals) c.posts_again.ensures.others in
    let computing : list_any is_act c.steps_of_job-steps.result.now ≡ false = let e = c.has_act_step.ensures in let f = c.in_ok-refuse-6.ensures in cc in
    record {
      flags = subst (λ (d : Draft). AreFlags c.posts_again.new.self.marks d (posted_in d)) (sym same)
          (flags-computing c.posts_again.new.self.marks (draft c.args.self.now) (posted_in (draft c.args.self.now)) c.steps_of_job-steps.result.now
          (c.posts_again.ensures.marks c.in_ok-refuse-3.ensures) computing);
      totals = rw (same, totals) c.requires.totals;
    }
