use Rattle.std.proofs.Common.{arith}
use Rattle.log_count.specs.Ways.{is_open_job_in}
use Rattle.situation_steps.proofs.Counting.{count_more}
use Rattle.situation_steps.proofs.state.Situation.open_jobs.Goals as goal

pub loop-job-preserved : goal.loop-job-preserved
loop-job-preserved c =
    let now = c.loop-job.invariant in
    record {
      so_far = rw c.share-count.ensures.share
          (count_more (is_open_job_in c.args.script.now c.args.self.now) 0 c.loop-job.job c.loop-job.job c.loop-job.count
          c.is_open_job.result (omega arith) now.so_far c.is_open_job.ensures);
      few = omega (arith, now.few, c.share-count.ensures.few);
    }
