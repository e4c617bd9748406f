use Rattle.std.proofs.Common.{ℕ, Bool, arith}
use Rattle.list_laws.specs.Lists.{holds_of}
use Rattle.task_model.specs.Blockers.{is_skip}
use Rattle.task_model.specs.Refusal.{behaviour_of_job}
use Rattle.log_count.specs.Parts.{job_in}
use Rattle.situation_steps.proofs.Counting.{count_more}
use Rattle.situation_steps.proofs.state.Situation.seats_in_skip_jobs.Goals as goal

pub loop-seat-preserved : goal.loop-seat-preserved
loop-seat-preserved c =
    let test : ℕ → Bool = λ seat. holds_of (λ j. is_skip (behaviour_of_job c.args.script.now j)) (job_in c.args.self.now seat) in
    let now = c.loop-seat.invariant in
    record {
      so_far = rw c.share-count.ensures.share
          (count_more test 0 c.loop-seat.seat c.loop-seat.seat c.loop-seat.count
          c.is_in_skip_job.result (omega arith) now.so_far c.is_in_skip_job.ensures);
      few = omega (arith, now.few, c.share-count.ensures.few);
    }
