use Rattle.std.proofs.Common.{arith}
use Rattle.std.specs.Prelude.{◌==◌}
use Rattle.list_laws.specs.Lists.{holds_of}
use Rattle.log_count.specs.Parts.{job_in}
use Rattle.situation_steps.proofs.Counting.{count_more}
use Rattle.situation_steps.proofs.state.Situation.inside.Goals as goal

pub loop-seat-preserved : goal.loop-seat-preserved
loop-seat-preserved c =
    let now = c.loop-seat.invariant in
    record {
      so_far = rw c.share-count.ensures.share
          (count_more (λ seat. holds_of (λ j. j == c.args.job) (job_in c.args.self.now seat)) 0 c.loop-seat.seat c.loop-seat.seat c.loop-seat.count
          c.is_inside.result (omega arith) now.so_far c.is_inside.ensures);
      few = omega (arith, now.few, c.share-count.ensures.few);
    }
