use Rattle.std.proofs.Common.{ℕ, ◌+◌, Bool, arith}
use Rattle.std.specs.Prelude.{◌&&◌}
use Rattle.list_laws.specs.Lists.{holds_of}
use Rattle.log_count.specs.Parts.{taken_in}
use Rattle.situation_steps.specs.Groups.{counts_with, scope_counts_in}
use Rattle.situation_steps.proofs.Counting.{count_more}
use Rattle.situation_steps.proofs.state.Situation.blocked.Goals as goal

pub loop-seat-preserved : goal.loop-seat-preserved
loop-seat-preserved c =
    let test : ℕ → Bool = λ seat. holds_of (counts_with c.args.script.now c.args.priority c.args.best) (taken_in c.args.self.now seat)
    && scope_counts_in c.args.self.now seat in
    let now = c.loop-seat.invariant in
    record {
      so_far = rw c.share-count.ensures.share
          (count_more test 1 c.loop-seat.seat (c.loop-seat.seat + 1) c.loop-seat.count
          c.is_blocked.result (omega arith) now.so_far c.is_blocked.ensures);
      few = omega (arith, now.few, c.share-count.ensures.few);
    }
