use Rattle.std.proofs.Common.{ℕ, ◌+◌, Bool, arith}
use Rattle.list_laws.specs.Lists.{holds_of}
use Rattle.log_count.specs.Sources.{work_in}
use Rattle.situation_steps.specs.Groups.{counts_with}
use Rattle.situation_steps.proofs.Counting.{count_more}
use Rattle.situation_steps.proofs.state.Situation.load.Goals as goal

pub loop-seat-preserved : goal.loop-seat-preserved
loop-seat-preserved c =
    let test : ℕ → Bool = λ seat. holds_of (counts_with c.args.script.now c.args.priority c.args.best) (work_in c.args.script.now c.args.self.now seat) in
    let now = c.loop-seat.invariant in
    record {
      so_far = rw c.share-count.ensures.share
          (count_more test 1 c.loop-seat.seat (c.loop-seat.seat + 1) c.loop-seat.count
          c.does.result (omega arith) now.so_far c.does.ensures);
      few = omega (arith, now.few, c.share-count.ensures.few);
    }
