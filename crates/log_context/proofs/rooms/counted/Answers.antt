use Rattle.std.proofs.Common.{arith}
use Rattle.log_context.specs.Rooms.{is_counted}
use Rattle.log_context.proofs.Counting.{count_more}
use Rattle.log_context.proofs.rooms.counted.Goals as goal

pub loop-seat-preserved : goal.loop-seat-preserved
loop-seat-preserved c =
    let now = c.loop-seat.invariant in
    record {
      so_far = rw c.share-count.ensures.share
          (count_more (is_counted c.args.script.now c.args.past.now c.args.limit c.args.blocked) c.loop-seat.seat c.loop-seat.count
          c.is_counted.result now.so_far c.is_counted.ensures);
      few = omega (arith, now.few, c.share-count.ensures.few);
    }
