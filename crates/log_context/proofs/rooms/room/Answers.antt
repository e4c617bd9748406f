use Rattle.log_context.proofs.Counting.{room_is}
use Rattle.log_context.proofs.rooms.room.Goals as goal

pub returns : goal.returns
returns c = rw (
  c.from-running.ensures,
  c.counted.ensures,
  c.from.ensures,
  c.most_of.ensures,
  c.from-blocked.ensures,
  c.counted-2.ensures,
) (room_is c.args.script.now c.args.past.now c.args.limit)
