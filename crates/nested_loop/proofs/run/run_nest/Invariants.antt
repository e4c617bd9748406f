use Rattle.std.proofs.Common.{◌+◌, ◌-◌, ◌≤◌, length}
use Rattle.nested_loop.specs.Room.{events_bound}
use Rattle.nested_loop.specs.Stands.{Stands}
use Rattle.nested_loop.proofs.run.run_nest.Given as goal

abbrev pub invariant-loop-event : goal.invariant-loop-event
invariant-loop-event l = record {
  stands : Stands l.nest l.log.items l.machine;
  room : events_bound l.nest ≤ l.log.spare + length l.log.items;
}

abbrev pub decreases-loop-event : goal.decreases-loop-event
decreases-loop-event l = events_bound l.nest - length l.log.items
