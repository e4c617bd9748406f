use Rattle.std.proofs.Common.{◌≡◌, take}
use Rattle.std.specs.Option.{option_map}
use Rattle.task_model.specs.Seats.{running}
use Rattle.next_entry.specs.Seats.{running_seen}
use Rattle.next_entry.proofs.seats.running.Given as goal

abbrev pub invariant-loop-entry : goal.invariant-loop-entry
invariant-loop-entry l = option_map running_seen l.runs ≡ running (take l.entry-index l.past) l.seat
