use Rattle.std.proofs.Common.{◌≡◌, take}
use Rattle.std.specs.Option.{option_map}
use Rattle.task_model.specs.Seats.{holding}
use Rattle.next_entry.specs.Seats.{holding_seen}
use Rattle.next_entry.proofs.seats.holding.Given as goal

abbrev pub invariant-loop-entry : goal.invariant-loop-entry
invariant-loop-entry l = option_map holding_seen l.held ≡ holding (take l.entry-index l.past) l.seat
