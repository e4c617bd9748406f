use Rattle.std.proofs.Common.{◌≡◌, None, take}
use Rattle.order_answer.specs.Said.{next_of}
use Rattle.order_answer.proofs.against.next_of.Given as goal

abbrev pub invariant-loop-event : goal.invariant-loop-event
invariant-loop-event l = record { none_yet : next_of l.seat (take l.event-index l.rest) ≡ None }
