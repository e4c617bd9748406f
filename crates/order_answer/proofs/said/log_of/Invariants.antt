use Rattle.std.proofs.Common.{◌≡◌, take}
use Rattle.order_model.specs.Orders.{entries_of}
use Rattle.order_answer.proofs.said.log_of.Given as goal

abbrev pub invariant-loop-event : goal.invariant-loop-event
invariant-loop-event l = record { so_far : l.log.items ≡ entries_of (take l.event-index l.events) }
