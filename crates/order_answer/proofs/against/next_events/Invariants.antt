use Rattle.std.proofs.Common.{◌≡◌, flat_map}
use Rattle.std.specs.List.{range_with_len}
use Rattle.std.specs.Option.{option_to_list}
use Rattle.order_answer.specs.Said.{next_of}
use Rattle.order_answer.proofs.against.next_events.Given as goal

abbrev pub invariant-loop-seat : goal.invariant-loop-seat
invariant-loop-seat l = record { so_far : l.next.items ≡ flat_map (λ seat. option_to_list (next_of seat l.rest)) (range_with_len 0 l.seat) }
