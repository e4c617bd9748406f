use Rattle.std.proofs.Common.{◌≡◌}
use Rattle.std.specs.List.{filter_map, range_with_len}
use Rattle.std.specs.Option.{option_map}
use Rattle.log_count.specs.After.{after_in}
use Rattle.log_count.specs.Ways.{next_in}
use Rattle.log_counting.specs.Clocks.{tick_of}
use Rattle.log_counting.proofs.onward.places_onward.Given as goal

abbrev pub invariant-loop-seat : goal.invariant-loop-seat
invariant-loop-seat l =
    l.places.items ≡ filter_map (λ seat. option_map (after_in l.script l.s seat) (next_in l.script (tick_of l.clock) l.s seat)) (range_with_len 0 l.seat)
