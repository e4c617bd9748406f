use Rattle.std.proofs.Common.{◌≡◌, ◌+◌, ◌++◌, ◌∙◌, ap, arith, sym}
use Rattle.std.specs.List.{filter_map, range_with_len}
use Rattle.std.specs.Option.{option_map, option_to_list}
use Rattle.task_base.specs.Plan.{Plan}
use Rattle.log_count.specs.After.{after_in}
use Rattle.log_count.specs.Layers.{onward}
use Rattle.log_count.specs.Ways.{next_in}
use Rattle.log_counting.specs.Clocks.{tick_of}
use Rattle.log_counting.proofs.Seats.{seat_more}
use Rattle.log_counting.proofs.onward.places_onward.Goals as goal

pub loop-seat-preserved : goal.loop-seat-preserved
loop-seat-preserved c =
    c.in_ok-add_found.ensures ∙ ap (λ l. l ++ option_to_list c.in_ok-place.place) c.loop-seat.invariant
    ∙ ap (λ o. filter_map (λ seat. option_map (after_in c.args.script.now c.args.s.now seat) (next_in c.args.script.now (tick_of c.args.clock)
    c.args.s.now seat))
    (range_with_len 0 c.loop-seat.seat) ++ option_to_list o) c.in_ok-place.ensures
    ∙ sym (seat_more (λ seat. option_map (after_in c.args.script.now c.args.s.now seat) (next_in c.args.script.now (tick_of c.args.clock) c.args.s.now seat))
    c.loop-seat.seat)

pub returns : goal.returns
unfolding onward
returns c =
    let all : c.loop-seat.seat ≡ c.args.script.now.workers + 1 = omega (arith, ap (λ (s : Plan). s.workers) c.script.view_is) in
    c.loop-seat.invariant
    ∙ ap (λ n. filter_map (λ seat. option_map (after_in c.args.script.now c.args.s.now seat) (next_in c.args.script.now (tick_of c.args.clock)
    c.args.s.now seat))
    (range_with_len 0 n)) all
