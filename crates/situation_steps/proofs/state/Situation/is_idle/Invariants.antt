use Rattle.std.proofs.Common.{◌≡◌, true}
use Rattle.std.specs.List.{list_all, range_with_len}
use Rattle.std.specs.Prelude.{is_none}
use Rattle.log_count.specs.Sources.{best_in}
use Rattle.situation_steps.proofs.state.Situation.is_idle.Given as goal

abbrev pub invariant-loop-seat : goal.invariant-loop-seat
invariant-loop-seat l = list_all (λ worker. is_none (best_in l.script l.self worker)) (range_with_len 1 l.seat) ≡ true
