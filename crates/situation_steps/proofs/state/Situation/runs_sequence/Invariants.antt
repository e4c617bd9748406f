use Rattle.std.proofs.Common.{◌≡◌, false}
use Rattle.std.specs.List.{list_any, range_with_len}
use Rattle.list_laws.specs.Lists.{holds_of}
use Rattle.task_model.specs.Seats.{runs_of}
use Rattle.log_count.specs.Parts.{runs_in}
use Rattle.situation_steps.proofs.state.Situation.runs_sequence.Given as goal

abbrev pub invariant-loop-seat : goal.invariant-loop-seat
invariant-loop-seat l = list_any (λ seat. holds_of (runs_of l.script l.sequence) (runs_in l.self seat)) (range_with_len 0 l.seat) ≡ false
