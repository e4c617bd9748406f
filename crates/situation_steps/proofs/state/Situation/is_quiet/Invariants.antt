use Rattle.std.proofs.Common.{◌≡◌, true}
use Rattle.std.specs.List.{list_all, range_with_len}
use Rattle.std.specs.Prelude.{◌&&◌, is_none}
use Rattle.log_count.specs.Parts.{job_in, runs_in}
use Rattle.situation_steps.proofs.state.Situation.is_quiet.Given as goal

abbrev pub invariant-loop-seat : goal.invariant-loop-seat
invariant-loop-seat l = list_all (λ seat. is_none (runs_in l.self seat) && is_none (job_in l.self seat)) (range_with_len 0 l.seat) ≡ true
