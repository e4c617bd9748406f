use Rattle.std.proofs.Common.{◌≡◌, false}
use Rattle.std.specs.List.{list_any, range_with_len}
use Rattle.list_laws.specs.Lists.{holds_of, keep}
use Rattle.situation_steps.specs.Sources.{is_let, outranks_in, waits_from}
use Rattle.situation_steps.proofs.state.Situation.is_outranked_by_sequence.Given as goal

abbrev pub invariant-loop-place : goal.invariant-loop-place
invariant-loop-place l =
    list_any (λ n. holds_of (outranks_in l.script l.priority) (keep (is_let l.self) (waits_from l.script l.self n))) (range_with_len 0 l.place) ≡ false
