use Rattle.std.proofs.Common.{◌≡◌, filter}
use Rattle.std.specs.List.{filter_map, range_with_len}
use Rattle.list_laws.specs.Lists.{least}
use Rattle.task_model.specs.Sources.{goes_before}
use Rattle.situation_steps.specs.Sources.{is_let, is_takeable_in, waits_from}
use Rattle.situation_steps.proofs.state.Situation.best_sequence.Given as goal

abbrev pub invariant-loop-place : goal.invariant-loop-place
invariant-loop-place l =
    l.best ≡ least goes_before (filter (is_takeable_in l.script l.self l.seat) (filter (is_let l.self)
    (filter_map (waits_from l.script l.self) (range_with_len 0 l.place))))
