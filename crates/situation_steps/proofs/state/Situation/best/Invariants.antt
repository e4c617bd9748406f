use Rattle.std.proofs.Common.{◌≡◌, ◌++◌, filter}
use Rattle.std.specs.List.{filter_map, range_with_len}
use Rattle.list_laws.specs.Lists.{least}
use Rattle.task_base.specs.Runners.{sequence_count}
use Rattle.task_model.specs.Sources.{goes_before}
use Rattle.log_count.specs.Sources.{job_waits_in, sequence_waits_in}
use Rattle.situation_steps.specs.Sources.{is_let, is_takeable_in}
use Rattle.situation_steps.proofs.state.Situation.best.Given as goal

abbrev pub invariant-loop-job : goal.invariant-loop-job
invariant-loop-job l =
    l.best ≡ least goes_before (filter (is_takeable_in l.script l.self l.seat) (filter (is_let l.self)
    (filter_map (sequence_waits_in l.script l.self) (range_with_len 0 (sequence_count l.script))
    ++ filter_map (job_waits_in l.script l.self) (range_with_len 0 l.job))))
