use Rattle.std.proofs.Common.{◌≡◌, false}
use Rattle.std.specs.List.{list_any, range_with_len}
use Rattle.list_laws.specs.Lists.{holds_of}
use Rattle.situation_steps.specs.Sources.{let_job, outranks_in}
use Rattle.situation_steps.proofs.state.Situation.is_outranked_by_job.Given as goal

abbrev pub invariant-loop-job : goal.invariant-loop-job
invariant-loop-job l = list_any (λ j. holds_of (outranks_in l.script l.priority) (let_job l.script l.self j)) (range_with_len 0 l.job) ≡ false
