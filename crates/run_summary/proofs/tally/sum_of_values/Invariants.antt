-- The sum so far is that of the values in the entries before this one.
use Rattle.std.proofs.Common.{◌≡◌, ◌%◌, ◌^◌, take}
use Rattle.std.specs.Prelude.{sum_by}
use Rattle.run_summary.specs.Summary.{value_in}
use Rattle.run_summary.proofs.tally.sum_of_values.Given as goal

abbrev pub invariant-loop-entry : goal.invariant-loop-entry
invariant-loop-entry l = l.total ≡ sum_by (λ e. value_in e.kind) (take l.entry-index l.log) % 2 ^ 64
