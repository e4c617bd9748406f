use Rattle.std.proofs.Common.{◌≡◌, ◌+◌, ◌≤◌, All, ◌++◌, length}
use Rattle.log_model.specs.Fits.{Fits}
use Rattle.log_model.specs.LogText.{log_lines}
use Rattle.run_log.proofs.read.entries_of.Given as goal

abbrev pub invariant-loop-entry : goal.invariant-loop-entry
invariant-loop-entry l = record {
  same : l.bytes ≡ log_lines l.entries.items ++ l.rest;
  fit : All Fits l.entries.items;
  few : length l.entries.items + length l.rest ≤ length l.bytes;
}

abbrev pub decreases-loop-entry : goal.decreases-loop-entry
decreases-loop-entry l = length l.rest
