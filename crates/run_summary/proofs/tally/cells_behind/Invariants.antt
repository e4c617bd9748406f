-- The table stands for the entries before this one.
use Rattle.std.proofs.Common.{take}
use Rattle.run_summary.specs.Cells.{AreCells}
use Rattle.run_summary.proofs.tally.cells_behind.Given as goal

abbrev pub invariant-loop-entry : goal.invariant-loop-entry
invariant-loop-entry l = AreCells l.script (take l.entry-index l.log) l.cells
