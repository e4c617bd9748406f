use Rattle.std.proofs.Common.{◌≡◌, ◌+◌, ◌≤◌, length}
use Rattle.std.specs.List.{position_from}
use Rattle.script_model.specs.Words.{lines_of}
use Rattle.nest_lint.specs.Earlier.{says}
use Rattle.nest_lint.proofs.earlier.first_line.Given as goal

abbrev pub invariant-loop-line : goal.invariant-loop-line
invariant-loop-line l = record {
  few : l.number + length l.lines ≤ length l.text + 1;
  rest : position_from (says l.sought) (l.number + 1) l.lines ≡ position_from (says l.sought) 1 (lines_of l.text);
}

abbrev pub decreases-loop-line : goal.decreases-loop-line
decreases-loop-line l = length l.lines
