use Rattle.std.proofs.Common.{◌≡◌, replicate}
use Rattle.task_sequence.specs.Lines.{fresh_line}
use Rattle.task_sequence.proofs.lines.fresh_lines.Given as goal

abbrev pub invariant-loop : goal.invariant-loop
invariant-loop l = l.lines.items ≡ replicate l.counter fresh_line
