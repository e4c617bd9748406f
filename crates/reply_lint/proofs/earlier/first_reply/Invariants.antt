use Rattle.std.proofs.Common.{◌≡◌, ◌+◌, ◌≤◌, length}
use Rattle.std.specs.List.{position_from}
use Rattle.script_model.specs.Words.{lines_of}
use Rattle.reply_lint.specs.Earlier.{has_reply}
use Rattle.reply_lint.proofs.earlier.first_reply.Given as goal

abbrev pub invariant-loop-line : goal.invariant-loop-line
invariant-loop-line l = record {
  few : l.number + length l.lines ≤ length l.text + 1;
  rest : position_from (has_reply l.task) (l.number + 1) l.lines ≡ position_from (has_reply l.task) 1 (lines_of l.text);
}

abbrev pub decreases-loop-line : goal.decreases-loop-line
decreases-loop-line l = length l.lines
