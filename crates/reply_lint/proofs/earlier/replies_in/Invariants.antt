use Rattle.std.proofs.Common.{◌≡◌, ◌+◌, ◌≤◌, length}
use Rattle.std.specs.Prelude.{count_by}
use Rattle.script_model.specs.Words.{lines_of}
use Rattle.reply_lint.specs.Said.{is_reply}
use Rattle.reply_lint.proofs.earlier.replies_in.Given as goal

abbrev pub invariant-loop-line : goal.invariant-loop-line
invariant-loop-line l = record {
  few : l.replies + length l.lines ≤ length l.text + 1;
  rest : l.replies + count_by is_reply l.lines ≡ count_by is_reply (lines_of l.text);
}

abbrev pub decreases-loop-line : goal.decreases-loop-line
decreases-loop-line l = length l.lines
