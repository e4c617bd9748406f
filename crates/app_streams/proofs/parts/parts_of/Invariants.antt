use Rattle.std.proofs.Common.{length}
use Rattle.app_streams.proofs.Passed.{IsPassed}
use Rattle.app_streams.proofs.parts.parts_of.Given as goal

abbrev pub invariant-loop-line : goal.invariant-loop-line
invariant-loop-line l = record {
  can : (goal.iterator-loop-line).can_next l.line-iterator;
  finite : (goal.iterator-loop-line).is_finite l.line-iterator;
  passed : IsPassed l.bytes (length l.yielded) l.end;
}
