use Rattle.std.proofs.Common.{◌≡◌, length}
use Rattle.task_reply.proofs.LinesSoFar.{ReadSoFar}
use Rattle.task_reply.proofs.elaboration.elaborate.Given as goal

abbrev pub invariant-loop-line : goal.invariant-loop-line
invariant-loop-line l = record {
  number : l.number ≡ length l.yielded;
  so_far : ReadSoFar l.fn.script l.bytes l.held (length l.yielded);
}
