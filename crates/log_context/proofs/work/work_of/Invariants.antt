use Rattle.std.proofs.Common.{take}
use Rattle.log_context.specs.Work.{IsWorkOf}
use Rattle.log_context.proofs.work.work_of.Given as goal

abbrev pub invariant-loop-i : goal.invariant-loop-i
invariant-loop-i l = IsWorkOf l.script (take l.i l.past) l.seat l.work
