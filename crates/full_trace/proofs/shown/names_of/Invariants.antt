use Rattle.std.proofs.Common.{◌≡◌}
use Rattle.full_trace.specs.Shown.{names_of}
use Rattle.full_trace.proofs.shown.names_of.Given as goal

abbrev pub invariant-loop-seat : goal.invariant-loop-seat
invariant-loop-seat l = l.events.items ≡ names_of l.seat
