use Rattle.std.proofs.Common.{◌≡◌}
use Rattle.nested_loop.proofs.Taken.{IsSent}
use Rattle.nested_loop.proofs.write.write_nest.Given as goal

abbrev pub invariant-loop-place : goal.invariant-loop-place
invariant-loop-place g l = record {
  sent : IsSent (g.K.Sink.holds l.initial.sink) (g.K.Sink.holds l.sink) l.log.items l.place;
  steady : g.K.Sink.faults l.sink ≡ g.K.Sink.faults l.initial.sink;
}
