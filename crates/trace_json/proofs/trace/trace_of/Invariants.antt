use Rattle.std.proofs.Common.{◌≡◌, take}
use Rattle.trace_json.specs.Trace.{trace_of}
use Rattle.trace_json.proofs.trace.trace_of.Given as goal

abbrev pub invariant-loop-place : goal.invariant-loop-place
invariant-loop-place l = l.events.items ≡ trace_of (take l.place l.log)
