-- What is said of the fault of a trace.
use Rattle.trace_json.specs.declared.fault.TraceFault.{TraceFault}
use Rattle.trace_json.specs.declared.fault.TraceFault.TheVariants.{Sink, Memory}

-- a fact that holds where the sink failed
abbrev pub OnTraceSink : TraceFault → Type 0 → Type 0
OnTraceSink (Sink error) P = P
OnTraceSink (Memory error) P = Unit {0}

-- a fact that holds where memory ran out
abbrev pub OnTraceMemory : TraceFault → Type 0 → Type 0
OnTraceMemory (Sink error) P = Unit {0}
OnTraceMemory (Memory error) P = P
