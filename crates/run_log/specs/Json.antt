-- What is said of the fault of a log that is written as JSON.
use Rattle.run_log.specs.declared.json_fault.JsonFault.{JsonFault}
use Rattle.run_log.specs.declared.json_fault.JsonFault.TheVariants.{Sink, Memory}

-- a fact that holds where the sink failed
abbrev pub OnSink : JsonFault → Type 0 → Type 0
OnSink (Sink error) P = P
OnSink (Memory error) P = Unit {0}

-- a fact that holds where memory ran out
abbrev pub OnMemory : JsonFault → Type 0 → Type 0
OnMemory (Sink error) P = Unit {0}
OnMemory (Memory error) P = P
