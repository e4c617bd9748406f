use Rattle.std.proofs.Common.{◌≡◌, ◌+◌, ◌≤◌, All, ◌++◌, length}
use Rattle.event_text.specs.EventText.{EventFits, events_text}
use Rattle.event_text.proofs.read.read_events.Given as goal

abbrev pub invariant-loop-rest : goal.invariant-loop-rest
invariant-loop-rest l = record {
  same : l.bytes ≡ events_text l.events.items ++ l.rest;
  fit : All EventFits l.events.items;
  few : length l.events.items + length l.rest ≤ length l.bytes;
}

abbrev pub decreases-loop-rest : goal.decreases-loop-rest
decreases-loop-rest l = length l.rest
