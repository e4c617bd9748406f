use Rattle.std.proofs.Common.{◌≡◌, ◌-◌, length}
use Rattle.order_search.specs.Seats.{AreLinked}
use Rattle.order_search.proofs.tries.Tries.of.Given as goal

abbrev pub invariant-loop-k : goal.invariant-loop-k
invariant-loop-k l = record {
  same : l.tries.events.items ≡ l.initial.tries.events.items;
  linked : AreLinked l.seats l.tries.events.items (length l.tries.events.items - l.k) l.tries.heads.items l.tries.after.items l.tries.least.items;
}
