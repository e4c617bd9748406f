use Rattle.std.proofs.Common.{◌≡◌, take}
use Rattle.order_search.specs.Walk.{events_in}
use Rattle.order_search.proofs.best.events_of.Given as goal

abbrev pub invariant-loop-placed : goal.invariant-loop-placed
invariant-loop-placed l = record { so_far : l.events.items ≡ events_in (take l.placed-index l.path) }
