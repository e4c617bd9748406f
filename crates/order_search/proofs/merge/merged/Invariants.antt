use Rattle.std.proofs.Common.{◌≡◌, false, length}
use Rattle.order_search.specs.Search.{task_of}
use Rattle.order_search.proofs.Ruled.{IsParted}
use Rattle.order_search.proofs.merge.merged.Given as goal

abbrev pub invariant-loop : goal.invariant-loop
invariant-loop l = record {
  parted : IsParted (task_of l.script false l.tries) l.events.items l.heads.items;
  count : length l.events.items ≡ l.counter;
}
