use Rattle.std.proofs.Common.{◌≡◌, None, replicate}
use Rattle.live_core.proofs.live.no_cells.Given as goal

abbrev pub invariant-loop : goal.invariant-loop
invariant-loop l = l.cells.items ≡ replicate l.counter None
