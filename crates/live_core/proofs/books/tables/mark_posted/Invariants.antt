use Rattle.std.proofs.Common.{◌≡◌, take}
use Rattle.live_core.specs.Books.{marked}
use Rattle.live_core.proofs.books.tables.mark_posted.Given as goal

abbrev pub invariant-loop-step : goal.invariant-loop-step
invariant-loop-step l = l.kept.items ≡ marked (take l.step-index l.steps) l.initial.kept.items
