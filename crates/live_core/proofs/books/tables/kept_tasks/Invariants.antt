use Rattle.std.proofs.Common.{◌≡◌, take, length, replicate, false}
use Rattle.live_core.specs.Books.{marked_by}
use Rattle.live_core.proofs.books.tables.kept_tasks.Given as goal

abbrev pub invariant-loop-task : goal.invariant-loop-task
invariant-loop-task l = l.kept.items ≡ marked_by (take l.task-index l.tasks) (replicate (length l.tasks) false)
