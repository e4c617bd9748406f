use Rattle.std.proofs.Common.{◌≡◌, ℕ, ◌<◌, ◌≤◌, false}
use Rattle.live_core.specs.Books.{is_unmarked}
use Rattle.live_core.proofs.books.tables.first_unmarked.Given as goal

abbrev pub invariant-loop-task : goal.invariant-loop-task
invariant-loop-task l = (n : ℕ) → l.start ≤ n → n < l.task → is_unmarked l.kept l.posted n ≡ false
