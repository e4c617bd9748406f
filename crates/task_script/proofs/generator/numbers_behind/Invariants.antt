use Rattle.std.proofs.Common.{◌≡◌, ◌-◌, ◌++◌}
use Rattle.task_script.specs.Generated.{numbers_behind}
use Rattle.task_script.proofs.generator.numbers_behind.Given as goal

abbrev pub invariant-loop : goal.invariant-loop
invariant-loop l = l.numbers.items ++ numbers_behind l.last (l.count - l.counter) ≡ numbers_behind l.number l.count
