use Rattle.std.proofs.Common.{◌≡◌, ◌-◌, ◌++◌}
use Rattle.wide_script.specs.Draws.{generator_at, numbers_from}
use Rattle.wide_script.proofs.draws.numbers_from.Given as goal

abbrev pub invariant-loop : goal.invariant-loop
invariant-loop l = l.numbers.items ++ numbers_from l.generator (l.count - l.counter) ≡ numbers_from (generator_at l.seed) l.count
