use Rattle.std.proofs.Common.{◌≤◌}
use Rattle.std.specs.List.{AllByRecursion}
use Rattle.queue_selector.specs.Selecting.{open_fronts}
use Rattle.queue_selector.proofs.selector.Selector.least_class.Given as goal

abbrev pub invariant-loop-class : goal.invariant-loop-class
invariant-loop-class l = AllByRecursion (λ f. l.class ≤ f.class) (open_fronts l.self)
