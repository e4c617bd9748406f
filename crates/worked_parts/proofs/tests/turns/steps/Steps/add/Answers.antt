use Rattle.std.proofs.Common.{rules}
use Rattle.worked_parts.proofs.Samples.{step_enters}
use Rattle.worked_parts.proofs.tests.turns.steps.Steps.add.Goals as goal

pub returns-in-Ok-clause-added : goal.returns-in-Ok-clause-added
returns-in-Ok-clause-added c = step_enters c.len-place.result _ _ _ _ c.in-Ok.ensures.items (search rules) (search rules) (search rules) (search rules)
