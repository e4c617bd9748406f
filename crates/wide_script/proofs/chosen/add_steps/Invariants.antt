use Rattle.std.proofs.Common.{◌≡◌, ◌++◌, take}
use Rattle.wide_script.specs.Drawn.{chosen}
use Rattle.wide_script.proofs.chosen.add_steps.Given as goal

abbrev pub invariant-loop-choice : goal.invariant-loop-choice
invariant-loop-choice l = l.steps.items ≡ l.initial.steps.items ++ chosen (take l.choice-index l.choices)
