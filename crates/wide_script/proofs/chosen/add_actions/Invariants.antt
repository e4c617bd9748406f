use Rattle.std.proofs.Common.{◌≡◌, ◌++◌, take}
use Rattle.wide_script.specs.Drawn.{chosen}
use Rattle.wide_script.proofs.chosen.add_actions.Given as goal

abbrev pub invariant-loop-choice : goal.invariant-loop-choice
invariant-loop-choice l = l.actions.items ≡ l.initial.actions.items ++ chosen (take l.choice-index l.choices)
