use Rattle.wide_script.proofs.Growth.{chosen_step}
use Rattle.wide_script.proofs.chosen.add_steps.Goals as goal

pub loop-choice-preserved : goal.loop-choice-preserved
loop-choice-preserved c = chosen_step c.args.steps.now.items c.loop-choice.steps.items c.add_step.new.steps.items c.args.choices.now c.loop-choice.choice-index _
    c.loop-choice-test.true c.loop-choice.invariant c.in_ok-add_step.ensures
