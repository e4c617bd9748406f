use Rattle.wide_script.proofs.Growth.{chosen_step}
use Rattle.wide_script.proofs.chosen.add_actions.Goals as goal

pub loop-choice-preserved : goal.loop-choice-preserved
loop-choice-preserved c = chosen_step c.args.actions.now.items c.loop-choice.actions.items c.add_action.new.actions.items c.args.choices.now c.loop-choice.choice-index _
    c.loop-choice-test.true c.loop-choice.invariant c.in_ok-add_action.ensures
