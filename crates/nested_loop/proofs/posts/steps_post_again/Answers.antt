use Rattle.std.proofs.Common.{sym, ◌∙◌}
use Rattle.nested_loop.proofs.Posted.{noted-more}
use Rattle.nested_loop.proofs.posts.steps_post_again.Goals as goal

pub loop-step-preserved : goal.loop-step-preserved
loop-step-preserved c =
    let more = noted-more c.loop-step.posted.items c.step_posts_again.new.posted.items c.args.steps.now c.loop-step.step-index _ c.loop-step-test.true
    (sym c.in_ok-step_posts_again.ensures.again ∙ c.if-branch.false) (c.in_ok-step_posts_again.ensures.noted c.if-branch.false) in
    record { again = more.0 ∙ c.loop-step.invariant.again; noted = more.1 ∙ c.loop-step.invariant.noted }
