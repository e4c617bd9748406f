use Rattle.std.proofs.Common.{◌≡◌, ◌++◌, drop, flat_map}
use Rattle.script_model.specs.Draft.{is_any_posted}
use Rattle.nested_loop.specs.Sound.{posts_of_nest_step}
use Rattle.nested_loop.proofs.posts.steps_post_again.Given as goal

abbrev pub invariant-loop-step : goal.invariant-loop-step
invariant-loop-step l = record {
  again : is_any_posted l.posted.items (flat_map posts_of_nest_step (drop l.step-index l.steps))
      ≡ is_any_posted l.initial.posted.items (flat_map posts_of_nest_step l.steps);
  noted : l.posted.items ++ flat_map posts_of_nest_step (drop l.step-index l.steps) ≡ l.initial.posted.items ++ flat_map posts_of_nest_step l.steps;
}
