use Rattle.std.proofs.Common.{◌≡◌, drop, flat_map}
use Rattle.script_model.specs.Laws.Postings.{posts_of_step}
use Rattle.task_script.specs.Marks.{marked, is_any_marked}
use Rattle.task_script.proofs.steps.is_any_posted.Given as goal

abbrev pub invariant-loop-step : goal.invariant-loop-step
invariant-loop-step l = record {
  found : is_any_marked l.marks (flat_map posts_of_step (drop l.step-index l.steps)) ≡ is_any_marked l.initial.marks (flat_map posts_of_step l.steps);
  marked : marked l.marks (flat_map posts_of_step (drop l.step-index l.steps)) ≡ marked l.initial.marks (flat_map posts_of_step l.steps);
}
