use Rattle.std.proofs.Common.{◌≡◌, take}
use Rattle.std.specs.Prelude.{flat_map}
use Rattle.script_model.specs.Laws.Postings.{posts_of_step}
use Rattle.task_reply.specs.Tables.{marked}
use Rattle.task_reply.proofs.marks.mark_steps.Given as goal

abbrev pub invariant-loop-step : goal.invariant-loop-step
invariant-loop-step l = l.marks ≡ marked l.initial.marks (flat_map posts_of_step (take l.step-index l.steps))
