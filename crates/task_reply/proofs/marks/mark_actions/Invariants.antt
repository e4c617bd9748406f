use Rattle.std.proofs.Common.{◌≡◌, take}
use Rattle.std.specs.Prelude.{flat_map}
use Rattle.script_model.specs.Laws.Postings.{posts_of_action}
use Rattle.task_reply.specs.Tables.{marked}
use Rattle.task_reply.proofs.marks.mark_actions.Given as goal

abbrev pub invariant-loop-action : goal.invariant-loop-action
invariant-loop-action l = l.marks ≡ marked l.initial.marks (flat_map posts_of_action (take l.action-index l.actions))
