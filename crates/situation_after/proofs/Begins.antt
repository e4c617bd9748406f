-- The situation of the empty past is that of the start.
-- Cited by `begun.rt`.
use Rattle.std.proofs.Common.{◌≡◌, [], refl}
use Rattle.task_base.specs.Plan.{Plan}
use Rattle.task_model.specs.Capacity.{priority_of, taken_with, open_scope}
use Rattle.task_model.specs.Cells.{cell_of}
use Rattle.task_model.specs.Jobs.{claimed, is_cancelled, job_post_of}
use Rattle.task_model.specs.Past.{fold_past}
use Rattle.task_model.specs.Phase.{phase_of}
use Rattle.task_model.specs.Policies.{policy_of}
use Rattle.task_model.specs.Posts.{posts}
use Rattle.task_model.specs.Seats.{acts_done, holding, running}
use Rattle.task_model.specs.Time.{now_of}
use Rattle.hist_model.specs.Laws.Agenda.{agenda}
use Rattle.situation.specs.Line.{comers, line_of, standing}
use Rattle.situation.specs.Situation.{situation_of, unripe_of}
use Rattle.situation_after.specs.Begins.{start_of}

pub starts_so : (script : Plan) → start_of script ≡ situation_of script []
unfolding priority_of taken_with open_scope cell_of claimed is_cancelled job_post_of fold_past phase_of policy_of posts acts_done holding running now_of agenda
    comers line_of standing unripe_of
starts_so script = refl
