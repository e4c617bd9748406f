-- What a legal and whole log has done, and what it has left.
-- Cited by `whole.rt`, `run_summary`, `trace_json`.
use Rattle.std.proofs.Common.{List}
use Rattle.task_base.specs.Plan.{Plan}
use Rattle.task_base.specs.declared.entry.Entry.{Entry}
use Rattle.hist_model.specs.Script.{IsWhole}
use Rattle.hist_model.specs.Legal.{IsLegal}
use Rattle.hist_model.specs.Laws.Whole.{LosesNothing}
use Rattle.hist_model.proofs.Laws.Whole.Rest.{nobody_runs, nobody_holds, tasks_ended, main_tasks_ended, items_done}
use Rattle.hist_model.proofs.Laws.Whole.Items.{items_stepped}
use Rattle.hist_model.proofs.Laws.Whole.Waiting.{tasks_left}
use Rattle.hist_model.proofs.Laws.Whole.MainTasks.{main_tasks_left}

pub loses_nothing : (script : Plan) (log : List Entry) → IsLegal script log → IsWhole script log → LosesNothing script log
loses_nothing script log legal whole = record {
  nobody_runs = nobody_runs script log legal whole;
  nobody_holds = nobody_holds script log legal whole;
  tasks_ended = tasks_ended script log legal whole;
  main_tasks_ended = main_tasks_ended script log legal whole;
  items_done = items_done script log legal whole;
  items_stepped = items_stepped script log legal whole;
  tasks_left = tasks_left script log legal whole;
  main_tasks_left = main_tasks_left script log legal;
}
