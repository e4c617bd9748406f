use Rattle.hist_model.proofs.Laws.Postings.Once.{a_posted_task_is_new}
use Rattle.hist_model.proofs.postings.each_task_is_posted_once.Goals as goal

pub returns-clause-posted_task_is_new : goal.returns-clause-posted_task_is_new
returns-clause-posted_task_is_new c = a_posted_task_is_new
