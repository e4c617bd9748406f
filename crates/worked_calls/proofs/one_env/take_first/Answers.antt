use Rattle.std.proofs.Common.{refl, arith}
use Rattle.task_model.specs.Seats.{holding, running}
use Rattle.hist_model.specs.Script.{current, is_wanted}
use Rattle.worked_calls.proofs.one_env.take_first.Goals as goal

pub start_job-requires : goal.start_job-requires
unfolding is_wanted current
start_job-requires g c ok = simp c.requires (record { driver = refl; wanted = refl })

pub take_item-pass-requires : goal.take_item-pass-requires
unfolding holding running
take_item-pass-requires g c = simp (c.start_job.ensures, c.requires) (record { worker = omega arith; known = omega arith; free = refl })

pub post-requires : goal.post-requires
unfolding is_wanted current
post-requires g c ok = simp (c.take_item-pass.ensures.entered, c.start_job.ensures, c.requires) (record { driver = refl; wanted = refl })

pub returns-clause-env : goal.returns-clause-env
returns-clause-env g c = simp (c.post.ensures, c.take_item-pass.ensures.entered, c.start_job.ensures, c.requires) refl
