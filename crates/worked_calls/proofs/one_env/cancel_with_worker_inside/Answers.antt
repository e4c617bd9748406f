use Rattle.std.proofs.Common.{refl, arith}
use Rattle.task_model.specs.Seats.{holding, running}
use Rattle.hist_model.specs.Script.{current, is_wanted}
use Rattle.worked_calls.proofs.one_env.cancel_with_worker_inside.Goals as goal

pub start_job-requires : goal.start_job-requires
unfolding is_wanted current
start_job-requires g c ok = simp (c.in_ok-env.ensures, c.in_ok-script.ensures.plan) (record { driver = refl; wanted = refl })

pub take_item-pass-requires : goal.take_item-pass-requires
unfolding holding running
take_item-pass-requires g c = simp (
  c.start_job.ensures,
  c.in_ok-env.ensures,
  c.in_ok-script.ensures.plan,
) (record { worker = omega arith; known = omega arith; free = refl })

pub job_cancel-requires : goal.job_cancel-requires
unfolding is_wanted current
job_cancel-requires g c = simp (
  c.take_item-pass.ensures.entered,
  c.start_job.ensures,
  c.in_ok-env.ensures,
  c.in_ok-script.ensures.plan,
) (record { driver = refl; wanted = refl })

pub not_cancelled-requires : goal.not_cancelled-requires
unfolding is_wanted current
not_cancelled-requires g c = simp (
  c.job_cancel.ensures.entered,
  c.take_item-pass.ensures.entered,
  c.start_job.ensures,
  c.in_ok-env.ensures,
  c.in_ok-script.ensures.plan,
) (record { driver = refl; wanted = refl })

pub leave-requires : goal.leave-requires
unfolding holding
leave-requires g c = simp (
  c.not_cancelled.ensures,
  c.job_cancel.ensures.entered,
  c.take_item-pass.ensures.entered,
  c.take_item-pass.ensures.pass,
  c.start_job.ensures,
  c.in_ok-env.ensures,
  c.in_ok-script.ensures.plan,
) (record { held = record { known = omega arith; holds = refl }; value_is = refl })

pub try_cancelled-requires : goal.try_cancelled-requires
unfolding is_wanted current
try_cancelled-requires g c = simp (
  c.leave.ensures,
  c.not_cancelled.ensures,
  c.job_cancel.ensures.entered,
  c.take_item-pass.ensures.entered,
  c.start_job.ensures,
  c.in_ok-env.ensures,
  c.in_ok-script.ensures.plan,
) (record { driver = refl; wanted = refl })
