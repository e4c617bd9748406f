-- Once shutdown is done no job waits.
-- Cited by `pool_core`.
use Rattle.std.proofs.Common.{◌≡◌, ℕ, true, List, [], ◌∷◌, ◌++◌, refl, None}
use Rattle.std.proofs.Math.Bool.{and-false}
use Rattle.task_base.specs.Plan.{Plan}
use Rattle.task_base.specs.declared.entry.Entry.{Entry}
use Rattle.task_base.specs.declared.entry.Kind.TheVariants as kinds
use Rattle.task_model.specs.Refusal.{is_job_forbidden}
use Rattle.task_model.specs.Jobs.{may_enter}
use Rattle.task_model.specs.Sources.{job_waiting}
use Rattle.task_model.proofs.Growth.{phase_of_push}

pub job_waiting_at_done : (script : Plan) (past : List Entry) (e : Entry) (j : ℕ) → e.kind ≡ kinds.Done → job_waiting script (past ++ e ∷ []) j ≡ None
unfolding may_enter
job_waiting_at_done script past e j is = rw (forbidden, and-false) refl
  where
    forbidden : is_job_forbidden script (past ++ e ∷ []) j ≡ true
    forbidden = rw (phase_of_push past e, is) refl
