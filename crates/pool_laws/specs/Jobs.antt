-- Words of the laws on jobs.
use Rattle.std.specs.Prelude.{◌≡◌, ℕ, ◌==◌, Bool, IsTrue, false, List, [], ◌∷◌}
use Rattle.task_base.specs.Plan.{Plan}
use Rattle.task_base.specs.declared.entry.Entry.{Entry}
use Rattle.task_base.specs.declared.entry.Kind.{Kind}
use Rattle.task_base.specs.declared.entry.Kind.TheVariants as kinds
use Rattle.task_model.specs.Phase.{phase_of}
use Rattle.task_model.specs.Seats.{inside}
use Rattle.pool_laws.specs.Moves.{Part, Cancels, Items, JobPosts, Phases, moves}
use Rattle.task_model.specs.Jobs.{job_post_of, is_cancelled, claimed, done, job_sum, may_enter}

-- the kinds that may change what is known of a job
abbrev pub job_parts : List Part
job_parts = JobPosts ∷ Items ∷ Cancels ∷ Phases ∷ []

abbrev pub moves_jobs : Kind → Bool
moves_jobs = moves job_parts

-- the entry is a post of the job
abbrev pub posts_job : ℕ → Kind → Bool
posts_job j (kinds.JobPost job ok) = job == j
posts_job j kind = false

-- a later past says the same of the job
pub record JobKept (script : Plan) (past later : List Entry) (j : ℕ) : Type 0 where
  pub post : job_post_of later j ≡ job_post_of past j
  pub cancelled : is_cancelled later j ≡ is_cancelled past j
  pub phase : phase_of later ≡ phase_of past
  pub claims_same : claimed later j ≡ claimed past j
  pub done_same : done later j ≡ done past j
  pub sum_same : job_sum later j ≡ job_sum past j
  pub inside_now : inside script later j ≡ inside script past j

-- the fact of it
abbrev pub MayEnter : Plan → List Entry → ℕ → Type 0
MayEnter script past j = IsTrue (may_enter script past j)
