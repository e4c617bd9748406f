-- The entries that the jobs have left: for each item its claim and its step.
-- Cited by `Laws/Entries/Bound`, `Laws/Fitting/Entries`, `Laws/Progress/Jobs`, `env_core`, `run_summary`.
use Rattle.std.proofs.Common.{◌≡◌, ℕ, ◌+◌, ◌-◌, ◌≤◌, Bool, true, false, cond, eqb, List, [], ◌∷◌, ◌++◌, refl, sym, ap, subst, ◌∙◌, Option, Some, None, arith}
use Rattle.std.specs.Prelude.{◌||◌, not, is_some, slice_get, sum_by}
use Rattle.std.specs.Option.{option_map_or}
use Rattle.std.proofs.lemmas.Bool.{eqb-true, eq-eqb, and_parts, ltb-true}
use Rattle.task_base.specs.Plan.{Plan, JobPlan}
use Rattle.task_base.specs.declared.entry.Entry.{Entry}
use Rattle.task_base.specs.declared.entry.Kind.{Kind}
use Rattle.task_base.specs.declared.entry.Kind.TheVariants as kinds
use Rattle.script_model.specs.Bound.{events_of_job}
use Rattle.task_model.specs.Jobs.{claimed, claims, done, items_of, may_enter, has_unclaimed}
use Rattle.pool_laws.specs.Jobs.{MayEnter}
use Rattle.task_model.specs.Sources.{leaves}
use Rattle.task_model.proofs.Growth.{claimed_push, done_push}
use Rattle.hist_model.specs.Allowed.{may_come}
use Rattle.hist_model.specs.Legal.{IsLegal}
use Rattle.hist_model.proofs.Laws.Legal.{entry_induction}
use Rattle.hist_model.proofs.Laws.Claims.{claimed_is}
use Rattle.hist_model.proofs.Laws.JobEntries.{entering_is, job_step_is}
use Rattle.hist_model.proofs.Laws.Entries.Sums.{sum_from, sum_from_less, sum_from_change, sum_from_within}

-- a job that may be entered has an unclaimed item
enters_unclaimed : (script : Plan) (past : List Entry) (j : ℕ) → MayEnter script past j → claimed past j + 1 ≤ items_of script j
unfolding may_enter
enters_unclaimed script past j h = omega (
  arith,
  ltb-true (claimed past j) (items_of script j)
      (and_parts _ (has_unclaimed script past j) (and_parts _ _ h).0).1,
)

-- so has one that is not left
stays_unclaimed : (script : Plan) (past : List Entry) (seat j : ℕ) → leaves script past seat j ≡ false → claimed past j + 1 ≤ items_of script j
unfolding leaves
stays_unclaimed script past seat j h = omega (arith, ltb-true (claimed past j) (items_of script j) (first (has_unclaimed script past j) _ _ _ h))
  where
    first : (a b c d : Bool) → (not a || b || c || d) ≡ false → a ≡ true
    first true b c d k = refl
    first false b c d k = absurd cc

-- an entry that claims an item of the job claims one that the job has
pub claims_one : (script : Plan) (past : List Entry) (seat : ℕ) (kind : Kind) (j : ℕ) → may_come script past seat kind ≡ true → claims j kind ≡ true
    → claimed past j + 1 ≤ items_of script j
claims_one script past seat (kinds.JobTake job id item) j may h = subst (λ k. claimed past k + 1 ≤ items_of script k) (eqb-true job j h)
    (enters_unclaimed script past job (entering_is script past seat job id item may).may_be_entered)
claims_one script past seat (kinds.JobStep job id item value next) j may h =
    let parts = and_parts (eqb job j) (is_some next) h in
    subst (λ k. claimed past k + 1 ≤ items_of script k) (eqb-true job j parts.0)
    (stays_unclaimed script past seat job (goes_on (leaves script past seat job)
    (sym (ap is_some (job_step_is script past seat job id item value next may).next_is) ∙ parts.1)))
  where
    goes_on : (b : Bool) → is_some (cond b None (Some (claimed past job))) ≡ true → b ≡ false
    goes_on true k = absurd cc
    goes_on false k = refl
claims_one script past seat kind j may h = absurd cc

-- no more items are claimed than the job has
pub claimed_within : (script : Plan) (past : List Entry) (j : ℕ) → IsLegal script past → claimed past j ≤ items_of script j
unfolding claimed
claimed_within script past j = entry_induction script (λ before. claimed before j ≤ items_of script j) nothing next past
  where
    nothing : claimed [] j ≤ items_of script j
    nothing = omega arith

    next : (before : List Entry) (e : Entry) → e.seat ≤ script.workers → may_come script before e.seat e.kind ≡ true → claimed before j ≤ items_of script j
        → claimed (before ++ e ∷ []) j ≤ items_of script j
    next before e le may known = at (claims j e.kind) refl
      where
        at : (b : Bool) → claims j e.kind ≡ b → claimed (before ++ e ∷ []) j ≤ items_of script j
        at true is = rw (claimed_push before e j, is) (claims_one script before e.seat e.kind j may is)
        at false is = rw (claimed_push before e j, is) (omega arith)

-- how many entries a job has left
job_left : List Entry → ℕ → JobPlan → ℕ
job_left past j job = (job.items - claimed past j) + (job.items - done past j)

job_left_less : (past : List Entry) (e : Entry) (j : ℕ) (job : JobPlan) → job_left (past ++ e ∷ []) j job ≤ job_left past j job
unfolding job_left
job_left_less past e j job = omega (arith, claimed_push past e j, done_push past e j)

-- how many entries the jobs have left
pub jobs_left : Plan → List Entry → ℕ
jobs_left script past = sum_from (job_left past) 0 script.jobs

pub jobs_left_less : (script : Plan) (past : List Entry) (e : Entry) → jobs_left script (past ++ e ∷ []) ≤ jobs_left script past
unfolding jobs_left
jobs_left_less script past e = sum_from_less (job_left past) (job_left (past ++ e ∷ [])) 0 script.jobs (λ j job le. job_left_less past e j job)

pub jobs_left_begin : (script : Plan) → jobs_left script [] ≤ sum_by events_of_job script.jobs
unfolding jobs_left job_left
jobs_left_begin script = sum_from_within (job_left []) events_of_job 0 script.jobs (λ j job. omega arith)

-- the job that has items is one of the script's
pub declared : (xs : List JobPlan) (j n : ℕ) → n + 1 ≤ option_map_or (λ job. job.items) (slice_get xs j) 0
    → (job : JobPlan) × (slice_get xs j ≡ Some job) × (n + 1 ≤ job.items)
declared xs j n h = at (slice_get xs j) refl h
  where
    at : (o : Option JobPlan) → slice_get xs j ≡ o → n + 1 ≤ option_map_or (λ job. job.items) o 0
        → (job : JobPlan) × (slice_get xs j ≡ Some job) × (n + 1 ≤ job.items)
    at None is k = absurd (omega arith)
    at (Some job) is k = (job, is, k)

-- an entry that claims an item, or does one, where the job has one more
one_falls : (script : Plan) (past : List Entry) (e : Entry) (j n : ℕ) → n + 1 ≤ items_of script j
    → ((job : JobPlan) → n + 1 ≤ job.items → job_left (past ++ e ∷ []) j job + 1 ≤ job_left past j job)
    → jobs_left script (past ++ e ∷ []) + 1 ≤ jobs_left script past
unfolding jobs_left
one_falls script past e j n within falls = let (job, here, some) = declared script.jobs j n within in
    omega (
      arith,
      sum_from_change (job_left past) (job_left (past ++ e ∷ [])) 0 j j 0 1 job script.jobs (omega arith) here
          (omega (arith, falls job some)) (λ k other differs. job_left_less past e k other),
    )

pub jobs_left_take : (script : Plan) (past : List Entry) (seat job id item : ℕ)
    → IsLegal script (past ++ record { seat = seat; kind = kinds.JobTake job id item } ∷ [])
    → jobs_left script (past ++ record { seat = seat; kind = kinds.JobTake job id item } ∷ []) + 1 ≤ jobs_left script past
unfolding job_left
jobs_left_take script past seat job id item longer = one_falls script past e job (claimed past job)
    (omega (arith, claimed_within script (past ++ e ∷ []) job longer, one))
    (λ plan some. omega (arith, one, done_push past e job))
  where
    e : Entry
    e = record { seat = seat; kind = kinds.JobTake job id item }

    one : claimed (past ++ e ∷ []) job ≡ claimed past job + 1
    one = claimed_push past e job ∙ rw (eq-eqb job job refl) refl

pub jobs_left_step : (script : Plan) (past : List Entry) (seat job id item value : ℕ) (next : Option ℕ)
    → IsLegal script (past ++ record { seat = seat; kind = kinds.JobStep job id item value next } ∷ [])
    → jobs_left script (past ++ record { seat = seat; kind = kinds.JobStep job id item value next } ∷ []) + 1 ≤ jobs_left script past
unfolding job_left
jobs_left_step script past seat job id item value next longer = one_falls script past e job (done past job)
    (omega (arith, claimed_within script (past ++ e ∷ []) job longer, claimed_is script (past ++ e ∷ []) job longer, one))
    (λ plan some. omega (arith, one, claimed_push past e job))
  where
    e : Entry
    e = record { seat = seat; kind = kinds.JobStep job id item value next }

    one : done (past ++ e ∷ []) job ≡ done past job + 1
    one = done_push past e job ∙ rw (eq-eqb job job refl) refl
