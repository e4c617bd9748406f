-- The items of jobs in legal histories: those that are claimed, those that are done, and those that seats hold.
-- Cited by `Laws/Entries/Jobs`, `Laws/LegalPast`, `Laws/Progress/Quiet`, `Laws/Ways`, `Laws/Whole/Rest`, `jobs.rt`, `env_core`,
-- `log_count`, `run_summary`, `situation`.
use Rattle.std.proofs.Common.{◌≡◌, ℕ, ◌+◌, ◌≤◌, Bool, true, false, cond, eqb, List, [], ◌∷◌, ◌++◌, length, refl, ap, subst, ◌∙◌, Option, Some, None, arith}
use Rattle.std.specs.Prelude.{◌&&◌, is_some}
use Rattle.std.proofs.lemmas.Bool.{eq-eqb, eqb-true}
use Rattle.task_base.specs.Plan.{Plan}
use Rattle.task_base.specs.declared.entry.Entry.{Entry}
use Rattle.task_base.specs.declared.entry.Kind.{Kind}
use Rattle.task_base.specs.declared.entry.Kind.TheVariants as kinds
use Rattle.list_laws.specs.Lists.{holds_of}
use Rattle.list_laws.proofs.Filters.{filter_never}
use Rattle.task_model.specs.Seats.{holding, inside, all_seats}
use Rattle.task_model.specs.Jobs.{claimed, done}
use Rattle.task_model.proofs.Growth.{claimed_push, done_push}
use Rattle.pool_laws.specs.Seats.{holds_job}
use Rattle.pool_laws.proofs.Seats.Running.{inside_same, inside_at_take, inside_at_other_take, inside_at_step, inside_at_leave, inside_at_other_leave}
use Rattle.hist_model.specs.Allowed.{may_come}
use Rattle.hist_model.specs.Legal.{IsLegal}
use Rattle.hist_model.proofs.Laws.Legal.{entry_induction}
use Rattle.hist_model.proofs.Laws.JobEntries.{none_is}
use Rattle.hist_model.proofs.Laws.OneThing.{job_take_free, job_step_holds}

-- each claimed item is done or held, and no other
abbrev AllClaimed : Plan → List Entry → Type 0
AllClaimed script past = (j : ℕ) → claimed past j ≡ done past j + length (inside script past j)

take_claims : (script : Plan) (past : List Entry) (seat job id item : ℕ) → seat ≤ script.workers
    → may_come script past seat (kinds.JobTake job id item) ≡ true → AllClaimed script past
    → AllClaimed script (past ++ record { seat = seat; kind = kinds.JobTake job id item } ∷ [])
take_claims script past seat job id item known may all j = at (eqb job j) refl
  where
    e : Entry
    e = record { seat = seat; kind = kinds.JobTake job id item }

    free : holding past seat ≡ None
    free = none_is (holding past seat) (job_take_free script past seat job id item may)

    at : (b : Bool) → eqb job j ≡ b → claimed (past ++ e ∷ []) j ≡ done (past ++ e ∷ []) j + length (inside script (past ++ e ∷ []) j)
    at true same =
        let more : claimed (past ++ e ∷ []) j ≡ claimed past j + 1 = claimed_push past e j ∙ ap (λ (b : Bool). claimed past j + cond b 1 0) same in
        let one_more : length (inside script (past ++ e ∷ []) j) ≡ length (inside script past j) + 1 =
        subst (λ n. length (inside script (past ++ e ∷ []) n) ≡ length (inside script past n) + 1) (eqb-true job j same)
        (inside_at_take script past e job id item refl (omega (arith, known)) free) in
        omega (arith, more, one_more, done_push past e j, all j)
    at false other =
        let no_more : claimed (past ++ e ∷ []) j ≡ claimed past j + 0 = claimed_push past e j ∙ ap (λ (b : Bool). claimed past j + cond b 1 0) other in
        rw (inside_at_other_take script past e j job id item refl other free) (omega (arith, no_more, done_push past e j, all j))

step_claims : (script : Plan) (past : List Entry) (seat job id item value : ℕ) (next : Option ℕ) → seat ≤ script.workers
    → holds_job past seat job ≡ true → AllClaimed script past
    → AllClaimed script (past ++ record { seat = seat; kind = kinds.JobStep job id item value next } ∷ [])
step_claims script past seat job id item value next known held all j = by_next next (eqb job j) refl
  where
    e : Option ℕ → Entry
    e o = record { seat = seat; kind = kinds.JobStep job id item value o }

    after : Option ℕ → List Entry
    after o = past ++ e o ∷ []

    more : (o : Option ℕ) (b : Bool) → eqb job j ≡ b → claimed (after o) j ≡ claimed past j + cond (b && is_some o) 1 0
    more o b is = claimed_push past (e o) j ∙ ap (λ c. claimed past j + cond (c && is_some o) 1 0) is

    one_done : (o : Option ℕ) (b : Bool) → eqb job j ≡ b → done (after o) j ≡ done past j + cond (is_some (cond b (Some value) None)) 1 0
    one_done o b is = done_push past (e o) j ∙ ap (λ (c : Bool). done past j + cond (is_some (cond c (Some value) None)) 1 0) is

    by_next : (o : Option ℕ) (b : Bool) → eqb job j ≡ b → claimed (after o) j ≡ done (after o) j + length (inside script (after o) j)
    by_next (Some n) true is = rw (inside_at_step script past (e (Some n)) j job id item value n refl held)
        (omega (arith, more (Some n) true is, one_done (Some n) true is, all j))
    by_next (Some n) false is = rw (inside_at_step script past (e (Some n)) j job id item value n refl held)
        (omega (arith, more (Some n) false is, one_done (Some n) false is, all j))
    by_next None true is =
        let one_less : length (inside script past j) ≡ length (inside script (after None) j) + 1 =
        subst (λ m. length (inside script past m) ≡ length (inside script (after None) m) + 1) (eqb-true job j is)
        (inside_at_leave script past (e None) job id item value refl (omega (arith, known)) held) in
        omega (arith, more None true is, one_done None true is, one_less, all j)
    by_next None false is = rw (inside_at_other_leave script past (e None) j job id item value refl is held)
        (omega (arith, more None false is, one_done None false is, all j))

-- who ends an item of a job holds one of it
ends_held : (script : Plan) (past : List Entry) (seat job id item value : ℕ) (next : Option ℕ)
    → may_come script past seat (kinds.JobStep job id item value next) ≡ true → holds_job past seat job ≡ true
ends_held script past seat job id item value next may =
    let (h, is, of_job, numbered, of_item) = job_step_holds script past seat job id item value next may in
    ap (holds_of (λ x. eqb x.job job)) is ∙ eq-eqb h.job job of_job

claims_next : (script : Plan) (past : List Entry) (seat : ℕ) (kind : Kind) → seat ≤ script.workers → may_come script past seat kind ≡ true
    → AllClaimed script past → AllClaimed script (past ++ record { seat = seat; kind = kind } ∷ [])
claims_next script past seat (kinds.JobTake job id item) known may all = take_claims script past seat job id item known may all
claims_next script past seat (kinds.JobStep job id item value next) known may all =
    step_claims script past seat job id item value next known (ends_held script past seat job id item value next may) all
claims_next script past seat kind known may all = λ j. rw (inside_same script past (record { seat = seat; kind = kind }) j refl)
    (omega (arith, claimed_push past (record { seat = seat; kind = kind }) j, done_push past (record { seat = seat; kind = kind }) j, all j))

nothing_claimed : (script : Plan) → AllClaimed script []
unfolding claimed done inside holding
nothing_claimed script j = let nobody : inside script [] j ≡ [] = filter_never (λ seat. holds_of (λ h. eqb h.job j) (holding [] seat)) (all_seats script)
    (λ seat. refl) in
    rw nobody refl

-- the claimed items of a job are those that are done and those that are held
pub claimed_is : (script : Plan) (past : List Entry) (j : ℕ) → IsLegal script past → claimed past j ≡ done past j + length (inside script past j)
claimed_is script past j legal = entry_induction script (AllClaimed script) (nothing_claimed script)
    (λ before e known may all. claims_next script before e.seat e.kind known may all) past legal j
