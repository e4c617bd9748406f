-- What shutdown refuses, forbids and waits for, in every legal history.
-- Cited by `Laws/OpenPlans`, `Laws/Refusals`, `shutdown.rt`.
use Rattle.std.proofs.Common.{◌≡◌, ℕ, ◌+◌, Bool, true, false, eqb, List, ◌∷◌, ◌++◌, length, refl, sym, ap, ◌∙◌, ⊎_elim, arith}
use Rattle.std.specs.Prelude.{not, ◌&&◌, if◌then◌else◌}
use Rattle.std.specs.List.{range_with_len}
use Rattle.std.proofs.lemmas.Bool.{eqb-true, and_parts, not-true}
use Rattle.std.proofs.lemmas.List.Elements.{All-from_recursion}
use Rattle.task_base.specs.Plan.{Plan}
use Rattle.task_base.specs.declared.entry.Entry.{Entry}
use Rattle.task_base.specs.declared.entry.Kind.{Kind}
use Rattle.task_base.specs.declared.entry.Kind.TheVariants as kinds
use Rattle.task_base.specs.declared.source.TaskSource.{TaskSource}
use Rattle.task_base.specs.declared.source.TaskSource.TheVariants.{Sequence, Job}
use Rattle.list_laws.proofs.Finds.{none_counted}
use Rattle.task_model.specs.Phase.{phase_of, is_started}
use Rattle.task_model.specs.Posts.{posts}
use Rattle.task_model.specs.Refusal.{is_refused, is_closed, is_job_forbidden}
use Rattle.task_model.specs.Seats.{all_seats}
use Rattle.task_model.specs.Jobs.{may_enter, has_unclaimed}
use Rattle.pool_laws.specs.Jobs.{MayEnter}
use Rattle.task_model.specs.Sources.{best_of}
use Rattle.task_model.specs.Blockers.{open_blocks, open_jobs, running_skips, seats_in_skip_jobs, block_part, skip_part}
use Rattle.task_model.specs.Blockers.{is_open_block, is_running_skip, is_open_job, is_in_skip_job, blockers_of}
use Rattle.hist_model.specs.Allowed.{by_script, is_job, may_come}
use Rattle.hist_model.specs.Legal.{IsLegal}
use Rattle.hist_model.specs.Laws.Choice.{IsWaitingSource, IsTake}
use Rattle.hist_model.specs.Laws.Shutdown.{MayStart, HasWaited, KeepsShutdown}
use Rattle.hist_model.proofs.Laws.Legal.{each_is_allowed}
use Rattle.hist_model.proofs.Laws.Choice.{found, best_is}
use Rattle.hist_model.proofs.Laws.Takes.{take_is, job_take_is}

-- a reply that is the opposite of a refusal
reply : (wanted refused ok : Bool) → (wanted && (if refused then not ok else ok)) ≡ true → ok ≡ not refused
reply true true true h = absurd cc
reply true true false h = refl
reply true false ok h = h
reply false refused ok h = absurd cc

-- shutdown is done only where it has waited
waited : (script : Plan) (past : List Entry) (seat : ℕ) → may_come script past seat kinds.Done ≡ true → HasWaited script past
unfolding may_come blockers_of block_part skip_part
waited script past seat h = record {
  blocks_ended = All-from_recursion (λ p. is_open_block script past p ≡ false) (posts past)
      (none_counted (is_open_block script past) (posts past) (omega (arith, none)));
  no_skip_runs = All-from_recursion (λ p. is_running_skip script past p ≡ false) (posts past)
      (none_counted (is_running_skip script past) (posts past) (omega (arith, none)));
  jobs_over = All-from_recursion (λ j. is_open_job script past j ≡ false) (range_with_len 0 (length script.jobs))
      (none_counted (is_open_job script past) (range_with_len 0 (length script.jobs)) (omega (arith, none)));
  nobody_inside = All-from_recursion (λ s. is_in_skip_job script past s ≡ false) (all_seats script)
      (none_counted (is_in_skip_job script past) (all_seats script) (omega (arith, none)));
}
  where
    all : ℕ
    all = open_blocks script past + open_jobs script past + (running_skips script past + seats_in_skip_jobs script past)

    none : all ≡ 0
    none = eqb-true all 0 (and_parts (by_script script past seat kinds.Done && is_started (phase_of past)) (eqb all 0) h).1

-- a job that may be entered is not forbidden
enters_free : (script : Plan) (past : List Entry) (j : ℕ) → MayEnter script past j → is_job_forbidden script past j ≡ false
unfolding may_enter
enters_free script past j h = not-true (is_job_forbidden script past j)
    (and_parts _ (not (is_job_forbidden script past j)) (and_parts _ (has_unclaimed script past j) (and_parts _ _ h).0).0).1

-- a job is entered only where it may be
pub job_take_enters : (script : Plan) (past : List Entry) (seat job id item : ℕ) → may_come script past seat (kinds.JobTake job id item) ≡ true
    → MayEnter script past job
job_take_enters script past seat job id item h = ⊎_elim
    (λ k. let c = found (λ x. is_job job x.source) (best_of script past seat) k.1 in
    of_source c.value.source (best_is script past seat c.value c.is).waits c.passes)
    (λ k. k.1) (job_take_is script past seat job id item h)
  where
    of_source : (source : TaskSource) → IsWaitingSource script past source → is_job job source ≡ true → MayEnter script past job
    of_source (Sequence s) waits is = absurd cc
    of_source (Job j) waits is = ap (may_enter script past) (sym (eqb-true j job is)) ∙ waits

started : (script : Plan) (past : List Entry) (seat task runner value : ℕ) → IsTake script past seat task runner value → MayStart script past task runner
started script past seat task runner value t = record {
  accepted = t.head.posted;
  posted = t.is_head.accepted;
  task_is = t.task_is;
  runner_is = t.home_is;
  free = t.not_forbidden;
}

kept : (script : Plan) (past : List Entry) (seat : ℕ) (kind : Kind) → may_come script past seat kind ≡ true → KeepsShutdown script past kind
unfolding may_come
kept script past seat (kinds.Post task runner delay ok) h = reply _ (is_refused script past runner delay) ok h
kept script past seat (kinds.Main task queue delay ok) h = reply _ (is_closed past queue) ok h
kept script past seat (kinds.Take task runner value) h = started script past seat task runner value (take_is script past seat task runner value h)
kept script past seat (kinds.JobPost job ok) h = reply _ (is_job_forbidden script past job) ok h
kept script past seat (kinds.JobTake job id item) h = enters_free script past job (job_take_enters script past seat job id item h)
kept script past seat kinds.Done h = waited script past seat h
kept script past seat kind h = tt

pub waits_and_forbids : (script : Plan) (past : List Entry) (e : Entry) (rest : List Entry) → IsLegal script (past ++ e ∷ rest)
    → KeepsShutdown script past e.kind
waits_and_forbids script past e rest h = kept script past e.seat e.kind
    (and_parts _ (may_come script past e.seat e.kind) (each_is_allowed script past e rest h)).1
