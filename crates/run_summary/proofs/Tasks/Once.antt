-- In a whole log each task has ended, on the pool or on the main queue and not on both, so the ends add up to what all tasks add up to.
-- Cited by `Tasks`.
use Rattle.std.proofs.Common.{◌≡◌, ℕ, ◌+◌, ◌<◌, ◌≤◌, Bool, true, false, cond, eqb, List, sym, ap, ◌∙◌, inl, inr, arith}
use Rattle.std.specs.Prelude.{◌⊎◌, sum_by}
use Rattle.std.specs.List.{range_with_len}
use Rattle.std.proofs.lemmas.Bool.{and_parts, eq-eqb, false_from_ne_true}
use Rattle.task_base.specs.Plan.{Plan}
use Rattle.task_base.specs.declared.entry.Entry.{Entry}
use Rattle.list_laws.proofs.Finds.{contained_counts}
use Rattle.task_model.specs.Posts.{Posted, posts, main_posts, is_taken, is_ended, is_main_taken}
use Rattle.pool_laws.specs.Posts.{is_main_ended}
use Rattle.task_model.specs.Seats.{is_quiet}
use Rattle.pool_laws.specs.Runs.{ended_as, posts_as}
use Rattle.hist_model.specs.Script.{is_finished, IsFinished, IsWhole}
use Rattle.hist_model.specs.Legal.{IsLegal}
use Rattle.hist_model.proofs.Laws.Consistent.{legal_is_consistent}
use Rattle.hist_model.proofs.Laws.Postings.Driver.{actions_post}
use Rattle.hist_model.proofs.Laws.Postings.Counts.{of_task, counted}
use Rattle.hist_model.proofs.Laws.Whole.Losing.{loses_nothing}
use Rattle.run_summary.proofs.Tasks.Adding.{AddsUp}
use Rattle.run_summary.proofs.Tasks.Posted.{is_accepted, HasPost, accepted_post}
use Rattle.run_summary.proofs.Tasks.Rows.{sum_same, sum_plus}
use Rattle.run_summary.proofs.Tasks.Ends.{ends_sum, ends_are_ended}
use Rattle.run_summary.proofs.Tasks.Rest.{finished_plan, pool_tasks_taken}
use Rattle.run_summary.proofs.Tasks.Pumped.{not_on_both, main_tasks_taken}

-- the task has ended once, on the pool or on the main queue
abbrev EndedOnce : List Entry → ℕ → Type 0
EndedOnce log t = ((is_ended log t ≡ true) × (is_main_ended log t ≡ false)) ⊎ ((is_ended log t ≡ false) × (is_main_ended log t ≡ true))

-- each task has ended once in a whole log
ended_once : (script : Plan) (size : ℕ) (amount : ℕ → ℕ) (log : List Entry) (t : ℕ) → AddsUp script size amount → IsLegal script log → IsWhole script log
    → t < size → EndedOnce log t
ended_once script size amount log t a legal whole below =
    by_side (accepted_post t log (is_accepted script size amount t a log legal below (ap (actions_post t) (finished_plan script log a.calm.closed done))))
  where
    done : IsFinished script log
    done = (and_parts (is_finished script log) (is_quiet script log) whole).0

    -- what ended was taken, and so accepted
    accepted : (main : Bool) → ended_as main log t ≡ true → 1 ≤ of_task t (posts_as main log)
    accepted main ended = (counted script a.posted_once log legal).taken main t ((legal_is_consistent script log legal main).taken_before_ended t ended)

    by_side : HasPost (posts log) t ⊎ HasPost (main_posts log) t → EndedOnce log t
    by_side (inl (p, among, is)) = inl (
      (loses_nothing script log legal whole).tasks_ended t (ap (is_taken log) (sym is) ∙ pool_tasks_taken script size amount log p a legal whole among),
      false_from_ne_true (is_main_ended log t) (λ ended. not_on_both script size amount log t a legal
          (contained_counts (λ (x : Posted). eqb x.task t) (posts log) p among (eq-eqb p.task t is)) (accepted true ended)),
    )
    by_side (inr (p, among, is)) = inr (
      false_from_ne_true (is_ended log t) (λ ended. not_on_both script size amount log t a legal (accepted false ended)
          (contained_counts (λ (x : Posted). eqb x.task t) (main_posts log) p among (eq-eqb p.task t is))),
      (loses_nothing script log legal whole).main_tasks_ended t
          (ap (is_main_taken log) (sym is) ∙ main_tasks_taken script size amount log p a legal done among),
    )

-- so the ends of a whole log add up to what all tasks add up to
pub ends_of_whole : (script : Plan) (size : ℕ) (amount : ℕ → ℕ) (f : ℕ → ℕ) (log : List Entry) → AddsUp script size amount → IsLegal script log
    → IsWhole script log → ends_sum false f log + ends_sum true f log ≡ sum_by f (range_with_len 0 size)
ends_of_whole script size amount f log a legal whole = omega (
  arith,
  ends_are_ended false f script size amount a log legal,
  ends_are_ended true f script size amount a log legal,
  sum_plus (λ t. cond (is_ended log t) (f t) 0) (λ t. cond (is_main_ended log t) (f t) 0) (range_with_len 0 size),
  sum_same (λ t. cond (is_ended log t) (f t) 0 + cond (is_main_ended log t) (f t) 0) f 0 size
      (λ t from to. once t (ended_once script size amount log t a legal whole (omega (arith, to)))),
)
  where
    once : (t : ℕ) → EndedOnce log t → cond (is_ended log t) (f t) 0 + cond (is_main_ended log t) (f t) 0 ≡ f t
    once t (inl (pool, main)) = rw (pool, main) (omega arith)
    once t (inr (pool, main)) = rw (pool, main) (omega arith)
