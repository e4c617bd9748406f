-- Where no worker works and the driver does nothing, each seat is free.
-- Cited by `env_core`, `live_core`.
use Rattle.std.proofs.Common.{◌≡◌, ℕ, zero, suc, ◌≤◌, Bool, true, false, List, refl, sym, ◌∙◌, Option, Some, None, arith}
use Rattle.std.specs.Prelude.{◌&&◌, ◌||◌, is_none, is_some, not}
use Rattle.std.proofs.lemmas.Bool.{false_from_ne_true, true≢false}
use Rattle.list_laws.proofs.Places.{none_from_count}
use Rattle.list_laws.proofs.Ranges.{range_any_at}
use Rattle.list_laws.specs.Lists.{holds_of}
use Rattle.task_base.specs.Plan.{Plan}
use Rattle.task_base.specs.declared.entry.Entry.{Entry}
use Rattle.task_model.specs.Seats.{Holding, Running, holding, is_free, running, worker_seats}
use Rattle.hist_model.proofs.Laws.Consistent.{legal_is_consistent}
use Rattle.hist_model.specs.Legal.{IsLegal}
use Rattle.pool_core.specs.Calls.{is_working, running_tasks}

-- a worker that does not work runs nothing and holds nothing
pub idle_is_free : (plan : Plan) (past : List Entry) (seat : ℕ) → IsLegal plan past → 1 ≤ seat → is_working past seat ≡ false → is_free past seat ≡ true
idle_is_free plan past seat legal worker idle = by_running (running past seat) (holding past seat) refl idle
  where
    by_running : (r : Option Running) (h : Option Holding) → running past seat ≡ r → (holds_of (λ w. not w.is_main) r || is_some h) ≡ false
        → (is_none r && is_none h) ≡ true
    by_running None None is k = refl
    by_running None (Some h) is k = absurd cc
    by_running (Some w) h is k = of_main w.is_main refl
      where
        of_main : (main : Bool) → w.is_main ≡ main → (is_none (Some w) && is_none h) ≡ true
        of_main true main =
            let driver : seat ≡ 0 = ((legal_is_consistent plan past legal true).runs seat w is main).can.driver refl in absurd (omega (arith, driver, worker))
        of_main false pool = let works : (not w.is_main || is_some h) ≡ true = rw pool refl in absurd (true≢false (sym works ∙ k))

-- where the driver is free and no worker works, each seat is free
pub free_where_none_runs : (plan : Plan) (past : List Entry) (seat : ℕ) → IsLegal plan past → is_free past 0 ≡ true → seat ≤ plan.workers
    → running_tasks plan past ≡ 0 → is_free past seat ≡ true
free_where_none_runs plan past zero legal free known none = free
free_where_none_runs plan past (suc n) legal free known none = idle_is_free plan past (suc n) legal (omega arith)
    (false_from_ne_true (is_working past (suc n)) (λ works. true≢false
    (sym (range_any_at (is_working past) 1 plan.workers (suc n) works (omega arith) (omega (arith, known)))
    ∙ none_from_count (is_working past) (worker_seats plan) none)))
