-- Where no worker works and the driver does nothing, all is quiet.
-- Cited by `LiveCore::try_idle`.
use Rattle.call_laws.proofs.Idle.{free_where_none_runs}
use Rattle.std.proofs.Common.{◌≡◌, true, false, List, refl, Option, Some, None, arith}
use Rattle.std.specs.Prelude.{is_none, is_some}
use Rattle.std.specs.List.{list_all}
use Rattle.list_laws.proofs.Elements.{AllByRecursion-map}
use Rattle.list_laws.proofs.Options.{AllByRecursion-not_any}
use Rattle.list_laws.proofs.Tests.{list_all-from_recursion}
use Rattle.task_base.specs.Plan.{Plan}
use Rattle.task_base.specs.declared.entry.Entry.{Entry}
use Rattle.task_model.specs.Seats.{is_free, is_quiet, worker_seats}
use Rattle.task_model.specs.Sources.{best_of}
use Rattle.pool_laws.proofs.Seats.Running.{free_is_quiet}
use Rattle.hist_model.specs.Legal.{IsLegal}
use Rattle.pool_core.specs.Calls.{is_any_ready, running_tasks}

pub idle_is_quiet : (plan : Plan) (past : List Entry) → IsLegal plan past → is_free past 0 ≡ true → running_tasks plan past ≡ 0 → is_quiet plan past ≡ true
idle_is_quiet plan past legal free none = free_is_quiet plan past (λ seat known. free_where_none_runs plan past seat legal free (omega (arith, known)) none)

-- and where none may take a source, each has no best one
pub none_ready : (plan : Plan) (past : List Entry) → is_any_ready plan past ≡ false
    → list_all (λ worker. is_none (best_of plan past worker)) (worker_seats plan) ≡ true
none_ready plan past none = list_all-from_recursion _ _ (AllByRecursion-map _ _ (worker_seats plan)
    (λ worker no. no_best (best_of plan past worker) no) (AllByRecursion-not_any _ (worker_seats plan) none))
  where
    no_best : {A : Type 0} (o : Option A) → is_some o ≡ false → is_none o ≡ true
    no_best None h = refl
    no_best (Some x) h = absurd cc
