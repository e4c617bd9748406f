-- What a call makes of the machines, where it moves the pool alone, the main queues alone, both, or none.
-- Cited by 23 functions of `LiveCore`.
use Rattle.std.proofs.Common.{◌≡◌, ℕ, ◌+◌, true, false, List, length, refl, sym, ap, Option}
use Rattle.std.specs.Option.{option_map}
use Rattle.task_base.specs.Plan.{Plan}
use Rattle.task_base.specs.Entries.{entry_by, next}
use Rattle.task_base.specs.declared.entry.Entry.{Entry}
use Rattle.task_base.specs.declared.entry.Kind.{Kind}
use Rattle.pool_laws.proofs.Seats.Running.{running_same}
use Rattle.pool_laws.specs.Seats.{moves_running}
use Rattle.hist_model.specs.Allowed.{may_come}
use Rattle.pool_core.proofs.Calls.Others.{stands_at_still}
use Rattle.pool_core.specs.Others.{is_still as pool_is_still}
use Rattle.pool_core.specs.StandsFor.{StandsFor as PoolStandsFor}
use Rattle.pool_core.specs.declared.pool.Pool.{Pool}
use Rattle.sequence_manager.proofs.Others.{stands_still}
use Rattle.sequence_manager.proofs.Tables.{table_same}
use Rattle.sequence_manager.specs.Others.{is_still as main_is_still}
use Rattle.sequence_manager.specs.Queues.{IsTable}
use Rattle.sequence_manager.specs.StandsFor.{StandsFor as MainStandsFor}
use Rattle.sequence_manager.specs.declared.manager.Manager.{Manager}
use Rattle.live_core.specs.Answers.{IsMadeBy}
use Rattle.live_core.specs.Books.{NamesJob, NamesScope, NamesTask}
use Rattle.live_core.specs.Calls.{seat_of}
use Rattle.live_core.specs.Making.{HasMoved}
use Rattle.live_core.specs.StandsFor.{StandsFor, cell_at}
use Rattle.live_core.specs.declared.call.Call.{Call}
use Rattle.live_core.specs.declared.live.LiveCore.{LiveCore}

-- an entry at which nobody takes or ends a task leaves the cells
pub cells_stay : (past : List Entry) (seat : ℕ) (kind : Kind) (count : ℕ) (cells : List (Option ℕ)) → moves_running kind ≡ false
    → IsTable (cell_at past) count cells → IsTable (cell_at (next past seat kind)) count cells
cells_stay past seat kind count cells still table = table_same (cell_at past) (cell_at (next past seat kind)) count cells
    (λ s within. sym (ap (option_map (λ w. w.found)) (running_same past (entry_by seat kind) s still))) table

-- what an entry has to name
pub record IsNamed (plan : Plan) (past : List Entry) (kind : Kind) : Type 0 where
  pub scope : NamesScope (length plan.tasks) kind
  pub job : NamesJob (length plan.jobs) kind
  pub task : NamesTask (length plan.tasks) kind

-- both machines have moved
pub both_moved : (plan : Plan) (past : List Entry) (call : Call) (before : LiveCore) (kind : Kind) (pool : Pool) (main : Manager)
    → StandsFor plan past before → moves_running kind ≡ false → IsNamed plan past kind → IsMadeBy plan past call kind
    → may_come plan past (seat_of call) kind ≡ true
    → PoolStandsFor plan (next past (seat_of call) kind) pool → MainStandsFor plan (next past (seat_of call) kind) main
    → HasMoved plan past call before (record before { pool = pool; main = main }) kind
both_moved plan past call before kind pool main stands still named made may pool_stands main_stands = record {
  made = made;
  allowed = may;
  pool = pool_stands;
  main = main_stands;
  cells = cells_stay past (seat_of call) kind (plan.workers + 1) before.cells.items still stands.cells;
  books = refl;
  scope = named.scope;
  job = named.job;
  task = named.task;
}

-- the pool has moved, by an entry that is none of the main queues
pub pool_moved : (plan : Plan) (past : List Entry) (call : Call) (before : LiveCore) (kind : Kind) (pool : Pool)
    → StandsFor plan past before → main_is_still kind ≡ true → moves_running kind ≡ false → IsNamed plan past kind → IsMadeBy plan past call kind
    → may_come plan past (seat_of call) kind ≡ true → PoolStandsFor plan (next past (seat_of call) kind) pool
    → HasMoved plan past call before (record before { pool = pool }) kind
pool_moved plan past call before kind pool stands main_still still named made may pool_stands =
    both_moved plan past call before kind pool before.main stands still named made may pool_stands
    (stands_still plan past before.main (entry_by (seat_of call) kind) main_still stands.main)

-- the main queues have moved, by an entry that is none of the pool
pub main_moved : (plan : Plan) (past : List Entry) (call : Call) (before : LiveCore) (kind : Kind) (main : Manager)
    → StandsFor plan past before → pool_is_still kind ≡ true → moves_running kind ≡ false → IsNamed plan past kind → IsMadeBy plan past call kind
    → may_come plan past (seat_of call) kind ≡ true → MainStandsFor plan (next past (seat_of call) kind) main
    → HasMoved plan past call before (record before { main = main }) kind
main_moved plan past call before kind main stands pool_still still named made may main_stands =
    both_moved plan past call before kind before.pool main stands still named made may
    (stands_at_still plan past (entry_by (seat_of call) kind) before.pool pool_still stands.pool) main_stands

-- neither has moved, by an entry that only reports
pub none_moved : (plan : Plan) (past : List Entry) (call : Call) (before : LiveCore) (kind : Kind)
    → StandsFor plan past before → pool_is_still kind ≡ true → main_is_still kind ≡ true → moves_running kind ≡ false → IsNamed plan past kind
    → IsMadeBy plan past call kind → may_come plan past (seat_of call) kind ≡ true → HasMoved plan past call before before kind
none_moved plan past call before kind stands pool_still main_still still named made may =
    pool_moved plan past call before kind before.pool stands main_still still named made may
    (stands_at_still plan past (entry_by (seat_of call) kind) before.pool pool_still stands.pool)

-- the pool stands for the same past, and nothing else has moved
pub still_stands : (plan : Plan) (past : List Entry) (before : LiveCore) (pool : Pool) → StandsFor plan past before → PoolStandsFor plan past pool
    → StandsFor plan past (record before { pool = pool })
still_stands plan past before pool stands pool_stands = record {
  opened = stands.opened;
  legal = stands.legal;
  pool = pool_stands;
  main = stands.main;
  books = stands.books;
  cells = stands.cells;
}
