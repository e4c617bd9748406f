-- What a live core stands for.
use Rattle.std.specs.Prelude.{ℕ, ◌+◌, List, Option}
use Rattle.std.specs.Option.{option_map}
use Rattle.task_base.specs.Plan.{Plan}
use Rattle.task_base.specs.declared.entry.Entry.{Entry}
use Rattle.task_model.specs.Seats.{running}
use Rattle.hist_model.specs.Legal.{IsLegal}
use Rattle.hist_model.specs.Open.{IsOpen}
use Rattle.pool_core.specs.StandsFor.{StandsFor as PoolStandsFor}
use Rattle.sequence_manager.specs.Queues.{IsTable}
use Rattle.sequence_manager.specs.StandsFor.{StandsFor as MainStandsFor}
use Rattle.live_core.specs.Books.{StandFor}
use Rattle.live_core.specs.declared.live.LiveCore.{LiveCore}

-- the cell of the task that the seat runs, with what the task found
abbrev pub cell_at : List Entry → ℕ → Option ℕ
cell_at past seat = option_map (λ w. w.found) (running past seat)

-- the core stands for the past of an open plan: the past is legal, and each part of the core is as the past says
pub record StandsFor (plan : Plan) (past : List Entry) (live : LiveCore) : Type 0 where
  pub opened : IsOpen plan
  pub legal : IsLegal plan past
  pub pool : PoolStandsFor plan past live.pool
  pub main : MainStandsFor plan past live.main
  pub books : StandFor plan past live.books
  pub cells : IsTable (cell_at past) (plan.workers + 1) live.cells.items
