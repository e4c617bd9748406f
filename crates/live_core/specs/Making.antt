-- What is done inside of a call.
use Rattle.std.specs.Prelude.{◌≡◌, ◌+◌, true, List, length, Result, Ok, Err}
use Rattle.task_base.specs.Plan.{Plan}
use Rattle.task_base.specs.Entries.{next}
use Rattle.task_base.specs.declared.entry.Entry.{Entry}
use Rattle.task_base.specs.declared.entry.Kind.{Kind}
use Rattle.hist_model.specs.Allowed.{may_come}
use Rattle.pool_core.specs.StandsFor.{StandsFor as PoolStandsFor}
use Rattle.sequence_manager.specs.Queues.{IsTable}
use Rattle.sequence_manager.specs.StandsFor.{StandsFor as MainStandsFor}
use Rattle.live_core.specs.Answers.{IsMadeBy, LacksFor, MayBeMade}
use Rattle.live_core.specs.Books.{NamesJob, NamesScope, NamesTask}
use Rattle.live_core.specs.Calls.{seat_of}
use Rattle.live_core.specs.StandsFor.{StandsFor, cell_at}
use Rattle.live_core.specs.declared.call.Call.{Call}
use Rattle.live_core.specs.declared.live.LiveCore.{LiveCore}
use Rattle.live_core.specs.declared.unmade.Unmade.{Unmade}

-- the core stands for the past, and the call may be made
pub record CanMake (plan : Plan) (past : List Entry) (call : Call) (live : LiveCore) : Type 0 where
  pub stands : StandsFor plan past live
  pub may : MayBeMade plan past call

-- the machines stand for the past with this entry, which may come; the books don't have it yet
pub record HasMoved (plan : Plan) (past : List Entry) (call : Call) (before after : LiveCore) (kind : Kind) : Type 0 where
  pub made : IsMadeBy plan past call kind
  pub allowed : may_come plan past (seat_of call) kind ≡ true
  pub pool : PoolStandsFor plan (next past (seat_of call) kind) after.pool
  pub main : MainStandsFor plan (next past (seat_of call) kind) after.main
  pub cells : IsTable (cell_at (next past (seat_of call) kind)) (plan.workers + 1) after.cells.items
  pub books : after.books ≡ before.books
  pub scope : NamesScope (length plan.tasks) kind
  pub job : NamesJob (length plan.jobs) kind
  pub task : NamesTask (length plan.tasks) kind

-- what it lacks for an entry, and nothing has moved
pub record HasNotMoved (plan : Plan) (past : List Entry) (call : Call) (after : LiveCore) (why : Unmade) : Type 0 where
  pub lacks : LacksFor plan past call why
  pub stands : StandsFor plan past after

-- what is made of a call that may be made
abbrev pub Makes : Plan → List Entry → Call → LiveCore → LiveCore → Result Kind Unmade → Type 0
Makes plan past call before after (Ok kind) = HasMoved plan past call before after kind
Makes plan past call before after (Err why) = HasNotMoved plan past call after why
