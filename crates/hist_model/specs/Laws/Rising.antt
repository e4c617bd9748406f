-- What rises in every legal past.
use Rattle.std.specs.Prelude.{◌≡◌, ℕ, false, List, None}
use Rattle.task_base.specs.declared.entry.Entry.{Entry}
use Rattle.list_laws.specs.Sorts.{SameMembers}
use Rattle.task_model.specs.Posts.{is_taken, is_main_taken}
use Rattle.task_model.specs.Keys.{ready}
use Rattle.pool_laws.specs.Keys.{arrivals, NoTickAhead}
use Rattle.queue_laws.specs.Orders.{ordered, main_arrivals, OrdersBelow}
use Rattle.task_model.specs.Capacity.{open_scope}

-- moments never fall, so that no tick has come to a moment ahead; the tasks that have keys are those that arrived, and the
-- main tasks that have orders likewise; each order that was drawn is below the next draw; and only a task that was taken
-- has an open scope
pub record Rises (past : List Entry) : Type 0 where
  pub no_tick_ahead : NoTickAhead past
  pub arrivals_are_ready : SameMembers (arrivals past) (ready past)
  pub main_arrivals_are_ordered : SameMembers (main_arrivals past) (ordered past)
  pub orders_below : OrdersBelow past
  pub scopes_of_taken : (t : ℕ) → is_taken past t ≡ false → is_main_taken past t ≡ false → open_scope past t ≡ None
