use Rattle.pool_core.proofs.pool.Pool.is_open.Goals.{else-best_effort, then-best_effort}
use Rattle.pool_core.specs.Choice.{is_open, priority_in}
use Rattle.pool_core.specs.Groups.{group_in, in_background}
use Rattle.pool_core.specs.declared.pool.Pool.{Pool}
use Rattle.std.proofs.Common.{Bool, true, ◌≡◌}
use Rattle.task_tracker.specs.Tracked.{may_start}
use Rattle.task_traits.specs.declared.traits.Behaviour.TheVariants.{BlockShutdown}
use Rattle.task_traits.specs.declared.traits.Priority.{Priority}
use Rattle.thread_group.specs.Group.{has_room}
use Rattle.pool_core.proofs.pool.Pool.is_open.Goals as goal

-- where work may start, the queues are open where its group has room
by_room : (pool : Pool) (best : Bool) (priority : Priority) (background may room : Bool) → priority ≡ priority_in best
    → background ≡ in_background pool.runners priority → may ≡ true → may ≡ may_start pool.tracker priority BlockShutdown
    → room ≡ has_room (group_in pool.groups background) priority → room ≡ is_open pool best
by_room pool best priority background may room priority_is background_is started may_is room_is =
    rw (← priority_is, ← background_is, ← may_is, started) room_is

pub returns-then-may_run : goal.returns-then-may_run
returns-then-may_run c = by_room c.args.self.now c.args.best_effort c.if-best_effort.priority c.background-background.result c.may_run.result c.has_room.result
    (elim c.if-best_effort.branch [
      | then-best_effort w ↦ rw w.if-best_effort.true w.priority-is
      | else-best_effort w ↦ rw w.if-best_effort.false w.priority-is
    ]) c.background-background.ensures c.if-may_run.true c.may_run.ensures c.has_room.ensures
