use Rattle.pool_core.specs.Moving.{AnyList, IsMoving}
use Rattle.pool_core.specs.TaskLists.{list_of}
use Rattle.std.proofs.Common.{List, length, ◌≡◌}
use Rattle.task_base.specs.Plan.{Plan}
use Rattle.task_base.specs.declared.entry.Entry.{Entry}
use Rattle.pool_core.proofs.pool.Pool.let_go.Given as goal

abbrev pub invariant-loop-task : goal.invariant-loop-task
invariant-loop-task l = record {
  moves : (script : Plan) (past : List Entry) → IsMoving script past l.fn.self l.runner AnyList → IsMoving script past l.self l.runner AnyList;
  others : l.self ≡ record l.fn.self { lanes = l.self.lanes; lists = l.self.lists };
}

abbrev pub decreases-loop-task : goal.decreases-loop-task
decreases-loop-task l = length (list_of l.self.lists l.runner)
