use Rattle.std.proofs.Common.{◌≡◌, ◌+◌, ◌++◌, drop, take, filter}
use Rattle.slab.specs.Slab.{slab_len}
use Rattle.task_sequence.specs.Links.{tasks_of, IsLinked, KeepsOthers}
use Rattle.task_sequence.specs.Sequences.{may_stay}
use Rattle.task_sequence.proofs.lines.purge_list.Given as goal

abbrev pub invariant-loop : goal.invariant-loop
invariant-loop l =
    let all = tasks_of l.fn.nodes.slots l.fn.ends in
    record {
      linked : IsLinked l.nodes.slots l.ends;
      tasks : tasks_of l.nodes.slots l.ends ≡ drop l.counter all ++ filter (may_stay l.phase) (take l.counter all);
      others : KeepsOthers l.fn.nodes.slots l.fn.ends l.nodes.slots l.ends;
      count : l.ends.count + l.removed ≡ l.fn.ends.count;
      held : slab_len l.nodes + l.removed ≡ slab_len l.fn.nodes;
      capacity : l.nodes.capacity ≡ l.fn.nodes.capacity;
      whole : l.end ≡ l.fn.ends.count;
    }
