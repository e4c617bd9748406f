use Rattle.std.proofs.Common.{◌≡◌, ◌+◌, ◌++◌, drop, take, map}
use Rattle.slab.specs.Slab.{slab_len}
use Rattle.task_sequence.specs.Lines.{IsWhole, sequences_of}
use Rattle.task_sequence.specs.Sequences.{purged}
use Rattle.task_sequence.proofs.lines.purge_lines.Given as goal

abbrev pub invariant-loop-seq : goal.invariant-loop-seq
invariant-loop-seq l =
    let all = sequences_of l.fn.nodes.slots l.fn.lines in
    record {
      whole : IsWhole l.nodes.slots l.lines (slab_len l.nodes);
      sequences : sequences_of l.nodes.slots l.lines ≡ map (purged l.phase) (take l.seq all) ++ drop l.seq all;
      held : slab_len l.nodes + l.removed ≡ slab_len l.fn.nodes;
      capacity : l.nodes.capacity ≡ l.fn.nodes.capacity;
    }
