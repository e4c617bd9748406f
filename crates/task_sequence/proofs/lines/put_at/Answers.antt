use Rattle.std.proofs.Common.{refl, get_or, Some}
use Rattle.slab.specs.Slab.{slab_len}
use Rattle.task_sequence.specs.Sequences.{Sequence}
use Rattle.task_sequence.specs.declared.lines.Line.{Line}
use Rattle.task_sequence.proofs.LinesChanged.{sequences_of-edit, unchanged}
use Rattle.task_sequence.proofs.lines.put_at.Goals as goal

pub returns-clause-sequences : goal.returns-clause-sequences
returns-clause-sequences c =
    let line = get_or c.args.lines.now c.args.seq c.index-lines-seq.result in
    let after : Line = record { ends = line.ends; cell = Some c.args.cell } in
    let edit : Sequence → Sequence = λ s. record { tasks = s.tasks; cell = Some c.args.cell } in
    sequences_of-edit c.args.nodes.now.slots c.args.nodes.now.slots c.args.lines.now c.args.seq c.index-lines-seq.result after
    (slab_len c.args.nodes.now) (slab_len c.args.nodes.now) edit
    (unchanged c.args.nodes.now.slots c.args.lines.now c.args.seq c.index-lines-seq.result (slab_len c.args.nodes.now) c.requires.within c.requires.whole)
    c.requires.whole refl
