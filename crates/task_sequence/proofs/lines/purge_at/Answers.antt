use Rattle.std.proofs.Common.{ap, arith, get_or}
use Rattle.slab.specs.Slab.{slab_len}
use Rattle.task_sequence.specs.Sequences.{purged}
use Rattle.task_sequence.specs.declared.lines.Line.{Line}
use Rattle.task_sequence.proofs.LinesChanged.{IsWhole-set, sequences_of-edit}
use Rattle.task_sequence.proofs.lines.purge_at.Goals as goal

pub returns-clause-whole : goal.returns-clause-whole
returns-clause-whole c =
    let line = get_or c.args.lines.now c.args.seq c.index-lines-seq.result in
    let after : Line = record { ends = c.purge_list.new.ends; cell = line.cell } in
    IsWhole-set _ _ c.args.lines.now c.args.seq c.index-lines-seq.result after (slab_len c.args.nodes.now) (slab_len c.purge_list.new.nodes)
    (record { within = c.requires.there; linked = c.purge_list.ensures.linked; others = c.purge_list.ensures.others; counted = omega arith })
    c.requires.whole

pub returns-clause-sequences : goal.returns-clause-sequences
returns-clause-sequences c =
    let line = get_or c.args.lines.now c.args.seq c.index-lines-seq.result in
    let after : Line = record { ends = c.purge_list.new.ends; cell = line.cell } in
    sequences_of-edit _ _ c.args.lines.now c.args.seq c.index-lines-seq.result after
    (slab_len c.args.nodes.now) (slab_len c.purge_list.new.nodes) (purged c.args.phase)
    (record { within = c.requires.there; linked = c.purge_list.ensures.linked; others = c.purge_list.ensures.others; counted = omega arith })
    c.requires.whole
    (ap (λ ts. record { tasks = ts; cell = line.cell }) c.purge_list.ensures.tasks)
