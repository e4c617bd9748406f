use Rattle.std.proofs.Common.{get_or, ◌∙◌, arith}
use Rattle.std.proofs.lemmas.List.{get_or_default, length-map}
use Rattle.std.proofs.lemmas.List.Edits.{map_over_more}
use Rattle.task_sequence.specs.Lines.{sequences_of}
use Rattle.task_sequence.specs.Sequences.{fresh, purged}
use Rattle.task_sequence.proofs.lines.purge_lines.Goals as goal

pub loop-seq-preserved : goal.loop-seq-preserved
loop-seq-preserved c =
    let all = sequences_of c.args.nodes.now.slots c.args.lines.now in
    let now = sequences_of c.loop-seq.nodes.slots c.loop-seq.lines in
    let one = get_or now c.loop-seq.seq fresh in
    record {
      whole = c.purge_at-removed.ensures.whole;
      sequences = c.purge_at-removed.ensures.sequences
          ∙ map_over_more (purged c.args.phase) all now c.loop-seq.seq one (simp length-map (omega arith)) c.loop-seq.invariant.sequences
          (get_or_default now c.loop-seq.seq fresh one (simp length-map (omega arith)));
      held = omega arith;
      capacity = c.purge_at-removed.ensures.capacity ∙ c.loop-seq.invariant.capacity;
    }
