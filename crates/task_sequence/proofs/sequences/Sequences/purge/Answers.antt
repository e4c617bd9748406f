use Rattle.std.proofs.Common.{◌≡◌, map, ap, ◌∙◌, arith}
use Rattle.std.specs.List.{sum_by}
use Rattle.slab.specs.Slab.{slab_len}
use Rattle.task_sequence.specs.Sequences.{purged, forbidden_in}
use Rattle.task_sequence.specs.Lines.{sequences_of}
use Rattle.task_sequence.proofs.Held.{held_in, held_in-whole, held_in-purged}
use Rattle.task_sequence.proofs.sequences.Sequences.purge.Goals as goal

pub returns-clause-removed : goal.returns-clause-removed
returns-clause-removed c =
    let inside = c.self.inside in
    let all = sequences_of inside.nodes.slots inside.lines.items in
    let before = held_in-whole inside.nodes.slots inside.lines.items (slab_len inside.nodes) c.self.invariant.0 in
    let later = held_in-whole c.purge_lines.new.nodes.slots c.purge_lines.new.lines (slab_len c.purge_lines.new.nodes) c.purge_lines.ensures.whole in
    let parts = held_in-purged c.args.phase all in
    let lent = ap (λ lines. map (purged c.args.phase) (sequences_of inside.nodes.slots lines)) c.as_mut_slice.ensures.value in
    let gone = ap held_in (c.purge_lines.ensures.sequences ∙ lent) in
    let counted : c.purge_lines.result ≡ sum_by (forbidden_in c.args.phase) all = omega (arith, before, later, parts, gone, c.purge_lines.ensures.held) in
    counted ∙ ap (λ held. sum_by (forbidden_in c.args.phase) held.sequences) c.self.view_is
