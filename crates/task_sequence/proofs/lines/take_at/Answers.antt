use Rattle.std.proofs.Common.{◌≡◌, List, [], ◌∷◌, drop, refl, ap, ◌∙◌, arith, get_or, None}
use Rattle.slab.specs.Slab.{slab_len}
use Rattle.task_sequence.specs.Sequences.{Waiting, Sequence, behind_first}
use Rattle.task_sequence.specs.Links.{tasks_of}
use Rattle.task_sequence.specs.declared.lines.Line.{Line}
use Rattle.task_sequence.proofs.LinesChanged.{IsWhole-set, sequences_of-edit}
use Rattle.task_sequence.proofs.lines.take_at.Goals as goal

pub returns-clause-whole : goal.returns-clause-whole
returns-clause-whole c =
    let after : Line = record { ends = c.take_first.new.ends; cell = c.take.new.self } in
    IsWhole-set _ _ c.args.lines.now c.args.seq c.index-lines-seq.result after (slab_len c.args.nodes.now) (slab_len c.take_first.new.nodes)
    (record {
      within = c.requires.within;
      linked = c.take_first.ensures.linked;
      others = c.take_first.ensures.others;
      counted = omega (arith, c.in_ok-node.ensures.count, c.in_ok-node.ensures.held);
    })
    c.requires.whole

-- what is behind the first is what is left without one
rest_is : (ts : List Waiting) → drop 1 ts ≡ behind_first ts
rest_is [] = refl
rest_is (t ∷ ts) = refl

pub returns-clause-sequences : goal.returns-clause-sequences
returns-clause-sequences c =
    let before = get_or c.args.lines.now c.args.seq c.index-lines-seq.result in
    let after : Line = record { ends = c.take_first.new.ends; cell = c.take.new.self } in
    let edit : Sequence → Sequence = λ s. record { tasks = behind_first s.tasks; cell = None } in
    sequences_of-edit _ _ c.args.lines.now c.args.seq c.index-lines-seq.result after (slab_len c.args.nodes.now) (slab_len c.take_first.new.nodes) edit
    (record {
      within = c.requires.within;
      linked = c.take_first.ensures.linked;
      others = c.take_first.ensures.others;
      counted = omega (arith, c.in_ok-node.ensures.count, c.in_ok-node.ensures.held);
    })
    c.requires.whole
    (ap (λ ts. record { tasks = ts; cell = c.take.new.self }) (c.take_first.ensures.tasks ∙ rest_is (tasks_of c.args.nodes.now.slots before.ends))
    ∙ ap (λ cell. record { tasks = behind_first (tasks_of c.args.nodes.now.slots before.ends); cell = cell }) c.take.ensures.after)
