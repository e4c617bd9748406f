use Rattle.std.proofs.Common.{ap, ◌∙◌}
use Rattle.task_base.specs.declared.script.Lane.TheVariants.{Delayed}
use Rattle.queue_selector.specs.Selecting.{Selecting, with_front}
use Rattle.queue_selector.proofs.Again.{again}
use Rattle.queue_selector.proofs.selector.Selector.set_class.Goals as goal

pub open-requires-clause-differs : goal.open-requires-clause-differs
open-requires-clause-differs c =
    (again c.self.inside.rows.items c.args.self.now c.close.new.self c.close-2.new.self c.put_closed.new.self c.args.queue c.args.class
    c.index-row.result.now (ap (λ s. s.rows) c.self.view_is) c.requires.queue c.self.invariant.differ c.index-row.ensures
    c.close.ensures c.close-2.ensures c.put_closed.ensures).immediate

pub open-requires-2-clause-differs : goal.open-requires-2-clause-differs
open-requires-2-clause-differs c =
    (again c.self.inside.rows.items c.args.self.now c.close.new.self c.close-2.new.self c.put_closed.new.self c.args.queue c.args.class
    c.index-row.result.now (ap (λ s. s.rows) c.self.view_is) c.requires.queue c.self.invariant.differ c.index-row.ensures
    c.close.ensures c.close-2.ensures c.put_closed.ensures).delayed
    c.open.new.self c.open.ensures

pub returns : goal.returns
returns c =
    c.open-2.ensures
    ∙ ap (λ (s : Selecting). with_front s c.args.queue Delayed c.index-row.result.now.delayed) c.open.ensures
    ∙ (again c.self.inside.rows.items c.args.self.now c.close.new.self c.close-2.new.self c.put_closed.new.self c.args.queue c.args.class
    c.index-row.result.now (ap (λ s. s.rows) c.self.view_is) c.requires.queue c.self.invariant.differ c.index-row.ensures
    c.close.ensures c.close-2.ensures c.put_closed.ensures).is
