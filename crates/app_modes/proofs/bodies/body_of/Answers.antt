use Rattle.std.proofs.Common.{sym, ap, ◌∙◌}
use Rattle.std.specs.List.{list_any}
use Rattle.list_laws.proofs.Options.{AllByRecursion-not_any}
use Rattle.task_base.specs.Steps.{is_act}
use Rattle.app_modes.proofs.bodies.body_of.Goals as goal

pub new-requires-2-clause-computes : goal.new-requires-2-clause-computes
new-requires-2-clause-computes c = AllByRecursion-not_any is_act c.in_ok-whole.whole.items
    (ap (list_any is_act) (c.in_ok-whole.ensures ∙ sym c.as_slice.ensures) ∙ sym c.acts.ensures ∙ c.if-acts.false)
