use Rattle.std.proofs.Common.{append_assoc, refl}
use Rattle.task_base.proofs.fault.add_broken_rule.Goals as goal

pub returns-clause-note : goal.returns-clause-note
returns-clause-note c = simp (
  c.add_word.ensures.items,
  c.add_decimal-2.ensures.items,
  c.add-2.ensures,
  c.add_decimal.ensures.items,
  c.add.ensures,
  c.from.ensures,
  c.from-2.ensures,
  append_assoc,
) refl
