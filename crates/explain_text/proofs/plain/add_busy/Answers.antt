use Rattle.std.proofs.Common.{append_assoc}
use Rattle.explain_text.proofs.plain.add_busy.Goals as goal

pub returns-in-Task-clause-items : goal.returns-in-Task-clause-items
returns-in-Task-clause-items c =
    rw (c.in-Task.is, c.add_short-in-Task.ensures.items, c.add-in-Task.ensures, c.add_short.ensures.items, c.add.ensures) (simp append_assoc)

pub returns-in-Item-clause-items : goal.returns-in-Item-clause-items
returns-in-Item-clause-items c =
    rw (c.in-Item.is, c.add_short-in-Item.ensures.items, c.add-in-Item.ensures, c.add_short.ensures.items, c.add.ensures) (simp append_assoc)
