use Rattle.std.proofs.Common.{append_assoc}
use Rattle.order_text.proofs.plain.add_against.Goals as goal

pub returns-in-Waits : goal.returns-in-Waits
returns-in-Waits c =
    rw (c.in-Waits.is, c.add-in-Waits.ensures, c.deref.ensures.0, c.event_line.ensures.items, c.add.ensures) (simp append_assoc)

pub returns-in-Free : goal.returns-in-Free
returns-in-Free c = rw c.in-Free.is c.add-in-Free.ensures
