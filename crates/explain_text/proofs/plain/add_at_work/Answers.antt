use Rattle.std.proofs.Common.{refl}
use Rattle.std.proofs.lemmas.List.{take_min}
use Rattle.explain_text.proofs.plain.add_at_work.Goals as goal

pub returns : goal.returns
returns c = rw (
  c.add_more.ensures,
  c.add_seats.ensures.items,
  c.add.ensures,
  c.requires.line,
  c.min-shown.ensures,
  take_min,
  c.saturating_sub.ensures,
) refl
