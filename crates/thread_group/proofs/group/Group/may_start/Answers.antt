use Rattle.std.proofs.Common.{refl}
use Rattle.thread_group.proofs.Counted.{has_room_by_counts}
use Rattle.thread_group.proofs.group.Group.may_start.Goals as goal

pub returns-then-not-is_best_effort : goal.returns-then-not-is_best_effort
returns-then-not-is_best_effort c = rw (
  ← c.self.view_is,
  has_room_by_counts c.self.inside.limit c.self.inside.best_limit _ _ _ _ c.args.priority c.self.invariant,
  ← c.is_below.ensures,
  ← c.is_best_effort.ensures,
  c.if-is_below.true,
  c.if-not-is_best_effort.true,
) refl

pub returns-else-not-is_best_effort : goal.returns-else-not-is_best_effort
returns-else-not-is_best_effort c = rw (
  ← c.self.view_is,
  has_room_by_counts c.self.inside.limit c.self.inside.best_limit _ _ _ _ c.args.priority c.self.invariant,
  ← c.is_below.ensures,
  ← c.is_best_effort.ensures,
  c.if-is_below.true,
  c.if-not-is_best_effort.false,
  ← c.is_below-else-not-is_best_effort.ensures,
) refl

pub returns-else-is_below : goal.returns-else-is_below
returns-else-is_below c = rw (
  ← c.self.view_is,
  has_room_by_counts c.self.inside.limit c.self.inside.best_limit _ _ _ _ c.args.priority c.self.invariant,
  ← c.is_below.ensures,
  c.if-is_below.false,
) refl
