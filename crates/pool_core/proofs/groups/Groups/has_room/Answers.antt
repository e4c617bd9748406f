use Rattle.pool_core.proofs.groups.Groups.has_room.Goals as goal

pub returns-then-background : goal.returns-then-background
returns-then-background c = rw c.if-background.true c.may_start.ensures

pub returns-else-background : goal.returns-else-background
returns-else-background c = rw c.if-background.false c.may_start-else-background.ensures
