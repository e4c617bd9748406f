use Rattle.std.proofs.Common.{arith}
use Rattle.pool_core.proofs.Listed.{apart_pushed, fits, put_where, with_new, with_old}
use Rattle.pool_core.proofs.task_lists.TaskLists.push.Goals as goal

pub overflow_add-line : goal.overflow_add-line
overflow_add-line c = omega (
  arith,
  fits (put_where _ _ c.args.list c.args.task c.index-line.result.now c.index.result.now _ c.self.view_is c.self.invariant c.requires.there
      c.requires.known c.index-line.ensures c.index.ensures c.is_none.ensures c.if-is_none.true),
  c.self.inside.after.ok.0,
)

pub invariant_of-self : goal.invariant_of-self
invariant_of-self c = apart_pushed (put_where _ _ c.args.list c.args.task c.index-line.result.now c.index.result.now _ c.self.view_is c.self.invariant
    c.requires.there c.requires.known c.index-line.ensures c.index.ensures c.is_none.ensures c.if-is_none.true)

pub returns-then-is_none : goal.returns-then-is_none
returns-then-is_none c = with_new c.self.view_is (put_where _ _ c.args.list c.args.task c.index-line.result.now c.index.result.now _ c.self.view_is
    c.self.invariant c.requires.there c.requires.known c.index-line.ensures c.index.ensures c.is_none.ensures c.if-is_none.true)

pub returns-else-is_none : goal.returns-else-is_none
returns-else-is_none c = with_old _ _ c.args.list c.args.task c.index.result.now _ c.self.view_is c.requires.known c.index.ensures c.is_none.ensures
    c.if-is_none.false
