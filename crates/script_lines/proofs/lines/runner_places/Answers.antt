use Rattle.script_lines.proofs.LaterPlaces.{runner_line}
use Rattle.script_lines.proofs.lines.runner_places.Goals as goal

pub returns : goal.returns
returns c = rw (
  c.both-4.ensures,
  c.both-3.ensures,
  c.both-traits.ensures,
  c.both-2.ensures,
  c.both.ensures,
  c.end.ensures,
  c.may_block-may_block.ensures.value,
  c.behaviour-behaviour.ensures.value,
  c.priority-priority.ensures.value,
  c.kind-kind.ensures.value,
  c.id-number.ensures.value,
  c.may_block-may_block.ensures.rest,
  c.behaviour-behaviour.ensures.rest,
  c.priority-priority.ensures.rest,
  c.kind-kind.ensures.rest,
  c.id-number.ensures.rest,
) (runner_line c.args.words)
