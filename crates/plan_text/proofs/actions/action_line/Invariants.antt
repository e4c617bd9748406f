use Rattle.std.proofs.Common.{◌≡◌, ◌≤◌, length, ◌+◌}
use Rattle.plan_text.specs.ActionLine.{action_line, first_action}
use Rattle.plan_text.proofs.actions.action_line.Given as goal

abbrev pub invariant-loop-line : goal.invariant-loop-line
invariant-loop-line l = (first_action (l.number + 1) l.lines ≡ action_line l.text) × (l.number + length l.lines ≤ length l.text + 1)

abbrev pub decreases-loop-line : goal.decreases-loop-line
decreases-loop-line l = length l.lines
