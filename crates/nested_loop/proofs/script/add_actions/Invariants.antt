use Rattle.std.proofs.Common.{◌≡◌, ◌+◌, ◌≤◌, ◌++◌, length, take}
use Rattle.std.specs.Prelude.{flat_map}
use Rattle.nested_loop.specs.Waiting.{main_of_action}
use Rattle.nested_loop.proofs.script.add_actions.Given as goal

abbrev pub invariant-loop-action : goal.invariant-loop-action
invariant-loop-action l = record {
  so_far : l.added.items ≡ l.fn.added.items ++ flat_map main_of_action (take l.action-index l.actions);
  room : length l.actions ≤ l.added.spare + l.action-index;
}
