use Rattle.std.specs.Prelude.{Some, map, ◌≡◌}
use Rattle.env_core.proofs.drawer.drawer.Given as goal

-- each body that has been moved stands in its place
abbrev pub invariant-loop-body : goal.invariant-loop-body
invariant-loop-body g l = l.drawer.items ≡ map Some l.yielded
