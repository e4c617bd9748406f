use Rattle.std.proofs.Common.{◌≡◌, ◌+◌, ◌*◌, ◌≤◌, false, drop}
use Rattle.script_lint.specs.Scopes.{block_in}
use Rattle.script_lint.proofs.scopes.block_in.Given as goal

abbrev pub invariant-loop-index : goal.invariant-loop-index
invariant-loop-index l = record {
  near : l.place ≤ l.from + 5 * l.index;
  rest : block_in l.script l.inside (drop l.index l.steps) l.place ≡ block_in l.script false l.steps l.from;
}
