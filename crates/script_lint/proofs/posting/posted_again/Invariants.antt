use Rattle.std.proofs.Common.{◌≡◌, ◌+◌, ◌*◌, ◌≤◌, drop}
use Rattle.script_lint.specs.Posting.{posted_again}
use Rattle.script_lint.proofs.posting.posted_again.Given as goal

abbrev pub invariant-loop-index : goal.invariant-loop-index
invariant-loop-index l = record {
  near : l.place ≤ l.from + 5 * l.index;
  rest : posted_again l.script l.steps l.index (drop l.index l.steps) l.place ≡ posted_again l.script l.steps 0 l.steps l.from;
}
