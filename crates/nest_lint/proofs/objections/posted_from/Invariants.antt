use Rattle.std.proofs.Common.{◌≡◌, ◌+◌, ◌≤◌, ◌^◌, length}
use Rattle.nest_lint.specs.declared.posts.Part.TheVariants.{Other}
use Rattle.nest_lint.specs.Objections.{posted_from}
use Rattle.nest_lint.proofs.objections.posted_from.Given as goal

abbrev pub invariant-loop-word : goal.invariant-loop-word
invariant-loop-word l = record {
  short : l.place + length l.words ≤ 2 ^ 63 + 1;
  rest : posted_from l.front l.line l.part l.words l.place ≡ posted_from l.front l.line Other l.initial.words 1;
}

abbrev pub decreases-loop-word : goal.decreases-loop-word
decreases-loop-word l = length l.words
