use Rattle.std.proofs.Common.{◌≡◌, ◌+◌, ◌≤◌, ◌^◌, length}
use Rattle.nest_lint.specs.declared.posts.Part.TheVariants.{Other}
use Rattle.nest_lint.specs.Posts.{place_of}
use Rattle.nest_lint.proofs.posts.place_of.Given as goal

abbrev pub invariant-loop-word : goal.invariant-loop-word
invariant-loop-word l = record {
  short : l.place + length l.words ≤ 2 ^ 63 + 1;
  rest : place_of l.task l.part l.words l.place ≡ place_of l.task Other l.initial.words 1;
}

abbrev pub decreases-loop-word : goal.decreases-loop-word
decreases-loop-word l = length l.words
