use Rattle.std.proofs.Common.{◌≡◌, ◌+◌, ◌<◌, ◌^◌, ◌∷◌, [], length}
use Rattle.line_places.specs.declared.expected.Expected.TheVariants.{Steps}
use Rattle.line_places.specs.First.{first_of_steps}
use Rattle.line_places.proofs.first.first_of_steps.Given as goal

abbrev pub invariant-loop-word : goal.invariant-loop-word
invariant-loop-word l = record {
  short : l.place + length l.words < 2 ^ 64;
  rest : first_of_steps l.language l.sought l.expected l.words l.place ≡ first_of_steps l.language l.sought (Steps ∷ []) l.initial.words l.from;
}

abbrev pub decreases-loop-word : goal.decreases-loop-word
decreases-loop-word l = length l.words
