use Rattle.std.proofs.Common.{◌≡◌, ◌+◌, ◌<◌, ◌^◌, length, drop}
use Rattle.line_places.specs.First.{first_at}
use Rattle.line_places.proofs.first.first_at.Given as goal

abbrev pub invariant-loop-expected : goal.invariant-loop-expected
invariant-loop-expected l = record {
  place : l.place ≡ l.expected-index + 2;
  short : length l.words < 2 ^ 33;
  rest : first_at l.language l.sought (drop l.expected-index l.places) l.words l.place ≡ first_at l.language l.sought l.places l.initial.words 2;
}
