use Rattle.std.proofs.Common.{◌≡◌, ◌+◌, ◌<◌, ◌^◌, length}
use Rattle.std.specs.Prelude.{not}
use Rattle.std.specs.List.{position_from}
use Rattle.script_model.specs.Words.{words_of, is_all_ascii}
use Rattle.line_places.proofs.first.first_beyond_ascii.Given as goal

abbrev pub invariant-loop-word : goal.invariant-loop-word
invariant-loop-word l = record {
  short : l.place + length l.words < 2 ^ 33;
  rest : position_from (λ word. not (is_all_ascii word)) l.place l.words ≡ position_from (λ word. not (is_all_ascii word)) 1 (words_of l.line);
}

abbrev pub decreases-loop-word : goal.decreases-loop-word
decreases-loop-word l = length l.words
