use Rattle.std.proofs.Common.{◌≡◌, map}
use Rattle.line_text.specs.Words.{texts}
use Rattle.entry_lines.specs.Spelling.{without_zeros}
use Rattle.entry_lines.proofs.spelling.plain_words.Given as goal

abbrev pub invariant-loop-piece : goal.invariant-loop-piece
invariant-loop-piece l = texts l.words.items ≡ map without_zeros (texts l.yielded)
