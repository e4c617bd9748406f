use Rattle.std.proofs.Common.{◌≡◌, ◌+◌, length, eqb}
use Rattle.std.specs.List.{slice_split}
use Rattle.script_model.specs.Words.{lines_of}
use Rattle.nested_loop.specs.NestGrammar.{empty_nest, nest_lines_read}
use Rattle.nested_loop.specs.Reader.{Knows}
use Rattle.nested_loop.proofs.LinesOfText.{rest_read}
use Rattle.nested_loop.proofs.read.read_nest.Given as goal

abbrev pub invariant-loop-line : goal.invariant-loop-line
invariant-loop-line l = record {
  knows : Knows l.reader;
  number : l.number ≡ length l.yielded;
  rest : rest_read l.reader.nest (l.number + 1) (length l.yielded) (slice_split (λ b. eqb b 10) l.bytes)
      ≡ nest_lines_read empty_nest 1 (lines_of l.bytes);
}
