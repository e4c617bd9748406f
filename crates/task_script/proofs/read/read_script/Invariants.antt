use Rattle.std.proofs.Common.{◌≡◌, ◌+◌, length, eqb}
use Rattle.std.specs.List.{slice_split}
use Rattle.script_model.specs.Words.{lines_of}
use Rattle.script_model.specs.Draft.{empty_draft}
use Rattle.script_model.specs.Grammar.{lines_read}
use Rattle.task_script.specs.Reader.{draft, Tables}
use Rattle.task_script.proofs.LinesOfText.{rest_read}
use Rattle.task_script.proofs.read.read_script.Given as goal

abbrev pub invariant-loop-line : goal.invariant-loop-line
invariant-loop-line l = record {
  tables : Tables l.reader;
  number : l.number ≡ length l.yielded;
  rest : rest_read (draft l.reader) (l.number + 1) (length l.yielded) (slice_split (λ b. eqb b 10) l.bytes) ≡ lines_read empty_draft 1 (lines_of l.bytes);
}
