use Rattle.std.proofs.Common.{◌≡◌, [], length}
use Rattle.std.specs.List.{slice_split}
use Rattle.script_model.specs.Words.{is_mark}
use Rattle.nested_loop.proofs.Pieces.{followed, said_from}
use Rattle.nested_loop.proofs.steps.steps_said.Given as goal

abbrev pub invariant-loop-piece : goal.invariant-loop-piece
invariant-loop-piece l =
    followed l.steps.items (said_from (length l.yielded) (slice_split (λ word. is_mark word.now) l.words))
    ≡ followed [] (said_from 0 (slice_split (λ word. is_mark word.now) l.words))
