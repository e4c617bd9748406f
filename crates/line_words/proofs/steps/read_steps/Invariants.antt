use Rattle.std.proofs.Common.{◌≡◌, length, map}
use Rattle.script_model.specs.Places.{step_read, all_read}
use Rattle.line_words.specs.Steps.{pieces_of}
use Rattle.line_words.proofs.ReadSteps.{append_read}
use Rattle.line_words.proofs.steps.read_steps.Given as goal

abbrev pub invariant-loop-rest : goal.invariant-loop-rest
invariant-loop-rest l = append_read l.read (all_read (map step_read (pieces_of l.rest))) ≡ all_read (map step_read (pieces_of l.initial.rest))

abbrev pub decreases-loop-rest : goal.decreases-loop-rest
decreases-loop-rest l = length (pieces_of l.rest)
