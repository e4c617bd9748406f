use Rattle.std.proofs.Common.{◌≡◌, ◌++◌, take}
use Rattle.log_model.specs.LogText.{text_from}
use Rattle.order_answer.proofs.said.add_lines.Given as goal

abbrev pub invariant-loop-place : goal.invariant-loop-place
invariant-loop-place l = record { so_far : l.said.items ≡ l.initial.said.items ++ text_from 0 (take l.place l.log) }
