use Rattle.std.proofs.Common.{◌≡◌, ◌∷◌, take}
use Rattle.std.specs.List.{join_with_byte}
use Rattle.log_model.specs.LogText.{jsons_from}
use Rattle.run_log.proofs.json.json_text.Given as goal

abbrev pub invariant-loop-place : goal.invariant-loop-place
invariant-loop-place l = l.text.items ≡ 91 ∷ join_with_byte 44 (jsons_from 0 (take l.place l.log))
