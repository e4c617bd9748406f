use Rattle.std.proofs.Common.{◌≡◌, ◌∷◌, take, map}
use Rattle.serde_json.specs.View.{view}
use Rattle.log_model.specs.LogText.{number}
use Rattle.entry_lines.specs.Parts.{said}
use Rattle.run_log.specs.JsonRows.{data_of}
use Rattle.run_log.proofs.json_rows.json_row.Given as goal

abbrev pub invariant-loop-part : goal.invariant-loop-part
invariant-loop-part l = map view l.row.items ≡ map data_of (number l.place ∷ number l.entry.seat ∷ map said (take l.part-index l.part-items))
