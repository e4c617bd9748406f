use Rattle.std.proofs.Common.{◌≡◌, ◌≤◌, ℕ, List, ◌∷◌, length, map, take, refl, ap, ◌∙◌}
use Rattle.std.proofs.lemmas.List.{take_all}
use Rattle.std.proofs.lemmas.Result.{IfOk-weaker}
use Rattle.serde_json.specs.Data.{Data, array}
use Rattle.serde_json.specs.View.{items_of}
use Rattle.serde_json.specs.Written.{compact_text, has_float}
use Rattle.serde_json.proofs.Views.{view-Array}
use Rattle.task_base.specs.declared.entry.Entry.{Entry}
use Rattle.log_model.specs.LogText.{number, parts_of, entry_parts}
use Rattle.entry_lines.specs.declared.parts.Part.{Part}
use Rattle.entry_lines.specs.Parts.{said}
use Rattle.run_log.specs.JsonRows.{data_of}
use Rattle.run_log.proofs.JsonTexts.{row_data-text, row_data-has_no_float}
use Rattle.run_log.proofs.json_rows.json_row.Goals as goal

-- a row of the place, the seat and all parts of the kind is that of the entry
row_is : (place : ℕ) (e : Entry) (row : List Data) (parts all : List Part) (i : ℕ) → length parts ≤ i → parts ≡ all → map said all ≡ parts_of e.kind
    → row ≡ map data_of (number place ∷ number e.seat ∷ map said (take i parts)) → row ≡ map data_of (entry_parts place e)
row_is place e row parts all i last p q r = rw (r, take_all i parts last, p, q) refl

pub returns : goal.returns
returns c =
    let whole = row_is c.args.place c.args.entry.now _ _ _ c.loop-part.part-index c.loop-part-test.false c.as_slice-part-items.ensures.value
    c.parts_of.ensures.parts c.loop-part.invariant in
    let same = view-Array c.loop-part.row ∙ ap (λ (parts : List Data). array (items_of parts)) whole in
    IfOk-weaker c.to_string.result _ _ (λ text h. h (ap has_float same ∙ row_data-has_no_float c.args.place c.args.entry.now)
    ∙ ap compact_text same ∙ row_data-text c.args.place c.args.entry.now) c.to_string.ensures.text
