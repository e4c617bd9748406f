use Rattle.std.proofs.Common.{◌≡◌, ◌∷◌, ◌∙◌}
use Rattle.std.specs.List.{join_with_byte}
use Rattle.std.proofs.lemmas.List.{take_all}
use Rattle.log_model.specs.LogText.{jsons_from}
use Rattle.run_log.proofs.JsonTexts.{rows_more, rows_all}
use Rattle.run_log.proofs.json.json_text.Goals as goal

pub loop-place-preserved : goal.loop-place-preserved
loop-place-preserved c =
    let row = c.as_bytes.ensures.value ∙ c.in_ok-row.ensures in
    let more = rows_more _ _ c.args.log.now c.loop-place.place _ c.loop-place.invariant row c.loop-place-test.true in
    rw (c.in_ok-extend_from_slice-2.ensures.items, c.in_ok-extend_from_slice.ensures.items, c.bytes_before_row.ensures) more

pub returns : goal.returns
returns c =
    let all = take_all c.loop-place.place c.args.log.now c.loop-place-test.false in
    let rows : c.loop-place.text.items ≡ 91 ∷ join_with_byte 44 (jsons_from 0 c.args.log.now) = rw all at c.loop-place.invariant in
    c.in_ok-extend_from_slice-3.ensures.items ∙ rows_all c.loop-place.text.items c.args.log.now rows
