use Rattle.std.proofs.lemmas.Result.{err_from_is_err_and}
use Rattle.script_text.proofs.Puts.{put_more, cut_more}
use Rattle.script_text.proofs.write.put_each.Goals as goal

pub returns-in_err-put : goal.returns-in_err-put
returns-in_err-put g c =
    let p = err_from_is_err_and c.from_residual.result c.from_residual.ensures.1 in
    rw p.1 (cut_more g.E.Element.text c.args.elements.now c.loop-place.place c.index-elements-place.result c.index-elements-place.is c.loop-place-test.true
    c.loop-place.invariant c.in_err-put.ensures)

pub loop-place-preserved : goal.loop-place-preserved
loop-place-preserved g c =
    put_more g.E.Element.text c.args.elements.now c.loop-place.place c.index-elements-place.result c.index-elements-place.is c.loop-place-test.true
    c.loop-place.invariant c.in_ok-put.ensures
