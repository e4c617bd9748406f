use Rattle.std.proofs.Common.{◌+◌, ◌-◌, length, drop, sym, ◌∙◌, arith, length-drop}
use Rattle.std.proofs.lemmas.List.{take_all}
use Rattle.line_places.proofs.LinesOfText.{lines_at_feed, lines_without_feed}
use Rattle.line_places.proofs.bytes.cut_line.Goals as goal

pub returns-in-Some-clause-lines : goal.returns-in-Some-clause-lines
returns-in-Some-clause-lines c =
    let text = c.args.text.now in
    let end = c.in-Some.end + 1 in
    rw (take_all (length text - end) (drop end text) (omega (arith, length-drop end text)))
    (lines_at_feed text c.in-Some.end (sym c.feed_at.ensures ∙ c.in-Some.is))

pub returns-in-None-clause-lines : goal.returns-in-None-clause-lines
returns-in-None-clause-lines c = lines_without_feed c.args.text.now (sym c.feed_at.ensures ∙ c.in-None.is)
