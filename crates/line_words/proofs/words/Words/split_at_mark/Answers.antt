use Rattle.std.proofs.Common.{sym, ◌∙◌, arith, length-drop}
use Rattle.line_words.proofs.Cuts.{behind, cut_more, cut_mark, cut_end}
use Rattle.line_words.proofs.words.Words.split_at_mark.Goals as goal

pub returns-then-is_mark : goal.returns-then-is_mark
returns-then-is_mark c =
    rw (← c.self.view_is) (cut_mark c.self.inside.bytes.now c.loop-start.from c.in-Some.start c.in-Some.end _ c.loop-start.invariant c.in-Some.ensures
    (sym c.is_mark.ensures ∙ c.if-is_mark.true)
    (rw (length-drop c.in-Some.end (behind c.self.inside.bytes.now c.loop-start.from)) (omega arith)))

pub loop-start-preserved : goal.loop-start-preserved
loop-start-preserved c =
    cut_more c.self.inside.bytes.now c.loop-start.from c.in-Some.start c.in-Some.end c.loop-start.invariant c.in-Some.ensures
    (sym c.is_mark.ensures ∙ c.if-is_mark.false)

pub returns : goal.returns
returns c = rw (← c.self.view_is) (cut_end c.self.inside.bytes.now c.loop-start.from c.loop-start.invariant c.in_default.ensures)
