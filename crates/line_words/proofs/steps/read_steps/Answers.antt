use Rattle.std.proofs.Common.{sym, ◌∙◌}
use Rattle.line_words.proofs.ReadSteps.{append_read-end, steps_read-some, steps_read-none}
use Rattle.line_words.proofs.steps.read_steps.Goals as goal

pub returns-then-is_empty : goal.returns-then-is_empty
returns-then-is_empty c = rw c.new.ensures.items (sym (steps_read-none c.args.words (c.is_empty.ensures.0 c.if-is_empty.true)))

pub returns : goal.returns
returns c =
    sym (append_read-end c.loop-rest.read) ∙ (rw c.in_default.is at c.loop-rest.invariant)
    ∙ sym (steps_read-some c.args.words (λ e. let t = c.is_empty.ensures.1 e in let f = c.if-is_empty.false in absurd cc))
