use Rattle.std.proofs.Common.{◌≡◌, length, sym, ap, ◌∙◌, rules, tests, eqb, arith}
use Rattle.std.proofs.lemmas.Bool.{eqb-true}
use Rattle.std.proofs.lemmas.Iterator.Consumers.{YieldsList-at}
use Rattle.std.proofs.lemmas.Iterator.Splits.{YieldsList-from_slice_split}
use Rattle.line_text.specs.Words.{texts}
use Rattle.entry_lines.proofs.Turns.{turn_of, end_of}
use Rattle.event_text.specs.Reading.{spaced_words}
use Rattle.event_text.proofs.events.spaced_words.Goals as goal

pub returns-then-is_full : goal.returns-then-is_full
returns-then-is_full c =
    let t = turn_of _ (spaced_words c.args.line.now) c.loop-word.yielded _ c.loop-word.yielded_by _ _ c.in-Some.word c.in-Some.is c.next.ensures.steps
    (YieldsList-at c.into_iter-word-iterator.ensures.into_iter_gives (YieldsList-from_slice_split _ (λ b. eqb b 32) c.args.line.now
    c.split-word-items.ensures.rest c.split-word-items.ensures.done c.split-word-items.ensures.closure (λ x b q k. search (rules, tests)))) in
    let full : length c.loop-word.words.items ≡ 9 = eqb-true _ 9 (sym c.is_full.ensures.value ∙ c.if-is_full.true) in
    omega (arith, t.0, full, ap length c.loop-word.invariant)

pub returns : goal.returns
returns c =
    let t = end_of _ (spaced_words c.args.line.now) c.loop-word.yielded _ c.loop-word.yielded_by _ _ c.in-None.is c.next.ensures.steps
    (YieldsList-at c.into_iter-word-iterator.ensures.into_iter_gives (YieldsList-from_slice_split _ (λ b. eqb b 32) c.args.line.now
    c.split-word-items.ensures.rest c.split-word-items.ensures.done c.split-word-items.ensures.closure (λ x b q k. search (rules, tests)))) in
    ap texts c.loop-word.invariant ∙ t.0
