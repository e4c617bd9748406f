use Rattle.std.proofs.Common.{length, sym, ◌∙◌, rules, tests}
use Rattle.std.proofs.lemmas.Iterator.Consumers.{YieldsList-at, YieldsList-turn, YieldsList-end}
use Rattle.std.proofs.lemmas.Iterator.Splits.{YieldsList-from_slice_split}
use Rattle.std.proofs.lemmas.List.{length_push}
use Rattle.script_model.specs.Words.{is_mark}
use Rattle.nested_loop.proofs.Pieces.{followed-more, followed-bad, followed-end, steps_said-some, steps_said-none}
use Rattle.nested_loop.proofs.steps.steps_said.Goals as goal

pub returns-then-is_empty : goal.returns-then-is_empty
returns-then-is_empty c = rw c.new-steps.ensures.items (sym (steps_said-none c.args.words.now (sym c.is_empty.ensures ∙ c.if-is_empty.true)))

pub returns-in_default : goal.returns-in_default
returns-in_default c =
    let turn = YieldsList-turn (YieldsList-at c.into_iter-piece-iterator.ensures.into_iter_gives (YieldsList-from_slice_split _ (λ word. is_mark word.now)
    c.args.words.now c.split-piece-items.ensures.rest c.split-piece-items.ensures.done c.split-piece-items.ensures.closure
    (λ x b q k. search (rules, tests)))) c.loop-piece.yielded _ c.loop-piece.yielded_by _ _ c.in-Some.piece c.in-Some.is c.next.ensures.steps in
    let none = sym c.step_said.ensures ∙ c.in_default.is in
    let bad = followed-bad c.loop-piece.steps.items (length c.loop-piece.yielded) _ c.in-Some.piece.now turn.0 turn.1 none in
    sym bad ∙ c.loop-piece.invariant ∙ sym (steps_said-some c.args.words.now (sym c.is_empty.ensures ∙ c.if-is_empty.false))

pub loop-piece-preserved : goal.loop-piece-preserved
loop-piece-preserved c =
    let turn = YieldsList-turn (YieldsList-at c.into_iter-piece-iterator.ensures.into_iter_gives (YieldsList-from_slice_split _ (λ word. is_mark word.now)
    c.args.words.now c.split-piece-items.ensures.rest c.split-piece-items.ensures.done c.split-piece-items.ensures.closure
    (λ x b q k. search (rules, tests)))) c.loop-piece.yielded _ c.loop-piece.yielded_by _ _ c.in-Some.piece c.in-Some.is c.next.ensures.steps in
    let items = c.push_spare.ensures.items in
    let same = c.in_ok-reserve.ensures.items in
    rw (items, same, length_push c.loop-piece.yielded c.in-Some.piece) (followed-more c.loop-piece.steps.items c.in-Some-step_said.step
    (length c.loop-piece.yielded) _ c.in-Some.piece.now turn.0 turn.1 (sym c.step_said.ensures ∙ c.in-Some-step_said.is) ∙ c.loop-piece.invariant)

pub returns : goal.returns
returns c =
    let end = YieldsList-end (YieldsList-at c.into_iter-piece-iterator.ensures.into_iter_gives (YieldsList-from_slice_split _ (λ word. is_mark word.now)
    c.args.words.now c.split-piece-items.ensures.rest c.split-piece-items.ensures.done c.split-piece-items.ensures.closure
    (λ x b q k. search (rules, tests)))) c.loop-piece.yielded _ c.loop-piece.yielded_by _ _ c.in-None.is c.next.ensures.steps in
    sym (followed-end c.loop-piece.steps.items (length c.loop-piece.yielded) _ end.1) ∙ c.loop-piece.invariant
    ∙ sym (steps_said-some c.args.words.now (sym c.is_empty.ensures ∙ c.if-is_empty.false))
