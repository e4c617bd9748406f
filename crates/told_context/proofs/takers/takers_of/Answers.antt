use Rattle.std.proofs.Common.{◌++◌, ◌∷◌, ◌+◌, List, [], ap, arith, subst, sym, ◌∙◌}
use Rattle.task_base.specs.declared.entry.Entry.{Entry}
use Rattle.told_context.proofs.FirstTakers.{no_takers, none_after_long, one_taker, two_takers}
use Rattle.told_context.specs.Takers.{IsFirst}
use Rattle.told_context.proofs.takers.takers_of.Goals as goal

pub returns-then-past-gt-MOST_SEARCHED : goal.returns-then-past-gt-MOST_SEARCHED
returns-then-past-gt-MOST_SEARCHED c =
    c.new-takers.ensures.items ∙ sym (none_after_long c.args.script.now c.args.past.now (omega (arith, c.if-past-gt-MOST_SEARCHED.true)))

pub returns-in_default : goal.returns-in_default
returns-in_default c =
    let script = c.args.script.now in
    let past = c.args.past.now in
    let none = subst (IsFirst script past 1) c.in_default.is c.in_ok-first.ensures in
    c.new-takers.ensures.items ∙ sym (no_takers script past (omega (arith, c.if-past-gt-MOST_SEARCHED.false)) none)

pub returns-in_default-2 : goal.returns-in_default-2
returns-in_default-2 c =
    let script = c.args.script.now in
    let past = c.args.past.now in
    let a = c.in-Some.first in
    let first = subst (IsFirst script past 1) c.in-Some.is c.in_ok-first.ensures in
    let none = subst (IsFirst script past (a.seat + 1)) c.in_default-2.is c.in_ok-second.ensures in
    c.in_ok-push.ensures.items ∙ ap (λ (l : List Entry). l ++ a ∷ []) c.new-takers.ensures.items
    ∙ sym (one_taker script past a (omega (arith, c.if-past-gt-MOST_SEARCHED.false)) first none)

pub returns : goal.returns
returns c =
    let script = c.args.script.now in
    let past = c.args.past.now in
    let a = c.in-Some.first in
    let b = c.in-Some-2.second in
    let first = subst (IsFirst script past 1) c.in-Some.is c.in_ok-first.ensures in
    let second = subst (IsFirst script past (a.seat + 1)) c.in-Some-2.is c.in_ok-second.ensures in
    c.in_ok-push-2.ensures.items ∙ ap (λ (l : List Entry). l ++ b ∷ []) (c.in_ok-push.ensures.items
    ∙ ap (λ (l : List Entry). l ++ a ∷ []) c.new-takers.ensures.items)
    ∙ sym (two_takers script past a b (omega (arith, c.if-past-gt-MOST_SEARCHED.false)) first second)
