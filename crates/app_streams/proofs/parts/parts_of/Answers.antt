use Rattle.std.proofs.Common.{◌+◌, length, sym, ◌∙◌, rules, tests, arith, length-append}
use Rattle.std.proofs.lemmas.Iterator.Consumers.{YieldsList-at}
use Rattle.std.proofs.lemmas.List.{take_rest}
use Rattle.entry_lines.proofs.Turns.{turn_of, end_of}
use Rattle.run_log.specs.TextLines.{text_lines}
use Rattle.run_log.proofs.SplitLines.{YieldsList-from_lines}
use Rattle.app_streams.proofs.Passed.{all_script, line_within, rest_behind, nothing_behind, one_more, script_before}
use Rattle.app_streams.proofs.parts.parts_of.Goals as goal

pub overflow_add-next : goal.overflow_add-next
overflow_add-next c =
    let here = turn_of _ (text_lines c.args.bytes.now) c.loop-line.yielded _ c.loop-line.yielded_by _ _ c.in-Some.line c.in-Some.is c.next.ensures.steps
    (YieldsList-at c.into_iter-line-iterator.ensures.into_iter_gives (YieldsList-from_lines _ c.args.bytes.now c.split_inclusive-line-items.ensures.rest
    c.split_inclusive-line-items.ensures.closure (λ x b q k. search (rules, tests)))) in
    let within = line_within c.args.bytes.now (length c.loop-line.yielded) c.loop-line.end c.in-Some.line.now here.0 here.1 c.loop-line.invariant.passed in
    omega (arith, within)

pub slice_bounds-result-end : goal.slice_bounds-result-end
slice_bounds-result-end c =
    let here = turn_of _ (text_lines c.args.bytes.now) c.loop-line.yielded _ c.loop-line.yielded_by _ _ c.in-Some.line c.in-Some.is c.next.ensures.steps
    (YieldsList-at c.into_iter-line-iterator.ensures.into_iter_gives (YieldsList-from_lines _ c.args.bytes.now c.split_inclusive-line-items.ensures.rest
    c.split_inclusive-line-items.ensures.closure (λ x b q k. search (rules, tests)))) in
    let within = line_within c.args.bytes.now (length c.loop-line.yielded) c.loop-line.end c.in-Some.line.now here.0 here.1 c.loop-line.invariant.passed in
    search (rules, within)

pub slice_bounds-result-count : goal.slice_bounds-result-count
slice_bounds-result-count c =
    let here = turn_of _ (text_lines c.args.bytes.now) c.loop-line.yielded _ c.loop-line.yielded_by _ _ c.in-Some.line c.in-Some.is c.next.ensures.steps
    (YieldsList-at c.into_iter-line-iterator.ensures.into_iter_gives (YieldsList-from_lines _ c.args.bytes.now c.split_inclusive-line-items.ensures.rest
    c.split_inclusive-line-items.ensures.closure (λ x b q k. search (rules, tests)))) in
    let within = line_within c.args.bytes.now (length c.loop-line.yielded) c.loop-line.end c.in-Some.line.now here.0 here.1 c.loop-line.invariant.passed in
    within

pub slice_bounds-result-start : goal.slice_bounds-result-start
slice_bounds-result-start c =
    let here = turn_of _ (text_lines c.args.bytes.now) c.loop-line.yielded _ c.loop-line.yielded_by _ _ c.in-Some.line c.in-Some.is c.next.ensures.steps
    (YieldsList-at c.into_iter-line-iterator.ensures.into_iter_gives (YieldsList-from_lines _ c.args.bytes.now c.split_inclusive-line-items.ensures.rest
    c.split_inclusive-line-items.ensures.closure (λ x b q k. search (rules, tests)))) in
    let within = line_within c.args.bytes.now (length c.loop-line.yielded) c.loop-line.end c.in-Some.line.now here.0 here.1 c.loop-line.invariant.passed in
    search (rules, within)

pub returns-then-is_divider-clause-script : goal.returns-then-is_divider-clause-script
returns-then-is_divider-clause-script c =
    let here = turn_of _ (text_lines c.args.bytes.now) c.loop-line.yielded _ c.loop-line.yielded_by _ _ c.in-Some.line c.in-Some.is c.next.ensures.steps
    (YieldsList-at c.into_iter-line-iterator.ensures.into_iter_gives (YieldsList-from_lines _ c.args.bytes.now c.split_inclusive-line-items.ensures.rest
    c.split_inclusive-line-items.ensures.closure (λ x b q k. search (rules, tests)))) in
    script_before c.args.bytes.now (length c.loop-line.yielded) c.loop-line.end c.in-Some.line.now here.0 here.1 (sym c.is_divider.ensures ∙ c.if-is_divider.true)
    c.loop-line.invariant.passed

pub returns-then-is_divider-clause-behind : goal.returns-then-is_divider-clause-behind
returns-then-is_divider-clause-behind c =
    let here = turn_of _ (text_lines c.args.bytes.now) c.loop-line.yielded _ c.loop-line.yielded_by _ _ c.in-Some.line c.in-Some.is c.next.ensures.steps
    (YieldsList-at c.into_iter-line-iterator.ensures.into_iter_gives (YieldsList-from_lines _ c.args.bytes.now c.split_inclusive-line-items.ensures.rest
    c.split_inclusive-line-items.ensures.closure (λ x b q k. search (rules, tests)))) in
    take_rest c.args.bytes.now (c.loop-line.end + length c.in-Some.line.now)
    ∙ rest_behind c.args.bytes.now (length c.loop-line.yielded) c.loop-line.end c.in-Some.line.now here.0 here.1 (sym c.is_divider.ensures ∙ c.if-is_divider.true)
    c.loop-line.invariant.passed

pub loop-line-preserved : goal.loop-line-preserved
loop-line-preserved c =
    let here = turn_of _ (text_lines c.args.bytes.now) c.loop-line.yielded _ c.loop-line.yielded_by _ _ c.in-Some.line c.in-Some.is c.next.ensures.steps
    (YieldsList-at c.into_iter-line-iterator.ensures.into_iter_gives (YieldsList-from_lines _ c.args.bytes.now c.split_inclusive-line-items.ensures.rest
    c.split_inclusive-line-items.ensures.closure (λ x b q k. search (rules, tests)))) in
    record {
      can = search rules;
      finite = tt;
      passed = rw length-append (one_more c.args.bytes.now (length c.loop-line.yielded) c.loop-line.end c.in-Some.line.now here.0 here.1
          (sym c.is_divider.ensures ∙ c.if-is_divider.false) c.loop-line.invariant.passed);
    }

pub returns-clause-script : goal.returns-clause-script
returns-clause-script c =
    let end = end_of _ (text_lines c.args.bytes.now) c.loop-line.yielded _ c.loop-line.yielded_by _ _ c.in-None.is c.next.ensures.steps
    (YieldsList-at c.into_iter-line-iterator.ensures.into_iter_gives (YieldsList-from_lines _ c.args.bytes.now c.split_inclusive-line-items.ensures.rest
    c.split_inclusive-line-items.ensures.closure (λ x b q k. search (rules, tests)))) in
    all_script c.args.bytes.now (length c.loop-line.yielded) c.loop-line.end (omega (arith, end.1)) c.loop-line.invariant.passed

pub returns-clause-behind : goal.returns-clause-behind
returns-clause-behind c =
    let end = end_of _ (text_lines c.args.bytes.now) c.loop-line.yielded _ c.loop-line.yielded_by _ _ c.in-None.is c.next.ensures.steps
    (YieldsList-at c.into_iter-line-iterator.ensures.into_iter_gives (YieldsList-from_lines _ c.args.bytes.now c.split_inclusive-line-items.ensures.rest
    c.split_inclusive-line-items.ensures.closure (λ x b q k. search (rules, tests)))) in
    nothing_behind c.args.bytes.now (length c.loop-line.yielded) c.loop-line.end (omega (arith, end.1)) c.loop-line.invariant.passed
