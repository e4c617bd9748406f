use Rattle.std.proofs.Common.{◌≡◌, ◌+◌, eqb, [], ◌∷◌, ◌++◌, length, arith, rules, tests}
use Rattle.std.proofs.lemmas.Iterator.Consumers.{YieldsList-at, YieldsList-turn, YieldsList-end}
use Rattle.std.proofs.lemmas.Iterator.Splits.{YieldsList-from_slice_split}
use Rattle.std.proofs.lemmas.List.{length_push}
use Rattle.std.proofs.lemmas.Result.{err_from_is_err_and}
use Rattle.script_model.proofs.Laws.Canonical.{sound_is_valid}
use Rattle.task_reply.specs.declared.fault.ReplyFault.TheVariants.{Bad}
use Rattle.task_reply.proofs.LinesSoFar.{read_all, read_bad, read_more}
use Rattle.task_reply.proofs.elaboration.elaborate.Goals as goal

pub loop-line-preserved : goal.loop-line-preserved
loop-line-preserved c =
    let turn = YieldsList-turn (YieldsList-at c.into_iter-line-iterator.ensures.into_iter_gives (YieldsList-from_slice_split _
    (λ b. eqb b 10) c.args.bytes.now c.split-line-items.ensures.rest c.split-line-items.ensures.done c.split-line-items.ensures.closure
    (λ x b q k. search (rules, tests)))) c.loop-line.yielded _ c.loop-line.yielded_by _ _ c.in-Some.line c.in-Some.is c.next.ensures.steps in
    let n : length (c.loop-line.yielded ++ c.in-Some.line ∷ []) ≡ length c.loop-line.yielded + 1 = length_push c.loop-line.yielded c.in-Some.line in
    record {
      number = omega (arith, n, c.loop-line.invariant.number);
      so_far = rw n (read_more c.args.script c.args.bytes.now c.loop-line.held c.read_line.new.held (length c.loop-line.yielded) c.in-Some.line.now
          c.loop-line.invariant.so_far turn.0 turn.1 (rw c.loop-line.invariant.number at c.in_ok-read_line.ensures));
    }

pub returns-in_err-read_line-clause-bad : goal.returns-in_err-read_line-clause-bad
returns-in_err-read_line-clause-bad c = λ line reason e.
    let turn = YieldsList-turn (YieldsList-at c.into_iter-line-iterator.ensures.into_iter_gives (YieldsList-from_slice_split _
    (λ b. eqb b 10) c.args.bytes.now c.split-line-items.ensures.rest c.split-line-items.ensures.done c.split-line-items.ensures.closure
    (λ x b q k. search (rules, tests)))) c.loop-line.yielded _ c.loop-line.yielded_by _ _ c.in-Some.line c.in-Some.is c.next.ensures.steps in
    let p = err_from_is_err_and c.from_residual-in_err-read_line.result c.from_residual-in_err-read_line.ensures.1 in
    let first = p.1 in
    let second = p.2 in
    let is : c.in_err-read_line.field-0.0 ≡ Bad line reason = cc in
    read_bad c.args.script c.args.bytes.now c.loop-line.held c.read_line.new.held (length c.loop-line.yielded) c.in-Some.line.now
    c.in_err-read_line.field-0.0 c.loop-line.invariant.so_far turn.0 turn.1 (rw c.loop-line.invariant.number at c.in_err-read_line.ensures) line reason is

pub returns-clause-elaborated : goal.returns-clause-elaborated
returns-clause-elaborated c =
    let end = YieldsList-end (YieldsList-at c.into_iter-line-iterator.ensures.into_iter_gives (YieldsList-from_slice_split _
    (λ b. eqb b 10) c.args.bytes.now c.split-line-items.ensures.rest c.split-line-items.ensures.done c.split-line-items.ensures.closure
    (λ x b q k. search (rules, tests)))) c.loop-line.yielded _ c.loop-line.yielded_by _ _ c.in-None.is c.next.ensures.steps in
    (read_all c.args.script c.args.bytes.now c.loop-line.held (length c.loop-line.yielded) c.loop-line.invariant.so_far end.1).0

pub returns-clause-valid : goal.returns-clause-valid
returns-clause-valid c = sound_is_valid c.loop-line.held.script c.loop-line.invariant.so_far.stands.grown.sound
