use Rattle.std.proofs.Common.{◌≡◌, ℕ, ◌+◌, eqb, [], ◌∷◌, ◌++◌, length, sym, ◌∙◌, arith, rules, tests}
use Rattle.std.specs.List.{slice_split}
use Rattle.std.proofs.lemmas.Iterator.Consumers.{YieldsList-at, YieldsList-turn, YieldsList-end}
use Rattle.std.proofs.lemmas.Iterator.Splits.{YieldsList-from_slice_split}
use Rattle.std.proofs.lemmas.List.{length_push}
use Rattle.std.proofs.lemmas.Result.{err_from_is_err_and}
use Rattle.script_model.proofs.Laws.Canonical.{reads_valid}
use Rattle.script_model.proofs.Laws.Sound.{reads_sound}
use Rattle.task_script.specs.declared.fault.ScriptFault.TheVariants.{Bad}
use Rattle.task_script.specs.Reader.{draft}
use Rattle.task_script.proofs.LinesOfText.{rest-more, rest-end, script-read, bad-fault}
use Rattle.task_script.proofs.read.read_script.Goals as goal

pub loop-line-preserved : goal.loop-line-preserved
loop-line-preserved c =
    let pieces = slice_split (λ (b : ℕ). eqb b 10) c.args.bytes.now in
    let turn = YieldsList-turn (YieldsList-at c.into_iter-line-iterator.ensures.into_iter_gives (YieldsList-from_slice_split _
    (λ b. eqb b 10) c.args.bytes.now c.split-line-items.ensures.rest c.split-line-items.ensures.done c.split-line-items.ensures.closure
    (λ x b q k. search (rules, tests)))) c.loop-line.yielded _ c.loop-line.yielded_by _ _ c.in-Some.line c.in-Some.is c.next.ensures.steps in
    let n : length (c.loop-line.yielded ++ c.in-Some.line ∷ []) ≡ length c.loop-line.yielded + 1 = length_push c.loop-line.yielded c.in-Some.line in
    record {
      tables = c.in_ok-read_line.ensures.0;
      number = omega (arith, n, c.loop-line.invariant.number);
      rest = rw n (sym (rest-more (draft c.loop-line.reader) (draft c.read_line.new.self) (c.loop-line.number + 1) (length c.loop-line.yielded) pieces
          c.in-Some.line.now turn.0 turn.1 c.in_ok-read_line.ensures.1) ∙ c.loop-line.invariant.rest);
    }

pub returns-in_err-read_line-clause-bad : goal.returns-in_err-read_line-clause-bad
returns-in_err-read_line-clause-bad c = λ line reason e.
    let turn = YieldsList-turn (YieldsList-at c.into_iter-line-iterator.ensures.into_iter_gives (YieldsList-from_slice_split _
    (λ b. eqb b 10) c.args.bytes.now c.split-line-items.ensures.rest c.split-line-items.ensures.done c.split-line-items.ensures.closure
    (λ x b q k. search (rules, tests)))) c.loop-line.yielded _ c.loop-line.yielded_by _ _ c.in-Some.line c.in-Some.is c.next.ensures.steps in
    let p = err_from_is_err_and c.from_residual.result c.from_residual.ensures.1 in
    let first = p.1 in
    let second = p.2 in
    let is : c.in_err-read_line.field-0.0 ≡ Bad line reason = cc in
    bad-fault c.in_err-read_line.field-0.0 c.read_line.new.self c.args.bytes.now (draft c.loop-line.reader) (c.loop-line.number + 1)
    (length c.loop-line.yielded) c.in-Some.line.now turn.0 turn.1 c.in_err-read_line.ensures c.loop-line.invariant.rest line reason is

pub returns-clause-read : goal.returns-clause-read
returns-clause-read c =
    let pieces = slice_split (λ (b : ℕ). eqb b 10) c.args.bytes.now in
    let end = YieldsList-end (YieldsList-at c.into_iter-line-iterator.ensures.into_iter_gives (YieldsList-from_slice_split _
    (λ b. eqb b 10) c.args.bytes.now c.split-line-items.ensures.rest c.split-line-items.ensures.done c.split-line-items.ensures.closure
    (λ x b q k. search (rules, tests)))) c.loop-line.yielded _ c.loop-line.yielded_by _ _ c.in-None.is c.next.ensures.steps in
    rw c.finish.ensures (script-read c.args.bytes.now (draft c.loop-line.reader) (sym c.loop-line.invariant.rest
    ∙ rest-end (draft c.loop-line.reader) (c.loop-line.number + 1) (length c.loop-line.yielded) pieces end.1))

pub returns-clause-valid : goal.returns-clause-valid
returns-clause-valid c = reads_valid c.args.bytes.now c.finish.result (returns-clause-read c)

pub returns-clause-sound : goal.returns-clause-sound
returns-clause-sound c = reads_sound c.args.bytes.now c.finish.result (returns-clause-read c)
