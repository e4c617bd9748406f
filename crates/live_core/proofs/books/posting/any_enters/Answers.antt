use Rattle.std.proofs.Common.{ap, sym, ◌∙◌}
use Rattle.std.specs.List.{list_any}
use Rattle.std.proofs.lemmas.Bool.{or_from}
use Rattle.std.proofs.lemmas.List.{take_all}
use Rattle.std.proofs.lemmas.List.Folds.{list_any_at, list_any_more}
use Rattle.task_base.specs.declared.step.Step.TheVariants as steps
use Rattle.hist_model.specs.Allowed.{enters}
use Rattle.live_core.proofs.books.posting.any_enters.Goals as goal

pub returns-then-enters : goal.returns-then-enters
returns-then-enters c = λ t. sym (list_any_at (λ step. enters t step c.args.kind) c.args.steps.now c.loop-step.step-index (steps.Add 0) c.loop-step-test.true
    (sym (c.enters.ensures t) ∙ c.if-enters.true))

pub loop-step-preserved : goal.loop-step-preserved
loop-step-preserved c = λ t.
    list_any_more (λ step. enters t step c.args.kind) c.args.steps.now c.loop-step.step-index (steps.Add 0) c.loop-step-test.true
    ∙ or_from _ _ (c.loop-step.invariant t) (sym (c.enters.ensures t) ∙ c.if-enters.false)

pub returns : goal.returns
returns c = λ t. sym (c.loop-step.invariant t)
    ∙ ap (list_any (λ step. enters t step c.args.kind)) (take_all c.loop-step.step-index c.args.steps.now c.loop-step-test.false)
