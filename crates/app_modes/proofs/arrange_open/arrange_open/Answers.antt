use Rattle.env_io.proofs.Bytes.{Gains-nil}
use Rattle.std.proofs.Common.{◌≡◌, ℕ, false, List, None, ap, inl, subst, refl, ◌∙◌}
use Rattle.std.proofs.lemmas.Result.{err_from_is_err_and}
use Rattle.command_line.specs.declared.words.Command.TheVariants.{ArrangeOpen}
use Rattle.task_base.specs.Plan.{opened}
use Rattle.open_check.specs.Plans.{plan_fault}
use Rattle.script_model.specs.Grammar.{Reads}
use Rattle.order_answer.specs.Answers.{IsAnswer}
use Rattle.order_answer.specs.declared.answer.Answer.TheVariants.{Order, NoOrder, GaveUp, Bad}
use Rattle.app_streams.specs.Parts.{part_behind, script_part}
use Rattle.app_streams.specs.Written.{output_of}
use Rattle.app_modes.specs.Arranged.{answer_status}
use Rattle.app_modes.proofs.Arranged.{bad_for_plan, does_arrange}
use Rattle.app_modes.proofs.Outcomes.{ends_cut}
use Rattle.app_modes.proofs.arrange_open.arrange_open.Goals as goal

pub returns-in-Ok-Bad-clause-outcome : goal.returns-in-Ok-Bad-clause-outcome
returns-in-Ok-Bad-clause-outcome g c told =
    let bytes = c.in_ok-bytes.bytes.items in
    let took = c.in_ok-bytes.ensures.whole in
    let script = c.in_ok-script.script in
    let bad = c.in-Ok-Bad.bad in
    let reads = subst (λ (text : List ℕ). Reads text script) (c.parts_of.ensures.script ∙ ap script_part c.deref.ensures.value) c.in_ok-script.ensures.read in
    let answered = rw c.in-Ok-Bad.field-0-is at c.in-Ok-Bad.ensures.answer in
    let plan = subst (λ (text : List ℕ). plan_fault script text ≡ None) (c.parts_of.ensures.script ∙ ap script_part c.deref.ensures.value) c.in_ok-core_of.ensures.right in
    let is = subst (λ (text : List ℕ). IsAnswer (opened script) c.args.prefix text (Bad bad)) (c.parts_of.ensures.behind ∙ ap part_behind c.deref.ensures.value) answered in (
      tt,
      took.end,
      record {
        bytes = bytes;
        took = took;
        holds = record { script = script; answer = Bad bad; reads = reads; plan = plan; is = is; holds = (refl, Gains-nil _) };
      },
      record {
        bytes = bytes;
        took = took;
        holds = record { script = script; reads = reads; is = bad_for_plan script c.args.prefix (part_behind bytes) bad is };
      },
    )

pub returns-in_err-write-in-Ok-Order-clause-outcome : goal.returns-in_err-write-in-Ok-Order-clause-outcome
returns-in_err-write-in-Ok-Order-clause-outcome g c told =
    let bytes = c.in_ok-bytes.bytes.items in
    let took = c.in_ok-bytes.ensures.whole in
    let script = c.in_ok-script.script in
    let answer = Order c.in-Ok-Order.log in
    let before = c.parts_of.ensures.script ∙ ap script_part c.deref.ensures.value in
    let reads = subst (λ (text : List ℕ). Reads text script) before c.in_ok-script.ensures.read in
    let plan = subst (λ (text : List ℕ). plan_fault script text ≡ None) before c.in_ok-core_of.ensures.right in
    let answered = rw c.in-Ok-Order.field-0-is at c.in-Ok-Order.ensures.answer in
    let is = subst (λ (text : List ℕ). IsAnswer (opened script) c.args.prefix text answer) (c.parts_of.ensures.behind ∙ ap part_behind c.deref.ensures.value) answered in
    let put = c.in_err-write-in-Ok-Order.ensures in
    let failure = err_from_is_err_and c.from_residual-in_err-write-in-Ok-Order.result c.from_residual-in_err-write-in-Ok-Order.ensures.1 in
    rw (failure.1, failure.2) (ends_cut (ArrangeOpen c.args.prefix c.args.most) told _ _ (answer_status answer) (output_of false c.in-Ok-Order.log.items) _ (λ takes. took.end)
    (λ Holds holds. does_arrange c.args.prefix c.args.most told _ bytes script answer took reads plan is Holds holds)
    (record { all = put.written; cut = put.cut; failed = put.failed; faults = put.faults }))

pub returns-in_err-write_text-in-Ok-NoOrder-clause-outcome : goal.returns-in_err-write_text-in-Ok-NoOrder-clause-outcome
returns-in_err-write_text-in-Ok-NoOrder-clause-outcome g c told =
    let bytes = c.in_ok-bytes.bytes.items in
    let took = c.in_ok-bytes.ensures.whole in
    let script = c.in_ok-script.script in
    let answer = NoOrder c.in-Ok-NoOrder.said in
    let before = c.parts_of.ensures.script ∙ ap script_part c.deref.ensures.value in
    let reads = subst (λ (text : List ℕ). Reads text script) before c.in_ok-script.ensures.read in
    let plan = subst (λ (text : List ℕ). plan_fault script text ≡ None) before c.in_ok-core_of.ensures.right in
    let answered = rw c.in-Ok-NoOrder.field-0-is at c.in-Ok-NoOrder.ensures.answer in
    let is = subst (λ (text : List ℕ). IsAnswer (opened script) c.args.prefix text answer) (c.parts_of.ensures.behind ∙ ap part_behind c.deref.ensures.value) answered in
    let put = c.in_err-write_text-in-Ok-NoOrder.ensures in
    let failure = err_from_is_err_and c.from_residual-in_err-write_text-in-Ok-NoOrder.result c.from_residual-in_err-write_text-in-Ok-NoOrder.ensures.1 in
    rw (failure.1, failure.2) (ends_cut (ArrangeOpen c.args.prefix c.args.most) told _ _ (answer_status answer) (c.deref-in-Ok-NoOrder.result.now) _ (λ takes. took.end)
    (λ Holds holds. does_arrange c.args.prefix c.args.most told _ bytes script answer took reads plan is Holds (subst (λ (t : List ℕ). Holds 1 t) c.deref-in-Ok-NoOrder.ensures.value holds))
    (record { all = put.written; cut = put.cut; failed = put.failed; faults = inl put.faults }))

pub returns-in_err-write_text-in-Ok-GaveUp-clause-outcome : goal.returns-in_err-write_text-in-Ok-GaveUp-clause-outcome
returns-in_err-write_text-in-Ok-GaveUp-clause-outcome g c told =
    let bytes = c.in_ok-bytes.bytes.items in
    let took = c.in_ok-bytes.ensures.whole in
    let script = c.in_ok-script.script in
    let answer = GaveUp c.in-Ok-GaveUp.said in
    let before = c.parts_of.ensures.script ∙ ap script_part c.deref.ensures.value in
    let reads = subst (λ (text : List ℕ). Reads text script) before c.in_ok-script.ensures.read in
    let plan = subst (λ (text : List ℕ). plan_fault script text ≡ None) before c.in_ok-core_of.ensures.right in
    let answered = rw c.in-Ok-GaveUp.field-0-is at c.in-Ok-GaveUp.ensures.answer in
    let is = subst (λ (text : List ℕ). IsAnswer (opened script) c.args.prefix text answer) (c.parts_of.ensures.behind ∙ ap part_behind c.deref.ensures.value) answered in
    let put = c.in_err-write_text-in-Ok-GaveUp.ensures in
    let failure = err_from_is_err_and c.from_residual-in_err-write_text-in-Ok-GaveUp.result c.from_residual-in_err-write_text-in-Ok-GaveUp.ensures.1 in
    rw (failure.1, failure.2) (ends_cut (ArrangeOpen c.args.prefix c.args.most) told _ _ (answer_status answer) (c.deref-in-Ok-GaveUp.result.now) _ (λ takes. took.end)
    (λ Holds holds. does_arrange c.args.prefix c.args.most told _ bytes script answer took reads plan is Holds (subst (λ (t : List ℕ). Holds 8 t) c.deref-in-Ok-GaveUp.ensures.value holds))
    (record { all = put.written; cut = put.cut; failed = put.failed; faults = inl put.faults }))
