use Rattle.std.proofs.Common.{◌≡◌, None, arith, ap, false, length, sym, true, ◌∙◌}
use Rattle.hist_model.specs.Legal.{first_illegal}
use Rattle.env_check.specs.declared.verdict.Verdict.TheVariants.{Illegal}
use Rattle.env_check.proofs.Verdicts.{few_entries, legal_answer, verdict_nowhere, verdict_there}
use Rattle.env_check.proofs.check.check_log.Goals as goal

pub returns-in-Some-clause-verdict : goal.returns-in-Some-clause-verdict
returns-in-Some-clause-verdict c = verdict_there c.args.script.now c.args.log.now.items c.in-Some.place
    (ap (first_illegal c.args.script.now) (sym c.as_slice.ensures) ∙ sym c.follow_all.ensures.place ∙ c.in-Some.is)

pub returns-in-Some-clause-legal : goal.returns-in-Some-clause-legal
returns-in-Some-clause-legal c = legal_answer c.args.script.now c.args.log.now.items _ (returns-in-Some-clause-verdict c)

pub returns-then-whole-clause-verdict : goal.returns-then-whole-clause-verdict
returns-then-whole-clause-verdict c =
    let none : first_illegal c.args.script.now c.args.log.now.items ≡ None =
    ap (first_illegal c.args.script.now) (sym c.as_slice.ensures) ∙ sym c.follow_all.ensures.place ∙ c.in_default.is in
    let script_is = c.follow_all.ensures.script c.in_default.is in
    let history_is = c.follow_all.ensures.followed c.in_default.is ∙ c.as_slice.ensures in
    verdict_nowhere c.args.script.now c.args.log.now.items true none
    (rw (← script_is, ← history_is) (sym c.is_whole-whole.ensures ∙ c.if-whole.true))

pub overflow_cast-result : goal.overflow_cast-result
overflow_cast-result c =
    omega (
      arith,
      few_entries c.args.script.now c.as_slice.result.now c.requires (c.follow_all.ensures.legal c.in_default.is),
      ap length c.as_slice.ensures,
      c.len.ensures.count,
    )

pub returns-clause-verdict : goal.returns-clause-verdict
returns-clause-verdict c =
    let none : first_illegal c.args.script.now c.args.log.now.items ≡ None =
    ap (first_illegal c.args.script.now) (sym c.as_slice.ensures) ∙ sym c.follow_all.ensures.place ∙ c.in_default.is in
    let script_is = c.follow_all.ensures.script c.in_default.is in
    let history_is = c.follow_all.ensures.followed c.in_default.is ∙ c.as_slice.ensures in
    ap Illegal c.len.ensures.count ∙ verdict_nowhere c.args.script.now c.args.log.now.items false none
    (rw (← script_is, ← history_is) (sym c.is_whole-whole.ensures ∙ c.if-whole.false))
