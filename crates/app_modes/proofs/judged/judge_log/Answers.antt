use Rattle.std.proofs.Common.{arith, sym, ◌∙◌}
use Rattle.app_modes.proofs.Verdicts.{few_entries, one_before, place_within}
use Rattle.app_modes.proofs.judged.judge_log.Goals as goal

pub overflow_add-result : goal.overflow_add-result
overflow_add-result c =
    let place = place_within c.args.prefix _ _ c.in-Illegal.place (sym c.in_ok-verdict_on.ensures ∙ c.in-Illegal.is) in
    let few = few_entries _ _ c.in-Log.log.items c.in-Log.cut (rw c.in-Log.is at c.in_ok-log.ensures) in
    omega (arith, place, few, c.requires.short)

pub overflow_add-result-in-Illegal : goal.overflow_add-result-in-Illegal
overflow_add-result-in-Illegal c =
    let place = place_within c.args.prefix _ _ c.in-Illegal.place (sym c.in_ok-verdict_on.ensures ∙ c.in-Illegal.is) in
    let few = few_entries _ _ c.in-Log.log.items c.in-Log.cut (rw c.in-Log.is at c.in_ok-log.ensures) in
    omega (arith, place, few, c.requires.short, c.lines_before.ensures, one_before c.version_of.result)
