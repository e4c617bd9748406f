use Rattle.std.proofs.Common.{arith, ap, length, sym, ◌∙◌}
use Rattle.app_modes.proofs.Opened.{open_place_within}
use Rattle.app_modes.proofs.Verdicts.{few_entries, one_before}
use Rattle.app_modes.proofs.open.judge_open_log.Goals as goal

pub open_verdict_on-requires-clause-few : goal.open_verdict_on-requires-clause-few
open_verdict_on-requires-clause-few c =
    let few = few_entries _ _ c.in-Log.log.items c.in-Log.cut (rw c.in-Log.is at c.in_ok-log.ensures) in
    rw c.as_slice.ensures (omega (arith, few, c.requires.short))

pub overflow_add-result : goal.overflow_add-result
overflow_add-result c =
    let verdict = sym (c.open_verdict_on.ensures _ c.requires.fresh.1) ∙ c.in-Illegal.is in
    let place = open_place_within c.args.prefix c.requires.fresh.0 _ c.in-Illegal.place verdict in
    let few = few_entries _ _ c.in-Log.log.items c.in-Log.cut (rw c.in-Log.is at c.in_ok-log.ensures) in
    omega (arith, place, ap length c.as_slice.ensures, few, c.requires.short)

pub overflow_add-result-in-Illegal : goal.overflow_add-result-in-Illegal
overflow_add-result-in-Illegal c =
    let verdict = sym (c.open_verdict_on.ensures _ c.requires.fresh.1) ∙ c.in-Illegal.is in
    let place = open_place_within c.args.prefix c.requires.fresh.0 _ c.in-Illegal.place verdict in
    let few = few_entries _ _ c.in-Log.log.items c.in-Log.cut (rw c.in-Log.is at c.in_ok-log.ensures) in
    omega (arith, place, ap length c.as_slice.ensures, few, c.requires.short, c.lines_before.ensures, one_before c.version_of.result)
