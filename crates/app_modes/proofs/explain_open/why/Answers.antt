use Rattle.std.proofs.Common.{arith, inl, sym, refl, ap, length, ◌≡◌, ◌∙◌}
use Rattle.app_modes.specs.Judged.{IsTextOf}
use Rattle.app_modes.specs.Opened.{open_verdict_on}
use Rattle.env_check.specs.declared.verdict.Verdict.TheVariants.{Illegal}
use Rattle.app_modes.proofs.Explained.{no_cut}
use Rattle.app_modes.proofs.ExplainedOpen.{illegal_told, told_within}
use Rattle.app_modes.proofs.Verdicts.{few_entries, one_before}
use Rattle.app_modes.proofs.explain_open.why.Goals as goal

pub told_on-requires-clause-few : goal.told_on-requires-clause-few
told_on-requires-clause-few c =
    let few = few_entries _ _ c.in-Log.log.items c.in-Log.cut (rw c.in-Log.is at c.in_ok-log.ensures) in
    rw c.as_slice.ensures (omega (arith, few, c.requires.short))

pub overflow_add-line : goal.overflow_add-line
overflow_add-line c =
    let place = told_within c.args.prefix _ _ c.in_ok-told.told c.in-Some.place c.in_ok-told.ensures.verdict (sym c.open_place_told.ensures ∙ c.in-Some.is) in
    let few = few_entries _ _ c.in-Log.log.items c.in-Log.cut (rw c.in-Log.is at c.in_ok-log.ensures) in
    omega (arith, place, ap length c.as_slice.ensures, few, c.requires.short)

pub overflow_add-line-2 : goal.overflow_add-line-2
overflow_add-line-2 c =
    let place = told_within c.args.prefix _ _ c.in_ok-told.told c.in-Some.place c.in_ok-told.ensures.verdict (sym c.open_place_told.ensures ∙ c.in-Some.is) in
    let few = few_entries _ _ c.in-Log.log.items c.in-Log.cut (rw c.in-Log.is at c.in_ok-log.ensures) in
    omega (arith, place, ap length c.as_slice.ensures, few, c.requires.short, c.lines_before.ensures, one_before c.version_of.result)

pub open_facts_of-requires : goal.open_facts_of-requires
open_facts_of-requires c =
    let few = few_entries _ _ c.in-Log.log.items c.in-Log.cut (rw c.in-Log.is at c.in_ok-log.ensures) in
    rw c.as_slice-2.ensures (omega (arith, few, c.requires.short))

pub returns : goal.returns
returns c =
    let log = c.in-Log.log.items in
    let told = c.in_ok-told.told in
    let of : IsTextOf c.args.prefix c.args.text.now log c.in-Log.cut = rw c.in-Log.is at c.in_ok-log.ensures in
    let is = rw c.as_slice.ensures at c.in_ok-told.ensures in
    let verdict : open_verdict_on c.args.prefix c.args.script.now log ≡ Illegal c.in-Some.place =
    sym is.verdict ∙ illegal_told told c.in-Some.place (sym c.open_place_told.ensures ∙ c.in-Some.is) in
    inl (record {
      log = log;
      cut = c.in-Log.cut;
      of = of;
      told = told;
      is = is;
      line_is = rw (verdict, c.lines_before.ensures, c.version_of.ensures) refl;
      said_is = c.in_ok-text-2.ensures ∙ rw (c.as_slice-3.ensures, c.deref-2.ensures.value, c.in_ok-facts.ensures.exact, c.as_slice-2.ensures) (no_cut c.args.json _ c.in-Log.cut _);
    })
