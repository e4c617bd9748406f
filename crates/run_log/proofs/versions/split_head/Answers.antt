use Rattle.std.proofs.Common.{Some, None, refl, sym, ap, ◌∙◌}
use Rattle.std.proofs.lemmas.Bool.Decides.{Decides-eqb}
use Rattle.std.proofs.lemmas.Slice.Eq.{strip_prefix_is}
use Rattle.log_model.specs.LogText.{version_of}
use Rattle.log_model.proofs.Laws.LogTexts.{version_of-head, version_of-other}
use Rattle.run_log.proofs.versions.split_head.Goals as goal

pub returns-in-Some-clause-version : goal.returns-in-Some-clause-version
returns-in-Some-clause-version c =
    let cut = strip_prefix_is Decides-eqb c.args.bytes.now c.head_of.result.now (Some c.in-Some.lines) c.in-Some.ensures.cases in
    sym (ap version_of (rw c.head_of.ensures at cut) ∙ version_of-head c.in-Some.lines.now)

pub returns-in-Some-clause-lines : goal.returns-in-Some-clause-lines
returns-in-Some-clause-lines c =
    let cut = strip_prefix_is Decides-eqb c.args.bytes.now c.head_of.result.now (Some c.in-Some.lines) c.in-Some.ensures.cases in
    rw (← returns-in-Some-clause-version c) (rw c.head_of.ensures at cut)

pub returns-in-None-clause-version : goal.returns-in-None-clause-version
returns-in-None-clause-version c =
    let other = strip_prefix_is Decides-eqb c.args.bytes.now c.head_of.result.now None c.in-None.ensures.cases in
    sym (version_of-other c.args.bytes.now (rw c.head_of.ensures at other))

pub returns-in-None-clause-lines : goal.returns-in-None-clause-lines
returns-in-None-clause-lines c = rw (← returns-in-None-clause-version c) refl
