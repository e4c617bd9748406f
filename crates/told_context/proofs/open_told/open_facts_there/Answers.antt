use Rattle.std.proofs.Common.{refl}
use Rattle.std.proofs.lemmas.List.Elements.{All-take}
use Rattle.log_context.specs.Context.{StandsIn}
use Rattle.told_context.proofs.Standing.{all_stand_on}
use Rattle.told_context.specs.declared.told.TheConstants.{FACTS_SHOWN}
use Rattle.told_context.proofs.open_told.open_facts_there.Goals as goal

pub returns-clause-exact : goal.returns-clause-exact
returns-clause-exact c = rw (
  c.in_ok-facts.ensures,
  c.deref.ensures.value,
  c.in_ok-known.ensures.exact,
  c.named_by.ensures,
  c.open_waits_for.ensures,
) refl

pub returns-clause-stand : goal.returns-clause-stand
returns-clause-stand c =
    let log = c.args.log.now in
    let known = c.in_ok-known.known.items in
    rw (c.in_ok-facts.ensures, c.deref.ensures.value) (All-take (StandsIn log) FACTS_SHOWN known
    (all_stand_on log c.args.place c.args.entry known c.requires.there c.in_ok-known.ensures.stand))
