use Rattle.std.proofs.Common.{◌+◌, ◌-◌, refl, take}
use Rattle.std.proofs.lemmas.List.{take_rest}
use Rattle.std.proofs.lemmas.List.Elements.{All-take}
use Rattle.log_context.specs.Context.{StandsIn}
use Rattle.told_context.proofs.Standing.{all_stand_on, all_with, earlier_stands, later_stands}
use Rattle.told_context.proofs.Taking.{takers_for_allowed}
use Rattle.told_context.specs.declared.told.TheConstants.{FACTS_SHOWN}
use Rattle.told_context.proofs.told.facts_there.Goals as goal

pub returns-clause-context : goal.returns-clause-context
returns-clause-context c =
    let log = c.args.log.now in
    let place = c.args.place in
    record {
      all = rw (
        c.in_ok-push_some-2.ensures,
        c.later.ensures,
        c.in_ok-push_some.ensures,
        c.earlier.ensures,
        c.in_ok-facts.ensures,
        c.deref.ensures.value,
        c.in_ok-known.ensures.exact,
        c.in_ok-before.ensures.exact,
        c.in_ok-after.ensures.exact,
        take_rest log (place + 1),
      ) refl;
      may_take = takers_for_allowed c.args.script.now (take place log) c.args.cause.now;
      is_before = rw c.in_ok-before.ensures.exact at c.in_ok-before.ensures.allowed;
      is_after = rw (c.in_ok-after.ensures.exact, take_rest log (place + 1)) at c.in_ok-after.ensures.allowed;
    }

pub returns-clause-stand : goal.returns-clause-stand
returns-clause-stand c =
    let log = c.args.log.now in
    let known = c.in_ok-known.known.items in
    rw (
      c.in_ok-push_some-2.ensures,
      c.later.ensures,
      c.in_ok-push_some.ensures,
      c.earlier.ensures,
      c.in_ok-facts.ensures,
      c.deref.ensures.value,
    ) (all_with log _ _ (all_with log _ _ (All-take (StandsIn log) (FACTS_SHOWN - 2) known
    (all_stand_on log c.args.place c.args.entry known c.requires.there c.in_ok-known.ensures.stand))
    (earlier_stands log c.in_ok-before.before)) (later_stands log c.args.place c.in_ok-after.after))
