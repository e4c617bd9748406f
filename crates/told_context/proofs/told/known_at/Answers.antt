use Rattle.std.proofs.Common.{◌∷◌, ◌++◌, List, [], refl}
use Rattle.std.proofs.lemmas.List.Elements.{All-append}
use Rattle.task_base.specs.declared.entry.Entry.{Entry}
use Rattle.log_context.specs.Context.{StandsIn}
use Rattle.told_context.proofs.Standing.{may_take_stand}
use Rattle.told_context.specs.Told.{known_at, may_take}
use Rattle.told_context.proofs.told.known_at.Goals as goal

pub returns-clause-exact : goal.returns-clause-exact
unfolding known_at
returns-clause-exact c = rw (
  c.in_ok-add_takers.ensures,
  c.deref.ensures.value,
  c.in_ok-known.ensures.exact,
  c.named_by.ensures,
  c.waits_for.ensures,
  c.in_ok-takers.ensures,
) refl

pub returns-clause-stand : goal.returns-clause-stand
returns-clause-stand c =
    let front : List Entry = c.args.past.now ++ c.args.entry ∷ [] in
    let known = c.in_ok-known.known.items in
    let takers = c.in_ok-takers.takers.items in
    rw (c.in_ok-add_takers.ensures, c.deref.ensures.value) (All-append (StandsIn front) known (may_take c.args.place takers) c.in_ok-known.ensures.stand
    (may_take_stand front c.args.place takers))
