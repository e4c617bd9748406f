use Rattle.env_core.proofs.Bodies.{bodies_at_main_take}
use Rattle.env_core.proofs.Entries.{holds_kept, holds_next, pool_still}
use Rattle.env_core.proofs.Own.{assignment_is_own}
use Rattle.env_core.proofs.Taking.{can_main_take, main_taken_body, may_find_none, may_take_main}
use Rattle.env_core.specs.Calls.{IsWantedNext}
use Rattle.env_core.specs.Views.{Enters}
use Rattle.pool_core.proofs.Calls.Others.{stands_at_main}
use Rattle.sequence_manager.proofs.Others.{stands_still}
use Rattle.sequence_manager.specs.StandsFor.{StandsFor as MainStandsFor}
use Rattle.std.proofs.Common.{[], refl, subst, sym, true, ◌++◌, ◌∙◌, ◌∷◌}
use Rattle.task_base.specs.declared.entry.Kind.TheVariants as kinds
use Rattle.env_core.proofs.env.Env.main_take.Goals as goal

pub take-requires : goal.take-requires
take-requires g c =
    let wanted : IsWantedNext c.self.inside.ledger c.args.seat kinds.MainNone = rw c.self.view_is c.requires in
    (_, _, can_main_take c.self.invariant wanted)

-- No front is open.

pub enter-requires : goal.enter-requires
enter-requires g c =
    let wanted : IsWantedNext c.self.inside.ledger c.args.seat kinds.MainNone = rw c.self.view_is c.requires in
    may_find_none wanted (c.in-None.ensures.answer _ _ (can_main_take c.self.invariant wanted))

pub invariant_of-self : goal.invariant_of-self
invariant_of-self g c =
    let view = c.self.inside.ledger in
    let wanted : IsWantedNext c.self.inside.ledger c.args.seat kinds.MainNone = rw c.self.view_is c.requires in
    holds_kept c.self.invariant c.enter.ensures (λ t. refl) (pool_still c.self.invariant _ refl)
    (stands_still view.script view.history c.take.new.self (record { seat = c.args.seat; kind = kinds.MainNone }) refl
    (c.in-None.ensures.stands _ _ (can_main_take c.self.invariant wanted)))

pub returns-in-None : goal.returns-in-None
returns-in-None g c =
    let wanted : IsWantedNext c.self.inside.ledger c.args.seat kinds.MainNone = rw c.self.view_is c.requires in
    rw (← c.self.view_is) (record { none = c.in-None.ensures.answer _ _ (can_main_take c.self.invariant wanted); enters = c.enter.ensures })

-- The chosen front.

pub take_body-body-requires : goal.take_body-body-requires
take_body-body-requires g c =
    let wanted : IsWantedNext c.self.inside.ledger c.args.seat kinds.MainNone = rw c.self.view_is c.requires in
    let taken = c.in-Some.ensures.answer _ _ (can_main_take c.self.invariant wanted) in
    rw (main_taken_body c.self.invariant taken).1 refl

pub enter-requires-in-Some : goal.enter-requires-in-Some
enter-requires-in-Some g c =
    let wanted : IsWantedNext c.self.inside.ledger c.args.seat kinds.MainNone = rw c.self.view_is c.requires in
    let taken = c.in-Some.ensures.answer _ _ (can_main_take c.self.invariant wanted) in
    rw c.value.ensures (may_take_main wanted taken)

pub new-requires : goal.new-requires
new-requires g c =
    let drawer = c.self.invariant.drawer in
    let there = c.take_body-body.ensures.body in
    drawer.rest_is c.in-Some.task c.take_body-body.result there ∙ sym (drawer.whole_is c.in-Some.task c.take_body-body.result there)

pub invariant_of-self-in-Some : goal.invariant_of-self-in-Some
invariant_of-self-in-Some g c =
    let view = c.self.inside.ledger in
    let wanted : IsWantedNext c.self.inside.ledger c.args.seat kinds.MainNone = rw c.self.view_is c.requires in
    let enters : Enters c.self.inside.ledger c.enter-in-Some.new.self c.args.seat (kinds.MainTake c.in-Some.task c.in-Some.queue c.in-Some.cell) =
    rw c.value.ensures at c.enter-in-Some.ensures in
    holds_next c.self.invariant enters
    (stands_at_main view.script view.history (record {
      seat = c.args.seat;
      kind = kinds.MainTake c.in-Some.task c.in-Some.queue c.in-Some.cell;
    }) c.self.inside.pool refl wanted.driver c.self.invariant.stands)
    (subst (λ s. MainStandsFor view.script (view.history ++ (record {
      seat = s;
      kind = kinds.MainTake c.in-Some.task c.in-Some.queue c.in-Some.cell;
    }) ∷ []) c.take.new.self) (sym wanted.driver) (c.in-Some.ensures.stands _ _ (can_main_take c.self.invariant wanted)))
    (rw c.take_body-body.ensures.after (bodies_at_main_take _ _ _ _ _ _ _ _ _ c.self.invariant.drawer))

pub returns-in-Some : goal.returns-in-Some
returns-in-Some g c =
    let wanted : IsWantedNext c.self.inside.ledger c.args.seat kinds.MainNone = rw c.self.view_is c.requires in
    let taken = c.in-Some.ensures.answer _ _ (can_main_take c.self.invariant wanted) in
    let enters : Enters c.self.inside.ledger c.enter-in-Some.new.self c.args.seat (kinds.MainTake c.in-Some.task c.in-Some.queue c.in-Some.cell) =
    rw c.value.ensures at c.enter-in-Some.ensures in
    let whole_is = c.self.invariant.drawer.whole_is c.in-Some.task c.take_body-body.result c.take_body-body.ensures.body in
    rw (← c.self.view_is, c.new.ensures) (record {
      front = taken.front;
      chosen = taken.chosen;
      task_is = sym taken.task_is;
      home_is = sym taken.queue_is;
      enters = enters;
      found_is = taken.cell_is;
      value_is = refl;
      whole_is = whole_is;
      rest_is = refl;
      seats = assignment_is_own c.self.inside.ledger c.enter-in-Some.new.self c.args.seat
          (kinds.MainTake c.in-Some.task c.in-Some.queue c.in-Some.cell)
          (record { task = c.in-Some.task; home = c.in-Some.queue; found = c.in-Some.cell; is_main = true }) _ enters (λ old. refl) whole_is;
    })
