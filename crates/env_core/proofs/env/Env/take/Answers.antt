use Rattle.env_core.proofs.Bodies.{bodies_at_take}
use Rattle.env_core.proofs.Entries.{by_worker, holds_at_pool, holds_next, holds_still}
use Rattle.env_core.proofs.Own.{assignment_is_own}
use Rattle.env_core.proofs.Taking.{can_take, has_taken_item, taken_body}
use Rattle.env_core.proofs.Wanted.{item_allowed, take_allowed}
use Rattle.env_core.specs.Calls.{IsFreeWorker}
use Rattle.env_core.specs.Views.{Enters}
use Rattle.sequence_manager.proofs.Others.{stands_pool}
use Rattle.std.proofs.Common.{false, refl, sym, ◌∙◌}
use Rattle.task_base.specs.declared.entry.Kind.TheVariants as kinds
use Rattle.env_core.proofs.env.Env.take.Goals as goal

pub returns-then-is_finished : goal.returns-then-is_finished
returns-then-is_finished g c = rw (← c.self.view_is) (record { finished = sym c.is_finished.ensures ∙ c.if-is_finished.true; kept = refl })

pub take-requires : goal.take-requires
take-requires g c = (_, _, can_take c.self.invariant (rw c.self.view_is c.requires))

pub invariant_of-self : goal.invariant_of-self
invariant_of-self g c = holds_still c.self.invariant (c.in-Nothing.ensures.stands _ _ (can_take c.self.invariant (rw c.self.view_is c.requires)))

pub returns-in-Nothing : goal.returns-in-Nothing
returns-in-Nothing g c = rw (← c.self.view_is) (record {
  unfinished = sym c.is_finished.ensures ∙ c.if-is_finished.false;
  none = c.in-Nothing.ensures.answer _ _ (can_take c.self.invariant (rw c.self.view_is c.requires));
  kept = refl;
})

-- An item.

pub enter-requires : goal.enter-requires
enter-requires g c =
    let free : IsFreeWorker c.self.inside.ledger c.args.seat = rw c.self.view_is c.requires in
    by_worker c.requires.worker (λ plan. item_allowed c.self.inside.ledger c.args.seat c.in-Item.job c.in-Item.id c.in-Item.item plan.closed free
    (sym c.is_finished.ensures ∙ c.if-is_finished.false) (c.in-Item.ensures.answer _ _ (can_take c.self.invariant free)))

pub invariant_of-self-in-Item : goal.invariant_of-self-in-Item
invariant_of-self-in-Item g c = holds_at_pool c.self.invariant c.enter.ensures refl (λ t. refl)
    (c.in-Item.ensures.stands _ _ (can_take c.self.invariant (rw c.self.view_is c.requires)))

pub returns-in-Item : goal.returns-in-Item
returns-in-Item g c = rw (← c.self.view_is, c.new.ensures) (has_taken_item (sym c.is_finished.ensures ∙ c.if-is_finished.false)
    (c.in-Item.ensures.answer _ _ (can_take c.self.invariant (rw c.self.view_is c.requires))) c.enter.ensures)

-- A task.

pub take_body-body-requires : goal.take_body-body-requires
take_body-body-requires g c = rw (taken_body c.self.invariant (c.in-Task.ensures.answer _ _ (can_take c.self.invariant (rw c.self.view_is c.requires)))).1 refl

pub enter-requires-in-Task : goal.enter-requires-in-Task
enter-requires-in-Task g c =
    let free : IsFreeWorker c.self.inside.ledger c.args.seat = rw c.self.view_is c.requires in
    rw c.value.ensures (by_worker c.requires.worker (λ plan. take_allowed c.self.inside.ledger c.args.seat c.in-Task.task c.in-Task.runner
    c.in-Task.cell plan.closed free (sym c.is_finished.ensures ∙ c.if-is_finished.false) (c.in-Task.ensures.answer _ _ (can_take c.self.invariant free))))

pub new-requires-in-Task : goal.new-requires-in-Task
new-requires-in-Task g c =
    let drawer = c.self.invariant.drawer in
    let there = c.take_body-body.ensures.body in
    drawer.rest_is c.in-Task.task c.take_body-body.result there ∙ sym (drawer.whole_is c.in-Task.task c.take_body-body.result there)

pub invariant_of-self-in-Task : goal.invariant_of-self-in-Task
invariant_of-self-in-Task g c =
    let view = c.self.inside.ledger in
    let enters : Enters view c.enter-in-Task.new.self c.args.seat (kinds.Take c.in-Task.task c.in-Task.runner c.in-Task.cell) =
    rw c.value.ensures at c.enter-in-Task.ensures in
    holds_next c.self.invariant enters (c.in-Task.ensures.stands _ _ (can_take c.self.invariant (rw c.self.view_is c.requires)))
    (stands_pool view.script view.history c.self.inside.main (record {
      seat = c.args.seat;
      kind = kinds.Take c.in-Task.task c.in-Task.runner c.in-Task.cell;
    }) refl c.requires.worker c.self.invariant.main)
    (rw c.take_body-body.ensures.after (bodies_at_take _ _ _ _ _ _ _ _ _ c.self.invariant.drawer))

pub returns-in-Task : goal.returns-in-Task
returns-in-Task g c =
    let view = c.self.inside.ledger in
    let taken = c.in-Task.ensures.answer _ _ (can_take c.self.invariant (rw c.self.view_is c.requires)) in
    let enters : Enters view c.enter-in-Task.new.self c.args.seat (kinds.Take c.in-Task.task c.in-Task.runner c.in-Task.cell) =
    rw c.value.ensures at c.enter-in-Task.ensures in
    let whole_is = c.self.invariant.drawer.whole_is c.in-Task.task c.take_body-body.result c.take_body-body.ensures.body in
    rw (← c.self.view_is, c.new-in-Task.ensures) (record {
      unfinished = sym c.is_finished.ensures ∙ c.if-is_finished.false;
      enters = enters;
      found_is = taken.found_is;
      value_is = refl;
      whole_is = whole_is;
      rest_is = refl;
      seats = assignment_is_own view c.enter-in-Task.new.self c.args.seat (kinds.Take c.in-Task.task c.in-Task.runner c.in-Task.cell)
          (record { task = c.in-Task.task; home = c.in-Task.runner; found = c.in-Task.cell; is_main = false }) _ enters (λ old. refl) whole_is;
    })
