use Rattle.std.proofs.Common.{◌≡◌, ◌+◌, [], ◌∷◌, length, sym, ap, ◌∙◌, subst, arith, length-append}
use Rattle.nested_loop.specs.Stands.{Stands}
use Rattle.nested_loop.proofs.Known.{next_within}
use Rattle.nested_loop.proofs.run.run_nest.Goals as goal

pub push_spare-requires : goal.push_spare-requires
push_spare-requires c =
    let stands = c.loop-event.invariant.stands in
    let room = c.loop-event.invariant.room in
    let made = c.in-Some.ensures c.loop-event.log.items stands in
    let few = next_within c.args.nest.now c.requires c.loop-event.log.items c.in-Some.event stands.is_past made.next in
    omega (arith, room, few)

pub loop-event-preserved : goal.loop-event-preserved
loop-event-preserved c =
    let room = c.loop-event.invariant.room in
    let made = c.in-Some.ensures c.loop-event.log.items c.loop-event.invariant.stands in
    let spare = c.push_spare.ensures.spare in
    let grown : length c.push_spare.new.self.items ≡ length c.loop-event.log.items + 1 =
    ap length c.push_spare.ensures.items ∙ length-append c.loop-event.log.items (c.in-Some.event ∷ []) in
    record {
      stands = subst (λ items. Stands c.args.nest.now items c.next_event.new.self) (sym c.push_spare.ensures.items) made.stands;
      room = omega (arith, room, spare, grown);
    }

pub loop-event-smaller : goal.loop-event-smaller
loop-event-smaller c =
    let stands = c.loop-event.invariant.stands in
    let made = c.in-Some.ensures c.loop-event.log.items stands in
    let few = next_within c.args.nest.now c.requires c.loop-event.log.items c.in-Some.event stands.is_past made.next in
    let grown : length c.push_spare.new.self.items ≡ length c.loop-event.log.items + 1 =
    ap length c.push_spare.ensures.items ∙ length-append c.loop-event.log.items (c.in-Some.event ∷ []) in
    omega (arith, few, grown)
