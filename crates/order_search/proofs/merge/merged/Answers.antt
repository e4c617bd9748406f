use Rattle.std.proofs.Common.{◌<◌, ◌≤◌, ◌∷◌, [], false, arith, length, subst, ap}
use Rattle.std.proofs.lemmas.List.{length-append}
use Rattle.order_search.specs.Search.{IsSoonest, task_of}
use Rattle.order_search.proofs.Ruled.{parted_first}
use Rattle.order_search.proofs.Merged.{all_at_end, all_by_count, merged_more}
use Rattle.order_search.proofs.merge.merged.Goals as goal

pub loop-init : goal.loop-init
loop-init c = record {
  parted = rw (c.in_ok-events.ensures.items, c.in_ok-heads.ensures.items, c.deref.ensures.value)
      (parted_first (task_of c.args.script.now false c.args.tries.now) c.requires.task);
  count = ap length c.in_ok-events.ensures.items;
}

pub loop-preserved : goal.loop-preserved
loop-preserved c =
    let task = task_of c.args.script.now false c.args.tries.now in
    let heads = c.loop.heads.items in
    let seat = c.soonest_seat-seat.result in
    let says : IsSoonest c.deref-in-loop.result.now c.deref-in-loop-2.result.now seat = c.soonest_seat-seat.ensures in
    let here : IsSoonest c.args.tries.now.events.items heads seat =
    subst (λ l. IsSoonest l heads seat) c.deref-in-loop.ensures.value (subst (λ l. IsSoonest c.deref-in-loop.result.now l seat) c.deref-in-loop-2.ensures.value says) in
    let within : seat < length heads = omega (arith, c.if-seat-len.false, c.len-in-loop.ensures, c.loop.heads.ok.0) in
    record {
      parted = rw c.in_ok-push.ensures.items (merged_more task c.loop.events.items heads seat c.index-index.result.now c.index.result.now c.index-in-loop.result.now
          c.requires.task c.loop.invariant.parted within c.index-index.ensures (here.found within) c.index.ensures c.index-in-loop.ensures);
      count = omega (arith, ap length c.in_ok-push.ensures.items, length-append c.loop.events.items (c.index.result.now ∷ []), c.loop.invariant.count);
    }

pub returns-then-seat-len-clause-own : goal.returns-then-seat-len-clause-own
returns-then-seat-len-clause-own c =
    let task = task_of c.args.script.now false c.args.tries.now in
    let heads = c.loop.heads.items in
    let seat = c.soonest_seat-seat.result in
    let says : IsSoonest c.deref-in-loop.result.now c.deref-in-loop-2.result.now seat = c.soonest_seat-seat.ensures in
    let here : IsSoonest c.args.tries.now.events.items heads seat =
    subst (λ l. IsSoonest l heads seat) c.deref-in-loop.ensures.value (subst (λ l. IsSoonest c.deref-in-loop.result.now l seat) c.deref-in-loop-2.ensures.value says) in
    let past : length heads ≤ seat = omega (arith, c.if-seat-len.true, c.len-in-loop.ensures, c.loop.heads.ok.0) in
    all_at_end task c.loop.events.items heads c.requires.task c.loop.invariant.parted
    (λ other inside. here.none past other (omega (arith, inside, c.loop.invariant.parted.count)))

pub returns-clause-own : goal.returns-clause-own
returns-clause-own c =
    all_by_count (task_of c.args.script.now false c.args.tries.now) c.loop.events.items c.loop.heads.items c.loop.invariant.parted
    (omega (arith, c.loop-test.false, c.len-end.ensures, c.args.tries.now.events.ok.0, c.loop.invariant.count))
