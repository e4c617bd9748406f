use Rattle.std.proofs.Common.{◌≡◌, ◌<◌, ◌-◌, ◌^◌, get_or, length, min, subst, sym}
use Rattle.std.proofs.lemmas.List.{get_or_read}
use Rattle.order_model.specs.declared.event.Event.{Event}
use Rattle.order_search.specs.Seats.{latest}
use Rattle.order_search.proofs.Places.{at_read}
use Rattle.order_search.proofs.Linked.{linked_more}
use Rattle.order_search.proofs.tries.Tries.link.Goals as goal

pub returns-clause-linked : goal.returns-clause-linked
returns-clause-linked c =
    let old = c.args.self.now in
    let event = c.index-event.result.now in
    let next = c.index-next.result.now in
    let within : event.entry.seat < length old.heads.items =
    subst (λ (x : Event). x.entry.seat < length old.heads.items) (sym c.index-event.ensures) (c.requires.seated c.args.index event c.requires.within) in
    let later = c.latest.ensures in
    let soon = c.time_at.ensures in
    let least = c.deref.ensures.value in
    let both = c.min-soonest.ensures in
    let soon_is : c.min-soonest.result ≡ min (latest event.span) (get_or old.least.items next (2 ^ 64 - 1)) = cc in
    linked_more (length old.heads.items) old.events.items c.args.index event old.heads.items old.after.items old.least.items next c.min-soonest.result
    c.requires.linked (at_read old.events.items c.args.index event c.requires.within c.index-event.ensures) within
    (get_or_read old.heads.items event.entry.seat next within c.index-next.ensures 0) soon_is
