use Rattle.std.proofs.Common.{◌≡◌, ◌-◌, ◌^◌, ◌<◌, ◌≤◌, get_or, length, arith, sym, ap, ◌∙◌}
use Rattle.std.specs.Prelude.{nat_le}
use Rattle.std.specs.List.{list_all}
use Rattle.hist_model.specs.Legal.{IsLegal}
use Rattle.order_model.specs.Orders.{entries_of}
use Rattle.order_model.specs.Plans.{plan_of}
use Rattle.order_search.specs.Following.{Follows, GoesOn}
use Rattle.order_search.specs.Search.{IsNext, IsWalk, task_of}
use Rattle.order_search.specs.Seats.{earliest}
use Rattle.order_search.specs.Walk.{Task, events_in}
use Rattle.order_search.proofs.Steps.{few_here}
use Rattle.order_search.proofs.Tried.{follows_here, has_number, index_within, rules_pass, times_pass, try_places}
use Rattle.order_search.proofs.walk.Walk.try_head.Goals as goal

pub goes_on-requires-clause-follows : goal.goes_on-requires-clause-follows
goes_on-requires-clause-follows g c =
    let plan = plan_of c.args.kind c.args.script.now in
    let task : g.known.task ≡ task_of plan g.known.task.prefix c.args.tries.now = c.requires.1.1.0 in
    let walk : IsWalk g.known c.args.self.now = c.requires.1.1.1.0 in
    let within : c.args.seat < length c.args.self.now.heads.items = c.requires.1.1.1.1.1 in
    let next : IsNext c.args.self.now.heads.items c.args.self.now.start (length c.args.tries.now.events.items) c.args.seat =
    c.requires.1.1.1.1.0 in
    let bound : earliest c.index-event.result.now.span ≤ 2 ^ 64 - 1 = c.are_later.ensures.within in
    let past = entries_of (events_in c.args.self.now.path.items) in
    let here : Follows plan past c.args.self.now.follower = follows_here plan c.args.tries.now c.args.seat c.index-index.result.now
    c.index-event.result.now c.index.result.now c.deref-2.result.now c.deref.result.now task walk within next
    c.index-index.ensures c.index-event.ensures c.index.ensures c.deref-2.ensures.value c.deref.ensures.value bound in
    rw c.deref-3.ensures.value here

pub goes_on-requires-clause-number : goal.goes_on-requires-clause-number
goes_on-requires-clause-number g c =
    let plan = plan_of c.args.kind c.args.script.now in
    let task : g.known.task ≡ task_of plan g.known.task.prefix c.args.tries.now = c.requires.1.1.0 in
    let walk : IsWalk g.known c.args.self.now = c.requires.1.1.1.0 in
    let within : c.args.seat < length c.args.self.now.heads.items = c.requires.1.1.1.1.1 in
    let next : IsNext c.args.self.now.heads.items c.args.self.now.start (length c.args.tries.now.events.items) c.args.seat =
    c.requires.1.1.1.1.0 in
    let bound : earliest c.index-event.result.now.span ≤ 2 ^ 64 - 1 = c.are_later.ensures.within in
    let past = entries_of (events_in c.args.self.now.path.items) in
    let few : length past < 4294967295 = has_number plan c.args.tries.now c.args.seat c.index-index.result.now
    c.index-event.result.now c.index.result.now c.deref-2.result.now c.deref.result.now task walk within next
    c.index-index.ensures c.index-event.ensures c.index.ensures c.deref-2.ensures.value c.deref.ensures.value bound in
    rw c.deref-3.ensures.value few

pub returns-then-branch-clause-walk : goal.returns-then-branch-clause-walk
returns-then-branch-clause-walk g c =
    let plan = plan_of c.args.kind c.args.script.now in
    let task : g.known.task ≡ task_of plan g.known.task.prefix c.args.tries.now = c.requires.1.1.0 in
    let walk : IsWalk g.known c.args.self.now = c.requires.1.1.1.0 in
    let within : c.args.seat < length c.args.self.now.heads.items = c.requires.1.1.1.1.1 in
    let next : IsNext c.args.self.now.heads.items c.args.self.now.start (length c.args.tries.now.events.items) c.args.seat =
    c.requires.1.1.1.1.0 in
    let bound : earliest c.index-event.result.now.span ≤ 2 ^ 64 - 1 = c.are_later.ensures.within in
    let tells : c.are_later.result ≡ list_all (λ head. nat_le (earliest c.index-event.result.now.span)
    (get_or c.deref.result.now head (2 ^ 64 - 1))) c.deref-2.result.now =
    c.are_later.ensures.tells in
    let past = entries_of (events_in c.args.self.now.path.items) in
    let on : GoesOn plan past c.index-event.result.now.entry c.goes_on.new.follower _ =
    rw c.deref-3.ensures.value at c.in_ok-goes_on.ensures.goes_on in
    try_places plan c.args.tries.now c.args.seat c.index-index.result.now
    c.index-event.result.now c.index.result.now c.deref-2.result.now c.deref.result.now task walk within next
    c.index-index.ensures c.index-event.ensures c.index.ensures c.deref-2.ensures.value c.deref.ensures.value bound (sym tells ∙ c.if-not-are_later.false)
    c.goes_on.new.follower _ on c.if-branch.true _ c.in_ok-push.ensures.items

pub pass_by-requires-clause-index : goal.pass_by-requires-clause-index
pass_by-requires-clause-index g c =
    let plan = plan_of c.args.kind c.args.script.now in
    let task : g.known.task ≡ task_of plan g.known.task.prefix c.args.tries.now = c.requires.1.1.0 in
    let walk : IsWalk g.known c.args.self.now = c.requires.1.1.1.0 in
    let within : c.args.seat < length c.args.self.now.heads.items = c.requires.1.1.1.1.1 in
    let next : IsNext c.args.self.now.heads.items c.args.self.now.start (length c.args.tries.now.events.items) c.args.seat =
    c.requires.1.1.1.1.0 in
    let bound : earliest c.index-event.result.now.span ≤ 2 ^ 64 - 1 = c.are_later.ensures.within in
    index_within plan c.args.tries.now c.args.seat c.index-index.result.now
    c.index-event.result.now c.index.result.now c.deref-2.result.now c.deref.result.now task walk within next
    c.index-index.ensures c.index-event.ensures c.index.ensures c.deref-2.ensures.value c.deref.ensures.value bound

pub returns-then-not-are_later-clause-walk : goal.returns-then-not-are_later-clause-walk
returns-then-not-are_later-clause-walk g c =
    let plan = plan_of c.args.kind c.args.script.now in
    let task : g.known.task ≡ task_of plan g.known.task.prefix c.args.tries.now = c.requires.1.1.0 in
    let walk : IsWalk g.known c.args.self.now = c.requires.1.1.1.0 in
    let within : c.args.seat < length c.args.self.now.heads.items = c.requires.1.1.1.1.1 in
    let next : IsNext c.args.self.now.heads.items c.args.self.now.start (length c.args.tries.now.events.items) c.args.seat =
    c.requires.1.1.1.1.0 in
    let bound : earliest c.index-event.result.now.span ≤ 2 ^ 64 - 1 = c.are_later.ensures.within in
    let tells : c.are_later.result ≡ list_all (λ head. nat_le (earliest c.index-event.result.now.span)
    (get_or c.deref.result.now head (2 ^ 64 - 1))) c.deref-2.result.now =
    c.are_later.ensures.tells in
    let here : Follows plan (entries_of (events_in c.args.self.now.path.items)) c.args.self.now.follower = follows_here plan c.args.tries.now c.args.seat c.index-index.result.now
    c.index-event.result.now c.index.result.now c.deref-2.result.now c.deref.result.now task walk within next
    c.index-index.ensures c.index-event.ensures c.index.ensures c.deref-2.ensures.value c.deref.ensures.value bound in
    times_pass plan c.args.tries.now c.args.seat c.index-index.result.now
    c.index-event.result.now c.index.result.now c.deref-2.result.now c.deref.result.now task walk within next
    c.index-index.ensures c.index-event.ensures c.index.ensures c.deref-2.ensures.value c.deref.ensures.value bound (sym tells ∙ c.if-not-are_later.true)
    _ c.pass_by.ensures.heads _ (ap (λ v. v.items) c.pass_by.ensures.path) _ c.pass_by.ensures.start _ (rw c.pass_by.ensures.follower here)

pub goes_on-requires-clause-legal : goal.goes_on-requires-clause-legal
goes_on-requires-clause-legal g c =
    let task : g.known.task ≡ task_of (plan_of c.args.kind c.args.script.now) g.known.task.prefix c.args.tries.now = c.requires.1.1.0 in
    let walk : IsWalk g.known c.args.self.now = c.requires.1.1.1.0 in
    let legal : IsLegal (plan_of c.args.kind c.args.script.now) (entries_of (events_in c.args.self.now.path.items)) =
    rw (← ap (λ (t : Task). t.script) task) walk.legal in
    rw c.deref-3.ensures.value legal

pub goes_on-requires-clause-few : goal.goes_on-requires-clause-few
goes_on-requires-clause-few g c =
    let walk : IsWalk g.known c.args.self.now = c.requires.1.1.1.0 in
    omega (arith, few_here walk, walk.is.few, ap length c.deref-3.ensures.value)

pub returns-clause-walk : goal.returns-clause-walk
returns-clause-walk g c =
    let plan = plan_of c.args.kind c.args.script.now in
    let task : g.known.task ≡ task_of plan g.known.task.prefix c.args.tries.now = c.requires.1.1.0 in
    let walk : IsWalk g.known c.args.self.now = c.requires.1.1.1.0 in
    let within : c.args.seat < length c.args.self.now.heads.items = c.requires.1.1.1.1.1 in
    let next : IsNext c.args.self.now.heads.items c.args.self.now.start (length c.args.tries.now.events.items) c.args.seat =
    c.requires.1.1.1.1.0 in
    let bound : earliest c.index-event.result.now.span ≤ 2 ^ 64 - 1 = c.are_later.ensures.within in
    let past = entries_of (events_in c.args.self.now.path.items) in
    let on : GoesOn plan past c.index-event.result.now.entry c.goes_on.new.follower _ =
    rw c.deref-3.ensures.value at c.in_ok-goes_on.ensures.goes_on in
    rules_pass plan c.args.tries.now c.args.seat c.index-index.result.now
    c.index-event.result.now c.index.result.now c.deref-2.result.now c.deref.result.now task walk within next
    c.index-index.ensures c.index-event.ensures c.index.ensures c.deref-2.ensures.value c.deref.ensures.value bound
    c.goes_on.new.follower _ on c.if-branch.false
    _ c.pass_by-2.ensures.heads _ (ap (λ v. v.items) c.pass_by-2.ensures.path) _ c.pass_by-2.ensures.start _
    (rw c.pass_by-2.ensures.follower (rw c.deref-3.ensures.value at (c.in_ok-goes_on.ensures.stays c.if-branch.false)))
