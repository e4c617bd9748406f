use Rattle.std.proofs.Common.{◌≡◌, false, length, arith, sym, ap, ◌∙◌}
use Rattle.std.specs.Prelude.{nat_le}
use Rattle.std.specs.List.{list_all}
use Rattle.std.proofs.lemmas.Bool.{true≢false}
use Rattle.order_model.specs.Orders.{entries_of}
use Rattle.order_search.specs.Search.{IsWalk, task_of}
use Rattle.order_search.specs.Walk.{Task, events_in}
use Rattle.order_search.proofs.Steps.{at_end_by_test, at_end_passes, ends_at_order, order_here}
use Rattle.order_search.proofs.walk.Walk.is_order.Goals as goal

pub returns-then-prefix-clause-order : goal.returns-then-prefix-clause-order
returns-then-prefix-clause-order g c is =
    let task : g.known.task ≡ task_of g.known.task.script c.args.prefix c.args.tries.now = c.requires.0 in
    let walk : IsWalk g.known c.args.self.now = c.requires.1 in
    let says : c.are_at_end.result ≡ list_all (λ head. nat_le c.len.result head) c.deref.result.now = c.are_at_end.ensures in
    let end : c.len.result ≡ length g.known.task.tries = omega (arith, c.len.ensures, c.args.tries.now.events.ok.0, ap (λ (t : Task). length t.tries) task) in
    order_here walk (at_end_by_test c.len.result walk end (rw (← c.deref.ensures.value) (sym says ∙ c.if-are_at_end.true)))
    (λ no. let prefix = ap (λ (t : Task). t.prefix) task in absurd cc)

pub returns-else-prefix-clause-order : goal.returns-else-prefix-clause-order
returns-else-prefix-clause-order g c is =
    let task : g.known.task ≡ task_of g.known.task.script c.args.prefix c.args.tries.now = c.requires.0 in
    let walk : IsWalk g.known c.args.self.now = c.requires.1 in
    let says : c.are_at_end.result ≡ list_all (λ head. nat_le c.len.result head) c.deref.result.now = c.are_at_end.ensures in
    let end : c.len.result ≡ length g.known.task.tries = omega (arith, c.len.ensures, c.args.tries.now.events.ok.0, ap (λ (t : Task). length t.tries) task) in
    order_here walk (at_end_by_test c.len.result walk end (rw (← c.deref.ensures.value) (sym says ∙ c.if-are_at_end.true)))
    (λ no. sym (c.is_ended.ensures g.known.task.script (entries_of (events_in c.args.self.now.path.items)) walk.follows) ∙ is)

pub returns-else-are_at_end-clause-none : goal.returns-else-are_at_end-clause-none
returns-else-are_at_end-clause-none g c is order =
    let task : g.known.task ≡ task_of g.known.task.script c.args.prefix c.args.tries.now = c.requires.0 in
    let walk : IsWalk g.known c.args.self.now = c.requires.1 in
    let says : c.are_at_end.result ≡ list_all (λ head. nat_le c.len.result head) c.deref.result.now = c.are_at_end.ensures in
    let end : c.len.result ≡ length g.known.task.tries = omega (arith, c.len.ensures, c.args.tries.now.events.ok.0, ap (λ (t : Task). length t.tries) task) in
    let passes = at_end_passes c.len.result walk end (ends_at_order walk order) in
    let heads = c.deref.ensures.value in
    absurd cc

pub returns-else-prefix-clause-none : goal.returns-else-prefix-clause-none
returns-else-prefix-clause-none g c is order =
    let task : g.known.task ≡ task_of g.known.task.script c.args.prefix c.args.tries.now = c.requires.0 in
    let walk : IsWalk g.known c.args.self.now = c.requires.1 in
    let no : g.known.task.prefix ≡ false = ap (λ (t : Task). t.prefix) task ∙ c.if-prefix.false in
    true≢false (sym (order.ended no) ∙ sym (c.is_ended.ensures g.known.task.script (entries_of (events_in c.args.self.now.path.items)) walk.follows) ∙ is)
