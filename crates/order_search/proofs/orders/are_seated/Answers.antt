use Rattle.std.proofs.Common.{◌≡◌, ap, sym, ◌∙◌}
use Rattle.std.specs.Prelude.{nat_le}
use Rattle.std.specs.List.{list_all}
use Rattle.task_base.specs.Plan.{Plan}
use Rattle.order_model.specs.declared.event.Event.{Event}
use Rattle.order_search.proofs.EachKind.{none_of_kind}
use Rattle.order_search.proofs.Seated.{seated_by_test}
use Rattle.order_search.proofs.orders.are_seated.Goals as goal

pub returns : goal.returns
returns c =
    let says : c.are_below.result ≡ list_all (λ (e : Event). nat_le e.entry.seat c.script.inside.workers) c.args.seen.now = c.are_below.ensures in
    let tells : c.are_below.result ≡ list_all (λ (e : Event). nat_le e.entry.seat c.args.script.now.workers) c.args.seen.now =
    says ∙ ap (λ (p : Plan). list_all (λ (e : Event). nat_le e.entry.seat p.workers) c.args.seen.now) c.script.view_is in
    record {
      tells = tells;
      seated = λ is. seated_by_test c.args.script.now.workers c.args.seen.now (sym tells ∙ is);
      none = λ is kind prefix. none_of_kind kind c.args.script.now prefix c.args.seen.now (sym tells ∙ is);
    }
