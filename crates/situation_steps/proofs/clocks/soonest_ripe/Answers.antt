use Rattle.std.proofs.Common.{◌≡◌, ℕ, ◌<◌, Bool, List, [], Option, Some, filter, length, get_or, arith, ap, ◌∙◌}
use Rattle.std.specs.List.{filter_map}
use Rattle.std.specs.Prelude.{nat_lt}
use Rattle.std.proofs.lemmas.List.{take_all}
use Rattle.list_laws.specs.Lists.{keep, least}
use Rattle.situation.specs.Situation.{Unripe}
use Rattle.situation_steps.specs.Sources.{better_of}
use Rattle.situation_steps.proofs.Best.{filter_map-always, least_over}
use Rattle.situation_steps.proofs.clocks.soonest_ripe.Goals as goal

pub loop-task-preserved : goal.loop-task-preserved
loop-task-preserved c =
    let p : ℕ → Bool = λ m. nat_lt c.args.moment m in
    let xs = c.args.tasks.now in
    let i = c.loop-task.task-index in
    let within : i < length xs = omega arith in
    let same : c.task.inside.ripe ≡ (get_or xs i c.task-item.result).ripe = ap (λ (u : Unripe). u.ripe) (c.task.view_is ∙ c.task-item.is) in
    c.sooner-next.ensures
    ∙ ap (λ (o : Option ℕ). better_of nat_lt c.loop-task.next o) (c.ahead.ensures ∙ ap (λ (r : ℕ). keep p (Some r)) same)
    ∙ least_over nat_lt p [] (λ (u : Unripe). Some u.ripe) xs i c.task-item.result c.loop-task.next within c.loop-task.invariant

pub returns : goal.returns
returns c =
    let p : ℕ → Bool = λ m. nat_lt c.args.moment m in
    let xs = c.args.tasks.now in
    c.loop-task.invariant
    ∙ ap (λ (ys : List Unripe). least nat_lt (filter p (filter_map (λ u. Some u.ripe) ys))) (take_all c.loop-task.task-index xs (omega arith))
    ∙ ap (λ (ys : List ℕ). least nat_lt (filter p ys)) (filter_map-always (λ (u : Unripe). u.ripe) xs)
