use Rattle.std.proofs.Common.{◌≡◌, ℕ, rules, ap, sym, ◌∙◌, subst}
use Rattle.std.specs.Option.{option_map}
use Rattle.list_laws.specs.Sorts.{Differ}
use Rattle.task_base.specs.declared.script.Lane.{Lane}
use Rattle.task_base.specs.declared.script.Lane.TheVariants.{Immediate}
use Rattle.queue_selector.specs.Fronts.{order_below}
use Rattle.queue_selector.specs.Selecting.{Selecting, open_fronts}
use Rattle.queue_selector.specs.Sorted.{sooner_of, first_of}
use Rattle.queue_selector.proofs.Choice.{choice_is, none_is}
use Rattle.queue_selector.proofs.selector.Selector.choose.Goals as goal

pub returns-clause-choice : goal.returns-clause-choice
returns-clause-choice c =
    let mapped : c.map.result ≡ option_map {U = ℕ × Lane} (λ front. (front.queue, front.lane)) c.sooner.result = search rules in
    let differ : Differ order_below (open_fronts c.args.self.now) = subst (λ s. Differ order_below (open_fronts s)) c.self.view_is c.self.invariant.differ in
    mapped
    ∙ ap (option_map {U = ℕ × Lane} (λ front. (front.queue, front.lane))) (c.sooner.ensures
    ∙ ap (λ (s : Selecting). sooner_of s.streak c.first-immediate.result c.first-delayed.result) c.self.view_is
    ∙ ap (λ o. sooner_of c.args.self.now.streak o c.first-delayed.result) c.first-immediate.ensures
    ∙ ap (sooner_of c.args.self.now.streak (first_of c.in_ok-class.class Immediate (open_fronts c.args.self.now))) c.first-delayed.ensures
    ∙ choice_is (open_fronts c.args.self.now) c.args.self.now.streak c.in_ok-class.class differ (sym c.in_ok-class.ensures.least))

pub returns-clause-none : goal.returns-clause-none
returns-clause-none c = none_is c.args.self.now c.map.result (subst (λ s. Differ order_below (open_fronts s)) c.self.view_is c.self.invariant.differ)
    (returns-clause-choice c)
