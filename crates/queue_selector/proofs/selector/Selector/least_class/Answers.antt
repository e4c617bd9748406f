use Rattle.std.proofs.Common.{◌≡◌, ◌≤◌, ap, sym, ◌∙◌, arith, subst}
use Rattle.std.specs.List.{AllByRecursion}
use Rattle.queue_selector.specs.Fronts.{least_class}
use Rattle.queue_selector.specs.Selecting.{Selecting, open_fronts}
use Rattle.queue_selector.proofs.Choice.{least_class_is, next_class, no_class}
use Rattle.queue_selector.proofs.selector.Selector.least_class.Goals as goal

pub returns-then-is_open-clause-least : goal.returns-then-is_open-clause-least
returns-then-is_open-clause-least c =
    sym (least_class_is (open_fronts c.args.self.now) c.loop-class.class c.loop-class.invariant (sym c.is_open.ensures ∙ c.if-is_open.true))

pub loop-class-preserved : goal.loop-class-preserved
loop-class-preserved c = next_class (open_fronts c.args.self.now) c.loop-class.class c.loop-class.invariant (sym c.is_open.ensures ∙ c.if-is_open.false)

pub returns-clause-least : goal.returns-clause-least
returns-clause-least c =
    let last : c.loop-class.class ≡ 8 = omega arith in
    sym (ap (λ (s : Selecting). least_class (open_fronts s)) (sym c.self.view_is)
    ∙ no_class c.self.inside.rows.items c.self.invariant.classes (subst (λ s. AllByRecursion (λ f. 8 ≤ f.class) (open_fronts s)) (sym c.self.view_is)
    (subst (λ class. AllByRecursion (λ f. class ≤ f.class) (open_fronts c.args.self.now)) last c.loop-class.invariant)))
