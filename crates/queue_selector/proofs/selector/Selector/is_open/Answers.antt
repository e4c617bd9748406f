use Rattle.std.proofs.Common.{◌≡◌, ℕ, Bool, true, false, List, Option, ap, sym, ◌∙◌}
use Rattle.std.specs.Prelude.{is_some, ◌||◌, ◌==◌}
use Rattle.std.specs.List.{list_any}
use Rattle.task_base.specs.declared.script.Lane.TheVariants.{Immediate, Delayed}
use Rattle.queue_selector.specs.declared.front.Front.{Front}
use Rattle.queue_selector.specs.Selecting.{open_fronts}
use Rattle.queue_selector.specs.Sorted.{first_of}
use Rattle.queue_selector.proofs.Choice.{open_is}
use Rattle.queue_selector.proofs.selector.Selector.is_open.Goals as goal

either : (class : ℕ) (fronts : List Front) (first : Option Front) (b : Bool) → b ≡ is_some first → first ≡ first_of class Immediate fronts
    → (b || is_some (first_of class Delayed fronts)) ≡ list_any (λ front. front.class == class) fronts
either class fronts first b is first_is = ap (λ b. b || is_some (first_of class Delayed fronts)) (is ∙ ap is_some first_is) ∙ open_is class fronts

pub returns-then-is_some : goal.returns-then-is_some
returns-then-is_some c =
    c.if-is_some.true
    ∙ either c.args.class (open_fronts c.args.self.now) c.first.result true (sym c.if-is_some.true ∙ c.is_some.ensures) c.first.ensures

pub returns-else-is_some : goal.returns-else-is_some
returns-else-is_some c =
    c.is_some-else-is_some.ensures
    ∙ ap is_some c.first-else-is_some.ensures
    ∙ either c.args.class (open_fronts c.args.self.now) c.first.result false (sym c.if-is_some.false ∙ c.is_some.ensures) c.first.ensures
