use Rattle.std.proofs.Common.{◌≡◌, ◌<◌, Some, ap, subst, sym, ◌∙◌, arith}
use Rattle.queue_selector.specs.Fronts.{most_delayed}
use Rattle.queue_selector.specs.Selecting.{Selecting, choice}
use Rattle.queue_selector.proofs.Choice.{short}
use Rattle.queue_selector.proofs.selector.Selector.streak_after.Goals as goal

pub overflow_add-result : goal.overflow_add-result
overflow_add-result c =
    let less : c.args.self.now.streak < most_delayed = short c.args.self.now c.args.queue
    (subst (λ lane. choice c.args.self.now ≡ Some (c.args.queue, lane)) c.in-Delayed.is c.requires)
    (sym c.immediate_is_open.ensures ∙ c.if-immediate_is_open.true) in
    omega (arith, less, ap (λ (s : Selecting). s.streak) c.self.view_is)
