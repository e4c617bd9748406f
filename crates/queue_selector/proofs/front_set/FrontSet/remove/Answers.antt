use Rattle.std.proofs.Common.{◌==◌, not, rules, refl}
use Rattle.std.proofs.lemmas.Fn.{filter_same}
use Rattle.queue_selector.proofs.front_set.FrontSet.remove.Goals as goal

pub returns : goal.returns
returns c = rw (
  ← c.self.view_is,
  filter_same _ (λ entry. not (entry.order == c.args.order)) _ (λ entry kept f h. search rules) _ _ c.retain.ensures.filtered,
  c.retain.ensures.capacity,
) refl
