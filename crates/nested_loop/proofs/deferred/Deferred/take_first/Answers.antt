use Rattle.std.proofs.Common.{drop, sym, ap, ◌∙◌}
use Rattle.std.proofs.lemmas.List.{drop-drop}
use Rattle.nested_loop.proofs.deferred.Deferred.take_first.Goals as goal

pub returns-clause-items : goal.returns-clause-items
returns-clause-items c = sym (drop-drop 1 c.self.inside.started c.self.inside.tasks.items) ∙ ap (λ xs. drop 1 xs.items) c.self.view_is
