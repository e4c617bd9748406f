use Rattle.std.proofs.Common.{None, ap, arith, ◌∙◌, ◌≡◌}
use Rattle.std.proofs.lemmas.List.{get_or_read}
use Rattle.std.specs.Prelude.{unwrap_or}
use Rattle.pool_core.proofs.Listed.{apart_popped, first_there, others_popped, own_popped, taken_where}
use Rattle.pool_core.specs.TaskLists.{after_of}
use Rattle.pool_core.proofs.task_lists.TaskLists.pop.Goals as goal

pub index-requires : goal.index-requires
index-requires c = omega (
  arith,
  first_there (taken_where _ _ c.args.list c.index-line.result.now c.self.view_is c.self.invariant c.requires c.index-line.ensures
      (omega (arith, c.if-line-eq0.false))),
  c.self.inside.after.ok.0,
)

pub index_mut-requires : goal.index_mut-requires
index_mut-requires c = omega (
  arith,
  first_there (taken_where _ _ c.args.list c.index-line.result.now c.self.view_is c.self.invariant c.requires c.index-line.ensures
      (omega (arith, c.if-line-eq0.false))),
  c.self.inside.after.ok.0,
)

pub invariant_of-self : goal.invariant_of-self
invariant_of-self c =
    let taken = taken_where _ _ c.args.list c.index-line.result.now c.self.view_is c.self.invariant c.requires c.index-line.ensures
    (omega (arith, c.if-line-eq0.false)) in
    let next : c.unwrap_or-first.result ≡ after_of c.self.inside.after.items c.index-line.result.now.first = c.unwrap_or-first.ensures
    ∙ ap (λ o. unwrap_or o 0) (get_or_read c.self.inside.after.items c.index-line.result.now.first c.index.result.now (first_there taken) c.index.ensures None) in
    rw next (apart_popped taken)

pub returns-clause-popped : goal.returns-clause-popped
returns-clause-popped c =
    let taken = taken_where _ _ c.args.list c.index-line.result.now c.self.view_is c.self.invariant c.requires c.index-line.ensures
    (omega (arith, c.if-line-eq0.false)) in
    let next : c.unwrap_or-first.result ≡ after_of c.self.inside.after.items c.index-line.result.now.first = c.unwrap_or-first.ensures
    ∙ ap (λ o. unwrap_or o 0) (get_or_read c.self.inside.after.items c.index-line.result.now.first c.index.result.now (first_there taken) c.index.ensures None) in
    rw (← c.self.view_is, next) (own_popped taken, others_popped taken)

pub returns-clause-apart : goal.returns-clause-apart
returns-clause-apart c =
    let taken = taken_where _ _ c.args.list c.index-line.result.now c.self.view_is c.self.invariant c.requires c.index-line.ensures
    (omega (arith, c.if-line-eq0.false)) in
    let next : c.unwrap_or-first.result ≡ after_of c.self.inside.after.items c.index-line.result.now.first = c.unwrap_or-first.ensures
    ∙ ap (λ o. unwrap_or o 0) (get_or_read c.self.inside.after.items c.index-line.result.now.first c.index.result.now (first_there taken) c.index.ensures None) in
    rw next (apart_popped taken)
