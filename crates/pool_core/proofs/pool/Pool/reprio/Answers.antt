use Rattle.pool_core.proofs.Calls.Reprio.{stands_at_same, stands_moved}
use Rattle.std.proofs.Common.{arith, refl, rules, sym, ◌∙◌}
use Rattle.std.proofs.lemmas.List.{get_or_read}
use Rattle.task_traits.specs.contracts.traits.Priority.{the_type}
use Rattle.task_traits.specs.declared.traits.Priority.TheVariants.{BestEffort}
use denote.Enum.Bare.{same_true}
use Rattle.pool_core.proofs.pool.Pool.reprio.Goals as goal

pub place_anew-requires : goal.place_anew-requires
place_anew-requires c = (
  c.requires.0,
  c.requires.1,
  c.args.self.now,
  record { knows = c.requires.2; priority = c.args.priority; others = refl; given = refl },
)

pub returns-then-eq : goal.returns-then-eq
returns-then-eq c script past seat knows =
    let pool = c.args.self.now in
    stands_at_same script past pool seat c.args.runner c.args.priority knows
    (sym (get_or_read pool.priorities.items c.args.runner c.index.result.now (omega (arith, knows.declared, knows.stands.priorities.all)) c.index.ensures
    BestEffort) ∙ same_true the_type (search rules) _ _ (sym c.if-eq.ensures))

pub returns : goal.returns
returns c script past seat knows = stands_moved script past c.args.self.now _ seat c.args.runner c.args.priority knows
    (c.place_anew.ensures script past c.args.self.now (record { knows = knows; priority = c.args.priority; others = refl; given = refl }))
