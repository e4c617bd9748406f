use Rattle.std.proofs.Common.{rules, refl, sym, subst, subst₂}
use Rattle.std.specs.Prelude.{IsSome}
use Rattle.turn_table.specs.Closing.{Closing}
use Rattle.turn_table.proofs.Closes.{closes}
use Rattle.turn_table.proofs.turnstile.Turnstile.into_value.Goals as goal

pub unwrap-value-requires : goal.unwrap-value-requires
unwrap-value-requires g c =
    let k = closes _ _ _ _ _ _ _ c.close_with-closed.ensures.values.2 (search rules) (search rules) (search rules) c.args.self c.args.rest.value.items
    c.requires.rest c.requires.all c.requires.kept c.take.result c.take.ensures.value in
    subst IsSome (sym k.slot_is) refl

pub returns : goal.returns
returns g c =
    let k = closes _ _ _ _ _ _ _ c.close_with-closed.ensures.values.2 (search rules) (search rules) (search rules) c.args.self c.args.rest.value.items
    c.requires.rest c.requires.all c.requires.kept c.take.result c.take.ensures.value in
    subst₂ (λ b s. Closing g.V.Chronicle.history g.V.Chronicle.basis b c.args.first.me.0 c.args.rest.value.items s) (search rules) (search rules) k
