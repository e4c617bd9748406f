use Rattle.std.proofs.Common.{◌<◌, ◌≡◌, ◌%◌, ◌∷◌, [], ◌++◌, ◌∙◌, ap, lit<}
use Rattle.std.proofs.lemmas.List.Elements.{All-push}
use Rattle.std.proofs.Math.Nat.{mod-lt}
use Rattle.natural_number.proofs.Numbers.{pushed}
use Rattle.natural_number.proofs.natural.Natural.new.Goals as goal

pub loop-rest-preserved : goal.loop-rest-preserved
loop-rest-preserved c =
    let after : c.push.new.self.items ≡ c.loop-rest.limbs.items ++ c.loop-rest.rest % 1000000000 ∷ [] =
    c.in_ok-push.ensures.items ∙ ap (λ d. c.loop-rest.limbs.items ++ c.loop-rest.rest % d ∷ []) c.from.ensures in (
      rw c.from-rest.ensures
          (pushed 1000000000 c.loop-rest.limbs.items c.push.new.self.items c.loop-rest.rest c.args.number (lit< tt) after c.loop-rest.invariant.0),
      rw after (All-push (λ limb. limb < 1000000000) c.loop-rest.limbs.items (c.loop-rest.rest % 1000000000) c.loop-rest.invariant.1 (mod-lt
          c.loop-rest.rest (lit< tt))),
    )
