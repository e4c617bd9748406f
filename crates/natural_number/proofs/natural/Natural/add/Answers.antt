use Rattle.std.proofs.Common.{◌+◌, ◌-◌, ◌≡◌, ◌<◌, ◌++◌, take, ◌∙◌, ap, arith, lit≤, refl, sym, vec_len}
use Rattle.std.specs.Prelude.{replicate}
use Rattle.std.proofs.lemmas.List.Elements.{All-same}
use Rattle.natural_number.specs.Limbs.{number_of}
use Rattle.natural_number.proofs.Numbers.{number-lent, number-padded, room_for_sum}
use Rattle.natural_number.proofs.natural.Natural.add.Goals as goal

pub add_limbs-requires-clause-room : goal.add_limbs-requires-clause-room
add_limbs-requires-clause-room c =
    room_for_sum 1000000000 c.self.inside.limbs.items c.as_slice.result.now c.as_mut_slice.result.now (c.max-len.result + 1) (c.max-len.result + 1 -
    vec_len c.self.inside.limbs)
    (lit≤ tt) c.self.invariant (All-same (λ limb. limb < 1000000000) c.as_slice.result.now c.other.inside.limbs.items c.as_slice.ensures.value
    c.other.invariant)
    (c.as_mut_slice.ensures.value ∙ c.in_ok-resize.ensures.items) (c.as_mut_slice.ensures.len ∙ c.in_ok-resize.ensures.len) (omega arith) (omega arith)

pub returns-clause-ok : goal.returns-clause-ok
returns-clause-ok c =
    let padded : c.as_mut_slice.result.now
    ≡ take (c.max-len.result + 1) c.self.inside.limbs.items ++ replicate (c.max-len.result + 1 - vec_len c.self.inside.limbs) 0 =
    c.as_mut_slice.ensures.value ∙ c.in_ok-resize.ensures.items in
    c.trim.ensures.value
    ∙ number-lent 1000000000 _ c.add_limbs.new.limbs _ c.resize.new.self.len refl (sym c.as_mut_slice.ensures.len ∙ sym c.add_limbs.auto.limbs)
    ∙ c.add_limbs.ensures.value
    ∙ ap (λ n. n + number_of c.as_slice.result.now)
    (number-padded 1000000000 c.self.inside.limbs.items c.as_mut_slice.result.now (c.max-len.result + 1)
    (c.max-len.result + 1 - vec_len c.self.inside.limbs) padded (omega arith) ∙ c.self.view_is)
    ∙ ap (λ n. c.args.self.now + n) (ap number_of c.as_slice.ensures.value ∙ c.other.view_is)
