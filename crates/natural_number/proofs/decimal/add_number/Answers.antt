use Rattle.std.proofs.Common.{◌≡◌, ◌+◌, ◌-◌, ◌||◌, get_or, ltb, subst, arith, ℕ, refl}
use Rattle.natural_number.proofs.Texts.{IsBegun, limb_added, some_more}
use Rattle.natural_number.proofs.decimal.add_number.Goals as goal

pub loop-i-preserved : goal.loop-i-preserved
loop-i-preserved c =
    let place : c.loop-i.i ≡ c.loop-i.i - 1 + 1 = omega arith in
    limb_added c.args.text.now.items c.loop-i.text.items c.add_limb.new.text.items c.args.limbs.now (c.loop-i.i - 1)
    (get_or c.args.limbs.now (c.loop-i.i - 1) 0) c.loop-i.begun (c.loop-i.begun || ltb 0 (get_or c.args.limbs.now (c.loop-i.i - 1) 0))
    (omega arith) refl (c.requires (c.loop-i.i - 1) 0 (omega arith))
    (subst (λ (i : ℕ). IsBegun c.args.text.now.items c.loop-i.text.items c.args.limbs.now i c.loop-i.begun) place c.loop-i.invariant)
    c.in_ok-add_limb.ensures (some_more c.loop-i.begun (get_or c.args.limbs.now (c.loop-i.i - 1) 0))
