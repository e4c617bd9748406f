use Rattle.std.proofs.Common.{◌≡◌, ℕ, ◌<◌, true, length, below_more, get_or, sym, ap, ◌∙◌, arith}
use Rattle.std.proofs.lemmas.List.{get_or_default}
use Rattle.situation_steps.proofs.SameLists.{same_list-at, same_list-each, same_list-longer}
use Rattle.situation_steps.proofs.same.same_lists.Goals as goal

pub returns-then-one-other : goal.returns-then-one-other
returns-then-one-other g c = sym (same_list-longer g.T.Same.same c.args.one.now c.args.other.now c.if-one-other.true)

pub loop-place-preserved : goal.loop-place-preserved
loop-place-preserved g c =
    let xs = c.args.one.now in
    let ys = c.args.other.now in
    let i = c.loop-place.place in
    let P : ℕ → Type 0 = λ k. (d e : g.row.T.Denot) → g.T.Same.same (get_or xs k d) (get_or ys k e) ≡ true in
    let in_xs : i < length xs = omega arith in
    let in_ys : i < length ys = omega (arith, c.if-one-other.false) in
    below_more P i c.loop-place.invariant (λ d e.
    ap (λ (x : g.row.T.Denot). g.T.Same.same x (get_or ys i e)) (get_or_default xs i d c.index-one-place.result in_xs ∙ sym c.index-one-place.is)
    ∙ ap (λ (y : g.row.T.Denot). g.T.Same.same c.index-one-place.result y) (get_or_default ys i e c.index-other-place.result in_ys ∙ sym c.index-other-place.is)
    ∙ sym c.is_same.ensures ∙ c.if-not-is_same.false)

pub returns-then-not-is_same : goal.returns-then-not-is_same
returns-then-not-is_same g c = sym (same_list-at g.T.Same.same c.args.one.now c.args.other.now c.loop-place.place c.index-one-place.result
    c.index-other-place.result (omega arith) c.if-one-other.false
    (ap (λ (x : g.row.T.Denot). g.T.Same.same x (get_or c.args.other.now c.loop-place.place c.index-other-place.result)) (sym c.index-one-place.is)
    ∙ ap (λ (y : g.row.T.Denot). g.T.Same.same c.index-one-place.result y) (sym c.index-other-place.is)
    ∙ sym c.is_same.ensures ∙ c.if-not-is_same.true))

pub returns : goal.returns
returns g c = sym (same_list-each g.T.Same.same c.args.one.now c.args.other.now c.if-one-other.false
    (λ k within d e. c.loop-place.invariant k (omega (arith, within, c.loop-place-test.false)) d e))
