use Rattle.std.proofs.Common.{subst, sym, ap, ◌∙◌, ◌≡◌, [], ◌∷◌, ◌++◌, Some}
use Rattle.atomic_table.specs.Table.{opening}
use Rattle.turn_table.specs.Turn.{TurnHolds}
use Rattle.turn_table.specs.Views.{first_view}
use Rattle.turn_table.proofs.Steps.{opens}
use Rattle.turn_table.proofs.turnstile.Turnstile.new.Goals as goal

pub new-requires : goal.new-requires
new-requires g c =
    let h = g.V.Chronicle.history in
    let b = g.V.Chronicle.basis in
    let slots : c.push_reserved.new.self.items ≡ Some c.args.value ∷ [] =
    c.push_reserved.ensures.items ∙ ap (λ l. l ++ Some c.args.value ∷ []) (c.in-Ok.ensures.items) in
    subst (λ x. TurnHolds h b (b x) (opening (0 ∷ 1 ∷ 0 ∷ []) c.push_reserved.new.self.items (first_view (b x)))) (sym c.of-about.ensures)
    (subst (λ l. TurnHolds h b (b c.args.value) (opening (0 ∷ 1 ∷ 0 ∷ []) l (first_view (b c.args.value)))) (sym slots)
    (opens h b c.args.value c.requires.empty))
