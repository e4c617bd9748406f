-- There is at most one legal log.
-- Cited by `laws.rt`.
use Rattle.std.proofs.Common.{◌≡◌, List, [], ◌∷◌, ◌++◌, refl, sym, ap, ◌∙◌, subst, None, append_assoc, append-nil}
use Rattle.std.proofs.lemmas.Option.{none-some}
use Rattle.list_laws.proofs.Values.{some-injective}
use Rattle.nested_loop.specs.Plan.{NestPlan}
use Rattle.nested_loop.specs.Nest.{ComesAfter, IsLegalNest, next_event}
use Rattle.nested_loop.specs.declared.event.Event.{Event}

same_from : (nest : NestPlan) (past xs ys : List Event) → ComesAfter nest past xs → next_event nest (past ++ xs) ≡ None → ComesAfter nest past ys
    → next_event nest (past ++ ys) ≡ None → xs ≡ ys
same_from nest past [] [] h e k f = refl
same_from nest past [] (y ∷ ys) h e k f = absurd (none-some y (sym e ∙ ap (next_event nest) (append-nil past) ∙ k.0))
same_from nest past (x ∷ xs) [] h e k f = absurd (none-some x (sym f ∙ ap (next_event nest) (append-nil past) ∙ h.0))
same_from nest past (x ∷ xs) (y ∷ ys) h e k f =
    let same = some-injective (sym h.0 ∙ k.0) in
    let more = subst (λ z. ComesAfter nest (past ++ z ∷ []) ys) (sym same) k.1 in
    let ends = subst (λ z. next_event nest ((past ++ z ∷ []) ++ ys) ≡ None) (sym same) (ap (next_event nest) (append_assoc past (y ∷ []) ys) ∙ f) in
    ap (λ z. z ∷ xs) same ∙ ap (λ zs. y ∷ zs)
    (same_from nest (past ++ x ∷ []) xs ys h.1 (ap (next_event nest) (append_assoc past (x ∷ []) xs) ∙ e) more ends)

pub same_logs : (nest : NestPlan) (a b : List Event) → IsLegalNest nest a → IsLegalNest nest b → a ≡ b
same_logs nest a b h k = same_from nest [] a b h.is_past.each h.ends k.is_past.each k.ends
