-- Pasts in the same situation have the same futures.
-- Cited by `moves.rt`.
use Rattle.std.proofs.Common.{◌≡◌, true, leb, List, [], ◌∷◌, ◌++◌, refl, sym, ap, subst, ◌∙◌, append_assoc}
use Rattle.std.proofs.lemmas.Bool.{and_parts, and_from, leb-true}
use Rattle.std.proofs.lemmas.List.{append-nil}
use Rattle.task_base.specs.Plan.{Plan}
use Rattle.task_base.specs.declared.entry.Entry.{Entry}
use Rattle.task_base.specs.declared.entry.Kind.{Kind}
use Rattle.script_model.specs.Laws.Sound.{IsSound}
use Rattle.hist_model.specs.Allowed.{IsAllowed, may_come}
use Rattle.hist_model.specs.Legal.{IsLegal}
use Rattle.hist_model.proofs.Laws.Legal.{each_is_allowed, legal_next}
use Rattle.situation.specs.Alike.{told_entries, without_items}
use Rattle.situation.specs.Futures.{AlikeFuture}
use Rattle.situation.specs.Situation.{is_pool_script, situation_of}
use Rattle.situation.proofs.Coming.{decides_coming}
use Rattle.situation.proofs.Onward.Whole.{goes_on}

-- what may follow the one, the like of it may follow the other, and both come to one situation
pub same_futures : (script : Plan) (past other rest : List Entry) → IsSound script → is_pool_script script ≡ true → IsLegal script past → IsLegal script other
    → situation_of script past ≡ situation_of script other → IsLegal script (past ++ rest) → AlikeFuture script past other rest
same_futures script past other [] sound pool legal legal_other same longer = record {
  like = [];
  alike = refl;
  legal = subst (IsLegal script) (sym (append-nil other)) legal_other;
  same = ap (situation_of script) (append-nil past) ∙ same ∙ ap (situation_of script) (sym (append-nil other));
}
same_futures script past other (x ∷ rest) sound pool legal legal_other same longer =
    let allowed : IsAllowed script past x = each_is_allowed script past x rest longer in
    let parts = and_parts (leb x.seat script.workers) (may_come script past x.seat x.kind) allowed in
    let coming = decides_coming script past other sound pool legal legal_other same x.seat x.kind (leb-true x.seat script.workers parts.0) parts.1 in
    begin coming.0 coming.1 (and_from _ _ parts.0 coming.2)
    (λ y told allowed_y. same_futures script (past ++ x ∷ []) (other ++ y ∷ []) rest sound pool (legal_next script past x legal allowed)
    (legal_next script other y legal_other allowed_y) told (subst (IsLegal script) (sym (append_assoc past (x ∷ []) rest)) longer))
    (λ kind alike allowed_y. goes_on script past other x (record { seat = x.seat; kind = kind }) sound pool legal legal_other same refl alike allowed allowed_y)
  where
    begin : (kind : Kind) → without_items x.kind ≡ without_items kind → IsAllowed script other (record { seat = x.seat; kind = kind })
        → ((y : Entry) → situation_of script (past ++ x ∷ []) ≡ situation_of script (other ++ y ∷ []) → IsAllowed script other y
        → AlikeFuture script (past ++ x ∷ []) (other ++ y ∷ []) rest)
        → ((k : Kind) → without_items x.kind ≡ without_items k → IsAllowed script other (record { seat = x.seat; kind = k })
        → situation_of script (past ++ x ∷ []) ≡ situation_of script (other ++ record { seat = x.seat; kind = k } ∷ []))
        → AlikeFuture script past other (x ∷ rest)
    begin kind alike allowed later comes = with (later (record { seat = x.seat; kind = kind }) (comes kind alike allowed) allowed)
      where
        with : AlikeFuture script (past ++ x ∷ []) (other ++ record { seat = x.seat; kind = kind } ∷ []) rest → AlikeFuture script past other (x ∷ rest)
        with future = record {
          like = record { seat = x.seat; kind = kind } ∷ future.like;
          alike = ap (λ k. record { seat = x.seat; kind = k } ∷ told_entries rest) alike
              ∙ ap (λ log. record { seat = x.seat; kind = without_items kind } ∷ log) future.alike;
          legal = subst (IsLegal script) (append_assoc other (record { seat = x.seat; kind = kind } ∷ []) future.like) future.legal;
          same = ap (situation_of script) (sym (append_assoc past (x ∷ []) rest)) ∙ future.same
              ∙ ap (situation_of script) (append_assoc other (record { seat = x.seat; kind = kind } ∷ []) future.like);
        }
