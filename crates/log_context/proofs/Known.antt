-- The posts that are looked for, one entry further.
-- Cited by `known_in`.
use Rattle.std.proofs.Common.{◌≡◌, ℕ, ◌+◌, ◌<◌, List, [], ◌∷◌, ◌++◌, ap, get_or, length, sym, take, ◌∙◌}
use Rattle.std.proofs.lemmas.List.{take_more}
use Rattle.task_base.specs.Plan.{Plan}
use Rattle.task_base.specs.declared.entry.Entry.{Entry}
use Rattle.task_model.proofs.Growth.{fold_past-push}
use Rattle.log_context.specs.Sought.{known_after, known_in}
use Rattle.log_context.specs.declared.fact.Fact.{Fact}
use Rattle.log_context.specs.declared.sought.Sought.{Sought}

known_in_push : (script : Plan) (past : List Entry) (sought : Sought) (part : List Entry) (e : Entry)
    → known_in script past sought (part ++ e ∷ []) ≡ known_after script past sought part (known_in script past sought part) e
unfolding known_in
known_in_push script past sought part e = fold_past-push (known_after script past sought) [] part e

-- what is known, one entry further
pub known_more : (script : Plan) (past : List Entry) (sought : Sought) (i : ℕ) (d : Entry) (old new : List Fact) → i < length past
    → old ≡ known_in script past sought (take i past) → new ≡ known_after script past sought (take i past) old (get_or past i d)
    → new ≡ known_in script past sought (take (i + 1) past)
known_more script past sought i d old new below is goes = rw (take_more past i d below)
    (goes ∙ ap (λ (o : List Fact). known_after script past sought (take i past) o (get_or past i d)) is
    ∙ sym (known_in_push script past sought (take i past) (get_or past i d)))
