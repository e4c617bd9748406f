-- The first event of a seat, where events are gone through from the first on.
-- Cited by `next_of`.
use Rattle.std.proofs.Common.{◌≡◌, ℕ, ◌+◌, ◌<◌, Bool, true, false, List, [], ◌∷◌, ap, get_or, length, refl, sym, take, drop, ◌∙◌, Some, None}
use Rattle.std.specs.Prelude.{find}
use Rattle.std.proofs.lemmas.List.{take_more, take-append-drop}
use Rattle.std.proofs.lemmas.List.Folds.{find-append}
use Rattle.order_model.specs.declared.event.Event.{Event}

-- none did yet, nor does the next one
pub none_more : (test : Event → Bool) (rest : List Event) (i : ℕ) (d : Event) → i < length rest → find test (take i rest) ≡ None
    → test (get_or rest i d) ≡ false → find test (take (i + 1) rest) ≡ None
none_more test rest i d below none fails =
    rw (take_more rest i d below, find-append test (take i rest) (get_or rest i d ∷ []), none, fails) refl

-- none did yet, and this one does
pub found_here : (test : Event → Bool) (rest : List Event) (i : ℕ) (d : Event) → i < length rest → find test (take i rest) ≡ None
    → test (get_or rest i d) ≡ true → find test rest ≡ Some (get_or rest i d)
found_here test rest i d below none passes =
    let here : find test (take (i + 1) rest) ≡ Some (get_or rest i d) =
    rw (take_more rest i d below, find-append test (take i rest) (get_or rest i d ∷ []), none, passes) refl in
    ap (find test) (sym (take-append-drop (i + 1) rest)) ∙ find-append test (take (i + 1) rest) (drop (i + 1) rest) ∙ rw here refl
