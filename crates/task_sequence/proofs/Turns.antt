-- A list whose tasks go, one after the other, from the front to the end where they pass a test.
-- Cited by `purge_list`, `Held`.
use Rattle.std.proofs.Common.{◌≡◌, ℕ, suc, ◌+◌, ◌<◌, Bool, List, [], ◌∷◌, ◌++◌, append_assoc, length}
use Rattle.std.proofs.Common.{take, drop, get_or, sym, ap, ◌∙◌, Option, drop-cons, add-one, arith}
use Rattle.std.specs.Prelude.{filter}
use Rattle.std.proofs.lemmas.List.{take_more}
use Rattle.std.proofs.lemmas.List.Elements.{filter-append}
use Rattle.task_sequence.specs.Links.{KeepsOthers, Has}
use Rattle.task_sequence.specs.Sequences.{Waiting}
use Rattle.task_sequence.specs.declared.links.Node.{Node}
use Rattle.task_sequence.specs.declared.links.Ends.{Ends}

-- so many tasks as the count says
pub length-tasks : (slots : List (Option Node)) (ends : Ends) (ws : List Waiting) → Has slots ends ws → ends.count ≡ length ws
length-tasks slots ends [] h = h
length-tasks slots ends (w ∷ ws) h = h.0

-- what two changes after one another keep
pub KeepsOthers-trans : (old mid new : List (Option Node)) (first second third : Ends)
    → KeepsOthers old first mid second → KeepsOthers mid second new third → KeepsOthers old first new third
KeepsOthers-trans old mid new first second third f g other is apart =
    let a = f other is apart in
    let b = g other a.linked a.apart in
    record { linked = b.linked; same = b.same ∙ a.same; apart = b.apart }

-- one more is turned, and d stands for what is nowhere
turned-next : {A : Type 0} (test : A → Bool) (xs : List A) (i : ℕ) (d : A) → i < length xs
    → drop 1 (drop i xs ++ filter test (take i xs)) ++ filter test (take 1 (drop i xs ++ filter test (take i xs)))
    ≡ drop (i + 1) xs ++ filter test (take (i + 1) xs)
turned-next test xs i d within =
    let front = drop-cons xs i d within in
    let kept = filter test (take i xs) in
    let one = filter test (get_or xs i d ∷ []) in
    ap (λ l. drop 1 (l ++ kept) ++ filter test (take 1 (l ++ kept))) front
    ∙ append_assoc (drop (suc i) xs) kept one
    ∙ ap (λ l. drop (suc i) xs ++ l) (sym (filter-append test (take i xs) (get_or xs i d ∷ [])) ∙ ap (filter test) (sym (take_more xs i d within)))
    ∙ ap (λ n. drop n xs ++ filter test (take (i + 1) xs)) (sym (add-one i))

-- one more is turned
pub turned-step : {A : Type 0} (test : A → Bool) (xs : List A) (i : ℕ) → i < length xs
    → drop 1 (drop i xs ++ filter test (take i xs)) ++ filter test (take 1 (drop i xs ++ filter test (take i xs)))
    ≡ drop (i + 1) xs ++ filter test (take (i + 1) xs)
turned-step test [] i within = absurd (omega arith)
turned-step test (x ∷ xs) i within = turned-next test (x ∷ xs) i x within
