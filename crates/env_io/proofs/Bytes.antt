-- What follows from the words on bytes and counts.
-- Cited by `PieceSourceSource::take`, `put_all`, `app_modes`, `app_streams`, `nested_loop`, `run_log`, `script_text`.
use Rattle.std.proofs.Common.{◌≡◌, ◌≤◌, ◌+◌, ◌-◌, ℕ, List, [], ◌++◌, length, take, drop, Option, None, Some}
use Rattle.std.proofs.Common.{refl, sym, ◌∙◌, ap, arith, append_assoc, append-nil, length-take, take-add}
use Rattle.std.proofs.lemmas.List.{drop-append-le, take-append-drop, take_rest}
use Rattle.std.specs.Option.{option_map}
use Rattle.env_io.specs.Bytes.{Gives, Gains}

-- two pieces that came one after the other are one piece
pub Gives-trans : (a b c : Option (List ℕ)) (p q : List ℕ) → Gives a p b → Gives b q c → Gives a (p ++ q) c
Gives-trans a b None p q first second = first ∙ ap (option_map (λ rest. p ++ rest)) second
Gives-trans a b (Some z) p q first second =
    first ∙ ap (option_map (λ rest. p ++ rest)) second ∙ ap Some (sym (append_assoc p q z))

-- no piece was taken, and nothing changed
pub Gains-nil : (a : Option (List ℕ)) → Gains a [] a
Gains-nil None told = refl
Gains-nil (Some x) told = ap Some (sym (append-nil x))

-- two pieces that were taken one after the other are one piece
pub Gains-trans : (a b c : Option (List ℕ)) (p q : List ℕ) → Gains a p b → Gains b q c → Gains a (p ++ q) c
Gains-trans a None c p q first second told = let lost : c ≡ None = second told in cc
Gains-trans None (Some y) c p q first second told = let lost : Some y ≡ None = first refl in cc
Gains-trans (Some x) (Some y) c p q first second told =
    second told ∙ ap (option_map (λ held. held ++ q)) (first refl) ∙ ap Some (append_assoc x p q)

-- a front of the rest of a piece was taken after a front of the piece
pub gains_more : (a b c : Option (List ℕ)) (piece : List ℕ) (done n : ℕ) → Gains a (take done piece) b
    → Gains b (take n (take (length piece - done) (drop done piece))) c → Gains a (take (done + n) piece) c
gains_more a b c piece done n first second =
    rw (take-add done n piece) (Gains-trans a b c (take done piece) (take n (drop done piece)) first (rw (take_rest piece done) at second))

-- a front of a part of a slice was written: what stands behind it is as it was
pub rest_of_slice : (written slice : List ℕ) (n most : ℕ) → n ≤ most → most ≤ length slice
    → (written ++ drop n (take most slice)) ++ drop most slice ≡ written ++ drop n slice
rest_of_slice written slice n most front within =
    let inside : n ≤ length (take most slice) = omega (arith, length-take most slice) in
    append_assoc written _ _
    ∙ ap (λ rest. written ++ rest) (sym (drop-append-le n (take most slice) (drop most slice) inside) ∙ ap (drop n) (take-append-drop most slice))
