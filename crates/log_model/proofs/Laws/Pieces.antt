-- Pieces of text, parted or ended by a byte that none of them has.
-- Cited by `Laws/LogJsons`, `Laws/LogLines`, `Laws/LogParts`, `Laws/LogTexts`, `event_text`, `run_log`.
use Rattle.std.proofs.Common.{◌≡◌, ◌≢◌, ℕ, List, [], ◌∷◌, ◌++◌, refl, sym, ap}
use Rattle.std.specs.List.{AllByRecursion, join_with_byte}

-- the byte is nowhere in the piece
abbrev pub Lacks : ℕ → List ℕ → Type 0
Lacks c piece = AllByRecursion (λ b. b ≢ c) piece

-- two pieces that lack the byte lack it together
pub Lacks-append : (c : ℕ) (x y : List ℕ) → Lacks c x → Lacks c y → Lacks c (x ++ y)
Lacks-append c [] y p q = q
Lacks-append c (b ∷ x) y p q = (p.0, Lacks-append c x y p.1 q)

-- a text tells what stands before the first such byte, and what stands behind it
pub same_until : (c : ℕ) (x y s t : List ℕ) → Lacks c x → Lacks c y → x ++ c ∷ s ≡ y ++ c ∷ t → (x ≡ y) × (s ≡ t)
same_until c [] [] s t p q e = (refl, cc)
same_until c [] (b ∷ y) s t p q e = absurd (q.0 cc)
same_until c (a ∷ x) [] s t p q e = absurd (p.0 cc)
same_until c (a ∷ x) (b ∷ y) s t p q e =
    let rest = same_until c x y s t p.1 q.1 cc in
    let same : a ≡ b = cc in
    let same_rest : x ≡ y = rest.0 in
    (cc, rest.1)

-- a piece that lacks the byte is no text in which the byte stands
pub not_parted : (c : ℕ) (x y s : List ℕ) → Lacks c x → x ≢ y ++ c ∷ s
not_parted c [] [] s p e = cc
not_parted c [] (b ∷ y) s p e = cc
not_parted c (a ∷ x) [] s p e = p.0 cc
not_parted c (a ∷ x) (b ∷ y) s p e = not_parted c x y s p.1 cc

-- the joined text of one or more pieces that lack the byte tells the pieces
pub same_pieces : (c : ℕ) (x y : List ℕ) (xs ys : List (List ℕ)) → AllByRecursion (Lacks c) (x ∷ xs) → AllByRecursion (Lacks c) (y ∷ ys)
    → join_with_byte c (x ∷ xs) ≡ join_with_byte c (y ∷ ys) → x ∷ xs ≡ y ∷ ys
same_pieces c x y [] [] p q e = ap (λ piece. piece ∷ []) e
same_pieces c x y [] (v ∷ ys) p q e = absurd (not_parted c x y (join_with_byte c (v ∷ ys)) p.0 e)
same_pieces c x y (u ∷ xs) [] p q e = absurd (not_parted c y x (join_with_byte c (u ∷ xs)) q.0 (sym e))
same_pieces c x y (u ∷ xs) (v ∷ ys) p q e =
    let cut = same_until c x y (join_with_byte c (u ∷ xs)) (join_with_byte c (v ∷ ys)) p.0 q.0 e in
    let first : x ≡ y = cut.0 in
    let rest : u ∷ xs ≡ v ∷ ys = same_pieces c u v xs ys p.1 q.1 cut.1 in
    cc
