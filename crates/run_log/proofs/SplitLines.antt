-- A text that is cut behind each line feed is cut into its lines.
-- Cited by `app_streams`, `log_mistakes`.
use Rattle.std.proofs.Common.{◌≡◌, ◌<◌, ◌+◌, ℕ, min, Bool, Bor, List, ◌++◌, length, Option, MatchOption, refl, sym, ap, subst, ◌∙◌}
use denote.Param.Members.{Mut}
use Rattle.std.specs.Fn.{CalledAt, ComputesKey}
use Rattle.std.specs.List.{IsFirstMatchOrLen}
use Rattle.std.specs.Slice.Iter.{split_inclusive_rest, split_inclusive_callee}
use Rattle.std.specs.declared.slice.SplitInclusive.{SplitInclusive}
use Rattle.std.proofs.lemmas.Fn.{always_returns_same}
use Rattle.std.proofs.lemmas.Iterator.{YieldsList}
use Rattle.std.proofs.lemmas.Iterator.Splits.{YieldsList-from_shown_while}
use Rattle.std.proofs.lemmas.List.{nil_from_length}
use Rattle.run_log.specs.TextLines.{text_lines}
use Rattle.run_log.proofs.LinesOfText.{is_feed, text_lines-part}

-- what `next` of `split_inclusive` does
abbrev pub Cuts : {F : Type 0} → Mut F (Bor ℕ × Unit {0}) Bool → SplitInclusive ℕ F → Option (Bor (List ℕ)) → SplitInclusive ℕ F → Type 0
Cuts g t r u = MatchOption r ((length (split_inclusive_rest t) ≡ 0) × (u ≡ t)) (λ x. (split_inclusive_rest t ≡ x.now ++ split_inclusive_rest u)
    × ((i : ℕ) × (length x.now ≡ min (i + 1) (length (split_inclusive_rest t))) × ((p : ℕ → Bool) → ComputesKey g p (split_inclusive_callee t)
    → ComputesKey g p (split_inclusive_callee u) × IsFirstMatchOrLen p (split_inclusive_rest t) i)) × (0 < length (split_inclusive_rest t)))

-- the bytes of a line
abbrev bytes_of : Bor (List ℕ) → List ℕ
bytes_of line = line.now

pub YieldsList-from_lines : {F : Type 0} {s : SplitInclusive ℕ F} (g : Mut F (Bor ℕ × Unit {0}) Bool) {f : F} (text : List ℕ) → split_inclusive_rest s ≡ text
    → split_inclusive_callee s ≡ f → ((x : ℕ) (b : Bool) (q : F) → CalledAt g f x b q → (q ≡ f) × (b ≡ is_feed x))
    → YieldsList (Cuts g) (λ (line : Bor (List ℕ)). line.now) s (text_lines text)
YieldsList-from_lines {s = s} g {f} text rest callee tests =
    subst (λ v. YieldsList (Cuts g) bytes_of s (text_lines v)) rest
    (YieldsList-from_shown_while (Cuts g) bytes_of (λ t. text_lines (split_inclusive_rest t)) (λ t. ComputesKey g is_feed (split_inclusive_callee t))
    (λ t u h k. ap (λ v. length (text_lines v)) (nil_from_length _ k.0))
    (λ t x u h k.
    let found = k.1.2 is_feed h in
    let long : length x.now ≡ min (k.1.0 + 1) (length (x.now ++ split_inclusive_rest u)) = k.1.1 ∙ ap (λ v. min (k.1.0 + 1) (length v)) k.0 in
    let some : 0 < length (x.now ++ split_inclusive_rest u) = subst (λ v. 0 < length v) k.0 k.2 in
    (found.0, ap text_lines k.0 ∙ text_lines-part x.now (split_inclusive_rest u) k.1.0 long (subst (λ v. IsFirstMatchOrLen is_feed v k.1.0) k.0 found.1) some))
    s (subst (ComputesKey g is_feed) (sym callee) (always_returns_same g (λ a r. r ≡ is_feed a.0.now) f
    (λ a r q k. let m = tests a.0.now r q (record { shown = a.0; shows = refl; called = k }) in (m.1, m.0)))))
