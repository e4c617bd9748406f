-- What a sink took of a text, piece after piece.
-- Cited by `JobElement::put`, `TaskElement::put`, `put_each`, `put_script`.
use Rattle.std.proofs.Common.{◌≡◌, ◌<◌, ◌≤◌, ◌+◌, ℕ, min, List, [], ◌++◌, length, get_or, take, Option, refl, subst, ap, sym, ◌∙◌, arith}
use Rattle.std.proofs.Math.Seq.{take-append-add}
use Rattle.std.proofs.lemmas.List.{take_min, take-append-le}
use Rattle.env_io.specs.Bytes.{Rose}
use Rattle.env_io.proofs.Bytes.{Gains-nil, Gains-trans}
use Rattle.script_text.specs.Written.{IsPut, IsCut, texts_from}
use Rattle.script_text.proofs.Texts.{texts_from-more, texts_from-cut, joined}

-- nothing was put, and nothing changed
pub nothing_put : (a : Option (List ℕ)) (m : ℕ) → IsPut a m [] a m
nothing_put a m = record { taken = Gains-nil a; steady = refl }

-- two texts that were put one after the other are one text
pub put_both : {a b c : Option (List ℕ)} {m n p : ℕ} (s t : List ℕ) → IsPut a m s b n → IsPut b n t c p → IsPut a m (s ++ t) c p
put_both {a = a} {b = b} {c = c} s t first second = record {
  taken = Gains-trans a b c s t first.taken second.taken;
  steady = second.steady ∙ first.steady;
}

-- a text was cut, behind another that was put
pub cut_second : {a b c : Option (List ℕ)} {m n p : ℕ} (s t : List ℕ) → IsPut a m s b n → IsCut b n t c p → IsCut a m (s ++ t) c p
cut_second {a = a} {b = b} {c = c} {m = m} {n = n} {p = p} s t first second =
    let joined : s ++ take second.kept t ≡ take (length s + second.kept) (s ++ t) = rw take-append-add refl in
    let same : n ≡ m = first.steady in
    record {
      kept = length s + second.kept;
      taken = rw (← joined) (Gains-trans a b c s (take second.kept t) first.taken second.taken);
      failed = subst (λ (k : ℕ). Rose k p) same second.failed;
      grown = subst (λ (k : ℕ). k ≤ p) same second.grown;
    }

-- a text was cut, and so is each that goes on behind it
pub cut_first : {a b : Option (List ℕ)} {m n : ℕ} (s t : List ℕ) → IsCut a m s b n → IsCut a m (s ++ t) b n
cut_first s t cut =
    let within : min cut.kept (length s) ≤ length s = omega arith in
    record {
      kept = min cut.kept (length s);
      taken = rw (take-append-le, take_min) cut.taken;
      failed = cut.failed;
      grown = cut.grown;
    }

-- ---- lists of texts

-- the text of a place was put behind those before it
pub put_more : {a b c : Option (List ℕ)} {m n p : ℕ} {A : Type 0} (text : ℕ → A → List ℕ) (xs : List A) (i : ℕ) (x : A) → x ≡ get_or xs i x → i < length xs
    → IsPut a m (texts_from text 0 (take i xs)) b n → IsPut b n (text i x) c p → IsPut a m (texts_from text 0 (take (i + 1) xs)) c p
put_more text xs i x here within first second =
    let more : texts_from text 0 (take (i + 1) xs) ≡ texts_from text 0 (take i xs) ++ text i x = texts_from-more text xs i x within ∙ ap
    (λ y. texts_from text 0 (take i xs) ++ text i y) (sym here) in
    rw more (put_both (texts_from text 0 (take i xs)) (text i x) first second)

-- the text of a place was cut, behind those before it
pub cut_more : {a b c : Option (List ℕ)} {m n p : ℕ} {A : Type 0} (text : ℕ → A → List ℕ) (xs : List A) (i : ℕ) (x : A) → x ≡ get_or xs i x → i < length xs
    → IsPut a m (texts_from text 0 (take i xs)) b n → IsCut b n (text i x) c p → IsCut a m (texts_from text 0 xs) c p
cut_more text xs i x here within first second =
    let more : texts_from text 0 (take (i + 1) xs) ≡ texts_from text 0 (take i xs) ++ text i x = texts_from-more text xs i x within ∙ ap
    (λ y. texts_from text 0 (take i xs) ++ text i y) (sym here) in
    rw (texts_from-cut text xs (i + 1), more)
    (cut_first (texts_from text 0 (take i xs) ++ text i x) _ (cut_second (texts_from text 0 (take i xs)) (text i x) first second))

-- ---- parts of a text

-- a part was put behind those before it
pub put_part : {a b c : Option (List ℕ)} {m n p : ℕ} (parts : List (List ℕ)) (i : ℕ) (text : List ℕ) → text ≡ get_or parts i text → i < length parts
    → IsPut a m (joined (take i parts)) b n → IsPut b n text c p → IsPut a m (joined (take (i + 1) parts)) c p
put_part parts i text = put_more (λ _ part. part) parts i text

-- a part was cut, behind those before it
pub cut_part : {a b c : Option (List ℕ)} {m n p : ℕ} (whole : List ℕ) (parts : List (List ℕ)) (i : ℕ) (text : List ℕ) → whole ≡ joined parts
    → text ≡ get_or parts i text → i < length parts → IsPut a m (joined (take i parts)) b n → IsCut b n text c p → IsCut a m whole c p
cut_part whole parts i text made here within first second = rw made (cut_more (λ _ part. part) parts i text here within first second)
