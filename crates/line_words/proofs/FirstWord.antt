-- The first word of a text, found by the places of blanks.
-- Cited by `Words::is_empty`, `first_word`, `word_len`.
use Rattle.std.proofs.Common.{◌≡◌, ℕ, zero, suc, ◌+◌, ◌-◌, ◌<◌, ◌≤◌, Bool, true, false, cond, ltb, List, [], ◌∷◌, Option, Some, None, get_or, length}
use Rattle.std.proofs.Common.{take, drop, refl, sym, ◌∙◌, ap, arith, zero-add, suc-add, length-take, length-drop, drop-cons, add_assoc}
use Rattle.std.specs.Prelude.{not, filter, ◌==◌, unwrap_or, is_some, IsTrue}
use Rattle.std.specs.List.{slice_split, position_or_len, position}
use Rattle.std.proofs.lemmas.List.{drop-drop, take_all}
use Rattle.std.proofs.lemmas.Bool.{ltb-true, ltb-false}
use Rattle.std.proofs.lemmas.List.Quantifiers.{position-Some}
use Rattle.std.proofs.lemmas.List.Sums.{prefix_len-le-length}
use Rattle.std.proofs.lemmas.Bool.{not-true}
use Rattle.std.proofs.lemmas.Bool.Decides.{nat_tests}
use Rattle.list_laws.proofs.Finds.{position_none}
use Rattle.script_model.specs.Words.{words_of, is_blank}
use Rattle.line_words.specs.FirstWord.{IsFirstWord}

-- the parts behind the first element of a list, if it has one
abbrev parts : {X : Type 0} → (X → Bool) → List X → List (List X)
parts p [] = []
parts p (x ∷ xs) = slice_split p xs

-- a list that is empty, or begins with an element that passes
abbrev opens : {X : Type 0} → (X → Bool) → List X → Bool
opens p [] = true
opens p (x ∷ xs) = p x

take-nil : {X : Type 0} (k : ℕ) → take {A = X} k [] ≡ []
take-nil zero = refl
take-nil (suc k) = refl

-- the first place at which a list passes, by its first element
position-yes : {X : Type 0} (p : X → Bool) (x : X) (xs : List X) → p x ≡ true → position_or_len p (x ∷ xs) ≡ 0
position-yes p x xs h = rw h refl

position-no : {X : Type 0} (p : X → Bool) (x : X) (xs : List X) → p x ≡ false → position_or_len p (x ∷ xs) ≡ suc (position_or_len p xs)
position-no p x xs h = rw h (omega arith)

-- the parts of a front that reaches to the first element that passes, or behind it
cut_part : {X : Type 0} (p : X → Bool) (xs : List X) (n k : ℕ) → position_or_len p xs ≡ n
    → slice_split p (take (n + k) xs) ≡ take n xs ∷ parts p (take k (drop n xs))
cut_part p [] zero k e = rw (zero-add, take-nil) refl
cut_part p [] (suc n) k e = absurd (omega (arith, e))
cut_part p (x ∷ xs) zero k e = rw zero-add (by_test (p x) refl k)
  where
    by_test : (b : Bool) → p x ≡ b → (k : ℕ) → slice_split p (take k (x ∷ xs)) ≡ [] ∷ parts p (take k (x ∷ xs))
    by_test b h zero = refl
    by_test true h (suc k) = rw h refl
    by_test false h (suc k) = absurd (omega (arith, sym (position-no p x xs h) ∙ e))
cut_part p (x ∷ xs) (suc n) k e = rw suc-add (by_test (p x) refl (cut_part p xs n k))
  where
    by_test : (b : Bool) → p x ≡ b → (position_or_len p xs ≡ n → slice_split p (take (n + k) xs) ≡ take n xs ∷ parts p (take k (drop n xs)))
        → slice_split p (x ∷ take (n + k) xs) ≡ (x ∷ take n xs) ∷ parts p (take k (drop n xs))
    by_test true h rest = absurd (omega (arith, sym (position-yes p x xs h) ∙ e))
    by_test false h rest = rw (h, rest (omega (arith, sym (position-no p x xs h) ∙ e))) refl

-- what is behind the first place that passes opens with it
opens_behind : {X : Type 0} (p : X → Bool) (xs : List X) (n k : ℕ) → position_or_len p xs ≡ n → opens p (take k (drop n xs)) ≡ true
opens_behind p [] zero k e = rw take-nil refl
opens_behind p [] (suc n) k e = rw take-nil refl
opens_behind p (x ∷ xs) zero zero e = refl
opens_behind p (x ∷ xs) zero (suc k) e = by_test (p x) refl
  where
    by_test : (b : Bool) → p x ≡ b → p x ≡ true
    by_test true h = h
    by_test false h = absurd (omega (arith, sym (position-no p x xs h) ∙ e))
opens_behind p (x ∷ xs) (suc n) k e = by_test (p x) refl (opens_behind p xs n k)
  where
    by_test : (b : Bool) → p x ≡ b → (position_or_len p xs ≡ n → opens p (take k (drop n xs)) ≡ true) → opens p (take k (drop n xs)) ≡ true
    by_test true h rest = absurd (omega (arith, sym (position-yes p x xs h) ∙ e))
    by_test false h rest = rest (omega (arith, sym (position-no p x xs h) ∙ e))

-- the parts that are not empty
abbrev filled : {X : Type 0} → List (List X) → List (List X)
filled xs = filter (λ x. not (length x == 0)) xs

-- marks at the front make empty parts
skip_marks : {X : Type 0} (p : X → Bool) (xs : List X) (n k : ℕ) → position_or_len (λ x. not (p x)) xs ≡ n
    → filled (slice_split p (take (n + k) xs)) ≡ filled (slice_split p (take k (drop n xs)))
skip_marks p xs zero k e = rw zero-add refl
skip_marks p [] (suc n) k e = absurd (omega (arith, e))
skip_marks p (x ∷ xs) (suc n) k e = rw suc-add (by_test (p x) refl (skip_marks p xs n k))
  where
    by_test : (b : Bool) → p x ≡ b
        → (position_or_len (λ x. not (p x)) xs ≡ n → filled (slice_split p (take (n + k) xs)) ≡ filled (slice_split p (take k (drop n xs))))
        → filled (slice_split p (x ∷ take (n + k) xs)) ≡ filled (slice_split p (take k (drop n xs)))
    by_test true h rest = rw h (rest (omega (arith, sym (position-no (λ x. not (p x)) x xs (ap not h)) ∙ e)))
    by_test false h rest = absurd (omega (arith, sym (position-yes (λ x. not (p x)) x xs (ap not h)) ∙ e))

-- a list that opens with a mark has the parts behind the mark
filled_parts : {X : Type 0} (p : X → Bool) (xs : List X) → opens p xs ≡ true → filled (slice_split p xs) ≡ filled (parts p xs)
filled_parts p [] h = refl
filled_parts p (x ∷ xs) h = rw h refl

-- a part that has elements is kept
filled-some : {X : Type 0} (part : List X) (more : List (List X)) → 0 < length part → filled (part ∷ more) ≡ part ∷ filled more
filled-some [] more some = absurd (omega arith)
filled-some (x ∷ part) more some = let e : (length (x ∷ part) == 0) ≡ false = grind (arith, nat_tests) in rw e refl

-- the word behind the blanks at the front, wherever the text is cut behind it
words_of-front : (text : List ℕ) (s n k : ℕ) → position_or_len (λ b. not (is_blank b)) text ≡ s → position_or_len is_blank (drop s text) ≡ n → 0 < n
    → n ≤ length (drop s text) → words_of (take (s + n + k) text) ≡ take n (drop s text) ∷ words_of (take k (drop (s + n) text))
words_of-front text s n k blanks word some within =
    let kept = filled-some (take n (drop s text)) (parts is_blank (take k (drop n (drop s text)))) (rw length-take (omega arith)) in
    let skipped = skip_marks is_blank text s (n + k) blanks in
    let cut = cut_part is_blank (drop s text) n k word in
    let behind = filled_parts is_blank (take k (drop n (drop s text))) (opens_behind is_blank (drop s text) n k word) in
    rw (add_assoc, ← drop-drop n s text) (skipped ∙ rw cut (kept ∙ rw (← behind) refl))

-- what `position` says of the place that it finds
position_is : {X : Type 0} (p : X → Bool) (xs : List X) (i : ℕ) → position p xs ≡ Some i → (position_or_len p xs ≡ i) × (i < length xs)
position_is p xs i e = by_order (ltb (position_or_len p xs) (length xs)) refl e
  where
    by_order : (b : Bool) → ltb (position_or_len p xs) (length xs) ≡ b → cond b (Some (position_or_len p xs)) None ≡ Some i
        → (position_or_len p xs ≡ i) × (i < length xs)
    by_order true h f = let same : position_or_len p xs ≡ i = cc in (same, rw (← same) (ltb-true _ _ h))
    by_order false h f = absurd cc

-- a text of blanks has no words
pub words_of-blanks : (text : List ℕ) → position (λ b. not (is_blank b)) text ≡ None → words_of text ≡ []
words_of-blanks text none =
    let s = position_or_len (λ b. not (is_blank b)) text in
    let all : take (s + 0) text ≡ text = take_all (s + 0) text (let le = position_none (λ b. not (is_blank b)) text none in omega (arith, le)) in
    rw (← all) (skip_marks is_blank text s 0 refl)

-- the word behind blanks is not empty
some_bytes : (text : List ℕ) (s : ℕ) → position (λ b. not (is_blank b)) text ≡ Some s → 0 < position_or_len is_blank (drop s text)
some_bytes text s found =
    let at = position-Some (λ b. not (is_blank b)) text s 0 found in
    let within : s < length text = at.0 in
    let first : is_blank (get_or text s 0) ≡ false = not-true _ at.1 in
    rw (drop-cons text s 0, position-no is_blank (get_or text s 0) (drop (suc s) text) first) (omega arith)

-- the first word stands between these two places
pub first_word_is : (text : List ℕ) (s n : ℕ) → position (λ b. not (is_blank b)) text ≡ Some s
    → n ≡ position_or_len is_blank (take (length text - s) (drop s text)) → IsFirstWord text s (s + n)
first_word_is text s n found in_slice =
    let word : n ≡ position_or_len is_blank (drop s text) =
    in_slice ∙ ap (position_or_len is_blank) (take_all (length text - s) (drop s text) (rw length-drop (omega arith))) in
    let at = position_is (λ b. not (is_blank b)) text s found in
    let within : n ≤ length (drop s text) = rw word (prefix_len-le-length (λ b. not (is_blank b)) (drop s text)) in
    let some : 0 < n = rw word (some_bytes text s found) in
    record {
      some = omega arith;
      within = let l = length-drop s text in omega (arith, l, at.1);
      cut = λ k. let e : s + n - s ≡ n = omega arith in rw e (words_of-front text s n k at.0 (sym word) some within);
    }

-- the place or the length
pub position-or_len : {X : Type 0} (p : X → Bool) (xs : List X) → unwrap_or (position p xs) (length xs) ≡ position_or_len p xs
position-or_len p xs = by_order (ltb (position_or_len p xs) (length xs)) refl
  where
    by_order : (b : Bool) → ltb (position_or_len p xs) (length xs) ≡ b
        → unwrap_or (cond b (Some (position_or_len p xs)) None) (length xs) ≡ position_or_len p xs
    by_order true h = refl
    by_order false h = let le = prefix_len-le-length (λ x. not (p x)) xs in let ge = ltb-false _ _ h in omega arith

-- a text has no words exactly where no place has a byte that is no blank
pub no_words : (text : List ℕ) (place : Option ℕ) (none : Bool) → place ≡ position (λ b. not (is_blank b)) text → is_some place ≡ not none
    → (IsTrue none → words_of text ≡ []) × (words_of text ≡ [] → IsTrue none)
no_words text None true found tested = (λ _. words_of-blanks text (sym found), λ _. refl)
no_words text None false found tested = absurd cc
no_words text (Some s) true found tested = absurd cc
no_words text (Some s) false found tested =
    let n = position_or_len is_blank (take (length text - s) (drop s text)) in
    let place = first_word_is text s n (sym found) refl in
    let all : take (s + n + length text) text ≡ text = take_all _ text (omega arith) in
    let words = sym (ap words_of all) ∙ place.cut (length text) in
    (λ e. absurd cc, λ e. absurd (let clash = sym words ∙ e in cc))
