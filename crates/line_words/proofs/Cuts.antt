-- A text that is cut between two words, where none of the words before the cut is the mark.
-- Cited by `Words::split_at_mark`.
use Rattle.std.proofs.Common.{◌≡◌, ℕ, ◌+◌, ◌-◌, ◌≤◌, true, false, List, [], ◌∷◌, ◌++◌, length, take, drop, refl, sym}
use Rattle.std.proofs.Common.{◌∙◌, ap, arith, add-zero, add_assoc, append_assoc, length-take, length-drop}
use Rattle.std.specs.Prelude.{All, slice_range}
use Rattle.std.specs.List.{slice_split}
use Rattle.std.proofs.lemmas.List.{take_all, drop-drop, append-nil}
use Rattle.std.proofs.lemmas.List.Elements.{All-push}
use Rattle.std.proofs.lemmas.List.Splits.{slice_split_none, slice_split_at}
use Rattle.script_model.specs.Words.{words_of, is_mark}
use Rattle.line_words.specs.FirstWord.{IsFirstWord}

-- a text is cut between words, behind words of which none is the mark
pub record IsCut (text : List ℕ) (from : ℕ) : Type 0 where
  pub within : from ≤ length text
  pub parts : (k : ℕ) → words_of (take (from + k) text) ≡ words_of (take from text) ++ words_of (take k (drop from text))
  pub unmarked : All (λ w. is_mark w ≡ false) (words_of (take from text))

-- what is behind the cut
abbrev pub behind : List ℕ → ℕ → List ℕ
behind text from = take (length text - from) (drop from text)

behind_is : (text : List ℕ) (from : ℕ) → behind text from ≡ drop from text
behind_is text from = take_all (length text - from) (drop from text) (rw length-drop (omega arith))

-- all the words, by those on both sides of the cut
whole : (text : List ℕ) (from : ℕ) → IsCut text from → words_of text ≡ words_of (take from text) ++ words_of (behind text from)
whole text from cut =
    let all : take (from + (length text - from)) text ≡ text = take_all _ text (let h = cut.within in omega arith) in
    sym (ap words_of all) ∙ cut.parts (length text - from)

-- a word behind the cut, which is not the mark, moves it
pub cut_more : (text : List ℕ) (from start end : ℕ) → IsCut text from → IsFirstWord (behind text from) start end
    → is_mark (slice_range (behind text from) start end) ≡ false → IsCut text (from + end)
cut_more text from start end cut place plain =
    let same = behind_is text from in
    let word = slice_range (behind text from) start end in
    let rest : (k : ℕ) → words_of (take (end + k) (drop from text)) ≡ word ∷ words_of (take k (drop end (drop from text))) =
    λ k. ap (λ (bs : List ℕ). words_of (take (end + k) bs)) (sym same) ∙ place.cut k ∙ ap (λ (bs : List ℕ). word ∷ words_of (take k (drop end bs))) same in
    let onto : (ws vs : List (List ℕ)) → ws ≡ vs → words_of (take from text) ++ ws ≡ words_of (take from text) ++ vs =
    λ ws vs e. ap (λ (us : List (List ℕ)). words_of (take from text) ++ us) e in
    let here : words_of (take end (drop from text)) ≡ word ∷ [] =
    ap (λ (n : ℕ). words_of (take n (drop from text))) (sym (add-zero end)) ∙ rest 0 in
    let front : words_of (take (from + end) text) ≡ words_of (take from text) ++ word ∷ [] = cut.parts end ∙ onto _ _ here in
    record {
      within =
          let a = cut.within in
          let b = place.within in
          let d = length-take (length text - from) (drop from text) in
          let e = length-drop from text in
          omega arith;
      parts = λ k. rw (add_assoc, front, append_assoc) (cut.parts (end + k) ∙ onto _ _ (rest k ∙ rw (drop-drop end from text) refl));
      unmarked = rw front (All-push (λ w. is_mark w ≡ false) (words_of (take from text)) word cut.unmarked plain);
    }

-- the mark behind the cut parts the words before it from those behind it
pub cut_mark : (text : List ℕ) (from start end n : ℕ) → IsCut text from → IsFirstWord (behind text from) start end
    → is_mark (slice_range (behind text from) start end) ≡ true → length (drop end (behind text from)) ≤ n
    → slice_split is_mark (words_of text) ≡ words_of (take from text) ∷ slice_split is_mark (words_of (take n (drop end (behind text from))))
cut_mark text from start end n cut place marked long =
    let rest = behind text from in
    let words : words_of rest ≡ slice_range rest start end ∷ words_of (take n (drop end rest)) =
    sym (ap words_of (take_all (end + n) rest (let l = length-drop end rest in omega arith))) ∙ place.cut n in
    rw (whole text from cut, words)
    (slice_split_at is_mark (words_of (take from text)) (slice_range rest start end) (words_of (take n (drop end rest))) cut.unmarked marked)

-- where no word is behind the cut, no word is the mark
pub cut_end : (text : List ℕ) (from : ℕ) → IsCut text from → words_of (behind text from) ≡ [] → slice_split is_mark (words_of text) ≡ words_of text ∷ []
cut_end text from cut none =
    let all : words_of text ≡ words_of (take from text) = whole text from cut ∙ rw none (append-nil (words_of (take from text))) in
    rw all (slice_split_none is_mark (words_of (take from text)) cut.unmarked)
