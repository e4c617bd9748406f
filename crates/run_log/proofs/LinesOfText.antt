-- How a text falls into lines.
-- Cited by `entries_of`, `first_feed`, `line_end`, `Beginnings`, `LogLines`, `SplitLines`, `app_streams`, `event_text`.
use Rattle.std.proofs.Common.{◌≡◌, ◌≢◌, ◌<◌, ◌+◌, ℕ, zero, suc, min, Bool, eqb, List, [], ◌∷◌, ◌++◌, length}
use Rattle.std.proofs.Common.{take, drop, Option, Some, None, refl, ◌∙◌, inl, inr, arith, length-take-le}
use Rattle.std.specs.List.{IsFirstMatchOrLen, concat, onto_first, position, position_or_len}
use Rattle.std.proofs.lemmas.Bool.{both_ways, cases_eq, cases_lt, eq-eqb, ne_eqb, eqb-true, false_from_ne_true, le-ltb, lt-ltb, ltb-true}
use Rattle.std.proofs.lemmas.List.{take-append-drop}
use Rattle.std.proofs.lemmas.List.Sums.{fails_before_first, passes_at_first, position_or_len_is}
use Rattle.std.proofs.lemmas.Option.{cond_some}
use Rattle.memchr.specs.Find.{IsFirstByte, is_byte}
use Rattle.log_model.proofs.Laws.Pieces.{Lacks}
use Rattle.run_log.specs.TextLines.{text_lines}

-- ends a line
abbrev pub is_feed : ℕ → Bool
is_feed byte = eqb byte 10

-- a byte that ends no line is the first of the first line
line_grows : (byte : ℕ) (text line : List ℕ) (lines : List (List ℕ)) → byte ≢ 10 → text_lines text ≡ line ∷ lines
    → text_lines (byte ∷ text) ≡ (byte ∷ line) ∷ lines
line_grows byte text line lines other h = rw (ne_eqb byte 10 other, h) refl

-- what stands before a line feed is the first line, with the feed
pub text_lines-fed : (front rest : List ℕ) → Lacks 10 front → text_lines (front ++ 10 ∷ rest) ≡ (front ++ 10 ∷ []) ∷ text_lines rest
text_lines-fed [] rest h = refl
text_lines-fed (byte ∷ front) rest h = line_grows byte (front ++ 10 ∷ rest) (front ++ 10 ∷ []) (text_lines rest) h.0 (text_lines-fed front rest h.1)

-- the part is the first line of the text that begins with it
abbrev IsFirstPart : List ℕ → List ℕ → Type 0
IsFirstPart line rest = (i : ℕ) → length line ≡ min (i + 1) (length (line ++ rest)) → IsFirstMatchOrLen is_feed (line ++ rest) i → 0 < length (line ++ rest)
    → text_lines (line ++ rest) ≡ line ∷ text_lines rest

-- where the first byte is a line feed
part_of_feed : (byte : ℕ) (line rest : List ℕ) → byte ≡ 10 → IsFirstPart (byte ∷ line) rest
part_of_feed byte [] rest feed i long first some = rw feed refl
part_of_feed byte (next ∷ line) rest feed zero long first some = absurd (omega arith)
part_of_feed byte (next ∷ line) rest feed (suc i) long first some =
    absurd (both_ways (is_feed byte) (first.0 0 0 (omega arith) (omega arith)) (eq-eqb byte 10 feed))

-- the first match in a list that begins with no match is that in its tail
first_in_tail : (byte : ℕ) (text : List ℕ) (i : ℕ) → IsFirstMatchOrLen is_feed (byte ∷ text) (suc i) → IsFirstMatchOrLen is_feed text i
first_in_tail byte text i first = (λ k d low high. first.0 (suc k) d (omega arith) (omega arith), λ within d. first.1 (omega arith) d)

-- where it is none
part_of_other : (byte : ℕ) (line rest : List ℕ) → byte ≢ 10 → IsFirstPart line rest → IsFirstPart (byte ∷ line) rest
part_of_other byte line rest other inside zero long first some = absurd (other (eqb-true byte 10 (first.1 (omega arith) 0)))
part_of_other byte [] [] other inside (suc i) long first some = rw (ne_eqb byte 10 other) refl
part_of_other byte [] (next ∷ rest) other inside (suc i) long first some = absurd (omega arith)
part_of_other byte (next ∷ line) rest other inside (suc i) long first some =
    line_grows byte (next ∷ line ++ rest) (next ∷ line) (text_lines rest) other
    (inside i (omega arith) (first_in_tail byte (next ∷ line ++ rest) i first) (omega arith))

-- a part that ends at the first line feed, or else with the text, is the first line
pub text_lines-part : (line rest : List ℕ) → IsFirstPart line rest
text_lines-part [] rest i long first some = absurd (omega arith)
text_lines-part (byte ∷ line) rest i long first some =
    elim (cases_eq byte 10) [
      | inl feed ↦ part_of_feed byte line rest feed i long first some
      | inr other ↦ part_of_other byte line rest other (text_lines-part line rest) i long first some
    ]

-- a byte that joins the first line joins the text
concat-onto_first : (byte : ℕ) (lines : List (List ℕ)) → concat (onto_first byte lines) ≡ byte ∷ concat lines
concat-onto_first byte [] = refl
concat-onto_first byte (line ∷ lines) = refl

-- the lines of a text, joined, are the text
pub concat-text_lines : (text : List ℕ) → concat (text_lines text) ≡ text
concat-text_lines [] = refl
concat-text_lines (byte ∷ text) =
    elim (cases_eq byte 10) [
      | inl feed ↦ rw (feed, concat-text_lines text) refl
      | inr other ↦ rw (ne_eqb byte 10 other, concat-onto_first byte (text_lines text), concat-text_lines text) refl
    ]

-- the first line ends behind the first line feed, or with the text
pub first_line : (text : List ℕ) (end : ℕ) → end ≡ min (position_or_len is_feed text + 1) (length text) → 0 < length text
    → text_lines text ≡ take end text ∷ text_lines (drop end text)
first_line text end ends some =
    let whole : take end text ++ drop end text ≡ text = take-append-drop end text in
    let long : length (take end text) ≡ end = length-take-le end text (omega arith) in
    let feed : IsFirstMatchOrLen is_feed text (position_or_len is_feed text) =
    (λ k d low high. fails_before_first is_feed text k d high, λ within d. passes_at_first is_feed text d within) in
    rw whole at (text_lines-part (take end text) (drop end text) (position_or_len is_feed text) (rw whole (long ∙ ends)) (rw whole feed) (rw whole some))

pub line_end-Some : (text : List ℕ) (feed : ℕ) → position is_feed text ≡ Some feed → feed + 1 ≡ min (position_or_len is_feed text + 1) (length text)
line_end-Some text feed found =
    let here = cond_some _ _ _ found in
    let within : position_or_len is_feed text < length text = ltb-true _ _ here.0 in
    omega (arith, here.1)

pub line_end-None : (text : List ℕ) → position is_feed text ≡ None → length text ≡ min (position_or_len is_feed text + 1) (length text)
line_end-None text none =
    elim (cases_lt (position_or_len is_feed text) (length text)) [
      | inl within ↦ let some = rw (lt-ltb _ _ within) at none in absurd cc
      | inr beyond ↦ omega arith
    ]

-- the first byte that is a line feed stands where the search for one finds it
pub first_feed-is : (text : List ℕ) (found : Option ℕ) → IsFirstByte (is_byte 10) text found → found ≡ position is_feed text
first_feed-is text None none =
    let nowhere : position_or_len is_feed text ≡ length text =
    position_or_len_is is_feed text (length text) 0 (omega arith) (λ k within. false_from_ne_true _ (none k (omega arith) within))
    (λ within. absurd (omega arith)) in
    rw (nowhere, le-ltb (length text) (length text) (omega arith)) refl
first_feed-is text (Some feed) first =
    let here : position_or_len is_feed text ≡ feed =
    position_or_len_is is_feed text feed 0 (omega (arith, first.0.high)) (λ k before. false_from_ne_true _ (first.0.before k (omega arith) before))
    (λ within. first.1) in
    rw (here, lt-ltb _ _ first.0.high) refl
