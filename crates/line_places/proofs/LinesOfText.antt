-- The lines of a text, one after the other.
-- Cited by `Lines::of`, `cut_at`, `cut_line`, `lint_laws`.
use Rattle.std.proofs.Common.{◌≡◌, ℕ, zero, suc, ◌+◌, ◌-◌, ◌≤◌, Bool, true, false, cond, List, [], ◌∷◌, length, take, drop, refl, arith}
use Rattle.std.specs.Prelude.{nat_lt, position, IfSome, Option, Some, None}
use Rattle.std.specs.List.{slice_split, position_or_len}
use Rattle.std.proofs.lemmas.Bool.{ltb-true}
use Rattle.std.proofs.lemmas.Option.{none-some}
use Rattle.std.proofs.lemmas.List.Splits.{slice_split-cons_no, slice_split_first, length-slice_split}
use Rattle.std.proofs.lemmas.List.Sums.{count_by-le-length}
use Rattle.list_laws.proofs.Finds.{position_none}
use Rattle.line_places.specs.Bytes.{behind, is_feed, text_from}

-- a line feed parts the lines before it from those behind it
pub lines_at_feed : (text : List ℕ) (end : ℕ) → position is_feed text ≡ Some end
    → slice_split is_feed text ≡ take end text ∷ slice_split is_feed (drop (end + 1) text)
lines_at_feed text end found = by_order (nat_lt (position_or_len is_feed text) (length text)) refl found
  where
    by_order : (b : Bool) → nat_lt (position_or_len is_feed text) (length text) ≡ b → cond b (Some (position_or_len is_feed text)) None ≡ Some end
        → slice_split is_feed text ≡ take end text ∷ slice_split is_feed (drop (end + 1) text)
    by_order true less is = let at : position_or_len is_feed text ≡ end = cc in rw (← at) (slice_split_first is_feed text 0 (ltb-true _ _ less))
    by_order false less is = absurd (none-some end is)

whole : (text : List ℕ) → length text ≤ position_or_len is_feed text → slice_split is_feed text ≡ text ∷ []
whole [] all = refl
whole (x ∷ xs) all = by_test (is_feed x) refl (whole xs) all
  where
    by_test : (b : Bool) → is_feed x ≡ b → (length xs ≤ position_or_len is_feed xs → slice_split is_feed xs ≡ xs ∷ [])
        → length (x ∷ xs) ≤ position_or_len is_feed (x ∷ xs) → slice_split is_feed (x ∷ xs) ≡ (x ∷ xs) ∷ []
    by_test true is rest all = absurd (let none = rw is at all in omega arith)
    by_test false is rest all = rw (slice_split-cons_no is_feed x xs is, rest (let fewer = rw is at all in omega arith)) refl

-- a text without a line feed is one line
pub lines_without_feed : (text : List ℕ) → position is_feed text ≡ None → slice_split is_feed text ≡ text ∷ []
lines_without_feed text none = whole text (position_none is_feed text none)

-- a text has at most one line more than bytes
pub lines_few : (text : List ℕ) → length (slice_split is_feed text) ≤ length text + 1
lines_few text =
    let lines = length-slice_split is_feed text in
    let feeds = count_by-le-length is_feed text in
    omega arith

-- the text from a line on, by what is behind the first line feed
pub text_from-more : (n : ℕ) (text : List ℕ) → 1 ≤ n → text_from n (Some text) ≡ text_from (n - 1) (behind text (position is_feed text))
text_from-more zero text some = absurd (omega arith)
text_from-more (suc n) text some = let e : suc n - 1 ≡ n = omega arith in rw e refl

-- what is at most as long as a text is so as a longer one
pub shorter_still : (rest : Option (List ℕ)) (n m : ℕ) → IfSome rest (λ text. length text ≤ n) → n ≤ m → IfSome rest (λ text. length text ≤ m)
shorter_still None n m short more = tt
shorter_still (Some text) n m short more = omega arith
