-- The line of a number is cut out of its text, and the bytes before it are the lines before it.
-- Cited by `the_bad_line_is_cut_out`, `FaultLines`.
use Rattle.std.proofs.Common.{◌≡◌, ℕ, zero, suc, ◌+◌, ◌-◌, ◌≤◌, ◌<◌, Bool, true, false, cond, get_or, List, [], ◌∷◌, ◌++◌, length, take}
use Rattle.std.proofs.Common.{drop, refl, subst, ◌∙◌, Option, Some, None, Result, Ok, Err, arith}
use Rattle.std.specs.Prelude.{nat_lt, position, slice_get}
use Rattle.std.specs.List.{slice_split, position_or_len, All}
use Rattle.std.specs.Str.Lines.{strip_carriage_return}
use Rattle.std.proofs.Math.Seq.{take-append-add}
use Rattle.std.proofs.lemmas.Bool.{ltb-true}
use Rattle.std.proofs.lemmas.Option.{none-some, slice_get-map}
use Rattle.std.proofs.lemmas.List.{map-append, take-map, length-map, length-append}
use Rattle.std.proofs.lemmas.List.Splits.{slice_split_at}
use Rattle.std.proofs.lemmas.List.Sums.{split_at_first, fails_before_first, passes_at_first}
use Rattle.std.proofs.lemmas.Grind.{common_steps}
use Rattle.script_model.specs.Words.{lines_of}
use Rattle.script_model.specs.Reasons.{◌>>=◌}
use Rattle.script_model.specs.Draft.{Draft, empty_draft, script_of}
use Rattle.script_model.specs.Lines.{words_read, line_read}
use Rattle.script_model.specs.Grammar.{at_line, lines_read, script_read}
use Rattle.line_places.specs.Bytes.{is_feed, first_of, behind, text_from, front_of, line_at}
use Rattle.line_places.proofs.LinesOfText.{lines_at_feed, lines_without_feed}

-- ---- a text at its first line feed

-- what stands before a line feed, and behind it
record IsParted (text : List ℕ) (end : ℕ) : Type 0 where
  feed : ℕ
  is : is_feed feed ≡ true
  whole : text ≡ take end text ++ feed ∷ drop (end + 1) text
  none : All (λ b. is_feed b ≡ false) (take end text)

parted : (text : List ℕ) (end : ℕ) → position is_feed text ≡ Some end → IsParted text end
parted text end found = by_order (nat_lt (position_or_len is_feed text) (length text)) refl found
  where
    by_order : (b : Bool) → nat_lt (position_or_len is_feed text) (length text) ≡ b → cond b (Some (position_or_len is_feed text)) None ≡ Some end
        → IsParted text end
    by_order true less found =
        let within : position_or_len is_feed text < length text = ltb-true _ _ less in
        let at : position_or_len is_feed text ≡ end = cc in
        let here : IsParted text (position_or_len is_feed text) = record {
          feed = get_or text (position_or_len is_feed text) 0;
          is = passes_at_first is_feed text 0 within;
          whole = split_at_first is_feed text 0 within;
          none = λ k e m. let before = fails_before_first is_feed text k e (grind (arith, common_steps)) in grind (arith, common_steps);
        } in
        subst (λ n. IsParted text n) at here
    by_order false less found = absurd (none-some end found)

-- ---- the line of a number

-- the text from a line on, what its first line is, and which lines stand before it
record IsCut (k : ℕ) (text rest : List ℕ) : Type 0 where
  here : text_from k (Some text) ≡ Some rest
  line : slice_get (slice_split is_feed text) k ≡ Some (first_of rest (position is_feed rest))
  shorter : length rest ≤ length text
  front : slice_split is_feed (take (length text - length rest) text) ≡ take k (slice_split is_feed text) ++ [] ∷ []

-- the first line
first_line : (text : List ℕ) → slice_get (slice_split is_feed text) 0 ≡ Some (first_of text (position is_feed text))
first_line text = by_feed (position is_feed text) refl
  where
    by_feed : (o : Option ℕ) → position is_feed text ≡ o → slice_get (slice_split is_feed text) 0 ≡ Some (first_of text o)
    by_feed None is = rw (lines_without_feed text is) refl
    by_feed (Some end) is = rw (lines_at_feed text end is) refl

cut_first : (text : List ℕ) → IsCut 0 text text
cut_first text =
    let none : length text - length text ≡ 0 = omega arith in
    record { here = refl; line = first_line text; shorter = omega arith; front = rw none refl }

-- the front of a text that is parted, by the front of what is behind its line feed
longer_front : (before rest behind : List ℕ) (feed : ℕ) → length rest ≤ length behind
    → take (length (before ++ feed ∷ behind) - length rest) (before ++ feed ∷ behind) ≡ before ++ feed ∷ take (length behind - length rest) behind
longer_front before rest behind feed shorter =
    let all : length (before ++ feed ∷ behind) ≡ length before + suc (length behind) = length-append before (feed ∷ behind) in
    let some : length (before ++ feed ∷ behind) - length rest ≡ length before + suc (length behind - length rest) = omega (arith, all) in
    rw (some, take-append-add before (feed ∷ behind) (suc (length behind - length rest))) refl

-- a line behind the first line feed
cut_behind : (k : ℕ) (before behind rest : List ℕ) (feed : ℕ) → All (λ b. is_feed b ≡ false) before → is_feed feed ≡ true
    → IsCut k behind rest → (text : List ℕ) → text ≡ before ++ feed ∷ behind → text_from (suc k) (Some text) ≡ text_from k (Some behind)
    → IsCut (suc k) text rest
cut_behind k before behind rest feed none is cut text whole from =
    let lines : slice_split is_feed (before ++ feed ∷ behind) ≡ before ∷ slice_split is_feed behind =
    slice_split_at is_feed before feed behind none is in
    let long : length (before ++ feed ∷ behind) ≡ length before + suc (length behind) = length-append before (feed ∷ behind) in
    let shorter = cut.shorter in
    record {
      here = from ∙ cut.here;
      line = rw (whole, lines) cut.line;
      shorter = rw whole (omega (arith, long, shorter));
      front = rw (
        whole,
        lines,
        longer_front before rest behind feed shorter,
        slice_split_at is_feed before feed (take (length behind - length rest) behind) none is,
        cut.front,
      ) refl;
    }

cut : (k : ℕ) (text : List ℕ) → k < length (slice_split is_feed text) → (rest : List ℕ) × IsCut k text rest
cut zero text within = (text, cut_first text)
cut (suc k) text within = by_feed (position is_feed text) refl (λ end more. cut k (drop (end + 1) text) more)
  where
    by_feed : (o : Option ℕ) → position is_feed text ≡ o
        → ((end : ℕ) → k < length (slice_split is_feed (drop (end + 1) text)) → (rest : List ℕ) × IsCut k (drop (end + 1) text) rest)
        → (rest : List ℕ) × IsCut (suc k) text rest
    by_feed None found go =
        let few : suc k < length (text ∷ []) = subst (λ l. suc k < length l) (lines_without_feed text found) within in
        absurd (omega (arith, few))
    by_feed (Some end) found go =
        let lines = lines_at_feed text end found in
        let more : suc k < length (take end text ∷ slice_split is_feed (drop (end + 1) text)) = subst (λ l. suc k < length l) lines within in
        let rest = go end (omega (arith, more)) in
        let parts = parted text end found in
        (rest.0, cut_behind k (take end text) (drop (end + 1) text) rest.0 parts.feed parts.none parts.is rest.1 text parts.whole (rw found refl))

-- ---- lines of bytes

pub line_at-cut : (bytes : List ℕ) (k : ℕ) → k < length (lines_of bytes) → slice_get (lines_of bytes) k ≡ Some (line_at bytes k)
line_at-cut bytes k within =
    let few : k < length (slice_split is_feed bytes) = subst (λ n. k < n) (length-map (slice_split is_feed bytes) strip_carriage_return) within in
    let rest = cut k bytes few in
    rw (slice_get-map strip_carriage_return (slice_split is_feed bytes) k, rest.1.line, rest.1.here) refl

pub front_of-lines : (bytes : List ℕ) (k : ℕ) → k < length (lines_of bytes) → lines_of (front_of bytes k) ≡ take k (lines_of bytes) ++ [] ∷ []
front_of-lines bytes k within =
    let few : k < length (slice_split is_feed bytes) = subst (λ n. k < n) (length-map (slice_split is_feed bytes) strip_carriage_return) within in
    let rest = cut k bytes few in
    rw (
      rest.1.here,
      rest.1.front,
      map-append strip_carriage_return (take k (slice_split is_feed bytes)) ([] ∷ []),
      take-map strip_carriage_return k (slice_split is_feed bytes),
    ) refl

-- ---- what they are read as

-- an empty line says nothing
nothing_more : (d : Draft) (n : ℕ) (lines : List (List ℕ)) → lines_read d n (lines ++ [] ∷ []) ≡ lines_read d n lines
unfolding lines_read words_read
nothing_more d n [] = refl
nothing_more d n (line ∷ lines) = by_line (line_read d line) (λ next. nothing_more next (n + 1) lines)
  where
    by_line : (r : Result Draft ℕ) → ((next : Draft) → lines_read next (n + 1) (lines ++ [] ∷ []) ≡ lines_read next (n + 1) lines)
        → (at_line n r >>= λ next. lines_read next (n + 1) (lines ++ [] ∷ [])) ≡ (at_line n r >>= λ next. lines_read next (n + 1) lines)
    by_line (Ok next) rest = rest next
    by_line (Err reason) rest = refl

pub front_of-read : (bytes : List ℕ) (k : ℕ) (d : Draft) → k < length (lines_of bytes) → lines_read empty_draft 1 (take k (lines_of bytes)) ≡ Ok d
    → script_read (front_of bytes k) ≡ Ok (script_of d)
unfolding script_read
front_of-read bytes k d within before =
    rw (front_of-lines bytes k within, nothing_more empty_draft 1 (take k (lines_of bytes)), before) refl
