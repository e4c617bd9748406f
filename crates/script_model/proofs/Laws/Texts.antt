-- Words of plain bytes, joined to lines and these to a text, are cut back into the same lines and words; numbers are
-- read as they are written.
-- Cited by `Laws/Lines`, `Laws/Words`, `command_line`.
use Rattle.std.proofs.Common.{◌≡◌, ℕ, zero, suc, ◌<◌, ◌≤◌, Bool, true, false, eqb, ltb, leb, List, []}
use Rattle.std.proofs.Common.{◌∷◌, ◌++◌, length, map, refl, ◌∙◌, Some, Ok, arith, append_assoc}
use Rattle.std.specs.Prelude.{◌-◌, ◌^◌, not, ◌&&◌, filter, flat_map, slice_index, decimal, codes, All}
use Rattle.std.specs.List.{list_all, slice_split, join_with_byte}
use Rattle.std.specs.Str.{all_ascii_digits}
use Rattle.std.specs.Char.{is_ascii_digit}
use Rattle.std.specs.Str.Lines.{strip_carriage_return}
use Rattle.std.specs.Str.Parse.{digits_value}
use Rattle.std.proofs.lemmas.Bool.{lt-ltb, le-leb, ltb-true, and_parts}
use Rattle.std.proofs.lemmas.Bool.Decides.{nat_tests}
use Rattle.std.proofs.lemmas.List.Concat.{flat_map-cons}
use Rattle.std.proofs.lemmas.List.Elements.{All-nil, All-cons}
use Rattle.std.proofs.lemmas.List.Folds.{list_all-append}
use Rattle.std.proofs.lemmas.List.Splits.{slice_split_none, slice_split_at}
use Rattle.std.proofs.lemmas.Fmt.{digits_decimal, digits_value-decimal, decimal_nonempty, length-decimal-le}
use Rattle.std.proofs.lemmas.Str.Parse.{IsNumeralModel, numerals_by_value, tells_all_ascii_digits}
use Rattle.script_model.specs.Words.{is_word, lines_of, is_blank, words_of, is_all_ascii, number_of}
use Rattle.script_model.specs.Places.{number_from}

-- ---- plain words

-- a byte of a word
abbrev pub is_visible : ℕ → Bool
is_visible b = ltb 32 b && ltb b 127

-- a word of one or more such bytes
abbrev pub is_plain_word : List ℕ → Bool
is_plain_word word = ltb 0 (length word) && list_all is_visible word

-- a byte of a line
abbrev pub is_text : ℕ → Bool
is_text b = ltb 31 b && ltb b 127

-- what passes one test passes a weaker one
all_weaker : {A : Type 0} (p q : A → Bool) (xs : List A) → ((x : A) → p x ≡ true → q x ≡ true) → list_all p xs ≡ true → list_all q xs ≡ true
all_weaker p q [] f e = refl
all_weaker p q (x ∷ xs) f e =
    let both = and_parts (p x) (list_all p xs) e in
    rw (f x both.0, all_weaker p q xs f both.1) refl

-- what passes one test fails one that is against it
pub none_passes : {A : Type 0} (p q : A → Bool) (xs : List A) → ((x : A) → p x ≡ true → q x ≡ false) → list_all p xs ≡ true → All (λ x. q x ≡ false) xs
none_passes p q [] f e = All-nil (λ x. q x ≡ false)
none_passes p q (x ∷ xs) f e =
    let both = and_parts (p x) (list_all p xs) e in
    All-cons (λ x. q x ≡ false) x xs (f x both.0) (none_passes p q xs f both.1)

visible_no_blank : (b : ℕ) → is_visible b ≡ true → is_blank b ≡ false
visible_no_blank b e =
    let both = and_parts (ltb 32 b) (ltb b 127) e in
    let low : 32 < b = ltb-true 32 b both.0 in
    grind (arith, nat_tests)

visible_text : (b : ℕ) → is_visible b ≡ true → is_text b ≡ true
visible_text b e =
    let both = and_parts (ltb 32 b) (ltb b 127) e in
    let low : 32 < b = ltb-true 32 b both.0 in
    let high : b < 127 = ltb-true b 127 both.1 in
    rw (lt-ltb 31 b (omega arith), lt-ltb b 127 high) refl

text_no_end : (b : ℕ) → is_text b ≡ true → eqb b 10 ≡ false
text_no_end b e =
    let both = and_parts (ltb 31 b) (ltb b 127) e in
    let low : 31 < b = ltb-true 31 b both.0 in
    grind (arith, nat_tests)

text_no_return : (b : ℕ) → is_text b ≡ true → eqb b 13 ≡ false
text_no_return b e =
    let both = and_parts (ltb 31 b) (ltb b 127) e in
    let low : 31 < b = ltb-true 31 b both.0 in
    grind (arith, nat_tests)

text_ascii : (b : ℕ) → is_text b ≡ true → ltb b 128 ≡ true
text_ascii b e =
    let both = and_parts (ltb 31 b) (ltb b 127) e in
    let high : b < 127 = ltb-true b 127 both.1 in
    lt-ltb b 128 (omega arith)

-- ---- lines

-- a line of words
abbrev pub line_of : List (List ℕ) → List ℕ
line_of words = join_with_byte 32 words

line_is_text : (words : List (List ℕ)) → list_all is_plain_word words ≡ true → list_all is_text (line_of words) ≡ true
line_is_text [] e = refl
line_is_text (word ∷ []) e =
    let both = and_parts (is_plain_word word) true e in
    let plain = and_parts (ltb 0 (length word)) (list_all is_visible word) both.0 in
    all_weaker is_visible is_text word visible_text plain.1
line_is_text (word ∷ other ∷ words) e =
    let both = and_parts (is_plain_word word) (list_all is_plain_word (other ∷ words)) e in
    let plain = and_parts (ltb 0 (length word)) (list_all is_visible word) both.0 in
    let here : list_all is_text word ≡ true = all_weaker is_visible is_text word visible_text plain.1 in
    let rest : list_all is_text (line_of (other ∷ words)) ≡ true = line_is_text (other ∷ words) both.1 in
    list_all-append is_text word (32 ∷ line_of (other ∷ words)) ∙ rw (here, rest) refl

pub line_is_ascii : (words : List (List ℕ)) → list_all is_plain_word words ≡ true → is_all_ascii (line_of words) ≡ true
line_is_ascii words e = all_weaker is_text (λ b. ltb b 128) (line_of words) text_ascii (line_is_text words e)

kept : (word : List ℕ) (rest : List (List ℕ)) → ltb 0 (length word) ≡ true
    → filter (λ w. not (eqb (length w) 0)) (word ∷ rest) ≡ word ∷ filter (λ w. not (eqb (length w) 0)) rest
kept [] rest e = absurd cc
kept (b ∷ word) rest e = rw (some_length b word) refl
  where
    some_length : (c : ℕ) (w : List ℕ) → eqb (length (c ∷ w)) 0 ≡ false
    some_length c w = grind (arith, nat_tests)

-- the words of a line of words are these
pub words_of-line : (word : List ℕ) (words : List (List ℕ)) → list_all is_plain_word (word ∷ words) ≡ true → words_of (line_of (word ∷ words)) ≡ word ∷ words
words_of-line word [] e =
    let both = and_parts (is_plain_word word) true e in
    let plain = and_parts (ltb 0 (length word)) (list_all is_visible word) both.0 in
    rw (slice_split_none is_blank word (none_passes is_visible is_blank word visible_no_blank plain.1)) (kept word [] plain.0)
words_of-line word (other ∷ words) e =
    let both = and_parts (is_plain_word word) (list_all is_plain_word (other ∷ words)) e in
    let plain = and_parts (ltb 0 (length word)) (list_all is_visible word) both.0 in
    let cut = slice_split_at is_blank word 32 (line_of (other ∷ words)) (none_passes is_visible is_blank word visible_no_blank plain.1) refl in
    rw (cut, kept word (slice_split is_blank (line_of (other ∷ words))) plain.0, words_of-line other words both.1) refl

-- a list of which no element passes has no last one that does
last_fails : (xs : List ℕ) (i : ℕ) → list_all is_text xs ≡ true → eqb (slice_index xs i) 13 ≡ false
last_fails [] zero e = refl
last_fails [] (suc i) e = refl
last_fails (b ∷ xs) zero e = text_no_return b (and_parts (is_text b) (list_all is_text xs) e).0
last_fails (b ∷ xs) (suc i) e = last_fails xs i (and_parts (is_text b) (list_all is_text xs) e).1

stripped : (line : List ℕ) → list_all is_text line ≡ true → strip_carriage_return line ≡ line
stripped line e = rw (last_fails line (length line - 1) e) refl

-- ---- texts

-- a text of lines of words
abbrev pub text_of : List (List (List ℕ)) → List ℕ
text_of lines = flat_map (λ words. line_of words ++ 10 ∷ []) lines

split_text : (lines : List (List (List ℕ))) → list_all (list_all is_plain_word) lines ≡ true
    → slice_split (λ b. eqb b 10) (text_of lines) ≡ map line_of lines ++ [] ∷ []
split_text [] e = refl
split_text (words ∷ lines) e =
    let both = and_parts (list_all is_plain_word words) (list_all (list_all is_plain_word) lines) e in
    let cut = slice_split_at (λ b. eqb b 10) (line_of words) 10 (text_of lines)
    (none_passes is_text (λ b. eqb b 10) (line_of words) text_no_end (line_is_text words both.0)) refl in
    rw (
      flat_map-cons (λ (ws : List (List ℕ)). line_of ws ++ 10 ∷ []) words lines,
      append_assoc (line_of words) (10 ∷ []) (text_of lines),
      cut,
      split_text lines both.1,
    ) refl

strip_lines : (lines : List (List (List ℕ))) → list_all (list_all is_plain_word) lines ≡ true
    → map strip_carriage_return (map line_of lines ++ [] ∷ []) ≡ map line_of lines ++ [] ∷ []
strip_lines [] e = refl
strip_lines (words ∷ lines) e =
    let both = and_parts (list_all is_plain_word words) (list_all (list_all is_plain_word) lines) e in
    rw (stripped (line_of words) (line_is_text words both.0), strip_lines lines both.1) refl

-- the lines of a text of lines are these, and an empty one
pub lines_of-text : (lines : List (List (List ℕ))) → list_all (list_all is_plain_word) lines ≡ true → lines_of (text_of lines) ≡ map line_of lines ++ [] ∷ []
lines_of-text lines e = rw (split_text lines e) (strip_lines lines e)

-- ---- numbers

numerals : IsNumeralModel (λ word. all_ascii_digits word ≡ true) (digits_value 10)
numerals = numerals_by_value _ tells_all_ascii_digits

pub number_of-decimal : (n : ℕ) → n < 2 ^ 64 → number_of (decimal n) ≡ Some n
number_of-decimal n small =
    let digits : all_ascii_digits (decimal n) ≡ true = digits_decimal numerals n small in
    let some : ltb 0 (length (decimal n)) ≡ true = lt-ltb 0 (length (decimal n)) (decimal_nonempty n small) in
    let few : leb (length (decimal n)) 20 ≡ true = le-leb (length (decimal n)) 20 (length-decimal-le 20 n (omega arith) (omega arith) small) in
    rw (digits, some, few, digits_value-decimal numerals n small) refl

-- a number that is written is read, where it is in the range
pub number_from-decimal : (low high n : ℕ) → low ≤ n → n ≤ high → n < 2 ^ 64 → number_from low high (decimal n) ≡ Ok n
unfolding number_from
number_from-decimal low high n lower upper small = rw (number_of-decimal n small, le-leb low n lower, le-leb n high upper) refl

digit_visible : (b : ℕ) → is_ascii_digit b ≡ true → is_visible b ≡ true
digit_visible b e = grind (arith, nat_tests)

digits_visible : (word : List ℕ) → all_ascii_digits word ≡ true → list_all is_visible word ≡ true
digits_visible [] e = refl
digits_visible (b ∷ word) e =
    let both = and_parts (is_ascii_digit b) (all_ascii_digits word) e in
    rw (digit_visible b both.0, digits_visible word both.1) refl

pub decimal_visible : (n : ℕ) → n < 2 ^ 64 → list_all is_visible (decimal n) ≡ true
decimal_visible n small = digits_visible (decimal n) (digits_decimal numerals n small)

pub decimal_plain : (n : ℕ) → n < 2 ^ 64 → is_plain_word (decimal n) ≡ true
decimal_plain n small =
    let some : ltb 0 (length (decimal n)) ≡ true = lt-ltb 0 (length (decimal n)) (decimal_nonempty n small) in
    rw (some, decimal_visible n small) refl

digits_no_mark : (word : List ℕ) → all_ascii_digits word ≡ true → is_word word (codes ";") ≡ false
digits_no_mark [] e = refl
digits_no_mark (b ∷ word) e = rw (no_mark b (and_parts (is_ascii_digit b) (all_ascii_digits word) e).0) refl
  where
    no_mark : (c : ℕ) → is_ascii_digit c ≡ true → eqb c 59 ≡ false
    no_mark c h = grind (arith, nat_tests)

-- a number is no mark between steps
pub decimal_no_mark : (n : ℕ) → n < 2 ^ 64 → is_word (decimal n) (codes ";") ≡ false
decimal_no_mark n small = digits_no_mark (decimal n) (digits_decimal numerals n small)
