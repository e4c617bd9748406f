-- The lines of an input before the one that parts it.
-- Cited by `parts_of`.
use Rattle.std.proofs.Common.{◌≡◌, ◌<◌, ◌≤◌, ◌+◌, ℕ, true, false, List, [], ◌∷◌, ◌++◌, length, take}
use Rattle.std.proofs.Common.{drop, get_or, refl, sym, ap, ◌∙◌, arith, append_assoc, append-nil}
use Rattle.std.specs.List.{concat}
use Rattle.std.proofs.lemmas.List.{drop_all, drop_at, drop_more, length-append, take-append-drop, take_all, take_at, take_more}
use Rattle.run_log.specs.TextLines.{text_lines}
use Rattle.run_log.proofs.LinesOfText.{concat-text_lines}
use Rattle.app_streams.specs.Parts.{is_divider, before_divider, behind_divider, script_part, part_behind}

concat_append : (xs ys : List (List ℕ)) → concat (xs ++ ys) ≡ concat xs ++ concat ys
concat_append [] ys = refl
concat_append (x ∷ xs) ys = rw (concat_append xs ys) (sym (append_assoc x (concat xs) (concat ys)))

-- so many lines were passed, up to this byte, and none of them is the divider
pub record IsPassed (text : List ℕ) (n end : ℕ) : Type 0 where
  pub end_is : end ≡ length (concat (take n (text_lines text)))
  pub before : before_divider (text_lines text) ≡ take n (text_lines text) ++ before_divider (drop n (text_lines text))
  pub behind : behind_divider (text_lines text) ≡ behind_divider (drop n (text_lines text))

-- the text is the lines that were passed, the next one, and those behind it
parts_at : (text : List ℕ) (n : ℕ) (line : List ℕ) → n < length (text_lines text) → line ≡ get_or (text_lines text) n line
    → text ≡ concat (take n (text_lines text)) ++ (line ++ concat (drop (n + 1) (text_lines text)))
parts_at text n line within is =
    let lines : List (List ℕ) = text_lines text in
    let rest : concat (drop n lines) ≡ line ++ concat (drop (n + 1) lines) = ap concat (drop_more lines n line within)
    ∙ ap (λ l. l ++ concat (drop (n + 1) lines)) (sym is) in
    sym (concat-text_lines text) ∙ ap concat (sym (take-append-drop n lines)) ∙ concat_append (take n lines) (drop n lines)
    ∙ ap (λ r. concat (take n lines) ++ r) rest

-- the next line ends within the text
pub line_within : (text : List ℕ) (n end : ℕ) (line : List ℕ) → n < length (text_lines text) → line ≡ get_or (text_lines text) n line → IsPassed text n end
    → end + length line ≤ length text
line_within text n end line within is passed =
    let whole = ap length (parts_at text n line within is) in
    let rest : List ℕ = concat (drop (n + 1) (text_lines text)) in
    omega (arith, whole, passed.end_is, length-append (concat (take n (text_lines text))) (line ++ rest), length-append line rest)

-- it is passed too, where it is not the divider
pub one_more : (text : List ℕ) (n end : ℕ) (line : List ℕ) → n < length (text_lines text) → line ≡ get_or (text_lines text) n line → is_divider line ≡ false
    → IsPassed text n end → IsPassed text (n + 1) (end + length line)
one_more text n end line within is other passed =
    let lines : List (List ℕ) = text_lines text in
    let more : take (n + 1) lines ≡ take n lines ++ line ∷ [] = take_more lines n line within ∙ ap (λ l. take n lines ++ l ∷ []) (sym is) in
    let rest : drop n lines ≡ line ∷ drop (n + 1) lines = drop_more lines n line within ∙ ap (λ l. l ∷ drop (n + 1) lines) (sym is) in
    record {
      end_is = rw (more, concat_append, append-nil, length-append, passed.end_is) refl;
      before = passed.before ∙ rw (rest, other, more) (sym (append_assoc (take n lines) (line ∷ []) (before_divider (drop (n + 1) lines))));
      behind = passed.behind ∙ rw (rest, other) refl;
    }

-- where it is the divider, the script ends before it
pub script_before : (text : List ℕ) (n end : ℕ) (line : List ℕ) → n < length (text_lines text) → line ≡ get_or (text_lines text) n line → is_divider line ≡ true
    → IsPassed text n end → take end text ≡ script_part text
unfolding script_part
script_before text n end line within is divider passed =
    let lines : List (List ℕ) = text_lines text in
    let rest : drop n lines ≡ line ∷ drop (n + 1) lines = drop_more lines n line within ∙ ap (λ l. l ∷ drop (n + 1) lines) (sym is) in
    let before : before_divider lines ≡ take n lines = passed.before ∙ rw (rest, divider) (append-nil (take n lines)) in
    ap (take end) (parts_at text n line within is) ∙ take_at (concat (take n lines)) (line ++ concat (drop (n + 1) lines)) end (sym passed.end_is)
    ∙ ap concat (sym before)

-- and the rest begins behind it
pub rest_behind : (text : List ℕ) (n end : ℕ) (line : List ℕ) → n < length (text_lines text) → line ≡ get_or (text_lines text) n line → is_divider line ≡ true
    → IsPassed text n end → drop (end + length line) text ≡ part_behind text
unfolding part_behind
rest_behind text n end line within is divider passed =
    let lines : List (List ℕ) = text_lines text in
    let rest : drop n lines ≡ line ∷ drop (n + 1) lines = drop_more lines n line within ∙ ap (λ l. l ∷ drop (n + 1) lines) (sym is) in
    let behind : behind_divider lines ≡ drop (n + 1) lines = passed.behind ∙ rw (rest, divider) refl in
    let front : List ℕ = concat (take n lines) in
    let size : length (front ++ line) ≡ end + length line = rw (length-append front line, passed.end_is) refl in
    ap (drop (end + length line)) (parts_at text n line within is ∙ sym (append_assoc front line (concat (drop (n + 1) lines))))
    ∙ drop_at (front ++ line) (concat (drop (n + 1) lines)) (end + length line) size ∙ ap concat (sym behind)

-- where all lines were passed, all is script
pub all_script : (text : List ℕ) (n end : ℕ) → length (text_lines text) ≤ n → IsPassed text n end → text ≡ script_part text
unfolding script_part
all_script text n end all passed =
    let lines : List (List ℕ) = text_lines text in
    let before : before_divider lines ≡ lines = passed.before ∙ rw (drop_all n lines all, take_all n lines all) (append-nil lines) in
    sym (concat-text_lines text) ∙ ap concat (sym before)

-- and nothing is behind it
pub nothing_behind : (text : List ℕ) (n end : ℕ) → length (text_lines text) ≤ n → IsPassed text n end → [] ≡ part_behind text
unfolding part_behind
nothing_behind text n end all passed =
    let lines : List (List ℕ) = text_lines text in
    let behind : behind_divider lines ≡ [] = passed.behind ∙ rw (drop_all n lines all) refl in
    ap concat (sym behind)
