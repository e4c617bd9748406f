-- The text of a log: it tells the history, and it grows by a line for each entry.
-- Cited by `log_texts_differ`, `log_text.rt`, `env_app`, `hist_model`, `order_answer`, `run_log`.
use Rattle.std.proofs.Common.{◌≡◌, ◌≢◌, ◌<◌, ◌≤◌, ◌+◌, ℕ, suc, List, [], ◌∷◌, ◌++◌, All, length, get_or, take, drop, refl, sym, ap, subst, ◌∙◌}
use Rattle.std.proofs.Common.{eqb, arith, add-zero, zero-add, add-one, append_assoc, append-nil, length-take-le, take-suc, take_all}
use Rattle.std.specs.Prelude.{map, codes}
use Rattle.std.specs.Fmt.{decimal}
use Rattle.std.specs.List.{starts_with, join_with_byte}
use Rattle.std.proofs.lemmas.Bool.{false_from_ne_true}
use Rattle.std.proofs.lemmas.Bool.Decides.{Decides-eqb}
use Rattle.std.proofs.lemmas.Slice.Eq.{starts_is}
use Rattle.std.proofs.lemmas.List.{take-append-drop, append_cancel_left}
use Rattle.std.proofs.lemmas.List.Elements.{All-head, All-tail}
use Rattle.task_base.specs.declared.entry.Entry.{Entry}
use Rattle.log_model.specs.declared.version.Version.{Version}
use Rattle.log_model.specs.declared.version.Version.TheVariants.{One, Two}
use Rattle.log_model.specs.Fits.{Fits}
use Rattle.log_model.specs.LogText.{word, shown, line_of, text_from, head_line, total_line, head_of, end_of}
use Rattle.log_model.specs.LogText.{text_in, version_of, log_lines, log_text, BeginsWithNoLine}
use Rattle.log_model.proofs.Laws.Pieces.{same_until, not_parted}
use Rattle.log_model.proofs.Laws.LogParts.{PartFits, name_is_no_number, decimal_lacks, shown_lacks}
use Rattle.log_model.proofs.Laws.LogLines.{seat_parts, line_words, line_lacks_feed, same_line}

-- a line and what stands behind it are the line's words, a line feed, and the rest
line_then : (place : ℕ) (e : Entry) (rest : List ℕ) → line_of place e ++ rest ≡ line_words place e ++ 10 ∷ rest
line_then place e rest = append_assoc (line_words place e) (10 ∷ []) rest

-- what begins with a word begins with no line: a line begins with a number
word_is_no_line : (name rest : List ℕ) → PartFits (word name) → (place : ℕ) (e : Entry) (behind : List ℕ) → name ++ 32 ∷ rest ≢ line_of place e ++ behind
word_is_no_line name rest named place e behind same =
    let words : List ℕ = join_with_byte 32 (map shown (seat_parts e)) in
    let begun : line_words place e ++ 10 ∷ behind ≡ decimal place ++ 32 ∷ (words ++ 10 ∷ behind) = append_assoc (decimal place) (32 ∷ words) (10 ∷ behind) in
    let cut = same_until 32 name (decimal place) rest (words ++ 10 ∷ behind) (shown_lacks 32 refl (word name) named) (decimal_lacks 32 refl place)
    (same ∙ line_then place e behind ∙ begun) in
    name_is_no_number name place named cut.0

-- what stands behind the lines of all entries begins with no line
pub end_begins_with_no_line : (version : Version) (n place : ℕ) → BeginsWithNoLine place (end_of version n)
end_begins_with_no_line One n place line behind e x h =
    not_parted 10 [] (line_words place x) behind tt (e ∙ ap (λ front. front ++ behind) h.same ∙ line_then place x behind)
end_begins_with_no_line Two n place line behind e x h =
    word_is_no_line (codes "total") (decimal n ++ 10 ∷ []) refl place x behind (e ∙ ap (λ front. front ++ behind) h.same)

-- the text of one entry or more begins with a line
first_line : (place : ℕ) (e : Entry) (entries : List Entry) (rest : List ℕ) → Fits e → ¬ BeginsWithNoLine (place + 0) (text_from place (e ∷ entries) ++ rest)
first_line place e entries rest fits no_line =
    let none : BeginsWithNoLine place (text_from place (e ∷ entries) ++ rest) = rw add-zero at no_line in
    none (line_of place e) (text_from (place + 1) entries ++ rest) (append_assoc (line_of place e) (text_from (place + 1) entries) rest) e
    (record { same = refl; fits = fits })

-- lines of entries from a place on, and a rest that begins with no further one, tell the entries and the rest
same_from : (place : ℕ) (a b : List Entry) (s t : List ℕ) → All Fits a → All Fits b → BeginsWithNoLine (place + length a) s
    → BeginsWithNoLine (place + length b) t → text_from place a ++ s ≡ text_from place b ++ t → (a ≡ b) × (s ≡ t)
same_from place [] [] s t p q last last' e = (refl, e)
same_from place [] (y ∷ b) s t p q last last' e =
    absurd (first_line place y b t (All-head Fits y b q) (subst (BeginsWithNoLine (place + 0)) e last))
same_from place (x ∷ a) [] s t p q last last' e =
    absurd (first_line place x a s (All-head Fits x a p) (subst (BeginsWithNoLine (place + 0)) (sym e) last'))
same_from place (x ∷ a) (y ∷ b) s t p q last last' e =
    let fits : Fits x = All-head Fits x a p in
    let fits' : Fits y = All-head Fits y b q in
    let begun : line_words place x ++ 10 ∷ (text_from (place + 1) a ++ s) ≡ line_words place y ++ 10 ∷ (text_from (place + 1) b ++ t) =
    sym (text_then place x a s) ∙ e ∙ text_then place y b t in
    let cut = same_until 10 (line_words place x) (line_words place y) (text_from (place + 1) a ++ s) (text_from (place + 1) b ++ t)
    (line_lacks_feed place x fits) (line_lacks_feed place y fits') begun in
    let first : x ≡ y = same_line place x y fits fits' cut.0 in
    let rest = same_from (place + 1) a b s t (All-tail Fits x a p) (All-tail Fits y b q) (moved a s last) (moved b t last') cut.1 in
    let others : a ≡ b = rest.0 in
    (cc, rest.1)
  where
    text_then : (place : ℕ) (e : Entry) (entries : List Entry) (rest : List ℕ)
        → text_from place (e ∷ entries) ++ rest ≡ line_words place e ++ 10 ∷ (text_from (place + 1) entries ++ rest)
    text_then place e entries rest =
        append_assoc (line_of place e) (text_from (place + 1) entries) rest ∙ line_then place e (text_from (place + 1) entries ++ rest)

    moved : (entries : List Entry) (rest : List ℕ) → BeginsWithNoLine (place + suc (length entries)) rest → BeginsWithNoLine (place + 1 + length entries) rest
    moved entries rest h =
        let same : place + suc (length entries) ≡ place + 1 + length entries = omega arith in
        subst (λ next. BeginsWithNoLine next rest) same h

pub same_with_rest : (a b : List Entry) (s t : List ℕ) → All Fits a → All Fits b → BeginsWithNoLine (length a) s → BeginsWithNoLine (length b) t
    → log_lines a ++ s ≡ log_lines b ++ t → (a ≡ b) × (s ≡ t)
unfolding log_lines
same_with_rest a b s t p q last last' e = same_from 0 a b s t p q (rw zero-add last) (rw zero-add last') e

-- in each version the text tells the history
pub same_in : (version : Version) (a b : List Entry) → All Fits a → All Fits b → text_in version a ≡ text_in version b → a ≡ b
same_in version a b p q e = (same_with_rest a b (end_of version (length a)) (end_of version (length b)) p q
    (end_begins_with_no_line version (length a) (length a))
    (end_begins_with_no_line version (length b) (length b)) (append_cancel_left (head_of version) _ _ e)).0

pub same_history_lines : (a b : List Entry) → All Fits a → All Fits b → log_lines a ≡ log_lines b → a ≡ b
same_history_lines a b p q e = same_in One a b p q (ap (λ text. text ++ []) e)

pub same_history : (a b : List Entry) → All Fits a → All Fits b → log_text a ≡ log_text b → a ≡ b
unfolding log_text
same_history a b p q e = same_in Two a b p q e

-- no text of version 1 begins with the first line of version 2: that begins with a word
lines_have_no_head : (log : List Entry) (rest : List ℕ) → log_lines log ≢ head_line ++ rest
unfolding log_lines
lines_have_no_head [] rest e = cc
lines_have_no_head (x ∷ log) rest e = word_is_no_line (codes "taskenv") (codes "log 2\n" ++ rest) refl 0 x (text_from (0 + 1) log) (sym e)

pub versions_differ : (a b : List Entry) → log_text a ≢ log_lines b
unfolding log_text
versions_differ a b e = lines_have_no_head b (log_lines a ++ total_line (length a)) (sym e)

-- a text that begins with the first line of version 2 is read by that version, and each other by version 1
pub version_of-head : (rest : List ℕ) → version_of (head_line ++ rest) ≡ Two
unfolding version_of
version_of-head rest = refl

pub version_of-other : (text : List ℕ) → ((rest : List ℕ) → text ≢ head_line ++ rest) → version_of text ≡ One
unfolding version_of
version_of-other text other =
    rw (false_from_ne_true (starts_with eqb text head_line) (λ begins. other _ ((starts_is Decides-eqb text head_line _ refl).0 begins))) refl

-- so the text of a log is read by its own version
pub version_of-text_in : (version : Version) (log : List Entry) → version_of (text_in version log) ≡ version
version_of-text_in One log = version_of-other (log_lines log ++ []) (λ rest e. lines_have_no_head log rest (sym (append-nil (log_lines log)) ∙ e))
version_of-text_in Two log = version_of-head (log_lines log ++ total_line (length log))

-- the text of entries and more entries behind them
text_from-append : (place : ℕ) (xs ys : List Entry) → text_from place (xs ++ ys) ≡ text_from place xs ++ text_from (place + length xs) ys
text_from-append place [] ys = ap (λ start. text_from start ys) (sym (add-zero place))
text_from-append place (x ∷ xs) ys =
    let moved : place + 1 + length xs ≡ place + suc (length xs) = omega arith in
    ap (λ text. line_of place x ++ text) (text_from-append (place + 1) xs ys ∙ ap (λ start. text_from (place + 1) xs ++ text_from start ys) moved)
    ∙ sym (append_assoc (line_of place x) (text_from (place + 1) xs) (text_from (place + suc (length xs)) ys))

-- the lines of an entry more
pub log_lines-push : (log : List Entry) (e : Entry) → log_lines (log ++ e ∷ []) ≡ log_lines log ++ line_of (length log) e
unfolding log_lines
log_lines-push log e =
    text_from-append 0 log (e ∷ []) ∙ ap (λ text. text_from 0 log ++ text) (append-nil (line_of (0 + length log) e)
    ∙ ap (λ start. line_of start e) (zero-add (length log)))

-- the text of the first entries up to a place, and the line of that place
pub text_from-take_more : (log : List Entry) (i : ℕ) (d : Entry) → i < length log
    → text_from 0 (take (i + 1) log) ≡ text_from 0 (take i log) ++ line_of i (get_or log i d)
unfolding log_lines
text_from-take_more log i d within =
    let more : take (i + 1) log ≡ take i log ++ get_or log i d ∷ [] = rw add-one (take-suc log i d within) in
    let place : length (take i log) ≡ i = omega (arith, length-take-le i log) in
    ap (text_from 0) more ∙ log_lines-push (take i log) (get_or log i d)
    ∙ ap (λ start. text_from 0 (take i log) ++ line_of start (get_or log i d)) place

-- the text of the first entries begins that of all
pub log_lines-cut : (log : List Entry) (i : ℕ) → (rest : List ℕ) × (log_lines log ≡ text_from 0 (take i log) ++ rest)
unfolding log_lines
log_lines-cut log i = (
  text_from (0 + length (take i log)) (drop i log),
  ap (text_from 0) (sym (take-append-drop i log))
      ∙ text_from-append 0 (take i log) (drop i log),
)

-- the first entries are all, where so many are asked for
pub log_lines-take_all : (log : List Entry) (i : ℕ) → length log ≤ i → text_from 0 (take i log) ≡ log_lines log
unfolding log_lines
log_lines-take_all log i all = ap (text_from 0) (take_all i log all)
