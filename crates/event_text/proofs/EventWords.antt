-- The words of the line of an event, and what is read from them.
-- Cited by `event_at`, `EventLines`.
use Rattle.std.proofs.Common.{◌≡◌, ◌≢◌, ℕ, suc, ◌-◌, ◌<◌, ◌≤◌, ◌^◌, List, [], ◌∷◌, ◌++◌, length, get_or, take, All, map, eqb, true, false}
use Rattle.std.proofs.Common.{Option, Some, None, IfSome, refl, sym, ap, subst, ◌∙◌, arith, length-append, drop-cons}
use Rattle.std.specs.Fmt.{decimal}
use Rattle.std.specs.Char.{is_ascii_digit}
use Rattle.std.specs.Str.{all_ascii_digits}
use Rattle.std.specs.List.{AllByRecursion, slice_split, join_with_byte}
use Rattle.std.proofs.Math.Seq.{take-append_seam, get_or-append_seam}
use Rattle.std.proofs.lemmas.Bool.{and_parts, eq-eqb, false≢true, lt-ltb, ne_eqb}
use Rattle.std.proofs.lemmas.Fmt.{decimal_nonempty, digits_decimal}
use Rattle.std.proofs.lemmas.List.{drop_all, take-append-drop}
use Rattle.std.proofs.lemmas.Option.{same_Some}
use Rattle.std.proofs.lemmas.List.Elements.{All-nil, All-cons}
use Rattle.std.proofs.lemmas.List.Splits.{slice_split_none, slice_split_at, join_with_byte-slice_split}
use Rattle.numeral_text.proofs.Digits.{numerals}
use Rattle.numeral_text.proofs.Numbers.{number_of-decimal}
use Rattle.task_base.specs.declared.entry.Entry.{Entry}
use Rattle.log_model.specs.Fits.{Fits}
use Rattle.log_model.specs.LogText.{Part, shown}
use Rattle.log_model.proofs.Laws.Pieces.{Lacks, Lacks-append}
use Rattle.log_model.proofs.Laws.LogParts.{PartFits, is_plain, decimal_lacks, shown_lacks, joined_lacks}
use Rattle.log_model.proofs.Laws.LogLines.{seat_parts, seat_parts_fit}
use Rattle.entry_lines.proofs.ReadBack.{of_32, reads_back, few_words}
use Rattle.order_model.specs.declared.event.Event.{Event}
use Rattle.order_model.specs.declared.event.Span.{Span}
use Rattle.event_text.specs.EventText.{EventFits, SpanFits, entry_words, event_line, event_words, span_words}
use Rattle.event_text.specs.Reading.{IsEventLine, closing_of, entry_of, event_of, spaced_words, timed_of, untimed_of}

-- a piece that lacks the byte, as a test
fails_each : (c : ℕ) (piece : List ℕ) → Lacks c piece → All (λ b. eqb b c ≡ false) piece
fails_each c [] h = All-nil (λ b. eqb b c ≡ false)
fails_each c (b ∷ piece) h = All-cons (λ x. eqb x c ≡ false) b piece (ne_eqb b c h.0) (fails_each c piece h.1)

-- joined pieces that lack the byte are split into the pieces
split_joined : (c : ℕ) (piece : List ℕ) (pieces : List (List ℕ)) → AllByRecursion (Lacks c) (piece ∷ pieces)
    → slice_split (λ b. eqb b c) (join_with_byte c (piece ∷ pieces)) ≡ piece ∷ pieces
split_joined c piece [] h = slice_split_none (λ b. eqb b c) piece (fails_each c piece h.0)
split_joined c piece (next ∷ pieces) h =
    slice_split_at (λ b. eqb b c) piece c (join_with_byte c (next ∷ pieces)) (fails_each c piece h.0) (eq-eqb c c refl)
    ∙ ap (λ rest. piece ∷ rest) (split_joined c next pieces h.1)

-- no part of an entry has a byte that is not plain
parts_lack : (c : ℕ) → is_plain c ≡ false → (parts : List Part) → AllByRecursion PartFits parts → AllByRecursion (Lacks c) (map shown parts)
parts_lack c out [] h = tt
parts_lack c out (part ∷ parts) h = (shown_lacks c out part h.0, parts_lack c out parts h.1)

entry_words_lack : (c : ℕ) → is_plain c ≡ false → (e : Entry) → Fits e → AllByRecursion (Lacks c) (entry_words e)
entry_words_lack c out e h = parts_lack c out (seat_parts e) (seat_parts_fit e h)

-- no word of an event has such a byte that is no bracket
words_lack : (c : ℕ) → is_plain c ≡ false → 91 ≢ c → 93 ≢ c → (span : Option Span) (e : Entry) → Fits e
    → AllByRecursion (Lacks c) (span_words span ++ entry_words e)
words_lack c out opened closed None e h = entry_words_lack c out e h
words_lack c out opened closed (Some span) e h =
    let last : Lacks c (decimal span.to ++ 93 ∷ []) = Lacks-append c (decimal span.to) (93 ∷ []) (decimal_lacks c out span.to) (closed, tt) in
    ((opened, decimal_lacks c out span.from), (last, entry_words_lack c out e h))

-- the words of a line, joined
abbrev pub joined : Event → List ℕ
joined e = join_with_byte 32 (event_words e)

-- they are split at the spaces into the words
split_words : (span : Option Span) (e : Entry) → Fits e → spaced_words (join_with_byte 32 (span_words span ++ entry_words e)) ≡ span_words span ++ entry_words e
split_words None e h = split_joined 32 _ _ (words_lack 32 refl (omega arith) (omega arith) None e h)
split_words (Some span) e h = split_joined 32 _ _ (words_lack 32 refl (omega arith) (omega arith) (Some span) e h)

-- they have no line feed
pub joined_lacks_feed : (e : Event) → EventFits e → Lacks 10 (joined e)
joined_lacks_feed e h =
    joined_lacks 10 32 (event_words e) (λ same. omega arith) (words_lack 10 refl (omega arith) (omega arith) e.span e.entry h.entry)

-- what stands before the last byte of a line is its words
front_of-line : (e : Event) (bytes : List ℕ) → bytes ≡ event_line e → take (length bytes - 1) bytes ≡ joined e
front_of-line e bytes same =
    let count : length bytes - 1 ≡ length (joined e) = rw (same, length-append) (omega arith) in
    rw (count, same) (take-append_seam (joined e) (10 ∷ []))

-- so the bytes before it are split into the words of the event
pub spaced_words-front : (e : Event) (bytes : List ℕ) → IsEventLine bytes e → spaced_words (take (length bytes - 1) bytes) ≡ event_words e
spaced_words-front e bytes h = ap spaced_words (front_of-line e bytes h.same) ∙ split_words e.span e.entry h.fits.entry

-- what stands before the last byte, and that byte
front_and_last : (bytes : List ℕ) (last : ℕ) → 0 < length bytes → get_or bytes (length bytes - 1) 0 ≡ last
    → bytes ≡ take (length bytes - 1) bytes ++ last ∷ []
front_and_last bytes last some same =
    let n : ℕ = length bytes - 1 in
    let within : n < length bytes = omega arith in
    let end : length bytes ≤ suc n = omega arith in
    sym (take-append-drop n bytes) ∙ rw (drop-cons bytes n 0 within, same, drop_all (suc n) bytes end) refl

-- bytes that are split into the words of an event, and end with a line feed, are its line
line_from-words : (e : Event) (bytes : List ℕ) → 0 < length bytes → get_or bytes (length bytes - 1) 0 ≡ 10
    → spaced_words (take (length bytes - 1) bytes) ≡ event_words e → bytes ≡ event_line e
line_from-words e bytes some feed words =
    front_and_last bytes 10 some feed
    ∙ ap (λ front. front ++ 10 ∷ []) (sym (join_with_byte-slice_split 32 (take (length bytes - 1) bytes)) ∙ ap (join_with_byte 32) words)

-- so an answer whose words these are is that of the line
pub answers_line : (bytes : List ℕ) (words : List (List ℕ)) (o : Option Event) → 0 < length bytes → get_or bytes (length bytes - 1) 0 ≡ 10
    → words ≡ spaced_words (take (length bytes - 1) bytes) → IfSome o (λ e. words ≡ event_words e) → IfSome o EventFits → IfSome o (λ e. IsEventLine bytes e)
answers_line bytes words None some feed same parts fits = tt
answers_line bytes words (Some e) some feed same parts fits = record { same = line_from-words e bytes some feed (sym same ∙ parts); fits = fits }

-- a bracket after digits is read
closing_reads_back : (n : ℕ) → n < 2 ^ 64 → closing_of (decimal n ++ 93 ∷ []) ≡ Some n
unfolding closing_of
closing_reads_back n fits =
    let long : length (decimal n ++ 93 ∷ []) ≡ suc (length (decimal n)) = rw length-append (omega arith) in
    let front : length (decimal n ++ 93 ∷ []) - 1 ≡ length (decimal n) = omega (arith, long) in
    rw (
      front,
      get_or-append_seam (decimal n) 93 [] 0,
      take-append_seam (decimal n) (93 ∷ []),
      long,
      lt-ltb 0 (suc (length (decimal n))) (omega arith),
      number_of-decimal 64 n fits fits,
    ) refl

-- the words of an entry are read as that entry
entry_reads_back : (e : Entry) → Fits e → entry_of (entry_words e) ≡ Some e
unfolding entry_of
entry_reads_back e h = rw (of_32 e.seat h.seat, reads_back e.kind h.kind) refl

-- words whose first is digits are read without a span
plain_first : (first : List ℕ) (words : List (List ℕ)) → all_ascii_digits first ≡ true → 0 < length first
    → event_of (first ∷ words) ≡ untimed_of (first ∷ words)
unfolding event_of
plain_first [] words h some = absurd (omega arith)
plain_first (byte ∷ digits) words h some =
    let digit : is_ascii_digit byte ≡ true = (and_parts (is_ascii_digit byte) (all_ascii_digits digits) h).0 in
    let plain : byte ≢ 91 = λ same. let bracket : is_ascii_digit 91 ≡ true = subst (λ b. is_ascii_digit b ≡ true) same digit in false≢true bracket in
    rw (ne_eqb byte 91 plain) refl

-- the words of an event are read as that event
reads_back_at : (span : Option Span) (e : Entry) → Fits e → SpanFits span
    → event_of (span_words span ++ entry_words e) ≡ Some (record { entry = e; span = span })
unfolding event_of timed_of untimed_of
reads_back_at None e h fits =
    let seat : e.seat < 2 ^ 64 = omega (arith, h.seat) in
    plain_first (decimal e.seat) _ (digits_decimal numerals e.seat seat) (decimal_nonempty e.seat seat) ∙ rw (entry_reads_back e h) refl
reads_back_at (Some span) e h fits =
    rw (number_of-decimal 64 span.from fits.0 fits.0, closing_reads_back span.to fits.1, entry_reads_back e h) refl

pub event_reads_back : (e : Event) → EventFits e → event_of (event_words e) ≡ Some e
event_reads_back e h = reads_back_at e.span e.entry h.entry h.span

-- so the words of a line, joined, tell the event
pub same_event : (a b : Event) → EventFits a → EventFits b → joined a ≡ joined b → a ≡ b
same_event a b p q e =
    let words : event_words a ≡ event_words b =
    sym (split_words a.span a.entry p.entry) ∙ ap spaced_words e ∙ split_words b.span b.entry q.entry in
    same_Some a b (sym (event_reads_back a p) ∙ ap event_of words ∙ event_reads_back b q)

-- an event has at most nine words
pub few_event_words : (e : Event) → length (event_words e) ≤ 9
few_event_words e = by_span e.span e.entry
  where
    by_span : (span : Option Span) (e : Entry) → length (span_words span ++ entry_words e) ≤ 9
    by_span None e = let few = few_words 0 e in omega arith
    by_span (Some span) e = let few = few_words 0 e in omega arith
