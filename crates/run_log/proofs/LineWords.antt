-- The words of the line of an entry.
-- Cited by `entry_at`.
use Rattle.std.proofs.Common.{◌≡◌, ℕ, suc, ◌-◌, ◌<◌, ◌≤◌, ◌^◌, List, [], ◌∷◌, ◌++◌, length, get_or, take, All, map, eqb, false}
use Rattle.std.proofs.Common.{Option, Some, None, IfSome, refl, sym, ap, ◌∙◌, arith, length-append, drop-cons}
use Rattle.std.specs.Fmt.{decimal}
use Rattle.std.specs.List.{AllByRecursion, slice_split, join_with_byte}
use Rattle.std.proofs.Math.Seq.{take-append_seam}
use Rattle.std.proofs.lemmas.Bool.{eq-eqb, ne_eqb}
use Rattle.std.proofs.lemmas.List.{drop_all, take-append-drop}
use Rattle.std.proofs.lemmas.List.Elements.{All-nil, All-cons}
use Rattle.std.proofs.lemmas.List.Splits.{slice_split_none, slice_split_at, join_with_byte-slice_split}
use Rattle.task_base.specs.declared.entry.Entry.{Entry}
use Rattle.log_model.specs.Fits.{Fits}
use Rattle.log_model.specs.LogText.{IsLogLine, Part, entry_parts, shown, line_of}
use Rattle.log_model.proofs.Laws.Pieces.{Lacks}
use Rattle.log_model.proofs.Laws.LogParts.{PartFits, decimal_lacks, shown_lacks}
use Rattle.log_model.proofs.Laws.LogLines.{line_words, seat_parts, seat_parts_fit}
use Rattle.entry_lines.proofs.ReadBack.{of_32, reads_back}
use Rattle.run_log.specs.Entries.{entry_of, spaced_words}

-- a piece that lacks the byte, as a test
fails_each : (c : ℕ) (piece : List ℕ) → Lacks c piece → All (λ b. eqb b c ≡ false) piece
fails_each c [] h = All-nil (λ b. eqb b c ≡ false)
fails_each c (b ∷ piece) h = All-cons (λ x. eqb x c ≡ false) b piece (ne_eqb b c h.0) (fails_each c piece h.1)

-- joined pieces that lack the byte are split into the pieces
split_joined : (c : ℕ) (piece : List ℕ) (pieces : List (List ℕ)) → AllByRecursion (Lacks c) (piece ∷ pieces)
    → slice_split (λ b. eqb b c) (join_with_byte c (piece ∷ pieces)) ≡ piece ∷ pieces
split_joined c piece [] h = slice_split_none (λ b. eqb b c) piece (fails_each c piece h.0)
split_joined c piece (next ∷ pieces) h =
    slice_split_at (λ b. eqb b c) piece c (join_with_byte c (next ∷ pieces)) (fails_each c piece h.0) (eq-eqb c c refl)
    ∙ ap (λ rest. piece ∷ rest) (split_joined c next pieces h.1)

-- no part has a space
parts_lack_space : (parts : List Part) → AllByRecursion PartFits parts → AllByRecursion (Lacks 32) (map shown parts)
parts_lack_space [] h = tt
parts_lack_space (part ∷ parts) h = (shown_lacks 32 refl part h.0, parts_lack_space parts h.1)

-- the words of a line are the parts of its entry
pub spaced_words-line : (place : ℕ) (e : Entry) → Fits e → spaced_words (line_words place e) ≡ map shown (entry_parts place e)
spaced_words-line place e h =
    split_joined 32 (decimal place) (map shown (seat_parts e)) (decimal_lacks 32 refl place, parts_lack_space (seat_parts e) (seat_parts_fit e h))

-- what stands before the last byte of a line is its words
front_of-line : (place : ℕ) (e : Entry) (bytes : List ℕ) → bytes ≡ line_of place e → take (length bytes - 1) bytes ≡ line_words place e
front_of-line place e bytes same =
    let count : length bytes - 1 ≡ length (line_words place e) = rw (same, length-append) (omega arith) in
    rw (count, same) (take-append_seam (line_words place e) (10 ∷ []))

-- so the bytes before it are split into the parts of the entry
pub spaced_words-front : (place : ℕ) (e : Entry) (bytes : List ℕ) → IsLogLine place bytes e
    → spaced_words (take (length bytes - 1) bytes) ≡ map shown (entry_parts place e)
spaced_words-front place e bytes h = ap spaced_words (front_of-line place e bytes h.same) ∙ spaced_words-line place e h.fits

-- what stands before the last byte, and that byte
front_and_last : (bytes : List ℕ) (last : ℕ) → 0 < length bytes → get_or bytes (length bytes - 1) 0 ≡ last → bytes ≡ take (length bytes - 1) bytes ++ last ∷ []
front_and_last bytes last some same =
    let n : ℕ = length bytes - 1 in
    let within : n < length bytes = omega arith in
    let end : length bytes ≤ suc n = omega arith in
    sym (take-append-drop n bytes) ∙ rw (drop-cons bytes n 0 within, same, drop_all (suc n) bytes end) refl

-- bytes that are split into the parts of an entry, and end with a line feed, are its line
line_from-words : (place : ℕ) (e : Entry) (bytes : List ℕ) → 0 < length bytes → get_or bytes (length bytes - 1) 0 ≡ 10
    → spaced_words (take (length bytes - 1) bytes) ≡ map shown (entry_parts place e) → bytes ≡ line_of place e
line_from-words place e bytes some feed words =
    front_and_last bytes 10 some feed
    ∙ ap (λ front. front ++ 10 ∷ []) (sym (join_with_byte-slice_split 32 (take (length bytes - 1) bytes)) ∙ ap (join_with_byte 32) words)

-- so an answer whose parts these are is that of the line
pub answers_line : (place : ℕ) (bytes : List ℕ) (words : List (List ℕ)) (o : Option Entry) → 0 < length bytes → get_or bytes (length bytes - 1) 0 ≡ 10
    → words ≡ spaced_words (take (length bytes - 1) bytes) → IfSome o (λ e. words ≡ map shown (entry_parts place e)) → IfSome o Fits
    → IfSome o (λ e. IsLogLine place bytes e)
answers_line place bytes words None some feed same parts fits = tt
answers_line place bytes words (Some e) some feed same parts fits = record { same = line_from-words place e bytes some feed (sym same ∙ parts); fits = fits }

-- the words of an entry at a place are read as that entry
pub entry_reads_back : (place : ℕ) (e : Entry) → place < 2 ^ 32 → Fits e → entry_of place (map shown (entry_parts place e)) ≡ Some e
unfolding entry_of
entry_reads_back place e low h = rw (of_32 place low, of_32 e.seat h.seat, reads_back e.kind h.kind, eq-eqb place place refl) refl
