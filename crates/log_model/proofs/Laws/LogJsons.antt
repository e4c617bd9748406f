-- The JSON form of a log tells the history.
-- Cited by `log_text.rt`, `hist_model`.
use Rattle.std.proofs.Common.{◌≡◌, ◌+◌, ℕ, List, [], ◌∷◌, ◌++◌, All, refl, sym, ap, ◌∙◌, arith, append_assoc}
use Rattle.std.specs.Prelude.{map}
use Rattle.std.specs.Fmt.{decimal}
use Rattle.std.specs.List.{join_with_byte}
use Rattle.std.proofs.lemmas.List.{append_cancel_right}
use Rattle.std.proofs.lemmas.List.Elements.{All-head, All-tail}
use Rattle.task_base.specs.declared.entry.Entry.{Entry}
use Rattle.log_model.specs.Fits.{Fits}
use Rattle.log_model.specs.LogText.{entry_parts, shown_json, json_of, jsons_from, log_json}
use Rattle.log_model.proofs.Laws.Pieces.{Lacks, same_until}
use Rattle.log_model.proofs.Laws.LogParts.{decimal_lacks, shown_json_lacks, same_shown_json, same_joined, joined_parts_lack}
use Rattle.log_model.proofs.Laws.LogLines.{seat_parts, seat_parts_fit, same_entry}

-- what stands between the brackets of an entry
abbrev json_words : ℕ → Entry → List ℕ
json_words place e = join_with_byte 44 (map shown_json (entry_parts place e))

-- it has no closing bracket
json_lacks_bracket : (place : ℕ) (e : Entry) → Fits e → Lacks 93 (json_words place e)
json_lacks_bracket place e h = joined_parts_lack shown_json 93 44 (λ same. omega arith) (shown_json_lacks 93 refl (λ same. omega arith)) (decimal place)
    (seat_parts e) (decimal_lacks 93 refl place) (seat_parts_fit e h)

-- at its place it tells the entry
same_json : (place : ℕ) (a b : Entry) → Fits a → Fits b → json_words place a ≡ json_words place b → a ≡ b
same_json place a b p q e = same_entry a b
    (same_joined shown_json 44 (shown_json_lacks 44 refl (λ same. omega arith)) same_shown_json (decimal place) (seat_parts a) (seat_parts b)
    (decimal_lacks 44 refl place) (seat_parts_fit a p) (seat_parts_fit b q) e)

-- what joined items have behind the first: nothing, or a comma and the joined rest
abbrev behind : List (List ℕ) → List ℕ
behind [] = []
behind (item ∷ items) = 44 ∷ join_with_byte 44 (item ∷ items)

same_behind : (xs ys : List (List ℕ)) → behind xs ≡ behind ys → join_with_byte 44 xs ≡ join_with_byte 44 ys
same_behind [] [] e = refl
same_behind [] (y ∷ ys) e = cc
same_behind (x ∷ xs) [] e = cc
same_behind (x ∷ xs) (y ∷ ys) e = cc

-- joined items begin with the first entry
joined_first : (place : ℕ) (e : Entry) (rest : List (List ℕ)) → join_with_byte 44 (json_of place e ∷ rest) ≡ 91 ∷ json_words place e ++ 93 ∷ behind rest
joined_first place e [] = refl
joined_first place e (item ∷ items) = ap (λ text. 91 ∷ text) (append_assoc (json_words place e) (93 ∷ []) (behind (item ∷ items)))

-- the entries from a place on, joined, tell the entries
same_from : (place : ℕ) (a b : List Entry) → All Fits a → All Fits b → join_with_byte 44 (jsons_from place a) ≡ join_with_byte 44 (jsons_from place b) → a ≡ b
same_from place [] [] p q e = refl
same_from place [] (y ∷ b) p q e =
    let begun : [] ≡ 91 ∷ json_words place y ++ 93 ∷ behind (jsons_from (place + 1) b) = e ∙ joined_first place y (jsons_from (place + 1) b) in
    cc
same_from place (x ∷ a) [] p q e =
    let begun : [] ≡ 91 ∷ json_words place x ++ 93 ∷ behind (jsons_from (place + 1) a) = sym e ∙ joined_first place x (jsons_from (place + 1) a) in
    cc
same_from place (x ∷ a) (y ∷ b) p q e =
    let fits : Fits x = All-head Fits x a p in
    let fits' : Fits y = All-head Fits y b q in
    let begun : 91 ∷ json_words place x ++ 93 ∷ behind (jsons_from (place + 1) a) ≡ 91 ∷ json_words place y ++ 93 ∷ behind (jsons_from (place + 1) b) =
    sym (joined_first place x (jsons_from (place + 1) a)) ∙ e ∙ joined_first place y (jsons_from (place + 1) b) in
    let inside : json_words place x ++ 93 ∷ behind (jsons_from (place + 1) a) ≡ json_words place y ++ 93 ∷ behind (jsons_from (place + 1) b) = cc in
    let cut = same_until 93 (json_words place x) (json_words place y) (behind (jsons_from (place + 1) a)) (behind (jsons_from (place + 1) b))
    (json_lacks_bracket place x fits) (json_lacks_bracket place y fits') inside in
    let first : x ≡ y = same_json place x y fits fits' cut.0 in
    let rest : a ≡ b = same_from (place + 1) a b (All-tail Fits x a p) (All-tail Fits y b q)
    (same_behind (jsons_from (place + 1) a) (jsons_from (place + 1) b) cut.1) in
    cc

-- the whole form tells the history
pub same_history_json : (a b : List Entry) → All Fits a → All Fits b → log_json a ≡ log_json b → a ≡ b
unfolding log_json
same_history_json a b p q e =
    let inside : join_with_byte 44 (jsons_from 0 a) ++ 93 ∷ [] ≡ join_with_byte 44 (jsons_from 0 b) ++ 93 ∷ [] = cc in
    same_from 0 a b p q (append_cancel_right (join_with_byte 44 (jsons_from 0 a)) (join_with_byte 44 (jsons_from 0 b)) (93 ∷ []) inside)
