-- The text of an entry's JSON row, and of the rows of a log.
-- Cited by `json_text`, `json_row`, `trace_json`.
use Rattle.std.proofs.Common.{◌≡◌, ◌≢◌, ◌<◌, ◌+◌, ℕ, true, false, suc, List, [], ◌∷◌, ◌++◌, length, get_or, take, map}
use Rattle.std.proofs.Common.{Some, None, refl, ap, ◌∙◌, append_assoc, add-zero, zero-add, arith}
use Rattle.std.specs.List.{join_with_byte}
use Rattle.std.specs.Fmt.{decimal}
use Rattle.std.proofs.lemmas.Bool.{ne_eqb}
use Rattle.std.proofs.lemmas.List.{take_more, length-take-le}
use Rattle.serde_json.specs.Data.{Data, array}
use Rattle.serde_json.specs.View.{items_of}
use Rattle.serde_json.specs.Written.{compact_text, items_text, has_float, items_have_float}
use Rattle.serde_json.proofs.OnLiterals.{serde_json_on_literals}
use Rattle.task_traits.specs.declared.traits.Priority.TheVariants.{BestEffort, UserVisible, UserBlocking}
use Rattle.task_base.specs.declared.entry.Entry.{Entry}
use Rattle.task_base.specs.declared.entry.Kind.{Kind}
use Rattle.task_base.specs.declared.entry.Kind.TheVariants as kinds
use Rattle.task_base.specs.declared.entry.JobReply.TheVariants as replies
use Rattle.task_base.specs.declared.policy.Policy.TheVariants.{All, Foreground, Nothing}
use Rattle.task_base.specs.declared.script.FenceAt.TheVariants.{Now, Start}
use Rattle.task_base.specs.declared.step.Scope.TheVariants.{May, Will}
use Rattle.log_model.specs.LogText.{Part, word, number, entry_parts, parts_of, shown_json, json_array, json_of, jsons_from, log_json}
use Rattle.run_log.specs.JsonRows.{data_of, before_row}

-- ---- a row

-- the items of an array behind its first one, with the bracket that closes it
items_joined : (d : Data) (ds : List Data)
    → compact_text d ++ items_text true (items_of ds) ≡ join_with_byte 44 (compact_text d ∷ map compact_text ds) ++ 93 ∷ []
items_joined d [] = refl
items_joined d (e ∷ ds) = rw (items_joined e ds, append_assoc) refl

-- an array is its items in brackets, parted by commas
pub array_text : (ds : List Data) → compact_text (array (items_of ds)) ≡ json_array (map compact_text ds)
array_text [] = refl
array_text (d ∷ ds) = rw (items_joined d ds) refl

-- the words of kinds have no byte that JSON escapes
kind_plain : (kind : Kind) → map compact_text (map data_of (parts_of kind)) ≡ map shown_json (parts_of kind)
unfolding serde_json_on_literals
kind_plain (kinds.Post task runner delay true) = refl
kind_plain (kinds.Post task runner delay false) = refl
kind_plain (kinds.Main task queue delay true) = refl
kind_plain (kinds.Main task queue delay false) = refl
kind_plain (kinds.Tick now) = refl
kind_plain (kinds.Take task runner found) = refl
kind_plain (kinds.End task left) = refl
kind_plain (kinds.Enter task May) = refl
kind_plain (kinds.Enter task Will) = refl
kind_plain (kinds.Leave task) = refl
kind_plain (kinds.Policy All) = refl
kind_plain (kinds.Policy Foreground) = refl
kind_plain (kinds.Policy Nothing) = refl
kind_plain (kinds.Reprio runner BestEffort) = refl
kind_plain (kinds.Reprio runner UserVisible) = refl
kind_plain (kinds.Reprio runner UserBlocking) = refl
kind_plain (kinds.Fence queue Now) = refl
kind_plain (kinds.Fence queue Start) = refl
kind_plain (kinds.Unfence queue) = refl
kind_plain (kinds.Vote queue voter true) = refl
kind_plain (kinds.Vote queue voter false) = refl
kind_plain (kinds.Rank queue class) = refl
kind_plain (kinds.Close queue) = refl
kind_plain (kinds.MainTake task queue found) = refl
kind_plain (kinds.MainEnd task left) = refl
kind_plain kinds.MainNone = refl
kind_plain (kinds.JobPost job true) = refl
kind_plain (kinds.JobPost job false) = refl
kind_plain (kinds.JobTake job id item) = refl
kind_plain (kinds.JobStep job id item value None) = refl
kind_plain (kinds.JobStep job id item value (Some next)) = refl
kind_plain (kinds.JobCancel job) = refl
kind_plain (kinds.Cancelled job) = refl
kind_plain (kinds.Joined job replies.Refused) = refl
kind_plain (kinds.Joined job (replies.Finished sum)) = refl
kind_plain (kinds.Joined job replies.Cancelled) = refl
kind_plain (kinds.Joined job replies.Stopped) = refl
kind_plain kinds.Idle = refl
kind_plain kinds.Shutdown = refl
kind_plain kinds.Done = refl

-- the data of an entry
abbrev pub row_data : ℕ → Entry → Data
row_data place e = array (items_of (map data_of (entry_parts place e)))

-- the text of the data of an entry is its JSON
pub row_data-text : (place : ℕ) (e : Entry) → compact_text (row_data place e) ≡ json_of place e
row_data-text place e =
    array_text (map data_of (entry_parts place e)) ∙ ap (λ (texts : List (List ℕ)). json_array (decimal place ∷ decimal e.seat ∷ texts)) (kind_plain e.kind)

-- no part is a float
parts_have_no_float : (parts : List Part) → items_have_float (items_of (map data_of parts)) ≡ false
parts_have_no_float [] = refl
parts_have_no_float (word bytes ∷ parts) = parts_have_no_float parts
parts_have_no_float (number n ∷ parts) = parts_have_no_float parts

-- nor has the data of an entry one
pub row_data-has_no_float : (place : ℕ) (e : Entry) → has_float (row_data place e) ≡ false
row_data-has_no_float place e = parts_have_no_float (entry_parts place e)

-- ---- rows

-- the rows of two lists of entries
jsons_from-append : (place : ℕ) (xs ys : List Entry) → jsons_from place (xs ++ ys) ≡ jsons_from place xs ++ jsons_from (place + length xs) ys
jsons_from-append place [] ys = rw add-zero refl
jsons_from-append place (x ∷ xs) ys = let shift : (place + 1) + length xs ≡ place + suc (length xs) = omega arith in
    rw (jsons_from-append (place + 1) xs ys, shift) refl

-- what stands before an item behind these: a comma, if there are any
abbrev comma_behind : List (List ℕ) → List ℕ
comma_behind [] = []
comma_behind (item ∷ items) = 44 ∷ []

-- one item more
join-push : (items : List (List ℕ)) (last : List ℕ) → join_with_byte 44 (items ++ last ∷ []) ≡ join_with_byte 44 items ++ (comma_behind items ++ last)
join-push [] last = refl
join-push (item ∷ []) last = refl
join-push (item ∷ next ∷ items) last = rw (join-push (next ∷ items) last, append_assoc) refl

-- a comma stands before each row but the first
comma_at : (place : ℕ) (xs : List Entry) → length xs ≡ place → comma_behind (jsons_from 0 xs) ≡ before_row place
comma_at place [] h = rw (← h) refl
comma_at place (x ∷ xs) h = let later : place ≢ 0 = omega (arith, h) in rw ne_eqb refl

-- the rows up to a place, and the row of that place
pub rows_more : (text row : List ℕ) (xs : List Entry) (i : ℕ) (d : Entry) → text ≡ 91 ∷ join_with_byte 44 (jsons_from 0 (take i xs))
    → row ≡ json_of i (get_or xs i d)
    → i < length xs → (text ++ before_row i) ++ row ≡ 91 ∷ join_with_byte 44 (jsons_from 0 (take (i + 1) xs))
rows_more text row xs i d p q h =
    let short : length (take i xs) ≡ i = length-take-le i xs (omega arith) in
    let push = join-push (jsons_from 0 (take i xs)) (json_of i (get_or xs i d)) in
    rw (take_more xs i d h, jsons_from-append 0 (take i xs) (get_or xs i d ∷ []), short, zero-add, push, comma_at i (take i xs) short, p, q)
    (append_assoc (91 ∷ join_with_byte 44 (jsons_from 0 (take i xs))) (before_row i) (json_of i (get_or xs i d)))

-- all rows and what closes the log
pub rows_all : (text : List ℕ) (xs : List Entry) → text ≡ 91 ∷ join_with_byte 44 (jsons_from 0 xs) → text ++ 93 ∷ 10 ∷ [] ≡ log_json xs ++ 10 ∷ []
unfolding log_json
rows_all text xs p = rw (p, append_assoc) refl
