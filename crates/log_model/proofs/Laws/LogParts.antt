-- The parts of an entry: what they are written as, and what they tell.
-- Cited by `Laws/LogJsons`, `Laws/LogLines`, `Laws/LogTexts`, `event_text`, `run_log`.
use Rattle.std.proofs.Common.{◌≡◌, ◌≢◌, ◌==◌, ◌<◌, ◌+◌, ◌/◌, ◌%◌, ◌^◌, ℕ, zero, suc, get_or, Bool, true, false, if◌then◌else◌}
use Rattle.std.proofs.Common.{Option, None, Some, List, [], ◌∷◌, ◌++◌, refl, sym, ap, ◌∙◌, arith, nat_lt}
use Rattle.std.specs.Prelude.{◌&&◌, not, nat_eq, map, codes, unwrap_or}
use Rattle.std.specs.Cmp.Lexicographic.{pointwise}
use Rattle.std.specs.Fmt.{decimal, digits, digits_onto, digit_glyph}
use Rattle.std.specs.List.{AllByRecursion, list_all, join_with_byte}
use Rattle.std.proofs.lemmas.Fmt.{decimal_injective}
use Rattle.std.proofs.lemmas.List.{append_cancel_right}
use Rattle.task_traits.specs.declared.traits.Priority.TheVariants.{BestEffort, UserVisible, UserBlocking}
use Rattle.task_base.specs.declared.entry.Kind.{Kind}
use Rattle.task_base.specs.declared.entry.Kind.TheVariants as kinds
use Rattle.task_base.specs.declared.entry.JobReply.{JobReply}
use Rattle.task_base.specs.declared.entry.JobReply.TheVariants as replies
use Rattle.task_base.specs.declared.policy.Policy.TheVariants.{All, Foreground, Nothing}
use Rattle.task_base.specs.declared.script.FenceAt.TheVariants.{Now, Start}
use Rattle.task_base.specs.declared.step.Scope.TheVariants.{May, Will}
use Rattle.value_words.specs.Words.{fence_named, policy_named, priority_named, reply_named, scope_named, vote_named}
use Rattle.log_model.specs.Fits.{KindFits}
use Rattle.log_model.specs.LogText.{Part, word, number, parts_of, shown, shown_json}
use Rattle.log_model.proofs.Laws.Pieces.{Lacks, Lacks-append, same_pieces}

-- no space, no line feed, and none of the quotation mark, the comma and the closing bracket of JSON
abbrev pub is_plain : ℕ → Bool
is_plain b = nat_lt 44 b && not (nat_eq b 93)

abbrev is_digit : ℕ → Bool
is_digit b = nat_lt 47 b && nat_lt b 58

-- plain bytes that are no number
abbrev pub is_name : List ℕ → Bool
is_name bytes = list_all is_plain bytes && not (list_all is_digit bytes)

-- a word is no number, and a number is of 64 bits
abbrev pub PartFits : Part → Type 0
PartFits (word bytes) = is_name bytes ≡ true
PartFits (number n) = n < 2 ^ 64

-- the number and the word of a part
abbrev value_of : Part → ℕ
value_of (word bytes) = 0
value_of (number n) = n

abbrev bytes_of : Part → List ℕ
bytes_of (word bytes) = bytes
bytes_of (number n) = []

-- the part at a place is this word
abbrev says : List Part → ℕ → List ℕ → Bool
says parts k name = pointwise nat_eq (bytes_of (get_or parts k (number 0))) name

abbrev value_at : List Part → ℕ → ℕ
value_at parts k = value_of (get_or parts k (number 0))

-- the value that the part at a place names, or else this one
abbrev named_at : {A : Type 0} → (List ℕ → Option A) → List Part → ℕ → A → A
named_at named parts k other = unwrap_or (named (bytes_of (get_or parts k (number 0)))) other

abbrev reply_read : List Part → ℕ → JobReply
reply_read parts k = if says parts k (codes "refused") then replies.Refused else if says parts k (codes "done") then replies.Finished
    (value_at parts (k + 1)) else if says parts k (codes "cancelled") then replies.Cancelled else replies.Stopped

abbrev next_read : List Part → ℕ → Option ℕ
next_read parts k = if says parts k (codes "-") then None else Some (value_at parts k)

-- the kind whose parts these are
abbrev kind_read : List Part → Kind
kind_read p =
    let v = value_at p in
    if says p 0 (codes "post") then kinds.Post (v 1) (v 2) (v 3) (named_at reply_named p 4 false)
    else if says p 0 (codes "main") then kinds.Main (v 1) (v 2) (v 3) (named_at reply_named p 4 false)
    else if says p 0 (codes "tick") then kinds.Tick (v 1)
    else if says p 0 (codes "take") then kinds.Take (v 1) (v 2) (v 3)
    else if says p 0 (codes "end") then kinds.End (v 1) (v 2)
    else if says p 0 (codes "block") then kinds.Enter (v 1) (named_at scope_named p 2 Will)
    else if says p 0 (codes "unblock") then kinds.Leave (v 1)
    else if says p 0 (codes "policy") then kinds.Policy (named_at policy_named p 1 Foreground)
    else if says p 0 (codes "reprio") then kinds.Reprio (v 1) (named_at priority_named p 2 UserBlocking)
    else if says p 0 (codes "fence") then kinds.Fence (v 1) (named_at fence_named p 2 Start)
    else if says p 0 (codes "unfence") then kinds.Unfence (v 1)
    else if says p 0 (codes "vote") then kinds.Vote (v 1) (v 2) (named_at vote_named p 3 false)
    else if says p 0 (codes "rank") then kinds.Rank (v 1) (v 2)
    else if says p 0 (codes "close") then kinds.Close (v 1)
    else if says p 0 (codes "maintake") then kinds.MainTake (v 1) (v 2) (v 3)
    else if says p 0 (codes "mainend") then kinds.MainEnd (v 1) (v 2)
    else if says p 0 (codes "mainnone") then kinds.MainNone
    else if says p 0 (codes "startjob") then kinds.JobPost (v 1) (named_at reply_named p 2 false)
    else if says p 0 (codes "jobtake") then kinds.JobTake (v 1) (v 2) (v 3)
    else if says p 0 (codes "jobstep") then kinds.JobStep (v 1) (v 2) (v 3) (v 4) (next_read p 5)
    else if says p 0 (codes "cancel") then kinds.JobCancel (v 1)
    else if says p 0 (codes "cancelled") then kinds.Cancelled (v 1)
    else if says p 0 (codes "joined") then kinds.Joined (v 1) (reply_read p 2)
    else if says p 0 (codes "idle") then kinds.Idle
    else if says p 0 (codes "shutdown") then kinds.Shutdown
    else kinds.Done

-- the parts of a kind tell the kind
reads_back : (kind : Kind) → kind_read (parts_of kind) ≡ kind
reads_back (kinds.Post task runner delay true) = refl
reads_back (kinds.Post task runner delay false) = refl
reads_back (kinds.Main task queue delay true) = refl
reads_back (kinds.Main task queue delay false) = refl
reads_back (kinds.Tick now) = refl
reads_back (kinds.Take task runner found) = refl
reads_back (kinds.End task left) = refl
reads_back (kinds.Enter task May) = refl
reads_back (kinds.Enter task Will) = refl
reads_back (kinds.Leave task) = refl
reads_back (kinds.Policy All) = refl
reads_back (kinds.Policy Foreground) = refl
reads_back (kinds.Policy Nothing) = refl
reads_back (kinds.Reprio runner BestEffort) = refl
reads_back (kinds.Reprio runner UserVisible) = refl
reads_back (kinds.Reprio runner UserBlocking) = refl
reads_back (kinds.Fence queue Now) = refl
reads_back (kinds.Fence queue Start) = refl
reads_back (kinds.Unfence queue) = refl
reads_back (kinds.Vote queue voter true) = refl
reads_back (kinds.Vote queue voter false) = refl
reads_back (kinds.Rank queue class) = refl
reads_back (kinds.Close queue) = refl
reads_back (kinds.MainTake task queue found) = refl
reads_back (kinds.MainEnd task left) = refl
reads_back kinds.MainNone = refl
reads_back (kinds.JobPost job true) = refl
reads_back (kinds.JobPost job false) = refl
reads_back (kinds.JobTake job id item) = refl
reads_back (kinds.JobStep job id item value None) = refl
reads_back (kinds.JobStep job id item value (Some next)) = refl
reads_back (kinds.JobCancel job) = refl
reads_back (kinds.Cancelled job) = refl
reads_back (kinds.Joined job replies.Refused) = refl
reads_back (kinds.Joined job (replies.Finished sum)) = refl
reads_back (kinds.Joined job replies.Cancelled) = refl
reads_back (kinds.Joined job replies.Stopped) = refl
reads_back kinds.Idle = refl
reads_back kinds.Shutdown = refl
reads_back kinds.Done = refl

pub same_kind : (a b : Kind) → parts_of a ≡ parts_of b → a ≡ b
same_kind a b e = sym (reads_back a) ∙ ap kind_read e ∙ reads_back b

-- the parts of a kind that the code can hold
pub parts_fit : (kind : Kind) → KindFits kind → AllByRecursion PartFits (parts_of kind)
parts_fit (kinds.Post task runner delay true) h = search arith
parts_fit (kinds.Post task runner delay false) h = search arith
parts_fit (kinds.Main task queue delay true) h = search arith
parts_fit (kinds.Main task queue delay false) h = search arith
parts_fit (kinds.Enter task May) h = search arith
parts_fit (kinds.Enter task Will) h = search arith
parts_fit (kinds.Policy All) h = search arith
parts_fit (kinds.Policy Foreground) h = search arith
parts_fit (kinds.Policy Nothing) h = search arith
parts_fit (kinds.Reprio runner BestEffort) h = search arith
parts_fit (kinds.Reprio runner UserVisible) h = search arith
parts_fit (kinds.Reprio runner UserBlocking) h = search arith
parts_fit (kinds.Fence queue Now) h = search arith
parts_fit (kinds.Fence queue Start) h = search arith
parts_fit (kinds.Vote queue voter true) h = search arith
parts_fit (kinds.Vote queue voter false) h = search arith
parts_fit (kinds.JobPost job true) h = search arith
parts_fit (kinds.JobPost job false) h = search arith
parts_fit (kinds.JobStep job id item value None) h = search arith
parts_fit (kinds.JobStep job id item value (Some next)) h = search arith
parts_fit (kinds.Joined job replies.Refused) h = search arith
parts_fit (kinds.Joined job (replies.Finished sum)) h = search arith
parts_fit (kinds.Joined job replies.Cancelled) h = search arith
parts_fit (kinds.Joined job replies.Stopped) h = search arith
parts_fit kind h = search arith

-- the byte of a digit
abbrev IsDigit : ℕ → Type 0
IsDigit b = (47 < b) × (b < 58)

digit_glyph_is_digit : (d : ℕ) → d < 10 → IsDigit (digit_glyph false d)
digit_glyph_is_digit d low = grind arith

-- digits before digits
digits_onto_digits : (k n : ℕ) (acc : List ℕ) → AllByRecursion IsDigit acc → AllByRecursion IsDigit (digits_onto k 10 false n acc)
digits_onto_digits zero n acc h = h
digits_onto_digits (suc k) n acc h =
    let more : AllByRecursion IsDigit (digit_glyph false (n % 10) ∷ acc) = (digit_glyph_is_digit (n % 10) (omega arith), h) in
    elim (n / 10 == 0) as (λ last. AllByRecursion IsDigit (if last then digit_glyph false (n % 10) ∷ acc else digits_onto k 10 false (n / 10)
    (digit_glyph false (n % 10) ∷ acc))) [
      | true ↦ more
      | false ↦ digits_onto_digits k (n / 10) (digit_glyph false (n % 10) ∷ acc) more
    ]

-- the text of a number is digits, however large the number is
decimal_is_digits : (n : ℕ) → AllByRecursion IsDigit (decimal n)
unfolding digits
decimal_is_digits n = digits_onto_digits 64 n [] tt

-- digits pass the test for digits, and that for the bytes of words
digits_pass : (p : ℕ → Bool) → ((b : ℕ) → IsDigit b → p b ≡ true) → (bytes : List ℕ) → AllByRecursion IsDigit bytes → list_all p bytes ≡ true
digits_pass p passes [] h = refl
digits_pass p passes (b ∷ bytes) h = rw (passes b h.0, digits_pass p passes bytes h.1) refl

digit_passes : (b : ℕ) → IsDigit b → is_digit b ≡ true
digit_passes b h = grind arith

digit_is_plain : (b : ℕ) → IsDigit b → is_plain b ≡ true
digit_is_plain b h = grind arith

-- two tests that hold together hold each
both : (a b : Bool) → (a && b) ≡ true → (a ≡ true) × (b ≡ true)
both true b e = (refl, e)
both false b e = absurd (cc)

-- plain bytes lack each byte that is not plain
plain_lacks : (c : ℕ) → is_plain c ≡ false → (bytes : List ℕ) → list_all is_plain bytes ≡ true → Lacks c bytes
plain_lacks c out [] h = tt
plain_lacks c out (b ∷ bytes) h =
    let parts = both (is_plain b) (list_all is_plain bytes) h in
    let plain : is_plain b ≡ true = parts.0 in
    (λ same. let moved : is_plain b ≡ is_plain c = ap is_plain same in cc, plain_lacks c out bytes parts.1)

-- a number in text lacks each byte that is not plain
pub decimal_lacks : (c : ℕ) → is_plain c ≡ false → (n : ℕ) → Lacks c (decimal n)
decimal_lacks c out n = plain_lacks c out (decimal n) (digits_pass is_plain digit_is_plain (decimal n) (decimal_is_digits n))

-- so does a part in text, and in JSON one that is no quotation mark
pub shown_lacks : (c : ℕ) → is_plain c ≡ false → (part : Part) → PartFits part → Lacks c (shown part)
shown_lacks c out (word bytes) h = plain_lacks c out bytes (both (list_all is_plain bytes) (not (list_all is_digit bytes)) h).0
shown_lacks c out (number n) h = decimal_lacks c out n

pub shown_json_lacks : (c : ℕ) → is_plain c ≡ false → 34 ≢ c → (part : Part) → PartFits part → Lacks c (shown_json part)
shown_json_lacks c out quote (word bytes) h = (quote, Lacks-append c bytes (34 ∷ []) (shown_lacks c out (word bytes) h) (quote, tt))
shown_json_lacks c out quote (number n) h = decimal_lacks c out n

-- a word is no number in text
pub name_is_no_number : (bytes : List ℕ) (n : ℕ) → is_name bytes ≡ true → bytes ≢ decimal n
name_is_no_number bytes n h e =
    let named : not (list_all is_digit bytes) ≡ true = (both (list_all is_plain bytes) (not (list_all is_digit bytes)) h).1 in
    let digits : list_all is_digit bytes ≡ true = ap (list_all is_digit) e ∙ digits_pass is_digit digit_passes (decimal n) (decimal_is_digits n) in
    let clash : not true ≡ true = sym (ap not digits) ∙ named in
    cc

-- a word in JSON is no number: no digit is a quotation mark
quoted_is_no_number : (bytes : List ℕ) (n : ℕ) → 34 ∷ bytes ++ 34 ∷ [] ≢ decimal n
quoted_is_no_number bytes n e =
    let digits : list_all is_digit (34 ∷ bytes ++ 34 ∷ []) ≡ true = ap (list_all is_digit) e
    ∙ digits_pass is_digit digit_passes (decimal n) (decimal_is_digits n) in
    let clash : false ≡ true = digits in
    cc

-- a part is told by its text, and by its JSON
pub same_shown : (a b : Part) → PartFits a → PartFits b → shown a ≡ shown b → a ≡ b
same_shown (word x) (word y) p q e = ap word e
same_shown (word x) (number n) p q e = absurd (name_is_no_number x n p e)
same_shown (number m) (word y) p q e = absurd (name_is_no_number y m q (sym e))
same_shown (number m) (number n) p q e = ap number (decimal_injective m n p q e)

pub same_shown_json : (a b : Part) → PartFits a → PartFits b → shown_json a ≡ shown_json b → a ≡ b
same_shown_json (word x) (word y) p q e =
    let tails : x ++ 34 ∷ [] ≡ y ++ 34 ∷ [] = cc in
    ap word (append_cancel_right x y (34 ∷ []) tails)
same_shown_json (word x) (number n) p q e = absurd (quoted_is_no_number x n e)
same_shown_json (number m) (word y) p q e = absurd (quoted_is_no_number y m (sym e))
same_shown_json (number m) (number n) p q e = ap number (decimal_injective m n p q e)

-- parts are told by what each of them is written as
same_parts : (show : Part → List ℕ) → ((a b : Part) → PartFits a → PartFits b → show a ≡ show b → a ≡ b) → (xs ys : List Part) → AllByRecursion PartFits xs
    → AllByRecursion PartFits ys → map show xs ≡ map show ys → xs ≡ ys
same_parts show same [] [] p q e = refl
same_parts show same [] (y ∷ ys) p q e = cc
same_parts show same (x ∷ xs) [] p q e = cc
same_parts show same (x ∷ xs) (y ∷ ys) p q e =
    let heads : show x ≡ show y = cc in
    let tails : map show xs ≡ map show ys = cc in
    let first : x ≡ y = same x y p.0 q.0 heads in
    let rest : xs ≡ ys = same_parts show same xs ys p.1 q.1 tails in
    cc

-- what parts are written as lacks a byte that no part has
parts_lack : (show : Part → List ℕ) (c : ℕ) → ((part : Part) → PartFits part → Lacks c (show part)) → (xs : List Part) → AllByRecursion PartFits xs
    → AllByRecursion (Lacks c) (map show xs)
parts_lack show c lacks [] h = tt
parts_lack show c lacks (x ∷ xs) h = (lacks x h.0, parts_lack show c lacks xs h.1)

-- a text that is joined of one first piece and of parts tells the parts
pub same_joined : (show : Part → List ℕ) (c : ℕ) → ((part : Part) → PartFits part → Lacks c (show part))
    → ((a b : Part) → PartFits a → PartFits b → show a ≡ show b → a ≡ b)
    → (first : List ℕ) (xs ys : List Part) → Lacks c first → AllByRecursion PartFits xs → AllByRecursion PartFits ys
    → join_with_byte c (first ∷ map show xs) ≡ join_with_byte c (first ∷ map show ys) → xs ≡ ys
same_joined show c lacks same first xs ys l p q e =
    let pieces : first ∷ map show xs ≡ first ∷ map show ys = same_pieces c first first (map show xs) (map show ys) (l, parts_lack show c lacks xs p)
    (l, parts_lack show c lacks ys q) e in
    let tails : map show xs ≡ map show ys = cc in
    same_parts show same xs ys p q tails

-- joined pieces lack a byte that neither they nor the joint have
pub joined_lacks : (c d : ℕ) (pieces : List (List ℕ)) → d ≢ c → AllByRecursion (Lacks c) pieces → Lacks c (join_with_byte d pieces)
joined_lacks c d [] out h = tt
joined_lacks c d (piece ∷ []) out h = h.0
joined_lacks c d (piece ∷ next ∷ pieces) out h = Lacks-append c piece (d ∷ join_with_byte d (next ∷ pieces)) h.0 (out, joined_lacks c d (next ∷ pieces) out h.1)

-- a text that is joined of one first piece and of parts lacks a byte that none of them has
pub joined_parts_lack : (show : Part → List ℕ) (c d : ℕ) → d ≢ c → ((part : Part) → PartFits part → Lacks c (show part)) → (first : List ℕ) (xs : List Part)
    → Lacks c first → AllByRecursion PartFits xs → Lacks c (join_with_byte d (first ∷ map show xs))
joined_parts_lack show c d out lacks first xs l h = joined_lacks c d (first ∷ map show xs) out (l, parts_lack show c lacks xs h)
