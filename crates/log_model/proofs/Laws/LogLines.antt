-- The line of an entry, and what it tells.
-- Cited by `Laws/LogJsons`, `Laws/LogTexts`, `app_modes`, `entry_lines`, `event_text`, `run_log`.
use Rattle.std.proofs.Common.{◌≡◌, ◌<◌, ◌^◌, ℕ, List, ◌∷◌, refl, arith}
use Rattle.std.specs.Prelude.{map}
use Rattle.std.specs.Fmt.{decimal}
use Rattle.std.specs.List.{AllByRecursion, join_with_byte}
use Rattle.task_base.specs.declared.entry.Entry.{Entry}
use Rattle.log_model.specs.Fits.{Fits}
use Rattle.log_model.specs.LogText.{Part, number, parts_of, entry_parts, shown}
use Rattle.log_model.proofs.Laws.Pieces.{Lacks}
use Rattle.log_model.proofs.Laws.LogParts.{PartFits, parts_fit, same_kind, decimal_lacks, shown_lacks, same_shown, same_joined, joined_parts_lack}

-- the parts behind the place
abbrev pub seat_parts : Entry → List Part
seat_parts e = number e.seat ∷ parts_of e.kind

pub seat_parts_fit : (e : Entry) → Fits e → AllByRecursion PartFits (seat_parts e)
seat_parts_fit e h =
    let seat : e.seat < 2 ^ 64 = omega (arith, h.seat) in
    (seat, parts_fit e.kind h.kind)

-- they tell the entry
pub same_entry : (a b : Entry) → seat_parts a ≡ seat_parts b → a ≡ b
same_entry a b e =
    let seats : number a.seat ≡ number b.seat = cc in
    let seat : a.seat ≡ b.seat = cc in
    let parts : parts_of a.kind ≡ parts_of b.kind = cc in
    let kind : a.kind ≡ b.kind = same_kind a.kind b.kind parts in
    λ i. record { seat = seat i; kind = kind i }

-- what stands before the line feed of a line
abbrev pub line_words : ℕ → Entry → List ℕ
line_words place e = join_with_byte 32 (map shown (entry_parts place e))

-- it has no line feed
pub line_lacks_feed : (place : ℕ) (e : Entry) → Fits e → Lacks 10 (line_words place e)
line_lacks_feed place e h = joined_parts_lack shown 10 32 (λ same. omega arith) (shown_lacks 10 refl) (decimal place) (seat_parts e)
    (decimal_lacks 10 refl place) (seat_parts_fit e h)

-- at its place it tells the entry
pub same_line : (place : ℕ) (a b : Entry) → Fits a → Fits b → line_words place a ≡ line_words place b → a ≡ b
same_line place a b p q e = same_entry a b
    (same_joined shown 32 (shown_lacks 32 refl) same_shown (decimal place) (seat_parts a) (seat_parts b) (decimal_lacks 32 refl place) (seat_parts_fit a p)
    (seat_parts_fit b q) e)
