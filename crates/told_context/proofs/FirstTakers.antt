-- The first seat by which something may be taken, where the seats are gone through in order.
-- Cited by `first_from`, `first_taken`, `takers_of`.
use Rattle.std.proofs.Common.{◌≡◌, ℕ, ◌+◌, ◌-◌, ◌<◌, ◌≤◌, false, List, [], ◌∷◌, length, Some, None, ap, arith, refl, sym, ◌∙◌}
use Rattle.std.proofs.lemmas.Bool.{le-ltb, lt-ltb}
use Rattle.std.proofs.lemmas.List.Elements.{filter_map-append}
use Rattle.std.specs.List.{filter_map, range_with_len}
use Rattle.std.specs.Prelude.{is_none}
use Rattle.list_laws.proofs.Ranges.{range_split}
use Rattle.task_base.specs.Plan.{Plan}
use Rattle.task_base.specs.declared.entry.Entry.{Entry}
use Rattle.hist_model.proofs.Laws.Legal.{first_illegal_none}
use Rattle.hist_model.specs.Legal.{IsLegal, first_illegal, is_legal}
use Rattle.log_context.specs.declared.sought.TheConstants.{MOST_SEARCHED}
use Rattle.told_context.specs.Takers.{IsFirstOf, taken_by, takers_from, takers_of}

-- of the seats from this one on, none up to there takes
abbrev pub NoneBelow : Plan → List Entry → ℕ → ℕ → Type 0
NoneBelow script past from seat = filter_map (taken_by script past) (range_with_len from (seat - from)) ≡ []

-- nor does the next one
pub none_more : (script : Plan) (past : List Entry) (from seat : ℕ) → from ≤ seat → NoneBelow script past from seat → taken_by script past seat ≡ None
    → NoneBelow script past from (seat + 1)
none_more script past from seat up none nothing =
    let give = taken_by script past in
    rw (
      range_split from (seat - from) 0 (seat + 1 - from) seat (omega (arith, up)) (omega (arith, up)),
      filter_map-append give (range_with_len from (seat - from)) (seat ∷ []),
      none,
      nothing,
    ) refl

-- the next one does
pub first_here : (script : Plan) (past : List Entry) (from seat : ℕ) (e : Entry) → IsLegal script past → from ≤ seat → seat ≤ script.workers
    → NoneBelow script past from seat → taken_by script past seat ≡ Some e → e.seat ≡ seat → IsFirstOf script past from e
unfolding takers_from
first_here script past from seat e legal up within none takes by =
    let give = taken_by script past in
    let rest = script.workers + 1 - (seat + 1) in
    record {
      within = omega (arith, within, by);
      parted = rw (
        legal,
        range_split from (seat - from) rest (script.workers + 1 - from) seat (omega (arith, up, within)) (omega (arith, up)),
        filter_map-append give (range_with_len from (seat - from)) (seat ∷ range_with_len (seat + 1) rest),
        none,
        takes,
        by,
      ) refl;
    }

-- none of them does
pub none_at_all : (script : Plan) (past : List Entry) (from seat : ℕ) → IsLegal script past → seat ≡ script.workers + 1 → NoneBelow script past from seat
    → takers_from script past from ≡ []
unfolding takers_from
none_at_all script past from seat legal all none = rw (legal, ← all) none

-- none does after a past that is not legal
pub none_after_illegal : (script : Plan) (past : List Entry) (from place : ℕ) → first_illegal script past ≡ Some place → takers_from script past from ≡ []
unfolding takers_from
none_after_illegal script past from place is =
    let illegal : is_legal script past ≡ false = sym (first_illegal_none script past) ∙ ap is_none is in
    rw illegal refl

-- after a past that is too long none are told
pub none_after_long : (script : Plan) (past : List Entry) → MOST_SEARCHED < length past → takers_of script past ≡ []
unfolding takers_of
none_after_long script past long = rw (lt-ltb MOST_SEARCHED (length past) long) refl

-- else as many as there are, up to two
pub no_takers : (script : Plan) (past : List Entry) → length past ≤ MOST_SEARCHED → takers_from script past 1 ≡ [] → takers_of script past ≡ []
unfolding takers_of
no_takers script past few none = rw (le-ltb MOST_SEARCHED (length past) few, none) refl

pub one_taker : (script : Plan) (past : List Entry) (a : Entry) → length past ≤ MOST_SEARCHED → IsFirstOf script past 1 a
    → takers_from script past (a.seat + 1) ≡ [] → takers_of script past ≡ a ∷ []
unfolding takers_of
one_taker script past a few first none = rw (le-ltb MOST_SEARCHED (length past) few, first.parted, none) refl

pub two_takers : (script : Plan) (past : List Entry) (a b : Entry) → length past ≤ MOST_SEARCHED → IsFirstOf script past 1 a
    → IsFirstOf script past (a.seat + 1) b → takers_of script past ≡ a ∷ b ∷ []
unfolding takers_of
two_takers script past a b few first second = rw (le-ltb MOST_SEARCHED (length past) few, first.parted, second.parted) refl
