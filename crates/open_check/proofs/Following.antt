-- A log that is followed by the calls of its entries.
-- Cited by `check_open`, `check_open_prefix`, `follow_all`, `follow_entry`, `open_explain`.
use Rattle.std.proofs.Common.{◌≡◌, ℕ, ◌+◌, ◌<◌, ◌≤◌, Bool, true, false, cond, List, [], ◌∷◌, ◌++◌, length, take, drop, get_or, refl, sym, ap, subst, ◌∙◌}
use Rattle.std.proofs.Common.{append_assoc, Option, Some, None, Result, Ok, Err, ⊎_elim, inl, inr, arith}
use Rattle.std.specs.Prelude.{◌&&◌, ◌==◌, is_none, nat_le}
use Rattle.std.proofs.lemmas.Bool.{and_parts, eqb-true, false_from_ne_true, or_cases}
use Rattle.std.proofs.lemmas.List.{length-take-le, take-append-drop, take_all, take_more}
use Rattle.std.proofs.lemmas.Option.{slice_get-get_or}
use Rattle.task_base.specs.Entries.{entry_by}
use Rattle.task_base.specs.Plan.{Plan}
use Rattle.task_base.specs.declared.entry.Entry.{Entry}
use Rattle.task_base.specs.declared.entry.Kind.{Kind}
use Rattle.task_base.specs.declared.entry.Kind.TheVariants as kinds
use Rattle.task_model.specs.Seats.{is_quiet}
use Rattle.hist_model.proofs.Laws.Legal.{is_legal_push}
use Rattle.hist_model.specs.Allowed.{IsAllowed, is_allowed, may_come}
use Rattle.hist_model.specs.Legal.{IsLegal, first_illegal, is_legal}
use Rattle.hist_model.specs.Open.{IsOpen}
use Rattle.env_check.proofs.Verdicts.{illegal_at, illegal_nowhere}
use Rattle.env_check.specs.Verdicts.{prefix_verdict_at, prefix_verdict_of}
use Rattle.env_check.specs.declared.verdict.Verdict.TheVariants.{Legal, Illegal}
use Rattle.live_core.proofs.Every.{every_entry}
use Rattle.live_core.proofs.Exact.{makes_what_may_come}
use Rattle.live_core.specs.Answers.{Gives}
use Rattle.live_core.specs.Calls.{call_of, hands_out, is_full, seat_of, spare_task}
use Rattle.live_core.specs.StandsFor.{StandsFor}
use Rattle.live_core.specs.declared.call.Call.TheVariants as calls
use Rattle.live_core.specs.declared.live.LiveCore.{LiveCore}
use Rattle.live_core.specs.declared.unmade.Unmade.{Unmade}
use Rattle.live_core.specs.declared.unmade.Unmade.TheVariants.{Misuse, Full, Nothing, Over, NotYet, Blocked}
use Rattle.open_check.specs.Following.{AreFollowed, Follows, IsOwnCall, IsUnmade}
use Rattle.open_check.specs.Verdicts.{open_verdict_of}
use Rattle.open_check.specs.declared.follow.Against.{Against}
use Rattle.open_check.specs.declared.follow.Against.TheVariants as against

-- ---- one entry

-- an entry whose call is another seat's may not come
pub of_other_seat : (plan : Plan) (past : List Entry) (e : Entry) → IsOpen plan → (IsOwnCall e → ⊥) → is_allowed plan past e ≡ false
of_other_seat plan past e opened other =
    false_from_ne_true (is_allowed plan past e)
    (λ allowed. other (every_entry plan past e.seat e.kind opened (and_parts (nat_le e.seat plan.workers) _ allowed).1).0)

-- the entry that a call makes may come, and the core stands for the past with it
made_it : (plan : Plan) (past : List Entry) (before after : LiveCore) (e : Entry) (kind : Kind) → IsOwnCall e
    → Gives plan past (call_of e.seat e.kind) before after (Ok kind)
    → IsAllowed plan past (entry_by e.seat kind) × StandsFor plan (past ++ entry_by e.seat kind ∷ []) after
made_it plan past before after e kind own made =
    let stands : StandsFor plan (past ++ entry_by e.seat kind ∷ []) after = rw own at made.stands in
    let legal = sym (is_legal_push plan past (entry_by e.seat kind)) ∙ stands.legal in
    ((and_parts (is_legal plan past) (is_allowed plan past (entry_by e.seat kind)) legal).1, stands)

-- one that it does not make may not
pub made_another : (plan : Plan) (past : List Entry) (before after : LiveCore) (e : Entry) (answer : Result Kind Unmade) → StandsFor plan past before
    → length past < 4294967295 → Gives plan past (call_of e.seat e.kind) before after answer → (answer ≡ Ok e.kind → ⊥) → is_allowed plan past e ≡ false
made_another plan past before after e answer stands few gives other =
    false_from_ne_true (is_allowed plan past e) (λ allowed.
    let may = (and_parts (nat_le e.seat plan.workers) (may_come plan past e.seat e.kind) allowed).1 in
    let call = every_entry plan past e.seat e.kind stands.opened may in
    let by_call : may_come plan past (seat_of (call_of e.seat e.kind)) e.kind ≡ true = rw call.0 may in
    ⊎_elim other (λ most. absurd (omega (arith, few, most)))
    (makes_what_may_come plan past (call_of e.seat e.kind) before after answer e.kind stands gives call.1 by_call))

-- ---- what is answered

pub follows_not : (plan : Plan) (past : List Entry) (e : Entry) (live : LiveCore) → StandsFor plan past live → (IsOwnCall e → ⊥)
    → Follows plan past e live (Some against.OtherSeat)
follows_not plan past e live stands other = (of_other_seat plan past e stands.opened other, other, stands)

pub follows_same : (plan : Plan) (past : List Entry) (before after : LiveCore) (e : Entry) (kind : Kind) → IsOwnCall e → kind ≡ e.kind
    → Gives plan past (call_of e.seat e.kind) before after (Ok kind) → Follows plan past e after None
follows_same plan past before after e kind own same made =
    let it = made_it plan past before after e kind own made in rw same at it

pub follows_other : (plan : Plan) (past : List Entry) (before after : LiveCore) (e : Entry) (kind : Kind) → StandsFor plan past before
    → length past < 4294967295 → IsOwnCall e → (kind ≡ e.kind → ⊥) → Gives plan past (call_of e.seat e.kind) before after (Ok kind)
    → Follows plan past e after (Some (against.Made kind))
follows_other plan past before after e kind stands few own other made = (
  made_another plan past before after e (Ok kind) stands few made (λ (same : Ok kind ≡ Ok e.kind). other cc),
  (own, made.made, (made_it plan past before after e kind own made).0),
  tt,
)

-- a call that names its task, or posts none, is full only where as many entries were made as can be counted
never_full : (plan : Plan) (past : List Entry) (seat : ℕ) (kind : Kind) → length past < 4294967295 → is_full plan past (call_of seat kind) ≡ true → ⊥
never_full plan past seat kind few full = elim (or_cases (length past == 4294967295) (hands_out (call_of seat kind) && is_none (spare_task plan past)) full) [
  | inl most ↦ omega (arith, few, eqb-true (length past) 4294967295 most)
  | inr spent ↦ no_hand kind (and_parts (hands_out (call_of seat kind)) (is_none (spare_task plan past)) spent).0
]
  where
    no_hand : (kind : Kind) → hands_out (call_of seat kind) ≡ true → ⊥
    no_hand (kinds.JobTake job id item) hands = at (seat == 0) hands
      where
        at : (b : Bool) → hands_out (cond b (calls.JobTake job) (calls.Take seat)) ≡ true → ⊥
        at true hands = absurd cc
        at false hands = absurd cc
    no_hand kind hands = absurd cc

pub follows_unmade : (plan : Plan) (past : List Entry) (before after : LiveCore) (e : Entry) (why : Unmade) → StandsFor plan past before
    → length past < 4294967295 → IsOwnCall e → Gives plan past (call_of e.seat e.kind) before after (Err why)
    → Follows plan past e after (Some (against.Unmade why))
follows_unmade plan past before after e why stands few own gives =
    let barred = made_another plan past before after e (Err why) stands few gives (λ same. absurd cc) in
    let is = of_why why gives in (barred, (own, is.0), is.1)
  where
    of_why : (given : Unmade) → Gives plan past (call_of e.seat e.kind) before after (Err given) → IsUnmade plan past e given × StandsFor plan past after
    of_why Misuse g = (g.unfit, rw g.kept stands)
    of_why Full g = absurd (never_full plan past e.seat e.kind few g.full)
    of_why Nothing g = (g.lacks, g.stands)
    of_why Over g = (g.lacks, g.stands)
    of_why (NotYet not_yet) g = (g.lacks, g.stands)
    of_why (Blocked blocked) g = (g.lacks, g.stands)

-- ---- a log

-- a log is its entries before a place, the one there, and those after it
parts_at : (log : List Entry) (i : ℕ) (d : Entry) → i < length log → log ≡ take i log ++ get_or log i d ∷ drop (i + 1) log
parts_at log i d within = sym (take-append-drop (i + 1) log) ∙ ap (λ l. l ++ drop (i + 1) log) (take_more log i d within)
    ∙ append_assoc (take i log) (get_or log i d ∷ []) (drop (i + 1) log)

-- where the entry at a place may not come, the log stops there
pub stops_at : (plan : Plan) (log : List Entry) (after : LiveCore) (i : ℕ) (d : Entry) (it : Against) → IsLegal plan (take i log) → i < length log
    → Follows plan (take i log) (get_or log i d) after (Some it) → AreFollowed plan log after (Err (record { place = i; against = it }))
stops_at plan log after i d it legal within follows = record {
  first = ap (first_illegal plan) (parts_at log i d within)
      ∙ illegal_at plan (take i log) (get_or log i d) (drop (i + 1) log) legal follows.0 ∙ ap Some (length-take-le i log (omega (arith, within)));
  entry = get_or log i d;
  there = slice_get-get_or log i d within;
  is = follows.1;
  stays = follows.2;
}

-- where it may, the core stands for one entry more
pub goes_on_at : (plan : Plan) (log : List Entry) (after : LiveCore) (i : ℕ) (d : Entry) → i < length log
    → Follows plan (take i log) (get_or log i d) after None → StandsFor plan (take (i + 1) log) after
goes_on_at plan log after i d within follows = subst (λ past. StandsFor plan past after) (sym (take_more log i d within)) follows.1

-- a log that was followed to its end is the core's past, and is illegal nowhere
pub all_followed : (plan : Plan) (log : List Entry) (live : LiveCore) (i : ℕ) → StandsFor plan (take i log) live → length log ≤ i
    → (first_illegal plan log ≡ None) × StandsFor plan log live
all_followed plan log live i stands end =
    let all : StandsFor plan log live = subst (λ past. StandsFor plan past live) (take_all i log end) stands in
    (illegal_nowhere plan log all.legal, all)

-- ---- the verdict

pub verdict_there : (plan : Plan) (log : List Entry) (place : ℕ) → first_illegal plan log ≡ Some place → Illegal place ≡ open_verdict_of plan log
unfolding open_verdict_of
verdict_there plan log place is = rw is refl

pub verdict_nowhere : (plan : Plan) (log : List Entry) (quiet : Bool) → first_illegal plan log ≡ None → is_quiet plan log ≡ quiet
    → cond quiet Legal (Illegal (length log)) ≡ open_verdict_of plan log
unfolding open_verdict_of
verdict_nowhere plan log quiet is same = rw (is, same) refl

-- the verdict on a beginning is told by where its first entry is that may not come
pub prefix_verdict : (plan : Plan) (log : List Entry) (first : Option ℕ) → first_illegal plan log ≡ first → prefix_verdict_at first ≡ prefix_verdict_of plan log
unfolding prefix_verdict_of
prefix_verdict plan log first is = ap prefix_verdict_at (sym is)
