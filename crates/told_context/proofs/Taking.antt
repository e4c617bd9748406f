-- By which entry a worker that is free takes its best source.
-- Cited by `taken_by`, `facts_there`.
use Rattle.std.proofs.Common.{◌≡◌, ℕ, ◌+◌, ◌-◌, ◌≤◌, Bool, true, false, List, [], length, Option, Some, None, IfSome, ap, arith, refl, sym, ◌∙◌}
use Rattle.std.proofs.Math.Bool.{and-false}
use Rattle.std.proofs.lemmas.Bool.{and_parts, ne_eqb}
use Rattle.std.proofs.lemmas.List.Elements.{All-from_recursion, All-nil, All-take}
use Rattle.std.specs.List.{filter_map, range_with_len}
use Rattle.std.specs.Option.{option_map}
use Rattle.std.specs.Prelude.{All, if◌then◌else◌, is_none, nat_le, nat_lt, take}
use Rattle.list_laws.proofs.Elements.{AllByRecursion-filter_map}
use Rattle.list_laws.proofs.Ranges.{AllByRecursion-range}
use Rattle.list_laws.specs.Lists.{keep}
use Rattle.task_base.specs.Entries.{entry_by}
use Rattle.task_base.specs.Plan.{Plan}
use Rattle.task_base.specs.declared.entry.Entry.{Entry}
use Rattle.task_base.specs.declared.entry.Kind.{Kind}
use Rattle.task_base.specs.declared.entry.Kind.TheVariants as kinds
use Rattle.task_model.specs.Seats.{holding, is_free, running}
use Rattle.hist_model.proofs.Laws.JobEntries.{none_is}
use Rattle.hist_model.proofs.Laws.Takes.{by_driver}
use Rattle.hist_model.proofs.Laws.Ways.{way_at_nothing, way_is}
use Rattle.hist_model.specs.Allowed.{IsAllowed, by_script, is_allowed, may_come}
use Rattle.hist_model.specs.Laws.Ways.{but_moment, way_of_free}
use Rattle.hist_model.specs.Legal.{IsLegal, is_legal}
use Rattle.hist_model.specs.Open.{IsClosed}
use Rattle.next_entry.specs.declared.cause.Cause.{Cause}
use Rattle.next_entry.specs.declared.cause.Cause.TheVariants as causes
use Rattle.log_context.specs.declared.sought.TheConstants.{MOST_SEARCHED}
use Rattle.told_context.specs.Takers.{taken_by, takers_from, takers_of, way_to_best}
use Rattle.told_context.specs.Told.{takers_for}
use Rattle.told_context.specs.declared.takers.TheConstants.{TAKERS_SHOWN}

-- a worker reads no clock
no_tick : (script : Plan) (past : List Entry) (seat : ℕ) (kind : Kind) → 1 ≤ seat → may_come script past seat kind ≡ true → but_moment kind ≡ kind
unfolding may_come
no_tick script past seat (kinds.Tick now) worker may =
    let wanted = (and_parts (by_script script past seat (kinds.Tick now)) _ (and_parts _ _ may).0).0 in
    let driver = by_driver script past seat (kinds.Tick now) wanted in
    absurd (omega (arith, worker, driver))
no_tick script past seat kind worker may = refl

-- what a free worker may enter takes its best source
takes_best : (script : Plan) (past : List Entry) (seat : ℕ) (kind : Kind) → IsClosed script → IsLegal script past → 1 ≤ seat → is_free past seat ≡ true
    → may_come script past seat kind ≡ true → way_to_best script past seat ≡ Some kind
takes_best script past seat kind closed legal worker free may =
    let parts = and_parts (is_none (running past seat)) (is_none (holding past seat)) free in
    let nothing = way_at_nothing script past seat (none_is (running past seat) parts.0) (none_is (holding past seat) parts.1) in
    let best : way_of_free script past seat ≡ way_to_best script past seat = rw (ne_eqb seat 0 (λ same. absurd (omega (arith, worker, same)))) refl in
    sym best ∙ sym nothing ∙ way_is script past seat kind closed legal may ∙ ap Some (no_tick script past seat kind worker may)

-- the entry of a free worker that may come is the one by which it takes
pub takes_by : (script : Plan) (past : List Entry) (seat : ℕ) (kind : Kind) → IsClosed script → IsLegal script past → 1 ≤ seat → is_free past seat ≡ true
    → is_allowed script past (entry_by seat kind) ≡ true → taken_by script past seat ≡ Some (entry_by seat kind)
unfolding taken_by
takes_by script past seat kind closed legal worker free allowed =
    let may = (and_parts (nat_le seat script.workers) (may_come script past seat kind) allowed).1 in
    rw (free, takes_best script past seat kind closed legal worker free may, allowed) refl

-- a seat that may enter nothing takes nothing
pub takes_nothing : (script : Plan) (past : List Entry) (seat : ℕ) → ((kind : Kind) → may_come script past seat kind ≡ false) → taken_by script past seat ≡ None
unfolding taken_by
takes_nothing script past seat nothing = by_free (is_free past seat)
  where
    by_way : (o : Option Kind) → keep (is_allowed script past) (option_map (entry_by seat) o) ≡ None
    by_way None = refl
    by_way (Some kind) = rw (nothing kind, and-false (nat_le seat script.workers)) refl

    by_free : (b : Bool) → (if b then keep (is_allowed script past) (option_map (entry_by seat) (way_to_best script past seat)) else None) ≡ None
    by_free true = by_way (way_to_best script past seat)
    by_free false = refl

-- a seat that is at work takes nothing
pub takes_none : (script : Plan) (past : List Entry) (seat : ℕ) → is_free past seat ≡ false → taken_by script past seat ≡ None
unfolding taken_by
takes_none script past seat works = rw works refl

-- what is kept by a test passes it
kept : (script : Plan) (past : List Entry) (o : Option Entry) → IfSome (keep (is_allowed script past) o) (IsAllowed script past)
kept script past None = tt
kept script past (Some e) = by_test (is_allowed script past e) refl
  where
    by_test : (b : Bool) → is_allowed script past e ≡ b → IfSome (if b then Some e else None) (IsAllowed script past)
    by_test true is = is
    by_test false is = tt

taken_allowed : (script : Plan) (past : List Entry) (seat : ℕ) → IfSome (taken_by script past seat) (IsAllowed script past)
unfolding taken_by
taken_allowed script past seat = by_free (is_free past seat)
  where
    by_free : (b : Bool) → IfSome (if b then keep (is_allowed script past) (option_map (entry_by seat) (way_to_best script past seat)) else None)
        (IsAllowed script past)
    by_free true = kept script past (option_map (entry_by seat) (way_to_best script past seat))
    by_free false = tt

takers_from_allowed : (script : Plan) (past : List Entry) (seat : ℕ) → All (IsAllowed script past) (takers_from script past seat)
unfolding takers_from
takers_from_allowed script past seat = by_legal (is_legal script past)
  where
    asked : List ℕ
    asked = range_with_len seat (script.workers + 1 - seat)

    by_legal : (b : Bool) → All (IsAllowed script past) (if b then filter_map (taken_by script past) asked else [])
    by_legal true = All-from_recursion (IsAllowed script past) (filter_map (taken_by script past) asked)
        (AllByRecursion-filter_map (IsAllowed script past) (taken_by script past) asked
        (AllByRecursion-range (λ s. IfSome (taken_by script past s) (IsAllowed script past)) seat (script.workers + 1 - seat)
        (λ s from to. taken_allowed script past s)))
    by_legal false = All-nil (IsAllowed script past)

-- each entry by which a seat may take is allowed after the past
pub takers_allowed : (script : Plan) (past : List Entry) → All (IsAllowed script past) (takers_of script past)
unfolding takers_of
takers_allowed script past = by_length (nat_lt MOST_SEARCHED (length past))
  where
    by_length : (b : Bool) → All (IsAllowed script past) (if b then [] else take TAKERS_SHOWN (takers_from script past 1))
    by_length true = All-nil (IsAllowed script past)
    by_length false = All-take (IsAllowed script past) TAKERS_SHOWN (takers_from script past 1) (takers_from_allowed script past 1)

-- the same of what is told for a cause
pub takers_for_allowed : (script : Plan) (past : List Entry) (cause : Cause) → All (IsAllowed script past) (takers_for script past cause)
takers_for_allowed script past (causes.NotIdle running true) = takers_allowed script past
takers_for_allowed script past cause = All-nil (IsAllowed script past)
