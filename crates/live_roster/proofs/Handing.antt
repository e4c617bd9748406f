-- Who rests and has something to do, and that it is handed on.
-- Cited by `LiveRoster::pick`, `Rousing`.
use Rattle.std.proofs.Common.{◌≡◌, ◌≤◌, ◌-◌, ℕ, zero, suc, Bool, true, false, List, [], ◌∷◌, Option, Some, None, refl, sym, ◌∙◌, arith, slice_set}
use Rattle.std.specs.Prelude.{◌==◌, nat_le, slice_get, is_some, IfSome, IfNone}
use Rattle.std.proofs.lemmas.Bool.{and_parts, false≢true}
use Rattle.std.proofs.lemmas.Bool.Decides.{nat_tests}
use Rattle.std.proofs.lemmas.Option.{slice_get_within}
use Rattle.std.specs.List.{range_with_len}
use Rattle.std.proofs.lemmas.List.FromFn.{get_or-range_with_len, length-range_with_len}
use Rattle.list_laws.proofs.Elements.{AllByRecursion-contains}
use Rattle.list_laws.proofs.Options.{AllByRecursion-not_any}
use Rattle.list_laws.proofs.Places.{slice_get-set_same}
use Rattle.list_laws.proofs.Values.{some-injective}
use Rattle.task_base.specs.Plan.{Plan}
use Rattle.task_base.specs.declared.entry.Entry.{Entry}
use Rattle.task_model.specs.Sources.{Candidate, best_of}
use Rattle.pool_core.specs.Calls.{is_any_ready, is_own}
use Rattle.live_core.specs.declared.call.Call.{Call}
use Rattle.live_roster.specs.Wakes.{HasWorkAt, IsAllHandedOn, IsHandedOn, IsPick, NobodyHasWork, has_own, has_to_do}
use Rattle.live_roster.specs.declared.note.Note.{Note}
use Rattle.live_roster.specs.declared.note.Note.TheVariants as notes_of

-- work is handed on where nobody who rests has any
handed_where_none : (work : ℕ → Bool) (notes : List Note) → NobodyHasWork work notes notes_of.Resting → IsHandedOn work notes
handed_where_none work notes none = λ seat at. absurd (none seat at)

-- and where a seat has that has just been woken
woken_has : (work : ℕ → Bool) (notes : List Note) (note : Note) (seat : ℕ) → HasWorkAt work notes note seat
    → IsHandedOn work (slice_set notes seat notes_of.Woken)
woken_has work notes note seat at = λ other rests. record {
  seat = seat;
  at = record {
    noted = slice_get-set_same notes seat notes_of.Woken (slice_get_within notes seat note at.noted);
    has = at.has;
  };
}

-- who rests after a seat was noted otherwise rested before
pub rested_before : (notes : List Note) (place seat : ℕ) (note : Note) → (note ≡ notes_of.Resting → ⊥)
    → slice_get (slice_set notes place note) seat ≡ Some notes_of.Resting → slice_get notes seat ≡ Some notes_of.Resting
rested_before [] place seat note other rests = rests
rested_before (held ∷ notes) zero zero note other rests = absurd (other (some-injective rests))
rested_before (held ∷ notes) zero (suc seat) note other rests = rests
rested_before (held ∷ notes) (suc place) zero note other rests = rests
rested_before (held ∷ notes) (suc place) (suc seat) note other rests = rested_before notes place seat note other rests

-- so where nobody who rests has this work, it stays so where a seat is woken
none_after : (work : ℕ → Bool) (notes : List Note) (woken : ℕ) → NobodyHasWork work notes notes_of.Resting
    → IsHandedOn work (slice_set notes woken notes_of.Woken)
none_after work notes woken none =
    λ seat at. absurd (none seat (record { noted = rested_before notes woken seat notes_of.Woken (λ same. absurd cc) at.noted; has = at.has }))

-- a source of a seat's own is a source
own_is_some : (best : Option Candidate) → is_own best ≡ true → is_some best ≡ true
own_is_some None own = own
own_is_some (Some c) own = refl

-- who has something of its own to do has something to do
own_is_to_do : (plan : Plan) (past : List Entry) (wish : Call) (seat : ℕ) → has_own plan past wish seat ≡ true → has_to_do plan past wish seat ≡ true
own_is_to_do plan past wish zero own = own
own_is_to_do plan past wish (suc seat) own =
    let worker : (suc seat == 0) ≡ false = grind (arith, nat_tests) in
    let parts = and_parts (nat_le (suc seat) plan.workers) (is_own (best_of plan past (suc seat))) (rw worker at own) in
    rw worker (rw (parts.0, own_is_some (best_of plan past (suc seat)) parts.1) refl)

-- where no worker may take a source, this one may not
none_ready : (plan : Plan) (past : List Entry) (seat : ℕ) → is_any_ready plan past ≡ false → 1 ≤ seat → seat ≤ plan.workers
    → is_some (best_of plan past seat) ≡ false
none_ready plan past seat none worker known =
    AllByRecursion-contains (λ w. is_some (best_of plan past w) ≡ false) (range_with_len 1 plan.workers) seat
    (AllByRecursion-not_any (λ w. is_some (best_of plan past w)) (range_with_len 1 plan.workers) none) (
      seat - 1,
      rw (length-range_with_len 1 plan.workers) (omega (arith, worker, known)),
      omega (arith, worker, get_or-range_with_len 1 plan.workers (seat - 1) seat (omega (arith, worker, known))),
    )

-- where no worker may take a source, nobody has anything to do but what is its own
pub none_but_own : (plan : Plan) (past : List Entry) (wish : Call) (notes : List Note) → is_any_ready plan past ≡ false
    → NobodyHasWork (has_own plan past wish) notes notes_of.Resting → NobodyHasWork (has_to_do plan past wish) notes notes_of.Resting
none_but_own plan past wish notes none own zero at = own 0 (record { noted = at.noted; has = at.has })
none_but_own plan past wish notes none own (suc seat) at =
    let worker : (suc seat == 0) ≡ false = grind (arith, nat_tests) in
    let parts = and_parts (nat_le (suc seat) plan.workers) (is_some (best_of plan past (suc seat))) (rw worker at at.has) in
    false≢true (sym (none_ready plan past (suc seat) none (omega arith) (grind (arith, nat_tests, parts.0))) ∙ parts.1)

-- all is handed on where nobody who rests has anything to do
pub all_done : (plan : Plan) (past : List Entry) (wish : Call) (notes : List Note) → NobodyHasWork (has_to_do plan past wish) notes notes_of.Resting
    → IsAllHandedOn plan past wish notes
all_done plan past wish notes none = record {
  all_work = handed_where_none (has_to_do plan past wish) notes none;
  own_work = handed_where_none (has_own plan past wish) notes
      (λ seat at. none seat (record { noted = at.noted; has = own_is_to_do plan past wish seat at.has }));
}

-- and where one that was woken has, and nobody who rests has anything of its own
one_woken : (plan : Plan) (past : List Entry) (wish : Call) (notes : List Note) (seat : ℕ)
    → NobodyHasWork (has_own plan past wish) notes notes_of.Resting → HasWorkAt (has_to_do plan past wish) notes notes_of.Woken seat
    → IsAllHandedOn plan past wish notes
one_woken plan past wish notes seat none at = record {
  all_work = λ other rests. record { seat = seat; at = at };
  own_work = handed_where_none (has_own plan past wish) notes none;
}

-- whoever rests and has something of its own to do may be woken
pub pick_own : (plan : Plan) (past : List Entry) (wish : Call) (notes : List Note) (seat : ℕ) → HasWorkAt (has_own plan past wish) notes notes_of.Resting seat
    → IsPick plan past wish notes seat
pick_own plan past wish notes seat own =
    let at : HasWorkAt (has_to_do plan past wish) notes notes_of.Resting seat =
    record { noted = own.noted; has = own_is_to_do plan past wish seat own.has } in
    record {
      needed = record { at = at; alone = λ other. absurd (false≢true (sym other ∙ own.has)) };
      handed = record {
        all_work = woken_has (has_to_do plan past wish) notes notes_of.Resting seat at;
        own_work = woken_has (has_own plan past wish) notes notes_of.Resting seat own;
      };
    }

-- and, where nobody does and nobody that was woken has anything to do, whoever rests and has something to do
pick_any : (plan : Plan) (past : List Entry) (wish : Call) (notes : List Note) (seat : ℕ) → NobodyHasWork (has_own plan past wish) notes notes_of.Resting
    → NobodyHasWork (has_to_do plan past wish) notes notes_of.Woken → HasWorkAt (has_to_do plan past wish) notes notes_of.Resting seat
    → IsPick plan past wish notes seat
pick_any plan past wish notes seat none woken at = record {
  needed = record { at = at; alone = λ _. woken };
  handed = record {
    all_work = woken_has (has_to_do plan past wish) notes notes_of.Resting seat at;
    own_work = none_after (has_own plan past wish) notes seat none;
  };
}

-- ---- what was looked for

-- where nobody was found, nobody has such work
pub not_found : {P : Type 0} (found : Option ℕ) → is_some found ≡ false → IfNone found P → P
not_found None none such = such
not_found (Some seat) none such = absurd cc

-- where one was found that was woken, all is handed on
pub woken_found : (plan : Plan) (past : List Entry) (wish : Call) (notes : List Note) (found : Option ℕ)
    → NobodyHasWork (has_own plan past wish) notes notes_of.Resting → is_some found ≡ true
    → IfSome found (HasWorkAt (has_to_do plan past wish) notes notes_of.Woken) → IsAllHandedOn plan past wish notes
woken_found plan past wish notes None none some at = absurd cc
woken_found plan past wish notes (Some seat) none some at = one_woken plan past wish notes seat none at

-- where one is found that rests, it may be woken
pub pick_found : (plan : Plan) (past : List Entry) (wish : Call) (notes : List Note) (found : Option ℕ)
    → NobodyHasWork (has_own plan past wish) notes notes_of.Resting → NobodyHasWork (has_to_do plan past wish) notes notes_of.Woken
    → IfSome found (HasWorkAt (has_to_do plan past wish) notes notes_of.Resting) → IfSome found (IsPick plan past wish notes)
pick_found plan past wish notes None none woken at = at
pick_found plan past wish notes (Some seat) none woken at = pick_any plan past wish notes seat none woken at

-- and where none is, all is handed on
pub none_found : (plan : Plan) (past : List Entry) (wish : Call) (notes : List Note) (found : Option ℕ)
    → IfNone found (NobodyHasWork (has_to_do plan past wish) notes notes_of.Resting) → IfNone found (IsAllHandedOn plan past wish notes)
none_found plan past wish notes None none = all_done plan past wish notes none
none_found plan past wish notes (Some seat) none = none
