-- Who rests, and that no wake is lost.
-- Cited by `Notes::pick`, `Roster::new`.
use Rattle.std.proofs.Common.{◌≡◌, ◌<◌, ◌≤◌, ◌+◌, ◌-◌, ℕ, zero, suc, Bool, true, false, List, [], ◌∷◌, length}
use Rattle.std.proofs.Common.{replicate, Option, Some, None, refl, sym, ◌∙◌, arith, slice_set}
use Rattle.std.proofs.lemmas.List.{length-replicate}
use Rattle.std.specs.Prelude.{◌==◌, slice_get, is_some, IfSome, IfNone}
use Rattle.std.specs.List.{range_with_len}
use Rattle.std.proofs.lemmas.Bool.{false≢true}
use Rattle.std.proofs.lemmas.Bool.Decides.{nat_tests}
use Rattle.std.proofs.lemmas.Option.{slice_get_within}
use Rattle.std.proofs.lemmas.List.FromFn.{length-range_with_len, get_or-range_with_len}
use Rattle.list_laws.proofs.Elements.{AllByRecursion-contains}
use Rattle.list_laws.proofs.Options.{AllByRecursion-not_any}
use Rattle.list_laws.proofs.Places.{slice_get-replicate, slice_get-set_same}
use Rattle.list_laws.proofs.Values.{some-injective}
use Rattle.task_base.specs.Plan.{Plan}
use Rattle.task_base.specs.declared.entry.Entry.{Entry}
use Rattle.task_model.specs.Sources.{Candidate, best_of}
use Rattle.pool_core.specs.Calls.{is_any_ready, is_own}
use Rattle.env_core.specs.Views.{EnvView}
use Rattle.env_roster.specs.Wakes.{HasWorkAt, IsHandedOn, IsKept, IsPick, NobodyHasWork, NobodyRests, NoWakeIsLost, has_own, has_to_do}
use Rattle.env_roster.specs.declared.note.Note.{Note}
use Rattle.env_roster.specs.declared.note.Note.TheVariants as notes_of

-- where all have one note, nobody has another
pub all_noted : (n : ℕ) (note other : Note) (seat : ℕ) → slice_get (replicate n note) seat ≡ Some other → note ≡ other
all_noted n note other seat h = by_within (slice_get_within (replicate n note) seat other h)
  where
    by_within : seat < length (replicate n note) → note ≡ other
    by_within within =
        let here : slice_get (replicate n note) seat ≡ Some note = slice_get-replicate n seat note (omega (arith, within, length-replicate n note)) in
        some-injective (sym here ∙ h)

-- where nobody rests, no wake is lost
pub kept_where_none : (script : Plan) (past : List Entry) (notes : List Note) → NobodyRests notes → NoWakeIsLost script past notes
kept_where_none script past notes none = record {
  all_work = λ seat at. absurd (none seat at.noted);
  own_work = λ seat at. absurd (none seat at.noted);
  all_woken = λ _. none;
}

-- nor where all have a note that is not that of rest
pub kept_where_all : (script : Plan) (past : List Entry) (n : ℕ) (note : Note) → (note ≡ notes_of.Resting → ⊥) → NoWakeIsLost script past (replicate n note)
kept_where_all script past n note other =
    kept_where_none script past (replicate n note) (λ seat h. other (all_noted n note notes_of.Resting seat h))

-- at the start, where all are awake, all is kept
pub all_awake : (env : EnvView) (notes : List Note) (workers : ℕ) → notes ≡ replicate (workers + 1) notes_of.Awake → workers ≡ env.script.workers
    → IsKept env notes
all_awake env notes workers awake known = record {
  all = rw (awake, ← known) (length-replicate (workers + 1) notes_of.Awake);
  kept = rw awake (kept_where_all env.script env.history (workers + 1) notes_of.Awake (λ same. absurd cc));
}

-- where no worker may take a source, this one may not
pub none_ready : (script : Plan) (past : List Entry) (seat : ℕ) → is_any_ready script past ≡ false → 1 ≤ seat → seat ≤ script.workers
    → is_some (best_of script past seat) ≡ false
none_ready script past seat none worker known =
    AllByRecursion-contains (λ w. is_some (best_of script past w) ≡ false) (range_with_len 1 script.workers) seat
    (AllByRecursion-not_any (λ w. is_some (best_of script past w)) (range_with_len 1 script.workers) none) (
      seat - 1,
      rw (length-range_with_len 1 script.workers) (omega (arith, worker, known)),
      omega (arith, worker, get_or-range_with_len 1 script.workers (seat - 1) seat (omega (arith, worker, known))),
    )

-- a source of a seat's own is a source
own_is_some : (best : Option Candidate) → is_own best ≡ true → is_some best ≡ true
own_is_some None own = own
own_is_some (Some c) own = refl

-- who has work of its own has something to do
own_is_to_do : (script : Plan) (past : List Entry) (seat : ℕ) → has_own script past seat ≡ true → has_to_do script past seat ≡ true
own_is_to_do script past zero own = absurd (false≢true own)
own_is_to_do script past (suc seat) own =
    let worker : (suc seat == 0) ≡ false = grind (arith, nat_tests) in
    rw worker (own_is_some (best_of script past (suc seat)) (rw worker at own))

-- where no worker may take a source, no worker has anything to do
no_worker : (script : Plan) (past : List Entry) (notes : List Note) (note : Note) (seat : ℕ) → is_any_ready script past ≡ false
    → length notes ≡ script.workers + 1 → HasWorkAt (has_to_do script past) notes note (suc seat) → ⊥
no_worker script past notes note seat none all at =
    let within : suc seat < length notes = slice_get_within notes (suc seat) note at.noted in
    let worker : (suc seat == 0) ≡ false = grind (arith, nat_tests) in
    let ready : is_some (best_of script past (suc seat)) ≡ true = rw worker at at.has in
    false≢true (sym (none_ready script past (suc seat) none (omega arith) (omega (arith, within, all))) ∙ ready)

-- so the driver alone has
driver_alone : (script : Plan) (past : List Entry) (notes : List Note) → is_any_ready script past ≡ false → length notes ≡ script.workers + 1
    → (HasWorkAt (has_to_do script past) notes notes_of.Resting 0 → ⊥) → NobodyHasWork (has_to_do script past) notes notes_of.Resting
driver_alone script past notes none all driver zero at = driver at
driver_alone script past notes none all driver (suc seat) at = no_worker script past notes notes_of.Resting seat none all at

-- and nobody has work of its own
none_own : (script : Plan) (past : List Entry) (notes : List Note) → is_any_ready script past ≡ false → length notes ≡ script.workers + 1
    → NobodyHasWork (has_own script past) notes notes_of.Resting
none_own script past notes none all zero at = false≢true at.has
none_own script past notes none all (suc seat) at =
    no_worker script past notes notes_of.Resting seat none all (record { noted = at.noted; has = own_is_to_do script past (suc seat) at.has })

-- so where the driver rests, nobody that was woken has anything to do
none_woken : (script : Plan) (past : List Entry) (notes : List Note) → is_any_ready script past ≡ false → length notes ≡ script.workers + 1
    → slice_get notes 0 ≡ Some notes_of.Resting → NobodyHasWork (has_to_do script past) notes notes_of.Woken
none_woken script past notes none all rests zero at = let same = some-injective (sym rests ∙ at.noted) in absurd cc
none_woken script past notes none all rests (suc seat) at = no_worker script past notes notes_of.Woken seat none all at

-- work is handed on where nobody who rests has any
handed_where_none : (work : ℕ → Bool) (notes : List Note) → NobodyHasWork work notes notes_of.Resting → IsHandedOn work notes
handed_where_none work notes none = λ seat at. absurd (none seat at)

-- and where a seat has that has just been woken
woken_has : (work : ℕ → Bool) (notes : List Note) (note : Note) (seat : ℕ) → HasWorkAt work notes note seat
    → IsHandedOn work (slice_set notes seat notes_of.Woken)
woken_has work notes note seat at = λ other rests. record {
  seat = seat;
  at = record {
    noted = slice_get-set_same notes seat notes_of.Woken (slice_get_within notes seat note at.noted);
    has = at.has;
  };
}

-- who rests after a seat was woken rested before
rested_before : (notes : List Note) (woken seat : ℕ) → slice_get (slice_set notes woken notes_of.Woken) seat ≡ Some notes_of.Resting
    → slice_get notes seat ≡ Some notes_of.Resting
rested_before [] woken seat rests = rests
rested_before (note ∷ notes) zero zero rests = let same = some-injective rests in absurd cc
rested_before (note ∷ notes) zero (suc seat) rests = rests
rested_before (note ∷ notes) (suc woken) zero rests = rests
rested_before (note ∷ notes) (suc woken) (suc seat) rests = rested_before notes woken seat rests

-- so where nobody who rests has this work, it stays so where a seat is woken
none_after : (work : ℕ → Bool) (notes : List Note) (woken : ℕ) → NobodyHasWork work notes notes_of.Resting
    → IsHandedOn work (slice_set notes woken notes_of.Woken)
none_after work notes woken none =
    λ seat at. absurd (none seat (record { noted = rested_before notes woken seat at.noted; has = at.has }))

-- whoever rests and has work of its own may be woken
pub pick_own : (script : Plan) (past : List Entry) (notes : List Note) (seat : ℕ) → HasWorkAt (has_own script past) notes notes_of.Resting seat
    → IsPick script past notes seat
pick_own script past notes seat own =
    let at : HasWorkAt (has_to_do script past) notes notes_of.Resting seat = record { noted = own.noted; has = own_is_to_do script past seat own.has } in
    record {
      needed = record { at = at; alone = λ other. absurd (false≢true (sym other ∙ own.has)) };
      all_work = woken_has (has_to_do script past) notes notes_of.Resting seat at;
      own_work = woken_has (has_own script past) notes notes_of.Resting seat own;
    }

-- and, where nobody does and nobody that was woken has anything to do, whoever rests and has something to do
pick_any : (script : Plan) (past : List Entry) (notes : List Note) (seat : ℕ) → NobodyHasWork (has_own script past) notes notes_of.Resting
    → NobodyHasWork (has_to_do script past) notes notes_of.Woken → HasWorkAt (has_to_do script past) notes notes_of.Resting seat
    → IsPick script past notes seat
pick_any script past notes seat none woken at = record {
  needed = record { at = at; alone = λ _. woken };
  all_work = woken_has (has_to_do script past) notes notes_of.Resting seat at;
  own_work = none_after (has_own script past) notes seat none;
}

-- where nobody was found, nobody has such work
pub not_found : {P : Type 0} (found : Option ℕ) → is_some found ≡ false → IfNone found P → P
not_found None none such = such
not_found (Some seat) none such = absurd cc

-- so too where one was found
pub pick_found : (script : Plan) (past : List Entry) (notes : List Note) (found : Option ℕ) → NobodyHasWork (has_own script past) notes notes_of.Resting
    → NobodyHasWork (has_to_do script past) notes notes_of.Woken → IfSome found (HasWorkAt (has_to_do script past) notes notes_of.Resting)
    → IfSome found (IsPick script past notes)
pick_found script past notes None none woken at = at
pick_found script past notes (Some seat) none woken at = pick_any script past notes seat none woken at

-- where no worker may take a source, the driver may be woken
pick_driver : (script : Plan) (past : List Entry) (notes : List Note) (seat : ℕ) → is_any_ready script past ≡ false → length notes ≡ script.workers + 1
    → HasWorkAt (has_to_do script past) notes notes_of.Resting seat → IsPick script past notes seat
pick_driver script past notes zero none all at =
    pick_any script past notes 0 (none_own script past notes none all) (none_woken script past notes none all at.noted) at
pick_driver script past notes (suc seat) none all at = absurd (no_worker script past notes notes_of.Resting seat none all at)

-- so too where it was found
pub driver_found : (script : Plan) (past : List Entry) (notes : List Note) (found : Option ℕ) → is_any_ready script past ≡ false
    → length notes ≡ script.workers + 1 → IfSome found (HasWorkAt (has_to_do script past) notes notes_of.Resting)
    → IfSome found (IsPick script past notes)
driver_found script past notes None none all at = at
driver_found script past notes (Some seat) none all at = pick_driver script past notes seat none all at

-- where no worker may take a source and the driver was not found, all work is handed on
pub none_found : (script : Plan) (past : List Entry) (notes : List Note) (found : Option ℕ) → is_any_ready script past ≡ false
    → length notes ≡ script.workers + 1 → IfNone found (HasWorkAt (has_to_do script past) notes notes_of.Resting 0 → ⊥)
    → IfNone found (IsHandedOn (has_to_do script past) notes)
none_found script past notes None none all driver = handed_where_none (has_to_do script past) notes (driver_alone script past notes none all driver)
none_found script past notes (Some seat) none all driver = driver

-- where no worker may take a source, work of a seat's own is handed on
pub own_handed : (script : Plan) (past : List Entry) (notes : List Note) (found : Option ℕ) → is_any_ready script past ≡ false
    → length notes ≡ script.workers + 1 → IfNone found (IsHandedOn (has_own script past) notes)
own_handed script past notes None none all = handed_where_none (has_own script past) notes (none_own script past notes none all)
own_handed script past notes (Some seat) none all = _
