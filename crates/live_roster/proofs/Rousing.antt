-- The notes after a call, a rest and a wake.
-- Cited by `LiveRoster::call`, `LiveRoster::open`, `LiveRoster::rest`, `LiveRoster::rouse`.
use Rattle.std.proofs.Common.{◌≡◌, ◌<◌, ◌+◌, ◌^◌, ℕ, true, false, List, [], length, Some, refl, sym, ◌∙◌, subst, arith, slice_set, replicate}
use Rattle.std.specs.Prelude.{slice_get, Result, Ok, Err}
use Rattle.std.proofs.lemmas.Bool.{false≢true}
use Rattle.std.proofs.lemmas.List.{length-replicate, length-set}
use Rattle.task_base.specs.Plan.{Plan}
use Rattle.task_base.specs.declared.entry.Entry.{Entry}
use Rattle.task_base.specs.declared.entry.Kind.{Kind}
use Rattle.task_model.specs.Phase.{phase_of}
use Rattle.hist_model.specs.Open.{is_done}
use Rattle.std.proofs.lemmas.Option.{slice_get_within}
use Rattle.list_laws.proofs.Places.{slice_get-replicate}
use Rattle.list_laws.proofs.Values.{some-injective}
use Rattle.live_core.specs.Answers.{Gives}
use Rattle.live_core.specs.Histories.{with_answer}
use Rattle.live_core.specs.StandsFor.{StandsFor as CoreStandsFor}
use Rattle.live_core.specs.declared.call.Call.{Call}
use Rattle.live_core.specs.declared.live.LiveCore.{LiveCore}
use Rattle.live_core.specs.declared.unmade.Unmade.{Unmade}
use Rattle.live_core.specs.declared.unmade.Unmade.TheVariants.{Misuse, Full, Nothing, Over, NotYet, Blocked}
use Rattle.live_roster.proofs.Handing.{all_done, rested_before}
use Rattle.live_roster.specs.Answers.{CallGives, HasRoused}
use Rattle.live_roster.specs.StandsFor.{HasNotes, StandsFor}
use Rattle.live_roster.specs.Wakes.{IsAllHandedOn, IsPick, NobodyRests, NoWakeIsLost}
use Rattle.live_roster.specs.declared.note.Note.{Note}
use Rattle.live_roster.specs.declared.note.Note.TheVariants as notes_of
use Rattle.live_roster.specs.declared.roster.LiveRoster.{LiveRoster}
use Rattle.live_roster.specs.declared.wake.Wake.{Wake}
use Rattle.live_roster.specs.declared.wake.Wake.TheVariants as wakes

-- whatever a call gives, the core stands for the past with its entry, if there is one
pub core_stands : (plan : Plan) (past : List Entry) (call : Call) (before after : LiveCore) (answer : Result Kind Unmade) → CoreStandsFor plan past before
    → Gives plan past call before after answer → CoreStandsFor plan (with_answer past call answer) after
core_stands plan past call before after (Ok kind) stands gives = gives.stands
core_stands plan past call before after (Err Misuse) stands gives = rw gives.kept stands
core_stands plan past call before after (Err Full) stands gives = rw gives.kept stands
core_stands plan past call before after (Err Nothing) stands gives = gives.stands
core_stands plan past call before after (Err Over) stands gives = gives.stands
core_stands plan past call before after (Err (NotYet not_yet)) stands gives = gives.stands
core_stands plan past call before after (Err (Blocked blocked)) stands gives = gives.stands

-- where nobody rests, no wake is lost
pub kept_where_none : (plan : Plan) (past : List Entry) (wish : Call) (notes : List Note) → NobodyRests notes → NoWakeIsLost plan past wish notes
kept_where_none plan past wish notes none = record {
  handed = all_done plan past wish notes (λ seat at. none seat at.noted);
  all_woken = λ _. none;
}

-- nor where all is handed on, until shutdown is done
pub kept_while_on : (plan : Plan) (past : List Entry) (wish : Call) (notes : List Note) → is_done (phase_of past) ≡ false
    → IsAllHandedOn plan past wish notes → NoWakeIsLost plan past wish notes
kept_while_on plan past wish notes on handed = record { handed = handed; all_woken = λ done. absurd (false≢true (sym on ∙ done)) }

-- where all have one note, nobody has another
all_noted : (n : ℕ) (note other : Note) (seat : ℕ) → slice_get (replicate n note) seat ≡ Some other → note ≡ other
all_noted n note other seat h = by_within (slice_get_within (replicate n note) seat other h)
  where
    by_within : seat < length (replicate n note) → note ≡ other
    by_within within =
        let here : slice_get (replicate n note) seat ≡ Some note = slice_get-replicate n seat note (omega (arith, within, length-replicate n note)) in
        some-injective (sym here ∙ h)

-- nobody rests where all have a note that is not that of rest
pub none_rest : (n : ℕ) (note : Note) → (note ≡ notes_of.Resting → ⊥) → NobodyRests (replicate n note)
none_rest n note other = λ seat h. other (all_noted n note notes_of.Resting seat h)

-- nor where a seat is noted otherwise, and nobody rested
pub none_rest_still : (notes : List Note) (seat : ℕ) (note : Note) → (note ≡ notes_of.Resting → ⊥) → NobodyRests notes → NobodyRests (slice_set notes seat note)
none_rest_still notes place note other none = λ seat rests. none seat (rested_before notes place seat note other rests)

-- each seat has a note still, where the core stands for the past by now and there are as many notes
pub noted_still : {plan : Plan} {past later : List Entry} {before after : LiveRoster} → HasNotes plan past before → CoreStandsFor plan later after.core
    → length after.notes.items ≡ length before.notes.items → (after.some_rest ≡ false → NobodyRests after.notes.items) → HasNotes plan later after
noted_still has core same nobody = record {
  core = core;
  seats = same ∙ has.seats;
  few = rw same has.few;
  nobody = nobody;
}

-- and where one seat is noted as awake
pub awake_still : {plan : Plan} {past later : List Entry} {before after : LiveRoster} (seat : ℕ) → HasNotes plan past before
    → CoreStandsFor plan later after.core → after.notes.items ≡ slice_set before.notes.items seat notes_of.Awake → after.some_rest ≡ before.some_rest → HasNotes plan later after
awake_still {before = before} seat has core noted rest = noted_still has core (rw noted (length-set before.notes.items seat notes_of.Awake))
    (λ none. rw noted (none_rest_still before.notes.items seat notes_of.Awake (λ same. absurd cc) (has.nobody (sym rest ∙ none))))

-- at the start, where all are awake
pub stands_at_open : {plan : Plan} {roster : LiveRoster} (workers : ℕ) → CoreStandsFor plan [] roster.core → plan.workers ≡ workers
    → roster.notes.items ≡ replicate (workers + 1) notes_of.Awake → workers < 2 ^ 32 → StandsFor plan [] roster
stands_at_open {plan = plan} {roster = roster} workers core all awake few =
    let none : NobodyRests roster.notes.items = rw awake (none_rest (workers + 1) notes_of.Awake (λ same. absurd cc)) in
    let seats : length roster.notes.items ≡ workers + 1 = rw awake (length-replicate (workers + 1) notes_of.Awake) in
    record {
      noted = record { core = core; seats = rw all seats; few = omega (arith, seats, few); nobody = λ _. none };
      kept = kept_where_none plan [] roster.wish roster.notes.items none;
    }

-- nobody is named where no wake is lost
pub none_named : {plan : Plan} {past : List Entry} {roster : LiveRoster} → HasNotes plan past roster
    → NoWakeIsLost plan past roster.wish roster.notes.items → HasRoused plan past roster.core roster.wish roster.notes.items roster wakes.Nobody
none_named has kept = record { core_is = refl; wish_is = refl; noted = refl; needed = tt; stands = record { noted = has; kept = kept } }

-- everyone is named where shutdown is done
pub all_named : {plan : Plan} {past : List Entry} {before after : LiveRoster} → HasNotes plan past before → is_done (phase_of past) ≡ true
    → after.core ≡ before.core → after.wish ≡ before.wish → after.notes.items ≡ replicate (length before.notes.items) notes_of.Woken
    → HasRoused plan past before.core before.wish before.notes.items after wakes.Everyone
all_named {plan = plan} {past = past} {before = before} {after = after} has done core wish all =
    let none : NobodyRests after.notes.items = rw all (none_rest (length before.notes.items) notes_of.Woken (λ same. absurd cc)) in
    record {
      core_is = core;
      wish_is = wish;
      noted = all;
      needed = done;
      stands = record {
        noted = noted_still has (rw core has.core) (rw all (length-replicate (length before.notes.items) notes_of.Woken)) (λ _. none);
        kept = kept_where_none plan past after.wish after.notes.items none;
      };
    }

-- one is named where all is handed on by it
pub one_named : {plan : Plan} {past : List Entry} {before after : LiveRoster} (seat : ℕ) → HasNotes plan past before → is_done (phase_of past) ≡ false
    → IsPick plan past before.wish before.notes.items seat → after.core ≡ before.core → after.wish ≡ before.wish
    → after.notes.items ≡ slice_set before.notes.items seat notes_of.Woken → (after.some_rest ≡ false → NobodyRests after.notes.items)
    → HasRoused plan past before.core before.wish before.notes.items after (wakes.One seat)
one_named {plan = plan} {past = past} {before = before} {after = after} seat has on pick core wish noted nobody = record {
  core_is = core;
  wish_is = wish;
  noted = noted;
  needed = pick.needed;
  stands = record {
    noted = noted_still has (rw core has.core) (rw noted (length-set before.notes.items seat notes_of.Woken)) nobody;
    kept = kept_while_on plan past after.wish after.notes.items on (rw (wish, noted) pick.handed);
  };
}

-- and where a seat is noted as one that rests
pub resting_still : {plan : Plan} {past : List Entry} {before after : LiveRoster} (seat : ℕ) → HasNotes plan past before → after.core ≡ before.core
    → after.notes.items ≡ slice_set before.notes.items seat notes_of.Resting → after.some_rest ≡ true → HasNotes plan past after
resting_still {before = before} seat has core noted rest = noted_still has (rw core has.core)
    (rw noted (length-set before.notes.items seat notes_of.Resting)) (λ none. absurd (false≢true (sym none ∙ rest)))

-- what a call gives, by what it gives of the core and whom the look at it names
pub call_gives : {plan : Plan} {past : List Entry} {by_seat : ℕ} {call : Call} {before after : LiveRoster} {answer : Result Kind Unmade} {wake : Wake}
    (core : LiveCore) (notes : List Note) → Gives plan past call before.core core answer → notes ≡ slice_set before.notes.items by_seat notes_of.Awake
    → HasRoused plan (with_answer past call answer) core before.wish notes after wake → CallGives plan past by_seat call before after answer wake
call_gives {plan = plan} {past = past} {call = call} {before = before} {after = after} {answer = answer} {wake = wake} core notes gives noted roused = record {
  made = rw roused.core_is gives;
  roused = rw (← noted) (subst (λ (k : LiveCore). HasRoused plan (with_answer past call answer) k before.wish notes after wake)
      (sym roused.core_is) roused);
}
