-- In the trace of a legal log the events of a seat begin and end by turns.
-- Cited by `spans.rt`.
use Rattle.std.proofs.Common.{◌≡◌, ℕ, Bool, true, false, eqb, List, [], ◌∷◌, ◌++◌, length, append-nil}
use Rattle.std.proofs.Common.{append_assoc, leb, refl, sym, ap, subst, ◌∙◌, Option, None, Some}
use Rattle.std.specs.Prelude.{◌&&◌, is_none}
use Rattle.std.proofs.lemmas.Bool.{and_parts, eq-eqb, eqb-true}
use Rattle.std.proofs.lemmas.List.Elements.{filter-append}
use Rattle.task_base.specs.Plan.{Plan}
use Rattle.task_base.specs.declared.entry.Entry.{Entry}
use Rattle.task_base.specs.declared.entry.Kind.{Kind}
use Rattle.task_base.specs.declared.entry.Kind.TheVariants as kinds
use Rattle.task_model.specs.Seats.{Running, Holding, running, running_after, holding, holding_after}
use Rattle.pool_laws.proofs.Seats.Running.{running_here, running_other, holding_here, holding_other}
use Rattle.hist_model.specs.Allowed.{may_come, is_allowed, IsAllowed}
use Rattle.hist_model.specs.Legal.{IsLegal}
use Rattle.hist_model.specs.Script.{IsWhole}
use Rattle.hist_model.specs.Laws.Consistent.{DoesOneThing}
use Rattle.hist_model.proofs.Laws.Legal.{legal_induction, is_legal_push}
use Rattle.hist_model.proofs.Laws.Takes.{take_is, end_is, main_end_is}
use Rattle.hist_model.proofs.Laws.JobEntries.{none_is}
use Rattle.hist_model.proofs.Laws.OneThing.{main_take_free, job_take_free, job_step_holds, legal_does_one_thing}
use Rattle.hist_model.proofs.Laws.Whole.Losing.{loses_nothing}
use Rattle.trace_json.specs.declared.event.EventName.{EventName}
use Rattle.trace_json.specs.declared.event.EventName.TheVariants.{Task, Item}
use Rattle.trace_json.specs.declared.event.EventPhase.{EventPhase}
use Rattle.trace_json.specs.declared.event.EventPhase.TheVariants.{Begin, End}
use Rattle.trace_json.specs.declared.event.TraceEvent.{TraceEvent}
use Rattle.trace_json.specs.Trace.{ended_by, begun_by, event_if, events_at, trace_of}
use Rattle.trace_json.specs.Spans.{events_of, IsSpan, AreSpans, AreSpansToNow}
use Rattle.trace_json.proofs.Events.{trace_of-push}

-- ---- spans, one behind the other

-- the events are spans, one behind the other, and what is open behind them is of this name, or there is none
abbrev SpansUpTo : Option EventName → List TraceEvent → Type 0
SpansUpTo None [] = Unit {0}
SpansUpTo (Some name) [] = ⊥
SpansUpTo None (b ∷ []) = ⊥
SpansUpTo (Some name) (b ∷ []) = (b.phase ≡ Begin) × (b.name ≡ name)
SpansUpTo now (b ∷ e ∷ rest) = IsSpan b e × SpansUpTo now rest

spans_to_now : (now : Option EventName) (events : List TraceEvent) → SpansUpTo now events → AreSpansToNow events
spans_to_now None [] h = tt
spans_to_now (Some name) [] h = tt
spans_to_now None (b ∷ []) h = absurd h
spans_to_now (Some name) (b ∷ []) h = h.0
spans_to_now None (b ∷ e ∷ rest) h = (h.0, spans_to_now None rest h.1)
spans_to_now (Some name) (b ∷ e ∷ rest) h = (h.0, spans_to_now (Some name) rest h.1)

all_spans : (events : List TraceEvent) → SpansUpTo None events → AreSpans events
all_spans [] h = tt
all_spans (b ∷ []) h = h
all_spans (b ∷ e ∷ rest) h = (h.0, all_spans rest h.1)

-- where nothing is open something may begin
one_begins : (events : List TraceEvent) (b : TraceEvent) → b.phase ≡ Begin → SpansUpTo None events → SpansUpTo (Some b.name) (events ++ b ∷ [])
one_begins [] b begins h = (begins, refl)
one_begins (x ∷ []) b begins h = absurd h
one_begins (x ∷ y ∷ rest) b begins h = (h.0, one_begins rest b begins h.1)

-- and what is open may end
one_ends : (events : List TraceEvent) (e : TraceEvent) → e.phase ≡ End → SpansUpTo (Some e.name) events → SpansUpTo None (events ++ e ∷ [])
one_ends [] e ends h = absurd h
one_ends (x ∷ []) e ends h = (record { begins = h.0; ends = ends; same_name = sym h.1 }, tt)
one_ends (x ∷ y ∷ rest) e ends h = (h.0, one_ends rest e ends h.1)

-- ---- what a seat is at

-- the task that it runs, or the item that it holds
abbrev doing : Option Running → Option Holding → Option EventName
doing (Some w) held = Some (Task w.task)
doing None (Some h) = Some (Item h.job h.item)
doing None None = None

-- what is ended is what the seat is at, and then it is at nothing
abbrev Ends : Option EventName → Option EventName → Option EventName → Type 0
Ends before None after = after ≡ before
Ends before (Some name) after = (before ≡ Some name) × (after ≡ None)

-- what is begun is begun while the seat is at nothing, and then it is at that
abbrev Begins : Option EventName → Option EventName → Option EventName → Type 0
Begins before None after = after ≡ before
Begins before (Some name) after = (before ≡ None) × (after ≡ Some name)

-- an entry ends what its seat is at, and then begins something, if it does either
record Moves (before : Option EventName) (kind : Kind) (after : Option EventName) : Type 0 where
  between : Option EventName
  ends : Ends before (ended_by kind) between
  begins : Begins between (begun_by kind) after

-- no seat runs a task and holds an item at once
abbrev IsAlone : Option Running → Option Holding → Type 0
IsAlone runs holds = (w : Running) (h : Holding) → runs ≡ Some w → holds ≡ Some h → ⊥

held_nothing : (runs : Option Running) (holds : Option Holding) (w : Running) → IsAlone runs holds → runs ≡ Some w → holds ≡ None
held_nothing runs None w alone is = refl
held_nothing runs (Some h) w alone is = absurd (alone w h is refl)

ran_nothing : (runs : Option Running) (holds : Option Holding) (h : Holding) → IsAlone runs holds → holds ≡ Some h → runs ≡ None
ran_nothing None holds h alone is = refl
ran_nothing (Some w) holds h alone is = absurd (alone w h refl is)

-- what an entry that may come does to its own seat
moves : (script : Plan) (past : List Entry) (seat : ℕ) (kind : Kind) → may_come script past seat kind ≡ true → IsAlone (running past seat) (holding past seat)
    → IsAlone (running_after (running past seat) kind) (holding_after (holding past seat) kind)
    → Moves (doing (running past seat) (holding past seat)) kind
    (doing (running_after (running past seat) kind) (holding_after (holding past seat) kind))
moves script past seat (kinds.Take task runner found) may before after =
    let free = and_parts (is_none (running past seat)) (is_none (holding past seat)) (take_is script past seat task runner found may).free in
    let none : doing (running past seat) (holding past seat) ≡ None = rw (none_is (running past seat) free.0, none_is (holding past seat) free.1) refl in
    record { between = None; ends = sym none; begins = (refl, refl) }
moves script past seat (kinds.MainTake task queue found) may before after =
    let runs = none_is (running past seat) (main_take_free script past seat task queue found may) in
    let holds = held_nothing _ (holding past seat) _ after refl in
    let none : doing (running past seat) (holding past seat) ≡ None = rw (runs, holds) refl in
    record { between = None; ends = sym none; begins = (refl, refl) }
moves script past seat (kinds.End task left) may before after =
    let (w, runs, pool, task_is) = end_is script past seat task left may in
    let holds = held_nothing (running past seat) (holding past seat) w before runs in
    record { between = None; ends = (rw (runs, task_is) refl, refl); begins = rw holds refl }
moves script past seat (kinds.MainEnd task left) may before after =
    let (w, runs, main, task_is) = main_end_is script past seat task left may in
    let holds = held_nothing (running past seat) (holding past seat) w before runs in
    record { between = None; ends = (rw (runs, task_is) refl, refl); begins = rw holds refl }
moves script past seat (kinds.JobTake job id item) may before after =
    let holds = none_is (holding past seat) (job_take_free script past seat job id item may) in
    let runs = ran_nothing (running past seat) _ _ after refl in
    let none : doing (running past seat) (holding past seat) ≡ None = rw (runs, holds) refl in
    record { between = None; ends = sym none; begins = (refl, rw runs refl) }
moves script past seat (kinds.JobStep job id item value next) may before after =
    let (h, holds, job_is, id_is, item_is) = job_step_holds script past seat job id item value next may in
    let runs = ran_nothing (running past seat) (holding past seat) h before holds in
    at next h holds job_is item_is runs
  where
    at : (n : Option ℕ) (h : Holding) → holding past seat ≡ Some h → h.job ≡ job → h.item ≡ item → running past seat ≡ None
        → Moves (doing (running past seat) (holding past seat)) (kinds.JobStep job id item value n)
        (doing (running past seat) (holding_after (holding past seat) (kinds.JobStep job id item value n)))
    at None h holds job_is item_is runs = record { between = None; ends = (rw (runs, holds, job_is, item_is) refl, refl); begins = rw runs refl }
    at (Some n) h holds job_is item_is runs = record { between = None; ends = (rw (runs, holds, job_is, item_is) refl, refl); begins = (refl, rw runs refl) }
moves script past seat kind may before after = record { between = doing (running past seat) (holding past seat); ends = refl; begins = refl }

-- ---- one entry more

-- spans go on with the events of an entry of the seat
go_on : (events : List TraceEvent) (before after : Option EventName) (place : ℕ) (e : Entry) → Moves before e.kind after → SpansUpTo before events
    → SpansUpTo after (events ++ events_at place e)
go_on events before after place e m h = subst (SpansUpTo after) (append_assoc events (event_if (ended_by e.kind) End e.seat place) _)
    (begun (begun_by e.kind) (events ++ event_if (ended_by e.kind) End e.seat place) m.begins (ended (ended_by e.kind) m.ends))
  where
    ended : (name : Option EventName) → Ends before name m.between → SpansUpTo m.between (events ++ event_if name End e.seat place)
    ended None same = subst (SpansUpTo m.between) (sym (append-nil events)) (subst (λ now. SpansUpTo now events) (sym same) h)
    ended (Some name) (is, none) = subst (λ now. SpansUpTo now (events ++ event_if (Some name) End e.seat place)) (sym none)
        (one_ends events _ refl (subst (λ now. SpansUpTo now events) is h))

    begun : (name : Option EventName) (so_far : List TraceEvent) → Begins m.between name after → SpansUpTo m.between so_far
        → SpansUpTo after (so_far ++ event_if name Begin e.seat place)
    begun None so_far same k = subst (SpansUpTo after) (sym (append-nil so_far)) (subst (λ now. SpansUpTo now so_far) (sym same) k)
    begun (Some name) so_far (none, is) k = subst (λ now. SpansUpTo now (so_far ++ event_if (Some name) Begin e.seat place)) (sym is)
        (one_begins so_far _ refl (subst (λ now. SpansUpTo now so_far) none k))

-- the events of an entry are its seat's, and no other seat's
own_events : (place : ℕ) (e : Entry) → events_of e.seat (events_at place e) ≡ events_at place e
own_events place e = rw (
  filter-append (λ a. eqb a.seat e.seat) (event_if (ended_by e.kind) End e.seat place) (event_if (begun_by e.kind) Begin e.seat place),
  kept (ended_by e.kind) End,
  kept (begun_by e.kind) Begin,
) refl
  where
    kept : (name : Option EventName) (phase : EventPhase) → events_of e.seat (event_if name phase e.seat place) ≡ event_if name phase e.seat place
    kept None phase = refl
    kept (Some name) phase = rw (eq-eqb e.seat e.seat refl) refl

no_events : (place : ℕ) (e : Entry) (seat : ℕ) → eqb e.seat seat ≡ false → events_of seat (events_at place e) ≡ []
no_events place e seat other = rw (
  filter-append (λ a. eqb a.seat seat) (event_if (ended_by e.kind) End e.seat place) (event_if (begun_by e.kind) Begin e.seat place),
  left_out (ended_by e.kind) End,
  left_out (begun_by e.kind) Begin,
) refl
  where
    left_out : (name : Option EventName) (phase : EventPhase) → events_of seat (event_if name phase e.seat place) ≡ []
    left_out None phase = refl
    left_out (Some name) phase = rw other refl

-- one more entry is one of events more for its seat
events_of-push : (past : List Entry) (e : Entry) (seat : ℕ)
    → events_of seat (trace_of (past ++ e ∷ [])) ≡ events_of seat (trace_of past) ++ events_of seat (events_at (length past) e)
events_of-push past e seat =
    ap (events_of seat) (trace_of-push past e) ∙ filter-append (λ a. eqb a.seat seat) (trace_of past) (events_at (length past) e)

-- the events of a seat are spans up to what it is at
abbrev IsTold : List Entry → Type 0
IsTold past = (seat : ℕ) → SpansUpTo (doing (running past seat) (holding past seat)) (events_of seat (trace_of past))

nothing_told : IsTold []
unfolding running holding trace_of
nothing_told seat = tt

told : (script : Plan) (log : List Entry) → IsLegal script log → IsTold log
told script log legal = legal_induction script IsTold nothing_told step log legal
  where
    other_seat : (past : List Entry) (e : Entry) (seat : ℕ) → eqb e.seat seat ≡ false → IsTold past
        → SpansUpTo (doing (running (past ++ e ∷ []) seat) (holding (past ++ e ∷ []) seat)) (events_of seat (trace_of (past ++ e ∷ [])))
    other_seat past e seat other holds = rw (
      running_other past e seat other,
      holding_other past e seat other,
      events_of-push past e seat,
      no_events (length past) e seat other,
      append-nil (events_of seat (trace_of past)),
    ) (holds seat)

    own_seat : (past : List Entry) (e : Entry) → IsLegal script past → IsAllowed script past e → IsTold past
        → SpansUpTo (doing (running (past ++ e ∷ []) e.seat) (holding (past ++ e ∷ []) e.seat)) (events_of e.seat (trace_of (past ++ e ∷ [])))
    own_seat past e legal allowed holds =
        let own = eq-eqb e.seat e.seat refl in
        let may = (and_parts (leb e.seat script.workers) (may_come script past e.seat e.kind) allowed).1 in
        let longer : IsLegal script (past ++ e ∷ []) = is_legal_push script past e ∙ ap (λ b. b && is_allowed script past e) legal ∙ allowed in
        let before : DoesOneThing script past = legal_does_one_thing script past legal in
        let after : DoesOneThing script (past ++ e ∷ []) = legal_does_one_thing script (past ++ e ∷ []) longer in
        let alone : IsAlone (running_after (running past e.seat) e.kind) (holding_after (holding past e.seat) e.kind) =
        λ w h runs held. after.one_thing e.seat w h (running_here past e e.seat own ∙ runs) (holding_here past e e.seat own ∙ held) in
        rw (running_here past e e.seat own, holding_here past e e.seat own, events_of-push past e e.seat, own_events (length past) e)
        (go_on (events_of e.seat (trace_of past)) (doing (running past e.seat) (holding past e.seat)) _ (length past) e
        (moves script past e.seat e.kind may (before.one_thing e.seat) alone) (holds e.seat))

    step : (past : List Entry) (e : Entry) → IsLegal script past → IsAllowed script past e → IsTold past → IsTold (past ++ e ∷ [])
    step past e legal allowed holds seat = at (eqb e.seat seat) refl
      where
        at : (b : Bool) → eqb e.seat seat ≡ b
            → SpansUpTo (doing (running (past ++ e ∷ []) seat) (holding (past ++ e ∷ []) seat)) (events_of seat (trace_of (past ++ e ∷ [])))
        at true own = subst (λ s. SpansUpTo (doing (running (past ++ e ∷ []) s) (holding (past ++ e ∷ []) s)) (events_of s (trace_of (past ++ e ∷ []))))
            (eqb-true e.seat seat own) (own_seat past e legal allowed holds)
        at false other = other_seat past e seat other holds

pub by_turns : (script : Plan) (log : List Entry) (seat : ℕ) → IsLegal script log → AreSpansToNow (events_of seat (trace_of log))
by_turns script log seat legal = spans_to_now (doing (running log seat) (holding log seat)) (events_of seat (trace_of log)) (told script log legal seat)

pub whole_spans : (script : Plan) (log : List Entry) (seat : ℕ) → IsLegal script log → IsWhole script log → AreSpans (events_of seat (trace_of log))
whole_spans script log seat legal whole =
    let law = loses_nothing script log legal whole in
    let none : doing (running log seat) (holding log seat) ≡ None = rw (law.nobody_runs seat, law.nobody_holds seat) refl in
    all_spans (events_of seat (trace_of log)) (subst (λ now. SpansUpTo now (events_of seat (trace_of log))) none (told script log legal seat))
