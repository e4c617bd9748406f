-- In the trace of a legal log the tasks of a sequence show one at a time.
-- Cited by `spans.rt`.
use Rattle.std.proofs.Common.{◌≡◌, ◌<◌, ◌≤◌, ℕ, true, eqb, List, take, refl, sym, ap, subst, ◌∙◌, Some, inl, inr, arith}
use Rattle.std.specs.Prelude.{◌⊎◌, slice_get}
use Rattle.std.proofs.lemmas.Bool.{and_parts, eqb-true}
use Rattle.std.proofs.lemmas.Option.{none-some}
use Rattle.task_base.specs.Plan.{Plan}
use Rattle.task_base.specs.declared.entry.Entry.{Entry}
use Rattle.task_base.specs.declared.entry.Kind.{Kind}
use Rattle.task_base.specs.declared.entry.Kind.TheVariants as kinds
use Rattle.hist_model.specs.Allowed.{may_come}
use Rattle.hist_model.specs.Legal.{IsLegal}
use Rattle.hist_model.specs.Laws.Places.{IsAt}
use Rattle.hist_model.specs.Laws.Singly as singly
use Rattle.hist_model.proofs.Laws.AtPlaces.{may_come_at}
use Rattle.hist_model.proofs.Laws.Takes.{take_is}
use Rattle.hist_model.proofs.Laws.Starts.{tasks_start_at_most_once}
use Rattle.hist_model.proofs.Laws.Singly.{sequences_run_singly}
use Rattle.trace_json.specs.declared.event.EventName.{EventName}
use Rattle.trace_json.specs.declared.event.EventName.TheVariants.{Task}
use Rattle.trace_json.specs.declared.event.EventPhase.TheVariants.{Begin, End}
use Rattle.trace_json.specs.declared.event.TraceEvent.{TraceEvent}
use Rattle.trace_json.specs.Trace.{ended_by, trace_of}
use Rattle.trace_json.specs.Spans.{BeginsOf, EndsSpan, SpanEndsBetween, SequencesShowSingly}
use Rattle.trace_json.proofs.Events.{IsEventOf, entry_of, ShowsEnd, shows_end, goes_before, earlier_index}

-- of a beginning and a later event the beginning has the lesser place, where the later one begins too
begins_before : (script : Plan) (log : List Entry) (s i j : ℕ) (a b : TraceEvent) → i < j → BeginsOf script log s i a → slice_get (trace_of log) j ≡ Some b
    → a.place < b.place
begins_before script log s i j a b less from at_j = elim (goes_before log i j a b less from.is at_j) [
  | inl h ↦ h
  | inr h ↦ let clash : Begin ≡ End = sym from.begins ∙ h.1 in cc
]

-- where a task of a sequence begins, the span of one that began before has ended
ended_before : (script : Plan) (log : List Entry) (s i j : ℕ) (a b : TraceEvent) → IsLegal script log → i < j → BeginsOf script log s i a
    → BeginsOf script log s j b → SpanEndsBetween log i j a
ended_before script log s i j a b legal less from to =
    let ends : singly.EndsBetween log a.place b.place a.seat from.task = (sequences_run_singly script log legal).ended_before a.place b.place a.seat b.seat
    from.task to.task from.runner to.runner from.found to.found (begins_before script log s i j a b less from to.is) from.takes to.takes
    (from.of_sequence ∙ sym to.of_sequence) in
    let shows : ShowsEnd log ends.at a.seat (Task from.task) = shows_end log ends.at _ (Task from.task) ends.is refl in
    record {
      index = shows.index;
      after = earlier_index log i shows.index a _ from.is shows.is ends.after;
      before = earlier_index log shows.index j _ b shows.is to.is ends.before;
      is = record {
        end = _;
        is = shows.is;
        ends = record { begins = from.begins; ends = refl; same_name = sym from.name_is };
        same_seat = refl;
      };
    }

-- what ends under the name of a task is the end of the task, of the pool or of a main queue
task_ends : (kind : Kind) (task : ℕ) → ended_by kind ≡ Some (Task task)
    → ((left : ℕ) × (kind ≡ kinds.End task left)) ⊎ ((left : ℕ) × (kind ≡ kinds.MainEnd task left))
task_ends (kinds.End t left) task h = inl (left, cc)
task_ends (kinds.MainEnd t left) task h = inr (left, cc)
task_ends (kinds.JobStep job id item value next) task h = absurd cc
task_ends kind task h = absurd (none-some (Task task) h)

-- main tasks end at the driver
main_end_at_driver : (script : Plan) (past : List Entry) (seat task left : ℕ) → may_come script past seat (kinds.MainEnd task left) ≡ true → seat ≡ 0
unfolding may_come
main_end_at_driver script past seat task left h = eqb-true seat 0 (and_parts (eqb seat 0) _ h).0

-- the end of the span of a pool task is the end of the task
ends_task : (script : Plan) (log : List Entry) (s i k : ℕ) (a : TraceEvent) → IsLegal script log → (from : BeginsOf script log s i a)
    → (e : EndsSpan log k a) → (left : ℕ) × IsAt log e.end.place a.seat (kinds.End from.task left)
ends_task script log s i k a legal from e = of (entry_of log k e.end e.is)
  where
    Wanted : Type 0
    Wanted = (left : ℕ) × IsAt log e.end.place a.seat (kinds.End from.task left)

    worker : 1 ≤ a.seat
    worker = (take_is script (take a.place log) a.seat from.task from.runner from.found (may_come_at script log a.place _ legal from.takes)).worker

    of_kind : (x : Entry) → slice_get log e.end.place ≡ Some x → x.seat ≡ a.seat
        → ((left : ℕ) × (x.kind ≡ kinds.End from.task left)) ⊎ ((left : ℕ) × (x.kind ≡ kinds.MainEnd from.task left)) → Wanted
    of_kind x is seat_is (inl (left, kind_is)) =
        (left, subst (IsAt log e.end.place a.seat) kind_is (subst (λ seat. IsAt log e.end.place seat x.kind) seat_is is))
    of_kind x is seat_is (inr (left, kind_is)) =
        let may = subst (λ kind. may_come script (take e.end.place log) x.seat kind ≡ true) kind_is (may_come_at script log e.end.place x legal is) in
        absurd (omega (arith, worker, seat_is, main_end_at_driver script (take e.end.place log) x.seat from.task left may))

    of : (x : Entry) × (slice_get log e.end.place ≡ Some x) × IsEventOf e.end.place x e.end → Wanted
    of (x, is, event) = elim event.what [
      | inl ends ↦ of_kind x is (sym event.by ∙ e.same_seat)
          (task_ends x.kind from.task (ends.1 ∙ ap (λ (name : EventName). Some name) (e.ends.same_name ∙ from.name_is)))
      | inr begins ↦ let clash : Begin ≡ End = sym begins.0 ∙ e.ends.ends in cc
    ]

-- between the two ends of a span no other task of the sequence begins
none_between : (script : Plan) (log : List Entry) (s i j k : ℕ) (a b : TraceEvent) → IsLegal script log → i < j → j < k → BeginsOf script log s i a
    → BeginsOf script log s j b → EndsSpan log k a → ⊥
none_between script log s i j k a b legal less later from to ended =
    let earlier : SpanEndsBetween log i j a = ended_before script log s i j a b legal less from to in
    let first = ends_task script log s i earlier.index a legal from earlier.is in
    let second = ends_task script log s i k a legal from ended in
    let same : earlier.is.end.place ≡ ended.end.place = ((tasks_start_at_most_once script log legal).one_end earlier.is.end.place ended.end.place
    a.seat a.seat from.task first.0 second.0 first.1 second.1).0 in
    elim (goes_before log earlier.index k earlier.is.end ended.end (omega (arith, earlier.before, later)) earlier.is.is ended.is) [
      | inl before ↦ omega (arith, before, same)
      | inr here ↦ let clash : End ≡ Begin = sym ended.ends.ends ∙ here.2 in cc
    ]

pub sequences_show : (script : Plan) (log : List Entry) → IsLegal script log → SequencesShowSingly script log
sequences_show script log legal = record {
  ended_before = λ s i j a b less from to. ended_before script log s i j a b legal less from to;
  none_between = λ s i j k a b less later from to ended. none_between script log s i j k a b legal less later from to ended;
}
