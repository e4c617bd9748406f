-- A sequence runs one task at a time, and so do the main queues.
-- Cited by `singly.rt`, `trace_json`.
use Rattle.std.proofs.Common.{◌≡◌, ℕ, ◌<◌, Bool, true, false, List, take, refl, sym, ap, subst, ◌∙◌, Some, inl, inr, arith}
use Rattle.std.specs.Prelude.{slice_get, is_none}
use Rattle.std.specs.List.{list_any}
use Rattle.std.proofs.lemmas.Bool.{eqb-true, eq-eqb, both_ways, true≢false, cases_Bool}
use Rattle.task_base.specs.Plan.{Plan}
use Rattle.task_base.specs.Runners.{sequence_of}
use Rattle.task_base.specs.declared.entry.Entry.{Entry}
use Rattle.task_base.specs.declared.entry.Kind.{Kind}
use Rattle.task_base.specs.declared.entry.Kind.TheVariants as kinds
use Rattle.task_model.specs.Posts.{is_taken, takes, is_ended, is_main_taken, main_takes}
use Rattle.pool_laws.specs.Posts.{is_main_ended}
use Rattle.task_model.specs.Seats.{running, runs_sequence}
use Rattle.pool_laws.proofs.Seats.Running.{seat_runs}
use Rattle.hist_model.specs.Legal.{IsLegal}
use Rattle.hist_model.specs.Laws.Places.{IsAt}
use Rattle.hist_model.specs.Laws.Consistent.{RunsAtOneSeat, RunsAtDriver}
use Rattle.hist_model.specs.Laws.Starts.{TasksStartAtMostOnce}
use Rattle.hist_model.specs.Laws.Singly.{EndsBetween, MainEndsBetween, SequencesRunSingly}
use Rattle.hist_model.proofs.Laws.AtPlaces.{PassesAt, passes_at, of_past, past_is_legal, may_come_at}
use Rattle.hist_model.proofs.Laws.Takes.{take_is, main_take_is}
use Rattle.hist_model.proofs.Laws.OneThing.{main_take_free}
use Rattle.hist_model.proofs.Laws.OneSeat.{runs_at_one_seat, runs_at_driver}
use Rattle.pool_laws.specs.Runs.{ends_as, takes_as}
use Rattle.hist_model.proofs.Laws.Since.{taking}
use Rattle.hist_model.proofs.Laws.Starts.{passed_before, TakenAs, taken_as_before, one_take_place, taken_before_end, same_entry, tasks_start_at_most_once}

-- the end of a task of the pool, or of a main task
abbrev ending : Bool → ℕ → ℕ → Kind
ending false task left = kinds.End task left
ending true task left = kinds.MainEnd task left

-- what was ended before a place was ended at an earlier one
record EndedAt (log : List Entry) (place : ℕ) (main : Bool) (t : ℕ) : Type 0 where
  at : ℕ
  ender : ℕ
  left : ℕ
  before : at < place
  is : IsAt log at ender (ending main t left)

-- the entry that ends a task
ends_it : (main : Bool) (t : ℕ) (kind : Kind) → ends_as main t kind ≡ true → (left : ℕ) × (kind ≡ ending main t left)
ends_it false t (kinds.End task left) h = (left, ap (λ u. kinds.End u left) (eqb-true task t h))
ends_it true t (kinds.MainEnd task left) h = (left, ap (λ u. kinds.MainEnd u left) (eqb-true task t h))
ends_it false t kind h = absurd (true≢false (sym h))
ends_it true t kind h = absurd (true≢false (sym h))

ended_at : (log : List Entry) (place : ℕ) (main : Bool) (t : ℕ) → list_any (λ e. ends_as main t e.kind) (take place log) ≡ true → EndedAt log place main t
ended_at log place main t ended =
    let p : PassesAt (λ e. ends_as main t e.kind) (take place log) = passes_at (λ e. ends_as main t e.kind) (take place log) ended in
    let there = of_past log p.place place p.value p.is in
    let kind = ends_it main t p.value.kind p.passes in
    record {
      at = p.place;
      ender = p.value.seat;
      left = kind.0;
      before = there.0;
      is = subst (λ k. IsAt log p.place p.value.seat k) kind.1 there.1;
    }

takes_own : (main : Bool) (t home found : ℕ) → takes_as main t (taking main t home found) ≡ true
takes_own false t home found = eq-eqb t t refl
takes_own true t home found = eq-eqb t t refl

ends_own : (main : Bool) (t left : ℕ) → ends_as main t (ending main t left) ≡ true
ends_own false t left = eq-eqb t t refl
ends_own true t left = eq-eqb t t refl

-- between two places the seat ends the task
record EndedBetween (log : List Entry) (from to seat : ℕ) (main : Bool) (t : ℕ) : Type 0 where
  at : ℕ
  left : ℕ
  after : from < at
  before : at < to
  is : IsAt log at seat (ending main t left)

-- the end stands behind the take, and is by the seat of the take
end_behind_take : (script : Plan) (log : List Entry) (i j seat : ℕ) (main : Bool) (t home found : ℕ) → IsLegal script log
    → IsAt log i seat (taking main t home found) → EndedAt log j main t → EndedBetween log i j seat main t
end_behind_take script log i j seat main t home found legal at_i e =
    let (from, taken) = taken_before_end script log e.at e.ender (ending main t e.left) main t legal e.is (ends_own main t e.left) in
    let same : taken.at ≡ i = one_take_place script log main t taken.at i _ _ legal taken.is at_i (takes_own main t from taken.found)
    (takes_own main t home found) in
    record {
      at = e.at;
      left = e.left;
      after = omega (arith, taken.earlier, same);
      before = e.before;
      is = subst (λ s. IsAt log e.at s (ending main t e.left)) (ap (λ x. x.seat) (same_entry log taken.at i _ _ same taken.is at_i)) e.is;
    }

-- where a task of the pool was taken and has not ended, its sequence runs
its_sequence_runs : (script : Plan) (log : List Entry) (i j seat t runner found : ℕ) (e : Entry) → IsLegal script log → i < j
    → IsAt log i seat (kinds.Take t runner found) → slice_get log j ≡ Some e → is_ended (take j log) t ≡ false
    → runs_sequence script (take j log) (sequence_of script runner t) ≡ true
unfolding is_taken
its_sequence_runs script log i j seat t runner found e legal less at_i at_j not_ended =
    let taken : is_taken (take j log) t ≡ true = passed_before (λ x. takes t x.kind) log i j _ less at_i (eq-eqb t t refl) in
    let r : RunsAtOneSeat script (take j log) t = runs_at_one_seat script (take j log) t (past_is_legal script log j e legal at_j) taken not_ended in
    let since : TakenAs log j r.seat false t r.now.home = taken_as_before log j r.seat r.now false t r.running_is r.is_pool r.task_is in
    let same = (tasks_start_at_most_once script log legal).one_take since.at i r.seat seat t r.now.home runner since.found found since.is at_i in
    let s = sequence_of script runner t in
    seat_runs script (take j log) s r.seat (omega (arith, r.known)) (rw (r.running_is, r.is_pool, r.task_is, same.2, eq-eqb s s refl) refl)

-- behind the take of a task of the pool, a take of its sequence stands behind its end
ended_before : (script : Plan) (log : List Entry) (i j seat other t u runner home found value : ℕ) → IsLegal script log → i < j
    → IsAt log i seat (kinds.Take t runner found) → IsAt log j other (kinds.Take u home value) → sequence_of script runner t ≡ sequence_of script home u
    → EndedBetween log i j seat false t
unfolding is_ended
ended_before script log i j seat other t u runner home found value legal less at_i at_j same = elim (cases_Bool (is_ended (take j log) t)) [
  | inl ended ↦ end_behind_take script log i j seat false t runner found legal at_i (ended_at log j false t ended)
  | inr not_ended ↦ absurd (both_ways (runs_sequence script (take j log) (sequence_of script home u))
      (take_is script (take j log) other u home value (may_come_at script log j _ legal at_j)).not_running
      (ap (runs_sequence script (take j log)) (sym same) ∙ its_sequence_runs script log i j seat t runner found _ legal less at_i at_j not_ended))
]

-- behind the take of a main task, a take of a main task stands behind its end
main_ended_before : (script : Plan) (log : List Entry) (i j seat other t u queue home found value : ℕ) → IsLegal script log → i < j
    → IsAt log i seat (kinds.MainTake t queue found) → IsAt log j other (kinds.MainTake u home value) → EndedBetween log i j seat true t
unfolding is_main_taken is_main_ended
main_ended_before script log i j seat other t u queue home found value legal less at_i at_j = elim (cases_Bool (is_main_ended (take j log) t)) [
  | inl ended ↦ end_behind_take script log i j seat true t queue found legal at_i (ended_at log j true t ended)
  | inr not_ended ↦ absurd (busy not_ended)
]
  where
    busy : is_main_ended (take j log) t ≡ false → ⊥
    busy not_ended =
        let may = may_come_at script log j _ legal at_j in
        let taken : is_main_taken (take j log) t ≡ true = passed_before (λ x. main_takes t x.kind) log i j _ less at_i (eq-eqb t t refl) in
        let r : RunsAtDriver (take j log) t = runs_at_driver script (take j log) t (past_is_legal script log j _ legal at_j) taken not_ended in
        let driver : other ≡ 0 = (main_take_is script (take j log) other u home value may).driver in
        both_ways (is_none (running (take j log) 0)) (ap is_none r.running_is)
        (ap (λ s. is_none (running (take j log) s)) (sym driver) ∙ main_take_free script (take j log) other u home value may)

-- the tasks of a sequence run one at a time, and so do the main tasks
pub sequences_run_singly : (script : Plan) (log : List Entry) → IsLegal script log → SequencesRunSingly script log
sequences_run_singly script log legal = record {
  ended_before = before;
  none_between = λ i j k seat other ender t u runner home found value left less later at_i at_j at_k same.
      let b : EndsBetween log i j seat t = before i j seat other t u runner home found value less at_i at_j same in
      omega (arith, b.before, later, (law.one_end b.at k seat ender t b.left left b.is at_k).0);
  none_after = λ i j seat other t u runner home found value less at_i at_j no_end same.
      let b : EndsBetween log i j seat t = before i j seat other t u runner home found value less at_i at_j same in
      no_end b.at seat b.left b.is;
  main_ended_before = main_before;
  main_none_between = λ i j k seat other ender t u queue home found value left less later at_i at_j at_k.
      let b : MainEndsBetween log i j seat t = main_before i j seat other t u queue home found value less at_i at_j in
      omega (arith, b.before, later, (law.one_main_end b.at k seat ender t b.left left b.is at_k).0);
  main_none_after = λ i j seat other t u queue home found value less at_i at_j no_end.
      let b : MainEndsBetween log i j seat t = main_before i j seat other t u queue home found value less at_i at_j in
      no_end b.at seat b.left b.is;
}
  where
    law : TasksStartAtMostOnce log
    law = tasks_start_at_most_once script log legal

    before : (i j seat other t u runner home found value : ℕ) → i < j → IsAt log i seat (kinds.Take t runner found)
        → IsAt log j other (kinds.Take u home value) → sequence_of script runner t ≡ sequence_of script home u → EndsBetween log i j seat t
    before i j seat other t u runner home found value less at_i at_j same =
        let b : EndedBetween log i j seat false t = ended_before script log i j seat other t u runner home found value legal less at_i at_j same in
        record { at = b.at; left = b.left; after = b.after; before = b.before; is = b.is }

    main_before : (i j seat other t u queue home found value : ℕ) → i < j → IsAt log i seat (kinds.MainTake t queue found)
        → IsAt log j other (kinds.MainTake u home value) → MainEndsBetween log i j seat t
    main_before i j seat other t u queue home found value less at_i at_j =
        let b : EndedBetween log i j seat true t = main_ended_before script log i j seat other t u queue home found value legal less at_i at_j in
        record { at = b.at; left = b.left; after = b.after; before = b.before; is = b.is }
