-- Which posts of a legal log are refused, over its places.
-- Cited by `Laws/Fences`, `Laws/Shutdown/Places`, `refusals.rt`.
use Rattle.std.proofs.Common.{◌≡◌, ℕ, Bool, true, false, eqb, List, [], ◌∷◌, ◌++◌, take, drop, suc, subst, ◌≤◌, refl, sym, ap, ◌∙◌, Some}
use Rattle.std.specs.Prelude.{◌↔◌, not, ◌&&◌, ◌||◌}
use Rattle.std.specs.List.{list_any}
use Rattle.std.proofs.Math.Bool.{or-false, or-true}
use Rattle.std.proofs.lemmas.Bool.{and_parts, eqb-true, eq-eqb}
use Rattle.std.proofs.lemmas.List.Folds.{list_any-append}
use Rattle.task_base.specs.Plan.{Plan}
use Rattle.task_base.specs.declared.entry.Entry.{Entry}
use Rattle.task_base.specs.declared.entry.Kind.{Kind}
use Rattle.task_base.specs.declared.entry.Kind.TheVariants as kinds
use Rattle.task_traits.specs.Behaviour.{forbids}
use Rattle.task_traits.specs.declared.phase.Phase.{Phase}
use Rattle.task_traits.specs.declared.phase.Phase.TheVariants as phases
use Rattle.task_traits.specs.declared.traits.Behaviour.{Behaviour}
use Rattle.task_traits.specs.declared.traits.Behaviour.TheVariants.{ContinueOnShutdown, SkipOnShutdown, BlockShutdown}
use Rattle.list_laws.proofs.Elements.{push_induction}
use Rattle.task_base.specs.Entries.{starts_shutdown}
use Rattle.task_model.specs.Phase.{phase_of, phase_after, started_from, is_started}
use Rattle.task_model.specs.Refusal.{effective_at, is_refused, behaviour_of_job, is_job_forbidden, closes, is_closed}
use Rattle.task_model.specs.Blockers.{blockers_of}
use Rattle.task_model.proofs.Growth.{phase_of_push}
use Rattle.hist_model.specs.Allowed.{by_script, may_come}
use Rattle.hist_model.specs.Legal.{IsLegal}
use Rattle.hist_model.specs.Laws.Places.{IsAt, StandsBefore}
use Rattle.hist_model.specs.Laws.Shutdown.{KeepsShutdown}
use Rattle.hist_model.specs.Laws.Refusals.{refused_from, RefusalsAreExact}
use Rattle.hist_model.proofs.Laws.Legal.{entry_induction}
use Rattle.hist_model.proofs.Laws.Shutdown.Histories.{waits_and_forbids}
use Rattle.hist_model.proofs.Laws.AtPlaces.{passes_at, passed_by, in_past, of_past, past_is_legal, parted_at}

-- an entry of the past passes a test that one kind alone passes exactly where that kind stands before
pub stands_before : (test : Kind → Bool) (wanted : Kind) → ((kind : Kind) → test kind ≡ true → kind ≡ wanted) → test wanted ≡ true → (log : List Entry) (k : ℕ)
    → (list_any (λ e. test e.kind) (take k log) ≡ true) ↔ StandsBefore log k wanted
stands_before test wanted only hits log k = (there, back)
  where
    there : list_any (λ e. test e.kind) (take k log) ≡ true → StandsBefore log k wanted
    there h =
        let p = passes_at (λ (e : Entry). test e.kind) (take k log) h in
        let o = of_past log p.place k p.value p.is in
        record {
          at = p.place;
          seat = p.value.seat;
          earlier = o.0;
          is = o.1 ∙ ap (λ (kind : Kind). Some (record { seat = p.value.seat; kind = kind })) (only p.value.kind p.passes);
        }

    back : StandsBefore log k wanted → list_any (λ e. test e.kind) (take k log) ≡ true
    back s = passed_by (λ (e : Entry). test e.kind) (take k log) s.at (record { seat = s.seat; kind = wanted }) (in_past log s.at k s.earlier ∙ s.is) hits

-- the entry says that shutdown is done
abbrev finishes : Kind → Bool
finishes kinds.Done = true
finishes kind = false

only_shutdown : (kind : Kind) → starts_shutdown kind ≡ true → kind ≡ kinds.Shutdown
only_shutdown kinds.Shutdown h = refl
only_shutdown kind h = absurd cc

only_done : (kind : Kind) → finishes kind ≡ true → kind ≡ kinds.Done
only_done kinds.Done h = refl
only_done kind h = absurd cc

only_close : (q : ℕ) (kind : Kind) → closes q kind ≡ true → kind ≡ kinds.Close q
only_close q (kinds.Close queue) h = ap kinds.Close (eqb-true queue q h)
only_close q kind h = absurd cc

-- at first the phase is running
begins : phase_of [] ≡ phases.Running
unfolding phase_of
begins = refl

-- a done comes only once shutdown was started
done_behind : (script : Plan) (past : List Entry) (seat : ℕ) → may_come script past seat kinds.Done ≡ true → is_started (phase_of past) ≡ true
unfolding may_come
done_behind script past seat h = (and_parts (by_script script past seat kinds.Done) (is_started (phase_of past))
    (and_parts (by_script script past seat kinds.Done && is_started (phase_of past)) (eqb (blockers_of script past) 0) h).0).1

-- block work is forbidden exactly where a done stands in the past
done_stands : (past : List Entry) → forbids (phase_of past) BlockShutdown ≡ list_any (λ e. finishes e.kind) past
done_stands = push_induction (λ past. forbids (phase_of past) BlockShutdown ≡ list_any (λ e. finishes e.kind) past) start step
  where
    start : forbids (phase_of []) BlockShutdown ≡ false
    start = ap (λ now. forbids now BlockShutdown) begins

    begun : (now : Phase) → forbids (started_from now) BlockShutdown ≡ forbids now BlockShutdown
    begun phases.Running = refl
    begun phases.Started = refl
    begun phases.Done = refl

    by_phase : (now : Phase) (before : Bool) (kind : Kind) → forbids now BlockShutdown ≡ before
        → forbids (phase_after now kind) BlockShutdown ≡ (before || (finishes kind || false))
    by_phase now before kinds.Done h = sym (or-true before)
    by_phase now before kinds.Shutdown h = begun now ∙ h ∙ sym (or-false before)
    by_phase now before kind h = h ∙ sym (or-false before)

    step : (past : List Entry) (e : Entry) → forbids (phase_of past) BlockShutdown ≡ list_any (λ e. finishes e.kind) past
        → forbids (phase_of (past ++ e ∷ [])) BlockShutdown ≡ list_any (λ e. finishes e.kind) (past ++ e ∷ [])
    step past e h = rw (phase_of_push past e, list_any-append (λ (x : Entry). finishes x.kind) past (e ∷ []))
        (by_phase (phase_of past) (list_any (λ e. finishes e.kind) past) e.kind h)

-- skip work is forbidden exactly where a start of shutdown stands in the past: a done stands only behind one
shutdown_stands : (script : Plan) (past : List Entry) → IsLegal script past → forbids (phase_of past) SkipOnShutdown ≡ list_any (λ e. starts_shutdown e.kind) past
shutdown_stands script = entry_induction script (λ past. forbids (phase_of past) SkipOnShutdown ≡ list_any (λ e. starts_shutdown e.kind) past) start step
  where
    start : forbids (phase_of []) SkipOnShutdown ≡ false
    start = ap (λ now. forbids now SkipOnShutdown) begins

    begun : (now : Phase) → forbids (started_from now) SkipOnShutdown ≡ true
    begun phases.Running = refl
    begun phases.Started = refl
    begun phases.Done = refl

    of_started : (now : Phase) → is_started now ≡ true → forbids now SkipOnShutdown ≡ true
    of_started phases.Started h = refl
    of_started phases.Running h = absurd cc
    of_started phases.Done h = refl

    by_past : (past : List Entry) (seat : ℕ) (before : Bool) (kind : Kind) → may_come script past seat kind ≡ true
        → forbids (phase_of past) SkipOnShutdown ≡ before
        → forbids (phase_after (phase_of past) kind) SkipOnShutdown ≡ (before || (starts_shutdown kind || false))
    by_past past seat before kinds.Shutdown may h = begun (phase_of past) ∙ sym (or-true before)
    by_past past seat before kinds.Done may h = sym (of_started (phase_of past) (done_behind script past seat may)) ∙ h ∙ sym (or-false before)
    by_past past seat before kind may h = h ∙ sym (or-false before)

    step : (past : List Entry) (e : Entry) → e.seat ≤ script.workers → may_come script past e.seat e.kind ≡ true
        → forbids (phase_of past) SkipOnShutdown ≡ list_any (λ e. starts_shutdown e.kind) past
        → forbids (phase_of (past ++ e ∷ [])) SkipOnShutdown ≡ list_any (λ e. starts_shutdown e.kind) (past ++ e ∷ [])
    step past e known may h = rw (phase_of_push past e, list_any-append (λ (x : Entry). starts_shutdown x.kind) past (e ∷ []))
        (by_past past e.seat (list_any (λ e. starts_shutdown e.kind) past) e.kind may h)

-- continue work is forbidden where skip work is
continue_as_skip : (now : Phase) → forbids now ContinueOnShutdown ≡ forbids now SkipOnShutdown
continue_as_skip phases.Running = refl
continue_as_skip phases.Started = refl
continue_as_skip phases.Done = refl

-- what shutdown asks of the entry at a place of a legal log
pub keeps_at : (script : Plan) (log : List Entry) (k seat : ℕ) (kind : Kind) → IsLegal script log → IsAt log k seat kind
    → KeepsShutdown script (take k log) kind
keeps_at script log k seat kind legal is = waits_and_forbids script (take k log) (record { seat = seat; kind = kind }) (drop (suc k) log)
    (subst (IsLegal script) (sym (parted_at log k _ is)) legal)

-- one value in place of another on the left of an equivalence
from_same : {a b : Bool} {P : Type 0} → a ≡ b → (b ≡ true) ↔ P → (a ≡ true) ↔ P
from_same is both = (λ h. both.0 (sym is ∙ h), λ p. is ∙ both.1 p)

-- the phase at a place of a legal log forbids a behaviour exactly where the entry stands before from which on it is refused
pub forbidden_from : (script : Plan) (log : List Entry) (k : ℕ) (b : Behaviour) → IsLegal script (take k log)
    → (forbids (phase_of (take k log)) b ≡ true) ↔ StandsBefore log k (refused_from b)
forbidden_from script log k SkipOnShutdown legal = from_same (shutdown_stands script (take k log) legal)
    (stands_before starts_shutdown kinds.Shutdown only_shutdown refl log k)
forbidden_from script log k ContinueOnShutdown legal = from_same (continue_as_skip (phase_of (take k log)) ∙ shutdown_stands script (take k log) legal)
    (stands_before starts_shutdown kinds.Shutdown only_shutdown refl log k)
forbidden_from script log k BlockShutdown legal = from_same (done_stands (take k log)) (stands_before finishes kinds.Done only_done refl log k)

-- a queue is closed at a place exactly where its close stands before
pub closed_from : (log : List Entry) (k q : ℕ) → (is_closed (take k log) q ≡ true) ↔ StandsBefore log k (kinds.Close q)
unfolding is_closed
closed_from log k q = stands_before (closes q) (kinds.Close q) (only_close q) (eq-eqb q q refl) log k

-- a reply that is the opposite of a refusal refuses exactly where that is
refuses : {P : Type 0} (refused ok : Bool) → ok ≡ not refused → (refused ≡ true) ↔ P → (ok ≡ false) ↔ P
refuses true ok is both = (λ h. both.0 refl, λ p. is)
refuses false ok is both = (λ h. absurd cc, λ p. absurd (let h : false ≡ true = both.1 p in cc))

pub refusals_are_exact : (script : Plan) (log : List Entry) → IsLegal script log → RefusalsAreExact script log
refusals_are_exact script log legal = record {
  task_posts = λ k seat task runner delay ok is. refuses (is_refused script (take k log) runner delay) ok
      (keeps_at script log k seat (kinds.Post task runner delay ok) legal is)
      (forbidden_from script log k (effective_at script runner delay) (past_is_legal script log k _ legal is));
  job_posts = λ k seat job ok is. refuses (is_job_forbidden script (take k log) job) ok
      (keeps_at script log k seat (kinds.JobPost job ok) legal is)
      (forbidden_from script log k (behaviour_of_job script job) (past_is_legal script log k _ legal is));
  main_posts = λ k seat task queue delay ok is. refuses (is_closed (take k log) queue) ok
      (keeps_at script log k seat (kinds.Main task queue delay ok) legal is) (closed_from log k queue);
}
