-- While nobody is at anything a worker may take its best source; and where a source waits, some worker has one.
-- Cited by `Laws/Progress/Blockers`, `Laws/Progress/Ways`.
use Rattle.std.proofs.Common.{◌≡◌, ℕ, ◌≤◌, true, false, eqb, List, refl, ap, ◌∙◌, Option, Some, None, arith}
use Rattle.std.specs.Prelude.{◌&&◌, slice_get, option_and_then}
use Rattle.std.specs.Option.{IfSome, option_map_or}
use Rattle.std.proofs.lemmas.Bool.{and_from, le-leb, eq-eqb, or_left, both_ways}
use Rattle.std.proofs.lemmas.List.Elements.{All-contains}
use Rattle.task_base.specs.Plan.{Plan}
use Rattle.task_base.specs.Runners.{seat_of_kind, seat_of}
use Rattle.task_base.specs.declared.entry.Entry.{Entry}
use Rattle.task_base.specs.declared.entry.Kind.TheVariants as kinds
use Rattle.task_base.specs.declared.script.Runner.{Runner}
use Rattle.task_base.specs.declared.script.RunnerKind.{RunnerKind}
use Rattle.task_base.specs.declared.script.RunnerKind.TheVariants.{Parallel, Sequenced, Single}
use Rattle.task_base.specs.declared.source.TaskSource.{TaskSource}
use Rattle.task_base.specs.declared.source.TaskSource.TheVariants.{Sequence, Job}
use Rattle.list_laws.specs.Lists.{holds_of}
use Rattle.list_laws.proofs.Elements.{slice_get_all}
use Rattle.script_model.specs.Laws.Sound.{IsSeatThere, IsSound}
use Rattle.task_model.specs.Cells.{cell_of}
use Rattle.task_model.specs.Jobs.{claimed}
use Rattle.task_model.specs.Sources.{Candidate, waiting, is_takeable, best_of}
use Rattle.pool_laws.specs.Choice.{IsWaiting}
use Rattle.pool_laws.proofs.Jobs.Numbers.{free_id_is_first}
use Rattle.pool_laws.proofs.Choice.Least.{no_best, head_is as is_head}
use Rattle.hist_model.specs.Open.{IsClosed}
use Rattle.hist_model.specs.Script.{is_finished}
use Rattle.hist_model.specs.Allowed.{is_ready_worker, is_head_of, is_job, same_number, may_come}
use Rattle.hist_model.specs.Laws.Choice.{IsWaitingSource}
use Rattle.hist_model.specs.Laws.Progress.{takes_from, WorkerTakes}
use Rattle.hist_model.proofs.Laws.Choice.{best_is}
use Rattle.hist_model.proofs.Laws.Progress.Made.{may_make}
use Rattle.hist_model.proofs.Laws.Progress.Quiet.{Quiet, has_room_now}

-- a worker that is free may take its best source, where the plan is closed
pub takes_best : (script : Plan) (past : List Entry) (seat : ℕ) (best : Candidate) → IsClosed script → Quiet script past → is_finished script past ≡ false
    → 1 ≤ seat
    → seat ≤ script.workers → best_of script past seat ≡ Some best → WorkerTakes script past
unfolding may_come
takes_best script past seat best closed q going worker known is = by_source best.source refl (best_is script past seat best is).waits
  where
    ready : is_ready_worker script past seat ≡ true
    ready = rw (le-leb 1 seat worker, le-leb seat script.workers known, q.runs seat, q.holds seat, going, closed) refl

    by_source : (source : TaskSource) → best.source ≡ source → IsWaitingSource script past source → WorkerTakes script past
    by_source (Sequence s) same (head, head_is, not_running) = record {
      seat = seat;
      worker = worker;
      known = known;
      best = best;
      best_is = is;
      kind = kinds.Take head.posted.task head.posted.home (cell_of script past s);
      takes = ap (λ source. takes_from script source (kinds.Take head.posted.task head.posted.home (cell_of script past s))) same
          ∙ (is_head script past s head head_is).of_sequence;
      may = may_make script past seat (kinds.Take head.posted.task head.posted.home (cell_of script past s)) known (and_from _ _ ready
          (ap (holds_of (λ c. is_head_of script past head.posted.task head.posted.home (cell_of script past s) c.source)) is
          ∙ ap (is_head_of script past head.posted.task head.posted.home (cell_of script past s)) same
          ∙ rw (
            head_is,
            eq-eqb head.posted.task head.posted.task refl,
            eq-eqb head.posted.home head.posted.home refl,
            eq-eqb (cell_of script past s) (cell_of script past s) refl,
          ) refl));
    }
    by_source (Job j) same may = let id = free_id_is_first script past j in record {
      seat = seat;
      worker = worker;
      known = known;
      best = best;
      best_is = is;
      kind = kinds.JobTake j id.0 (claimed past j);
      takes = ap (λ source. takes_from script source (kinds.JobTake j id.0 (claimed past j))) same ∙ eq-eqb j j refl;
      may = may_make script past seat (kinds.JobTake j id.0 (claimed past j)) known (and_from _ _ (and_from _ _
          (or_left (is_ready_worker script past seat && holds_of (λ c. is_job j c.source) (best_of script past seat)) _ (and_from _ _ ready
          (ap (holds_of (λ c. is_job j c.source)) is ∙ ap (is_job j) same ∙ eq-eqb j j refl)))
          (ap (λ o. same_number o (Some id.0)) id.1 ∙ eq-eqb id.0 id.0 refl)) (eq-eqb (claimed past j) (claimed past j) refl));
    }

-- a seat that may take a source that waits has a best one
some_best : (script : Plan) (past : List Entry) (seat : ℕ) (c : Candidate) → IsWaiting script past c → is_takeable script past seat c ≡ true
    → (best : Candidate) × (best_of script past seat ≡ Some best)
some_best script past seat c waits takeable = by_best (best_of script past seat) refl
  where
    by_best : (o : Option Candidate) → best_of script past seat ≡ o → (best : Candidate) × (best_of script past seat ≡ Some best)
    by_best (Some best) is = (best, is)
    by_best None none = absurd (both_ways (is_takeable script past seat c) (All-contains (λ d. is_takeable script past seat d ≡ false) (waiting script past) c
        (no_best script past seat none) waits) takeable)

-- a worker that may take what a runner has
pub record SeatFor (script : Plan) (only : Option ℕ) : Type 0 where
  pub seat : ℕ
  pub worker : 1 ≤ seat
  pub known : seat ≤ script.workers
  pub fits : option_map_or (λ n. eqb n seat) only true ≡ true

-- each worker may take what is for no one seat
pub any_seat : (script : Plan) → IsSound script → SeatFor script None
any_seat script sound = record { seat = 1; worker = omega arith; known = sound.config.some_workers; fits = refl }

-- and what a single-thread runner has is for a worker of the script
pub seat_for : (script : Plan) (runner : ℕ) → IsSound script → SeatFor script (seat_of script runner)
seat_for script runner sound = by_runner (slice_get script.runners runner)
    (slice_get_all (λ r. IsSeatThere script r.kind) script.runners runner sound.declarations.seats_there)
  where
    of_kind : (kind : RunnerKind) → IsSeatThere script kind → SeatFor script (seat_of_kind kind)
    of_kind Parallel there = any_seat script sound
    of_kind Sequenced there = any_seat script sound
    of_kind (Single seat) there = record { seat = seat; worker = there.0; known = there.1; fits = eq-eqb seat seat refl }

    by_runner : (o : Option Runner) → IfSome o (λ r. IsSeatThere script r.kind) → SeatFor script (option_and_then (λ r. seat_of_kind r.kind) o)
    by_runner None there = any_seat script sound
    by_runner (Some r) there = of_kind r.kind there

-- where a source waits that some worker may take, a worker takes something
pub worker_takes : (script : Plan) (past : List Entry) (c : Candidate) → IsSound script → Quiet script past → is_finished script past ≡ false
    → IsWaiting script past c → SeatFor script c.seat → WorkerTakes script past
worker_takes script past c sound q going waits for_it =
    let (best, is) = some_best script past for_it.seat c waits (and_from _ _ (has_room_now script past c.priority sound q) for_it.fits) in
    takes_best script past for_it.seat best sound.closed q going for_it.worker for_it.known is
