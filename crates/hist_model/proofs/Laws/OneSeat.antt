-- What was taken and has not ended is run by one seat.
-- Cited by `Laws/Progress/Blockers`, `Laws/Singly`, `Laws/Whole/Rest`, `seats.rt`.
use Rattle.std.proofs.Common.{◌≡◌, ℕ, Bool, true, false, eqb, List, [], ◌∷◌, ◌++◌, refl, sym, ap, subst, ◌∙◌, Option, Some, ◌⊎◌, inl, inr}
use Rattle.std.specs.Prelude.{is_none}
use Rattle.std.proofs.lemmas.Bool.{eqb-true, and_parts, or_cases, or_parts, both_ways, true≢false, eq-eqb}
use Rattle.std.proofs.lemmas.Option.{same_Some}
use Rattle.task_base.specs.Plan.{Plan}
use Rattle.task_base.specs.declared.entry.Entry.{Entry}
use Rattle.task_base.specs.declared.entry.Kind.{Kind}
use Rattle.task_base.specs.declared.entry.Kind.TheVariants as kinds
use Rattle.task_model.specs.Posts.{is_taken, is_ended, is_main_taken}
use Rattle.pool_laws.specs.Posts.{is_main_ended}
use Rattle.task_model.specs.Seats.{Running, running, running_after, holding}
use Rattle.pool_laws.proofs.Seats.Running.{running_here, running_other}
use Rattle.hist_model.specs.Allowed.{may_come}
use Rattle.hist_model.specs.Legal.{IsLegal}
use Rattle.hist_model.specs.Laws.Consistent.{RunsAtOneSeat, RunsAtDriver}
use Rattle.hist_model.proofs.Laws.Legal.{entry_induction}
use Rattle.hist_model.proofs.Laws.Takes.{take_is, end_is, main_end_is}
use Rattle.pool_laws.specs.Runs.{taken_as, ended_as, takes_as, ends_as}
use Rattle.pool_laws.proofs.Seats.Runs.{taken_as_push, ended_as_push}
use Rattle.hist_model.proofs.Laws.Consistent.{legal_is_consistent}
use Rattle.hist_model.proofs.Laws.OneThing.{main_take_free}

-- some seat runs it
record SomeSeatRuns (past : List Entry) (main : Bool) (t : ℕ) : Type 0 where
  seat : ℕ
  now : Running
  running_is : running past seat ≡ Some now
  as_main : now.is_main ≡ main
  task_is : now.task ≡ t

-- each task that was taken and has not ended is run by some seat, of the pool and of a main queue
abbrev AllRun : List Entry → Type 0
AllRun past = (main : Bool) (t : ℕ) → taken_as main past t ≡ true → ended_as main past t ≡ false → SomeSeatRuns past main t

-- what the entry's seat runs goes on behind an entry that does not end it
goes_on : (script : Plan) (past : List Entry) (seat : ℕ) (kind : Kind) (w : Running) → may_come script past seat kind ≡ true → running past seat ≡ Some w
    → ends_as w.is_main w.task kind ≡ false → running_after (Some w) kind ≡ Some w
goes_on script past seat (kinds.Take task runner value) w may runs no_end = absurd (both_ways (is_none (running past seat)) (ap is_none runs)
    (and_parts (is_none (running past seat)) (is_none (holding past seat)) (take_is script past seat task runner value may).free).0)
goes_on script past seat (kinds.MainTake task queue value) w may runs no_end = absurd (both_ways (is_none (running past seat)) (ap is_none runs)
    (main_take_free script past seat task queue value may))
goes_on script past seat (kinds.End task left) w may runs no_end =
    let (v, is, pool, task_is) = end_is script past seat task left may in
    let same : v ≡ w = same_Some v w (sym is ∙ runs) in
    absurd (both_ways (ends_as w.is_main w.task (kinds.End task left)) no_end (subst (λ x. ends_as x.is_main x.task (kinds.End task left) ≡ true) same
    (rw (pool, task_is) (eq-eqb task task refl))))
goes_on script past seat (kinds.MainEnd task left) w may runs no_end =
    let (v, is, main, task_is) = main_end_is script past seat task left may in
    let same : v ≡ w = same_Some v w (sym is ∙ runs) in
    absurd (both_ways (ends_as w.is_main w.task (kinds.MainEnd task left)) no_end (subst (λ x. ends_as x.is_main x.task (kinds.MainEnd task left) ≡ true) same
    (rw (main, task_is) (eq-eqb task task refl))))
goes_on script past seat kind w may runs no_end = refl

-- an entry that takes a task leaves it running
takes_it : (main : Bool) (t : ℕ) (kind : Kind) (now : Option Running) → takes_as main t kind ≡ true
    → (w : Running) × (running_after now kind ≡ Some w) × (w.is_main ≡ main) × (w.task ≡ t)
takes_it false t (kinds.Take task runner value) now h = (record { task = task; home = runner; found = value; is_main = false }, refl, refl, eqb-true task t h)
takes_it true t (kinds.MainTake task queue value) now h = (record { task = task; home = queue; found = value; is_main = true }, refl, refl, eqb-true task t h)
takes_it false t kind now h = absurd (true≢false (sym h))
takes_it true t kind now h = absurd (true≢false (sym h))

-- what ran before goes on
ran_on : (script : Plan) (past : List Entry) (e : Entry) (main : Bool) (t : ℕ) → may_come script past e.seat e.kind ≡ true → ends_as main t e.kind ≡ false
    → SomeSeatRuns past main t → SomeSeatRuns (past ++ e ∷ []) main t
ran_on script past e main t may no_end r = record {
  seat = r.seat;
  now = r.now;
  running_is = at (eqb e.seat r.seat) refl;
  as_main = r.as_main;
  task_is = r.task_is;
}
  where
    goes : ends_as r.now.is_main r.now.task e.kind ≡ false
    goes = ap (λ m. ends_as m r.now.task e.kind) r.as_main ∙ ap (λ u. ends_as main u e.kind) r.task_is ∙ no_end

    at : (b : Bool) → eqb e.seat r.seat ≡ b → running (past ++ e ∷ []) r.seat ≡ Some r.now
    at true own =
        let before : running past e.seat ≡ Some r.now = ap (running past) (eqb-true e.seat r.seat own) ∙ r.running_is in
        running_here past e r.seat own ∙ ap (λ o. running_after o e.kind) before ∙ goes_on script past e.seat e.kind r.now may before goes
    at false other = running_other past e r.seat other ∙ r.running_is

all_run_next : (script : Plan) (past : List Entry) (e : Entry) → may_come script past e.seat e.kind ≡ true → AllRun past → AllRun (past ++ e ∷ [])
all_run_next script past e may all main t taken not_ended =
    by_side (or_cases (taken_as main past t) (takes_as main t e.kind) (sym (taken_as_push main past e t) ∙ taken))
  where
    open_still : (ended_as main past t ≡ false) × (ends_as main t e.kind ≡ false)
    open_still = or_parts (ended_as main past t) (ends_as main t e.kind) (sym (ended_as_push main past e t) ∙ not_ended)

    by_side : (taken_as main past t ≡ true) ⊎ (takes_as main t e.kind ≡ true) → SomeSeatRuns (past ++ e ∷ []) main t
    by_side (inl before) = ran_on script past e main t may open_still.1 (all main t before open_still.0)
    by_side (inr now) = let (w, is, as_main, task_is) = takes_it main t e.kind (running past e.seat) now in record {
      seat = e.seat;
      now = w;
      running_is = running_here past e e.seat (eq-eqb e.seat e.seat refl) ∙ is;
      as_main = as_main;
      task_is = task_is;
    }

nothing_runs : AllRun []
unfolding is_taken is_main_taken
nothing_runs false t taken not_ended = absurd (true≢false (sym taken))
nothing_runs true t taken not_ended = absurd (true≢false (sym taken))

all_run : (script : Plan) (past : List Entry) → IsLegal script past → AllRun past
all_run script = entry_induction script AllRun nothing_runs (λ past e known may all. all_run_next script past e may all)

-- a pool task that was taken and has not ended is run by one seat, a worker
pub runs_at_one_seat : (script : Plan) (past : List Entry) (t : ℕ) → IsLegal script past → is_taken past t ≡ true → is_ended past t ≡ false
    → RunsAtOneSeat script past t
runs_at_one_seat script past t legal taken not_ended =
    let r = all_run script past legal false t taken not_ended in
    let c = legal_is_consistent script past legal false in
    let can = (c.runs r.seat r.now r.running_is r.as_main).can in
    record {
      seat = r.seat;
      now = r.now;
      running_is = r.running_is;
      is_pool = r.as_main;
      task_is = r.task_is;
      worker = can.worker refl;
      known = can.known;
      alone = λ other w runs pool is. c.alone other r.seat w r.now runs r.running_is pool r.as_main (inl (is ∙ sym r.task_is));
    }

-- a main task that was taken and has not ended is run by the driver alone
pub runs_at_driver : (script : Plan) (past : List Entry) (t : ℕ) → IsLegal script past → is_main_taken past t ≡ true → is_main_ended past t ≡ false
    → RunsAtDriver past t
runs_at_driver script past t legal taken not_ended =
    let r = all_run script past legal true t taken not_ended in
    let c = legal_is_consistent script past legal true in
    record {
      now = r.now;
      running_is = ap (running past) (sym ((c.runs r.seat r.now r.running_is r.as_main).can.driver refl)) ∙ r.running_is;
      is_main = r.as_main;
      task_is = r.task_is;
      alone = λ other w runs main is. (c.runs other w runs main).can.driver refl;
    }
