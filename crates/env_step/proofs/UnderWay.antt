-- A task that a seat has in hand: whose it is, its next act step, and what is in hand behind its take and its acts.
-- Cited by `advance`, `pump`, `step_of_worker`, `Tasks`, `env_explain`, `next_entry`.
use Rattle.task_body.proofs.Progress.{computes_first}
use Rattle.std.proofs.Common.{◌≡◌, ◌≢◌, ℕ, ◌+◌, ◌≤◌, Bool, true, false, List, [], ◌∷◌, ◌++◌, length, refl, sym, ap, subst, ◌∙◌, Option, Some}
use Rattle.std.proofs.Common.{append-nil, append_assoc, arith}
use Rattle.std.proofs.lemmas.Bool.{false_from_ne_true}
use Rattle.std.proofs.lemmas.List.{length-append}
use Rattle.std.proofs.lemmas.Option.{none-some, same_Some, slice_get_past}
use Rattle.std.specs.Prelude.{filter, slice_get}
use Rattle.list_laws.proofs.Places.{slice_get_seam}
use Rattle.task_base.specs.Plan.{Plan}
use Rattle.task_base.specs.Steps.{is_act}
use Rattle.task_base.specs.declared.entry.Entry.{Entry}
use Rattle.task_base.specs.declared.entry.Kind.{Kind}
use Rattle.task_base.specs.declared.entry.Kind.TheVariants as kinds
use Rattle.task_base.specs.declared.step.Step.{Step}
use Rattle.task_base.specs.declared.step.Step.TheVariants as steps
use Rattle.task_model.specs.Seats.{Running, acts_after, acts_done, next_act, running, running_after, steps_of}
use Rattle.hist_model.specs.Allowed.{enters}
use Rattle.hist_model.specs.Legal.{IsLegal}
use Rattle.hist_model.specs.Views.{own_entries, IsSeatsAssignment}
use Rattle.hist_model.proofs.Laws.Own.{running_own}
use Rattle.task_body.specs.Bodies.{AssignmentView}
use Rattle.task_body.specs.Progress.{Progress}
use Rattle.task_body.specs.declared.act.Act.{Act}
use Rattle.task_body.specs.declared.act.Act.TheVariants as acts
use Rattle.env_core.specs.Calls.{EntersAct, HasTaken, HasTakenMain, entry_of}
use Rattle.env_core.specs.Views.{EnvView, Enters}
use Rattle.env_core.proofs.Plans.{runs_as}
use Rattle.env_step.specs.Hands.{IsAtTask, told_by}
use Rattle.env_step.proofs.InHand.{acts_now, runs_now, script_is}

-- The act step that is told.

-- behind the front stands the one in the middle
middle : (front : List Step) (x : Step) (back : List Step) → slice_get (front ++ x ∷ [] ++ back) (length front) ≡ Some x
middle front x back = ap (λ xs. slice_get xs (length front)) (append_assoc front (x ∷ []) back) ∙ slice_get_seam front x back

-- behind the act steps that were entered stands the one told, if one is
told_at : (done rest : List Step) (next : Act) → ((k : ℕ) → next ≢ acts.Did k) → (next ≡ acts.Finished → rest ≡ [])
    → slice_get (done ++ told_by next ++ filter is_act rest) (length done) ≡ slice_get (told_by next) 0
told_at done rest (acts.Did k) stops ends = absurd (stops k refl)
told_at done rest acts.Finished stops ends =
    ap (λ xs. slice_get (done ++ [] ++ filter is_act xs) (length done)) (ends refl)
    ∙ ap (λ xs. slice_get xs (length done)) (append-nil (done ++ []) ∙ append-nil done) ∙ slice_get_past done (length done) (omega arith)
told_at done rest (acts.Post task runner delay) stops ends = middle done (steps.Post task runner delay) (filter is_act rest)
told_at done rest (acts.Main task queue delay) stops ends = middle done (steps.Main task queue delay) (filter is_act rest)
told_at done rest (acts.Enter scope) stops ends = middle done (steps.Block scope) (filter is_act rest)
told_at done rest acts.Leave stops ends = middle done steps.Unblock (filter is_act rest)

-- one act step is told where an act is
one_told : (act : Act) → ((k : ℕ) → act ≢ acts.Did k) → act ≢ acts.Finished → (step : Step) × (told_by act ≡ step ∷ [])
one_told (acts.Did k) stops more = absurd (stops k refl)
one_told acts.Finished stops more = absurd (more refl)
one_told (acts.Post task runner delay) stops more = (steps.Post task runner delay, refl)
one_told (acts.Main task queue delay) stops more = (steps.Main task queue delay, refl)
one_told (acts.Enter scope) stops more = (steps.Block scope, refl)
one_told acts.Leave stops more = (steps.Unblock, refl)

module _ {view : EnvView} {seat : ℕ} {work : AssignmentView} {next : Act} (at : IsAtTask view seat work next) where
  -- the seat runs it
  pub runs_it : running view.history seat ≡ Some at.seats.now
  runs_it = sym (running_own view.history seat) ∙ at.seats.runs

  -- its next act step is the one told
  pub next_told : next_act view.script (own_entries seat view.history) seat ≡ slice_get (told_by next) 0
  next_told = rw (at.seats.runs, ← at.seats.whole_is, at.due.parted, ← at.due.count)
      (told_at at.due.done work.rest next at.due.stops at.due.ends)

  -- all act steps were entered where no step is left
  pub all_entered : next ≡ acts.Finished → acts_done (own_entries seat view.history) seat ≡ length (filter is_act work.whole)
  all_entered ended = let done = at.due.done in
      sym (ap length (at.due.parted ∙ ap (λ n. done ++ told_by n ++ filter is_act work.rest) ended
      ∙ ap (λ xs. done ++ [] ++ filter is_act xs) (at.due.ends ended) ∙ append-nil (done ++ []) ∙ append-nil done) ∙ at.due.count)

-- Whose task it is.

-- a worker runs a task of the pool
pub worker_runs_pool : (script : Plan) (past : List Entry) (seat : ℕ) (w : Running) → IsLegal script past → 1 ≤ seat → running past seat ≡ Some w
    → w.is_main ≡ false
worker_runs_pool script past seat w legal worker runs = false_from_ne_true w.is_main
    (λ main. let driver : seat ≡ 0 = (runs_as script past seat w true legal runs main).can.driver refl in absurd (omega (arith, driver, worker)))

-- the driver runs a main task
pub driver_runs_main : (script : Plan) (past : List Entry) (seat : ℕ) (w : Running) → IsLegal script past → seat ≡ 0 → running past seat ≡ Some w
    → w.is_main ≡ true
driver_runs_main script past seat w legal driver runs = by_main w.is_main refl
  where
    by_main : (main : Bool) → w.is_main ≡ main → main ≡ true
    by_main true is = refl
    by_main false is = let worker : 1 ≤ seat = (runs_as script past seat w false legal runs is).can.worker refl in absurd (omega (arith, driver, worker))

-- The steps before it.

-- behind compute steps the same act steps are left
pub acts_stay : (old new : AssignmentView) (n : ℕ) → Progress old.rest old.value (acts.Did n) new.rest new.value
    → filter is_act old.rest ≡ filter is_act new.rest
acts_stay old new n did = computes_first n old.rest did.computed ∙ ap (filter is_act) (sym did.dropped)

-- What is in hand behind an entry.

-- steps were done up to the next act step, which is told
pub record GoesTo (before after : AssignmentView) (next : Act) : Type 0 where
  pub same : after ≡ record before { value = after.value; rest = after.rest }
  pub reaches : filter is_act before.rest ≡ told_by next ++ filter is_act after.rest
  pub stops : (k : ℕ) → next ≢ acts.Did k
  pub ends : next ≡ acts.Finished → after.rest ≡ []

-- the seat has its task in hand where these act steps of it were entered
at_behind : (view : EnvView) (seat : ℕ) (old work : AssignmentView) (next : Act) (done : List Step)
    → IsSeatsAssignment view.script (own_entries seat view.history) seat old.task old.home old.found old.whole → GoesTo old work next
    → filter is_act old.whole ≡ done ++ filter is_act old.rest → length done ≡ acts_done (own_entries seat view.history) seat → IsAtTask view seat work next
at_behind view seat old work next done seats goes parted count = rw goes.same (record {
  seats = seats;
  due = record {
    done = done;
    parted = parted ∙ ap (λ xs. done ++ xs) goes.reaches ∙ sym (append_assoc done (told_by next) (filter is_act work.rest));
    count = count;
    stops = goes.stops;
    ends = goes.ends;
  };
})

-- a seat that has taken a task by its entry is at it
at_taken : {before after : EnvView} {seat : ℕ} (old work : AssignmentView) (next : Act) (kind : Kind)
    → ((n : ℕ) → acts_after n kind ≡ 0) → Enters before after seat kind
    → IsSeatsAssignment after.script (own_entries seat after.history) seat old.task old.home old.found old.whole → old.rest ≡ old.whole
    → GoesTo old work next → IsAtTask after seat work next
at_taken {before} {after} {seat} old work next kind begins enters seats rest goes = at_behind after seat old work next [] seats goes
    (ap (filter is_act) (sym rest)) (sym (acts_now enters ∙ begins (acts_done (own_entries seat before.history) seat)))

-- a worker that has taken a task of the pool is at it
pub at_task_taken : {before after : EnvView} {seat : ℕ} (old work : AssignmentView) (next : Act) → HasTaken before after seat old → GoesTo old work next
    → IsAtTask after seat work next
at_task_taken old work next taken goes = at_taken old work next (kinds.Take old.task old.home old.found) (λ n. refl) taken.enters taken.seats
    taken.rest_is goes

-- the driver that has taken a main task is at it
pub at_main_taken : {before after : EnvView} {seat : ℕ} (old work : AssignmentView) (next : Act) → HasTakenMain before after seat old
    → GoesTo old work next → IsAtTask after seat work next
at_main_taken old work next taken goes = at_taken old work next (kinds.MainTake old.task old.home old.found) (λ n. refl) taken.enters taken.seats
    taken.rest_is goes

-- the entry of an act leaves what the seat runs, and counts one act step more
record CountsOne (kind : Kind) : Type 0 where
  runs : (now : Option Running) → running_after now kind ≡ now
  counts : (n : ℕ) → acts_after n kind ≡ n + 1

-- so it is with the entry of each act
counts_one : (t : ℕ) (act : Act) (ok : Bool) (kind : Kind) → entry_of t act ok ≡ Some kind → CountsOne kind
counts_one t (acts.Post task runner delay) ok kind is = subst CountsOne (same_Some _ kind is) (record { runs = λ now. refl; counts = λ n. refl })
counts_one t (acts.Main task queue delay) ok kind is = subst CountsOne (same_Some _ kind is) (record { runs = λ now. refl; counts = λ n. refl })
counts_one t (acts.Enter scope) ok kind is = subst CountsOne (same_Some _ kind is) (record { runs = λ now. refl; counts = λ n. refl })
counts_one t acts.Leave ok kind is = subst CountsOne (same_Some _ kind is) (record { runs = λ now. refl; counts = λ n. refl })
counts_one t act ok kind is = absurd (none-some kind is)

-- behind its act the seat is at its task, and goes on to the next act step
pub at_acted : {before after : EnvView} {seat : ℕ} {old : AssignmentView} {was : Act} {ok : Bool} (work : AssignmentView) (next : Act)
    → IsAtTask before seat old was → EntersAct before after seat was ok → was ≢ acts.Finished → GoesTo old work next → IsAtTask after seat work next
at_acted {before} {after} {seat} {old} {was} {ok} work next at entered more goes =
    let (step, told) = one_told was at.due.stops more in
    let one = counts_one entered.now.task was ok entered.kind entered.kind_is in
    let n = acts_done (own_entries seat before.history) seat in
    at_behind after seat old work next (at.due.done ++ step ∷ []) (record {
      now = at.seats.now;
      runs = runs_now entered.enters ∙ one.runs (running (own_entries seat before.history) seat) ∙ at.seats.runs;
      task_is = at.seats.task_is;
      home_is = at.seats.home_is;
      found_is = at.seats.found_is;
      whole_is = at.seats.whole_is ∙ ap (λ s. steps_of s at.seats.now.task) (sym (script_is entered.enters));
    }) goes (at.due.parted ∙ ap (λ xs. at.due.done ++ xs ++ filter is_act old.rest) told)
    (length-append at.due.done (step ∷ []) ∙ ap (λ m. m + 1) at.due.count ∙ sym (acts_now entered.enters ∙ one.counts n))
