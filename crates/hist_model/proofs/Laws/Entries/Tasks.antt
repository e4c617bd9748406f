-- The entries that the tasks have left: all of those of a task that no seat has taken, and those of what each seat runs.
-- Cited by `Laws/Entries/Bound`.
use Rattle.std.proofs.Common.{◌≡◌, ℕ, ◌+◌, ◌-◌, ◌≤◌, Bool, true, false, cond, eqb, List, [], ◌∷◌, ◌++◌, length, refl, sym, ap, ◌∙◌, Option, Some, None, arith}
use Rattle.std.specs.Prelude.{◌||◌, filter, slice_get, option_and_then, sum_by}
use Rattle.std.proofs.Math.Bool.{or-false}
use Rattle.std.proofs.lemmas.Bool.{cond_both, eqb-true, eq-eqb}
use Rattle.std.proofs.lemmas.List.Sums.{length-filter}
use Rattle.std.proofs.lemmas.Option.{slice_get_within}
use Rattle.task_base.specs.Plan.{Plan}
use Rattle.task_base.specs.Steps.{is_act}
use Rattle.task_base.specs.declared.step.Step.{Step}
use Rattle.task_base.specs.declared.entry.Entry.{Entry}
use Rattle.task_base.specs.declared.entry.Kind.{Kind}
use Rattle.task_base.specs.declared.entry.Kind.TheVariants as kinds
use Rattle.list_laws.specs.Lists.{holds_of}
use Rattle.script_model.specs.Bound.{events_of_task}
use Rattle.task_model.specs.Posts.{takes, main_takes}
use Rattle.task_model.specs.Seats.{Running, running, running_after, acts_done, acts_after, steps_of, all_seats}
use Rattle.task_model.proofs.Growth.{running_push, acts_done_push}
use Rattle.hist_model.specs.Allowed.{enters, by_task}
use Rattle.hist_model.proofs.Laws.Choice.{Found, found}
use Rattle.hist_model.proofs.Laws.Postings.Tasks.{takes_nothing, is_untaken, was_untaken, is_now_taken, entered}
use Rattle.hist_model.proofs.Laws.Entries.Sums.{sum_from, sum_from_less, sum_from_change, sum_from_within, sum_from_nothing, range_at}

-- how many entries a seat has left that runs this and has entered n act steps: those of the other act steps, and the end
seat_left : Plan → Option Running → ℕ → ℕ
seat_left script None n = 0
seat_left script (Some w) n = 1 + (length (filter is_act (steps_of script w.task)) - n)

more_acts : (script : Plan) (w : Option Running) (n : ℕ) → seat_left script w (n + 1) ≤ seat_left script w n
unfolding seat_left
more_acts script None n = omega arith
more_acts script (Some w) n = omega arith

-- an entry of the seat that takes no task leaves it no more
seat_goes_on : (script : Plan) (w : Option Running) (n : ℕ) (kind : Kind) → takes_nothing kind ≡ true
    → seat_left script (running_after w kind) (acts_after n kind) ≤ seat_left script w n
unfolding seat_left
seat_goes_on script w n (kinds.Take task runner found) h = absurd cc
seat_goes_on script w n (kinds.MainTake task queue found) h = absurd cc
seat_goes_on script w n (kinds.Post task runner delay ok) h = more_acts script w n
seat_goes_on script w n (kinds.Main task queue delay ok) h = more_acts script w n
seat_goes_on script w n (kinds.Enter task scope) h = more_acts script w n
seat_goes_on script w n (kinds.Leave task) h = more_acts script w n
seat_goes_on script w n (kinds.End task left) h = omega arith
seat_goes_on script w n (kinds.MainEnd task left) h = omega arith
seat_goes_on script w n kind h = omega arith

-- an entry by the task that the seat runs is one of its act steps
seat_acts : (script : Plan) (n : ℕ) (w : Option Running) (kind : Kind)
    → holds_of (λ v. holds_of (λ step. enters v.task step kind) (option_and_then (λ u. slice_get (filter is_act (steps_of script u.task)) n) w)) w ≡ true
    → seat_left script (running_after w kind) (acts_after n kind) + 1 ≤ seat_left script w n
unfolding seat_left
seat_acts script n None kind h = absurd cc
seat_acts script n (Some w) kind h = at (found (λ step. enters w.task step kind) (slice_get (filter is_act (steps_of script w.task)) n) h)
  where
    at : Found Step (λ step. enters w.task step kind) (slice_get (filter is_act (steps_of script w.task)) n)
        → seat_left script (running_after (Some w) kind) (acts_after n kind) + 1 ≤ seat_left script (Some w) n
    at step = rw ((entered w.task n (Some w) step.value kind step.passes).0, (entered w.task n (Some w) step.value kind step.passes).1)
        (omega (arith, slice_get_within (filter is_act (steps_of script w.task)) n step.value step.is))

-- the entry ends a task, of the pool or of a main queue
abbrev pub ends_some : Kind → Bool
ends_some (kinds.End task left) = true
ends_some (kinds.MainEnd task left) = true
ends_some kind = false

seat_ends : (script : Plan) (n : ℕ) (v : Running) (kind : Kind) → ends_some kind ≡ true
    → seat_left script (running_after (Some v) kind) (acts_after n kind) + 1 ≤ seat_left script (Some v) n
unfolding seat_left
seat_ends script n v (kinds.End task left) h = omega arith
seat_ends script n v (kinds.MainEnd task left) h = omega arith
seat_ends script n v kind h = absurd cc

-- how many entries what a seat runs has left
seat_at : Plan → List Entry → ℕ → ℕ
seat_at script past seat = seat_left script (running past seat) (acts_done past seat)

seat_at_other : (script : Plan) (past : List Entry) (e : Entry) (i : ℕ) → eqb e.seat i ≡ false → seat_at script (past ++ e ∷ []) i ≡ seat_at script past i
unfolding seat_at
seat_at_other script past e i other = rw (running_push past e i, acts_done_push past e i, other) refl

seat_at_own : (script : Plan) (past : List Entry) (e : Entry)
    → seat_at script (past ++ e ∷ []) e.seat ≡ seat_left script (running_after (running past e.seat) e.kind) (acts_after (acts_done past e.seat) e.kind)
unfolding seat_at
seat_at_own script past e = rw (running_push past e e.seat, acts_done_push past e e.seat, eq-eqb e.seat e.seat refl) refl

-- how many entries all that runs has left
pub seats_left : Plan → List Entry → ℕ
seats_left script past = sum_from (λ i seat. seat_at script past i) 0 (all_seats script)

seats_left_change : (script : Plan) (past : List Entry) (e : Entry) (c d : ℕ) → e.seat ≤ script.workers
    → seat_left script (running_after (running past e.seat) e.kind) (acts_after (acts_done past e.seat) e.kind) + d
    ≤ seat_left script (running past e.seat) (acts_done past e.seat) + c
    → seats_left script (past ++ e ∷ []) + d ≤ seats_left script past + c
unfolding seats_left seat_at
seats_left_change script past e c d le h = sum_from_change (λ i seat. seat_at script past i) (λ i seat. seat_at script (past ++ e ∷ []) i) 0 e.seat e.seat c d
    (0 + e.seat) (all_seats script) (omega arith) (range_at 0 (script.workers + 1) e.seat (omega arith)) (omega (arith, seat_at_own script past e, h))
    (λ i seat other. omega (arith, seat_at_other script past e i other))

pub seats_left_less : (script : Plan) (past : List Entry) (e : Entry) → e.seat ≤ script.workers → takes_nothing e.kind ≡ true
    → seats_left script (past ++ e ∷ []) ≤ seats_left script past
seats_left_less script past e le h = omega (
  arith,
  seats_left_change script past e 0 0 le (omega (
    arith,
    seat_goes_on script (running past e.seat)
        (acts_done past e.seat) e.kind h,
  )),
)

pub seats_left_act : (script : Plan) (past : List Entry) (e : Entry) → e.seat ≤ script.workers → by_task script past e.seat e.kind ≡ true
    → seats_left script (past ++ e ∷ []) + 1 ≤ seats_left script past
unfolding by_task
seats_left_act script past e le h = omega (
  arith,
  seats_left_change script past e 0 1 le (omega (
    arith,
    seat_acts script (acts_done past e.seat)
        (running past e.seat) e.kind h,
  )),
)

pub seats_left_end : (script : Plan) (past : List Entry) (e : Entry) (v : Running) → e.seat ≤ script.workers → running past e.seat ≡ Some v
    → ends_some e.kind ≡ true → seats_left script (past ++ e ∷ []) + 1 ≤ seats_left script past
seats_left_end script past e v le is h = omega (
  arith,
  seats_left_change script past e 0 1 le (rw is (omega (
    arith,
    seat_ends script (acts_done past e.seat)
        v e.kind h,
  ))),
)

-- an entry that takes a task gives the seat that task's other entries
pub seats_left_take : (script : Plan) (u : ℕ) (past : List Entry) (e : Entry) → e.seat ≤ script.workers → (takes u e.kind || main_takes u e.kind) ≡ true
    → seats_left script (past ++ e ∷ []) + 1 ≤ seats_left script past + events_of_task (steps_of script u)
unfolding seat_left
seats_left_take script u past e le h = seats_left_change script past e (events_of_task (steps_of script u)) 1 le
    (rw (begins (running past e.seat) (acts_done past e.seat) e.kind h) (omega (arith, length-filter is_act (steps_of script u))))
  where
    begins : (w : Option Running) (n : ℕ) (kind : Kind) → (takes u kind || main_takes u kind) ≡ true
        → seat_left script (running_after w kind) (acts_after n kind) ≡ 1 + (length (filter is_act (steps_of script u)) - 0)
    begins w n (kinds.Take task runner found) k =
        ap (λ v. 1 + (length (filter is_act (steps_of script v)) - 0)) (eqb-true task u (sym (or-false (eqb task u)) ∙ k))
    begins w n (kinds.MainTake task queue found) k = ap (λ v. 1 + (length (filter is_act (steps_of script v)) - 0)) (eqb-true task u k)
    begins w n kind k = absurd cc

pub seats_left_begin : (script : Plan) → seats_left script [] ≡ 0
unfolding seats_left seat_at seat_left running
seats_left_begin script = sum_from_nothing (λ i seat. seat_at script [] i) 0 (all_seats script) (λ i seat. refl)

-- how many entries a task has left before it is taken
task_left : List Entry → ℕ → List Step → ℕ
task_left past u steps = cond (is_untaken past u) (events_of_task steps) 0

task_left_less : (past : List Entry) (e : Entry) (u : ℕ) (steps : List Step) → task_left (past ++ e ∷ []) u steps ≤ task_left past u steps
unfolding task_left
task_left_less past e u steps = cond_both (is_untaken (past ++ e ∷ []) u) (events_of_task steps) 0
    (λ m. m ≤ cond (is_untaken past u) (events_of_task steps) 0) (λ is. rw (was_untaken past e u is) (omega arith)) (λ is. omega arith)

-- how many entries the tasks have left that were not taken
pub tasks_left : Plan → List Entry → ℕ
tasks_left script past = sum_from (task_left past) 0 script.tasks

pub tasks_left_less : (script : Plan) (past : List Entry) (e : Entry) → tasks_left script (past ++ e ∷ []) ≤ tasks_left script past
unfolding tasks_left
tasks_left_less script past e = sum_from_less (task_left past) (task_left (past ++ e ∷ [])) 0 script.tasks (λ u steps le. task_left_less past e u steps)

pub tasks_left_take : (script : Plan) (u : ℕ) (steps : List Step) (past : List Entry) (e : Entry) → (takes u e.kind || main_takes u e.kind) ≡ true
    → is_untaken past u ≡ true → slice_get script.tasks u ≡ Some steps → tasks_left script (past ++ e ∷ []) + events_of_task steps ≤ tasks_left script past
unfolding tasks_left task_left
tasks_left_take script u steps past e h was here = omega (
  arith,
  sum_from_change (task_left past) (task_left (past ++ e ∷ [])) 0 u u 0 (events_of_task steps)
      steps script.tasks (omega arith) here (rw (was, is_now_taken past e u h) (omega arith)) (λ v other differs. task_left_less past e v other),
)

pub tasks_left_begin : (script : Plan) → tasks_left script [] ≤ sum_by events_of_task script.tasks
unfolding tasks_left task_left
tasks_left_begin script = sum_from_within (task_left []) events_of_task 0 script.tasks
    (λ u steps. cond_both (is_untaken [] u) (events_of_task steps) 0 (λ m. m ≤ events_of_task steps) (λ is. omega arith) (λ is. omega arith))
