-- What the event that comes next is, case by case, and what it leaves open.
-- Cited by `Chosen`, `Deferrals`, `Known`, `Left`, `LegalNests`, `Made`, `MainScript`, `Parts`.
use Rattle.std.proofs.Common.{◌≡◌, ℕ, ◌+◌, Bool, true, false, cond, eqb, List, [], ◌∷◌, ◌++◌, refl}
use Rattle.std.proofs.Common.{sym, subst, Option, Some, None, append_assoc, append-nil, arith}
use Rattle.std.specs.Prelude.{slice_get}
use Rattle.std.specs.Option.{option_map, option_or}
use Rattle.std.proofs.lemmas.Option.{none-some}
use Rattle.std.proofs.lemmas.List.Sums.{fold-append}
use Rattle.list_laws.proofs.Values.{some-injective}
use Rattle.nested_loop.specs.Plan.{NestPlan}
use Rattle.nested_loop.specs.Nest.{Nesting, ComesAfter, IsNestPast, action_step, after_event, asked_by, deferred_tasks, depth_of, front_task, is_nestable}
use Rattle.nested_loop.specs.Nest.{loop_step, nested_step, nesting_of, next_event, outermost_step, steps_of, task_ended, task_step}
use Rattle.nested_loop.specs.declared.event.Event.{Event}
use Rattle.nested_loop.specs.declared.event.Event.TheVariants as events
use Rattle.nested_loop.specs.declared.frame.Frame.{Frame}
use Rattle.nested_loop.specs.declared.frame.Frame.TheVariants as frames
use Rattle.nested_loop.specs.declared.nest.NestAction.{NestAction}
use Rattle.nested_loop.specs.declared.nest.NestAction.TheVariants as actions
use Rattle.nested_loop.specs.declared.nest.NestStep.{NestStep}
use Rattle.nested_loop.specs.declared.nest.NestStep.TheVariants as steps

-- so many actions were begun, and this is open
abbrev pub at : ℕ → List Frame → Nesting
at begun frames = record { begun = begun; frames = frames }

-- the task that a loop at this depth starts: the first of the deferred ones, or the front
pub data IsChosen (nest : NestPlan) (past : List Event) : ℕ → ℕ → Type 0 where
  resumed : {task : ℕ} → slice_get (deferred_tasks past) 0 ≡ Some task → IsChosen nest past 1 task
  waited : {task : ℕ} → slice_get (deferred_tasks past) 0 ≡ None → front_task nest past ≡ Some task → IsChosen nest past 1 task
  nested : {depth task : ℕ} → eqb depth 1 ≡ false → front_task nest past ≡ Some task → is_nestable nest task ≡ true → IsChosen nest past depth task

-- with this open the event comes next, and leaves that open
pub data Comes (nest : NestPlan) (past : List Event) : Nesting → Event → Nesting → Type 0 where
  act : {begun task queue : ℕ} → slice_get nest.actions begun ≡ Some (actions.Post task queue)
      → Comes nest past (at begun []) (events.Post task queue) (at (begun + 1) [])
  run : {begun bound : ℕ} → slice_get nest.actions begun ≡ Some (actions.Run bound)
      → Comes nest past (at begun []) (events.Loop 1) (at (begun + 1) (frames.Loop bound 0 ∷ []))
  say : {begun task done value : ℕ} {outer : List Frame} → slice_get (steps_of nest task) done ≡ Some (steps.Say value)
      → Comes nest past (at begun (frames.Task task done ∷ outer)) (events.Say value) (at begun (frames.Task task (done + 1) ∷ outer))
  post : {begun task done posted queue : ℕ} {outer : List Frame} → slice_get (steps_of nest task) done ≡ Some (steps.Post posted queue)
      → Comes nest past (at begun (frames.Task task done ∷ outer)) (events.Post posted queue) (at begun (frames.Task task (done + 1) ∷ outer))
  loop : {begun task done bound : ℕ} {outer : List Frame} → slice_get (steps_of nest task) done ≡ Some (steps.Loop bound)
      → Comes nest past (at begun (frames.Task task done ∷ outer)) (events.Loop (depth_of past + 1))
      (at begun (frames.Loop bound 0 ∷ frames.Task task (done + 1) ∷ outer))
  end : {begun task done : ℕ} {outer : List Frame} → slice_get (steps_of nest task) done ≡ None
      → Comes nest past (at begun (frames.Task task done ∷ outer)) (events.End task) (at begun (task_ended outer))
  quit : {begun bound ended depth : ℕ} {outer : List Frame} → depth_of past ≡ depth
      → Comes nest past (at begun (frames.Loop bound ended ∷ outer)) (events.Quit depth) (at begun outer)
  start : {begun bound ended depth task : ℕ} {outer : List Frame} → depth_of past ≡ depth → IsChosen nest past depth task
      → Comes nest past (at begun (frames.Loop bound ended ∷ outer)) (events.Start task depth)
      (at begun (frames.Task task 0 ∷ frames.Loop bound ended ∷ outer))
  defer : {begun bound ended task : ℕ} {outer : List Frame} → eqb (depth_of past) 1 ≡ false → front_task nest past ≡ Some task
      → is_nestable nest task ≡ false
      → Comes nest past (at begun (frames.Loop bound ended ∷ outer)) (events.Defer task) (at begun (frames.Loop bound ended ∷ outer))

-- it comes next, and leaves open what follows it
Follows : NestPlan → List Event → Nesting → Event → Type 0
Follows nest past now event = Comes nest past now event (after_event nest now event)

of_action : (nest : NestPlan) (past : List Event) (begun : ℕ) (o : Option NestAction) → slice_get nest.actions begun ≡ o → (event : Event)
    → option_map action_step o ≡ Some event → Follows nest past (at begun []) event
unfolding Follows
of_action nest past begun None is event h = absurd (none-some event h)
of_action nest past begun (Some (actions.Post task queue)) is event h = subst (λ e. Comes nest past (at begun []) e (after_event nest (at begun []) e))
    (some-injective h) (act is)
of_action nest past begun (Some (actions.Run bound)) is event h = subst (λ e. Comes nest past (at begun []) e (after_event nest (at begun []) e))
    (some-injective h)
    (rw is (run is))

of_task : (nest : NestPlan) (past : List Event) (begun task done : ℕ) (outer : List Frame) (o : Option NestStep) → slice_get (steps_of nest task) done ≡ o
    → Follows nest past (at begun (frames.Task task done ∷ outer)) (task_step (depth_of past) task o)
unfolding Follows
of_task nest past begun task done outer None is = end is
of_task nest past begun task done outer (Some (steps.Say value)) is = say is
of_task nest past begun task done outer (Some (steps.Post posted queue)) is = post is
of_task nest past begun task done outer (Some (steps.Loop bound)) is = rw is (loop is)

of_outermost : (nest : NestPlan) (past : List Event) (begun bound ended : ℕ) (outer : List Frame) → depth_of past ≡ 1 → (first front : Option ℕ)
    → slice_get (deferred_tasks past) 0 ≡ first → front_task nest past ≡ front
    → Follows nest past (at begun (frames.Loop bound ended ∷ outer)) (outermost_step (option_or first front))
unfolding Follows
of_outermost nest past begun bound ended outer depth (Some task) front is other = start depth (resumed is)
of_outermost nest past begun bound ended outer depth None (Some task) none is = start depth (waited none is)
of_outermost nest past begun bound ended outer depth None None none is = quit depth

of_nested : (nest : NestPlan) (past : List Event) (begun bound ended : ℕ) (outer : List Frame) → eqb (depth_of past) 1 ≡ false → (front : Option ℕ)
    → front_task nest past ≡ front → Follows nest past (at begun (frames.Loop bound ended ∷ outer)) (nested_step nest (depth_of past) front)
unfolding Follows
of_nested nest past begun bound ended outer deep None is = quit refl
of_nested nest past begun bound ended outer deep (Some task) is = by_nestable (is_nestable nest task) refl
  where
    by_nestable : (b : Bool) → is_nestable nest task ≡ b
        → Comes nest past (at begun (frames.Loop bound ended ∷ outer)) (cond b (events.Start task (depth_of past)) (events.Defer task))
        (after_event nest (at begun (frames.Loop bound ended ∷ outer)) (cond b (events.Start task (depth_of past)) (events.Defer task)))
    by_nestable true may = start refl (nested deep is may)
    by_nestable false may = defer deep is may

of_loop : (nest : NestPlan) (past : List Event) (begun bound ended : ℕ) (outer : List Frame)
    → Follows nest past (at begun (frames.Loop bound ended ∷ outer)) (loop_step nest past bound ended)
unfolding Follows
of_loop nest past begun bound ended outer = by_ended (eqb ended bound) (eqb (depth_of past) 1) refl
  where
    by_ended : (full outermost : Bool) → eqb (depth_of past) 1 ≡ outermost → Follows nest past (at begun (frames.Loop bound ended ∷ outer))
        (cond full (events.Quit (depth_of past)) (cond outermost (outermost_step (option_or (slice_get (deferred_tasks past) 0) (front_task nest past)))
        (nested_step nest (depth_of past) (front_task nest past))))
    by_ended true outermost is = quit refl
    by_ended false true is = of_outermost nest past begun bound ended outer (grind (arith, is)) (slice_get (deferred_tasks past) 0) (front_task nest past)
        refl refl
    by_ended false false is = of_nested nest past begun bound ended outer is (front_task nest past) refl

of_asked : (nest : NestPlan) (past : List Event) (begun : ℕ) (open_frames : List Frame) (event : Event)
    → asked_by nest past begun open_frames ≡ Some event → Follows nest past (at begun open_frames) event
of_asked nest past begun [] event h = of_action nest past begun (slice_get nest.actions begun) refl event h
of_asked nest past begun (frames.Task task done ∷ outer) event h = subst (Follows nest past (at begun (frames.Task task done ∷ outer))) (some-injective h)
    (of_task nest past begun task done outer (slice_get (steps_of nest task) done) refl)
of_asked nest past begun (frames.Loop bound ended ∷ outer) event h = subst (Follows nest past (at begun (frames.Loop bound ended ∷ outer))) (some-injective h)
    (of_loop nest past begun bound ended outer)

-- what is open after one more event
pub nesting_of_push : (nest : NestPlan) (past : List Event) (event : Event)
    → nesting_of nest (past ++ event ∷ []) ≡ after_event nest (nesting_of nest past) event
unfolding nesting_of
nesting_of_push nest past event = fold-append (after_event nest) (at 0 []) past (event ∷ [])

-- the event that comes next, by what is open before and after it
pub comes : (nest : NestPlan) (past : List Event) (event : Event) → next_event nest past ≡ Some event
    → Comes nest past (nesting_of nest past) event (nesting_of nest (past ++ event ∷ []))
unfolding next_event Follows
comes nest past event h = subst (Comes nest past (nesting_of nest past) event) (sym (nesting_of_push nest past event))
    (of_asked nest past (nesting_of nest past).begun (nesting_of nest past).frames event h)

comes_after_append : (nest : NestPlan) (past xs ys : List Event) → ComesAfter nest past xs → ComesAfter nest (past ++ xs) ys → ComesAfter nest past (xs ++ ys)
comes_after_append nest past [] ys h k = subst (λ before. ComesAfter nest before ys) (append-nil past) k
comes_after_append nest past (x ∷ xs) ys h k =
    (h.0, comes_after_append nest (past ++ x ∷ []) xs ys h.1 (subst (λ before. ComesAfter nest before ys) (sym (append_assoc past (x ∷ []) xs)) k))

-- a past grows by the event that comes next
pub past_grows : (nest : NestPlan) (past : List Event) (event : Event) → IsNestPast nest past → next_event nest past ≡ Some event
    → IsNestPast nest (past ++ event ∷ [])
past_grows nest past event h k = record { each = comes_after_append nest [] past (event ∷ []) h.each (k, tt) }

-- what holds at the start, and after each event that comes next, holds of every past
pub past_induction : (nest : NestPlan) (P : List Event → Type 0) → P []
    → ((past : List Event) (event : Event) → IsNestPast nest past → next_event nest past ≡ Some event → P past → P (past ++ event ∷ []))
    → (past : List Event) → IsNestPast nest past → P past
past_induction nest P nothing step past h = walk [] past (record { each = tt }) nothing h.each
  where
    walk : (front rest : List Event) → IsNestPast nest front → P front → ComesAfter nest front rest → P (front ++ rest)
    walk front [] fits holds k = subst P (sym (append-nil front)) holds
    walk front (e ∷ rest) fits holds k =
        subst P (append_assoc front (e ∷ []) rest) (walk (front ++ e ∷ []) rest (past_grows nest front e fits k.0) (step front e fits k.0 holds) k.1)

-- the front of a past is one, and each of its events comes next after those before it
pub part_of_past : (nest : NestPlan) (past rest : List Event) (event : Event) → IsNestPast nest (past ++ event ∷ rest)
    → IsNestPast nest past × (next_event nest past ≡ Some event)
part_of_past nest past rest event h = let parts = split [] past h.each in (record { each = parts.0 }, parts.1)
  where
    split : (before front : List Event) → ComesAfter nest before (front ++ event ∷ rest)
        → ComesAfter nest before front × (next_event nest (before ++ front) ≡ Some event)
    split before [] k = (tt, subst (λ b. next_event nest b ≡ Some event) (sym (append-nil before)) k.0)
    split before (x ∷ front) k =
        let parts = split (before ++ x ∷ []) front k.1 in
        ((k.0, parts.0), subst (λ b. next_event nest b ≡ Some event) (append_assoc before (x ∷ []) front) parts.1)
