-- What the machine has made at each event: its parts are those that the event leaves.
-- Cited by `Machine::act`, `Machine::next_outermost`, `Machine::step_loop`, `Machine::step_task`.
use Rattle.std.proofs.Common.{◌≡◌, ◌≢◌, ℕ, ◌+◌, ◌-◌, ◌<◌, ◌≤◌, ◌^◌, length, true, false, cond, eqb, drop, List}
use Rattle.std.proofs.Common.{[], ◌∷◌, ◌++◌, refl, sym, ap, ◌∙◌, subst, Option, Some, None, arith}
use Rattle.std.specs.Prelude.{◌||◌, slice_get}
use Rattle.std.specs.List.{AllByRecursion}
use Rattle.std.specs.Option.{option_map, option_or}
use Rattle.std.proofs.lemmas.Bool.{eq-eqb, ne_eqb}
use Rattle.list_laws.proofs.Elements.{AllByRecursion-map}
use Rattle.nested_loop.specs.Ended.{HasEnded}
use Rattle.nested_loop.specs.Keeping.{CanPostNext, CanTakeNext, IsTakenFrom, KeepsManager}
use Rattle.nested_loop.specs.Nest.{action_step, after_event, asked_by, deferred_tasks, depth_of, front_task, is_nestable, left, loop_step}
use Rattle.nested_loop.specs.Nest.{nested_step, nesting_of, next_event, outermost_step, step_begun, steps_of, task_ended, task_step}
use Rattle.nested_loop.specs.Plan.{NestPlan}
use Rattle.nested_loop.specs.Room.{events_bound}
use Rattle.nested_loop.specs.Stands.{IsTakenNext, Made, Stands}
use Rattle.nested_loop.specs.declared.event.Event.{Event}
use Rattle.nested_loop.specs.declared.event.Event.TheVariants as events
use Rattle.nested_loop.specs.declared.frame.Frame.{Frame}
use Rattle.nested_loop.specs.declared.frame.Frame.TheVariants as frames
use Rattle.nested_loop.specs.declared.machine.Machine.{Machine}
use Rattle.nested_loop.specs.declared.nest.NestAction.TheVariants as actions
use Rattle.nested_loop.specs.declared.nest.NestStep.{NestStep}
use Rattle.nested_loop.specs.declared.nest.NestStep.TheVariants as steps
use Rattle.nested_loop.specs.declared.waiting.Waiting.{Waiting}
use Rattle.nested_loop.proofs.Chosen.{first_deferred_is, front_waits}
use Rattle.nested_loop.proofs.Comes.{at}
use Rattle.nested_loop.proofs.Deferrals.{deferred_kept, deferred_less, deferred_more, deferred_same, depth_few}
use Rattle.nested_loop.proofs.Deferrals.{depth_inside, depth_kept, depth_less, depth_more, ended_few}
use Rattle.nested_loop.proofs.Kept.{keeps_resumed, keeps_still}
use Rattle.nested_loop.proofs.Known.{past_within}
use Rattle.nested_loop.proofs.MainScript.{events_few}
use Rattle.nested_loop.proofs.Parts.{asked, has_room, made, with_first, without_first}
use Rattle.task_base.specs.Rows.{Listed}

module _ (nest : NestPlan) (past : List Event) (m : Machine) (stands : Stands nest past m) where
  -- ---- rooms

  pub frames_free : length past < events_bound nest → 0 < m.frames.spare
  frames_free room = let enough = stands.frames_room in omega (arith, room, enough)

  pub deferred_free : length past < events_bound nest → 0 < m.deferred.spare
  deferred_free room = let enough = stands.deferred_room in omega (arith, room, enough)

  past_few : length past < 2 ^ 20
  past_few = let few = events_few nest stands.sound in let within = past_within nest stands.sound past stands.is_past in omega (arith, few, within)

  pub depth_fits : m.depth + 1 < 2 ^ 32
  depth_fits = let few = past_few in let at_most = depth_few past in let is = stands.depth in omega (arith, few, at_most, is)

  pub ended_fit : AllByRecursion (HasEnded (2 ^ 31)) m.frames.items
  ended_fit = subst (AllByRecursion (HasEnded (2 ^ 31))) (sym stands.frames)
      (AllByRecursion-map (HasEnded (length past)) (HasEnded (2 ^ 31)) (nesting_of nest past).frames more (ended_few nest past stands.is_past))
    where
      more : (frame : Frame) → HasEnded (length past) frame → HasEnded (2 ^ 31) frame
      more (frames.Loop bound ended) h = let few = past_few in omega (arith, h, few)
      more (frames.Task task begun) h = tt

  pub can_take : length past < events_bound nest → CanTakeNext nest past m.waiting
  can_take room = record { sound = stands.sound; is_past = stands.is_past; keeps = stands.waiting; room = room }

  -- what waits, after an event that neither posts nor takes
  still : (event : Event) → ((place : ℕ) → Rattle.nested_loop.specs.Nest.posted_by place event ≡ [])
      → ((t : ℕ) → (Rattle.nested_loop.specs.Nest.defers t event || Rattle.nested_loop.specs.Nest.starts t event) ≡ false)
      → KeepsManager nest (past ++ event ∷ []) m.waiting
  still event no_post none = keeps_still nest past event m.waiting no_post none stands.waiting

  -- ---- outside of all loops

  module _ (outside : slice_get m.frames.items 0 ≡ None) where
    pub act_none : slice_get nest.actions m.begun ≡ None → next_event nest past ≡ None
    act_none through = asked nest past m stands ∙ ap (asked_by nest past m.begun) (without_first m.frames.items outside) ∙ ap (option_map action_step) through

    act_asked : (event : Event) → option_map action_step (slice_get nest.actions m.begun) ≡ Some event → asked_by nest past m.begun m.frames.items ≡ Some event
    act_asked event h = ap (asked_by nest past m.begun) (without_first m.frames.items outside) ∙ h

    pub act_can_post : (task queue : ℕ) → slice_get nest.actions m.begun ≡ Some (actions.Post task queue) → CanPostNext nest past m.waiting task queue
    act_can_post task queue is = record {
      sound = stands.sound;
      is_past = stands.is_past;
      keeps = stands.waiting;
      next = asked nest past m stands ∙ act_asked (events.Post task queue) (ap (option_map action_step) is);
    }

    pub act_post : (task queue : ℕ) (waiting : Waiting) → slice_get nest.actions m.begun ≡ Some (actions.Post task queue)
        → KeepsManager nest (past ++ events.Post task queue ∷ []) waiting
        → Made nest past (events.Post task queue) (record m { begun = m.begun + 1; waiting = waiting })
    act_post task queue waiting is keeps = made nest past (events.Post task queue) m (record m { begun = m.begun + 1; waiting = waiting }) stands (record {
      next = act_asked (events.Post task queue) (ap (option_map action_step) is);
      waiting = keeps;
      deferred = stands.deferred ∙ sym (deferred_kept past (events.Post task queue) (λ t. refl) refl);
      nesting =
          let none = without_first m.frames.items outside in
          ap (at (m.begun + 1)) none ∙ sym (ap (step_begun m.begun) none);
      depth = stands.depth ∙ sym (depth_kept past (events.Post task queue) refl refl);
      frames_spare = omega arith;
      deferred_spare = omega arith;
    })

    pub act_run_room : (bound : ℕ) → slice_get nest.actions m.begun ≡ Some (actions.Run bound) → length past < events_bound nest
    act_run_room bound is = has_room nest past m (events.Loop 1) stands (act_asked (events.Loop 1) (ap (option_map action_step) is))

    pub act_run : (bound : ℕ) (after : Machine) → slice_get nest.actions m.begun ≡ Some (actions.Run bound)
        → after ≡ record m { begun = m.begun + 1; frames = after.frames; depth = m.depth + 1 } → after.frames.items ≡ frames.Loop bound 0 ∷ m.frames.items
        → after.frames.spare + 1 ≡ m.frames.spare → Made nest past (events.Loop 1) after
    act_run bound after is others items spare = made nest past (events.Loop 1) m after stands (record {
      next = act_asked (events.Loop 1) (ap (option_map action_step) is);
      waiting = subst (KeepsManager nest (past ++ events.Loop 1 ∷ [])) (sym (ap (λ x. x.waiting) others)) (still (events.Loop 1) (λ place. refl) (λ t. refl));
      deferred = ap (λ x. x.deferred.items) others ∙ stands.deferred ∙ sym (deferred_kept past (events.Loop 1) (λ t. refl) refl);
      nesting =
          let none = without_first m.frames.items outside in
          ap (λ b. at b after.frames.items) (ap (λ x. x.begun) others)
          ∙ ap (at (m.begun + 1)) (items ∙ ap (λ fs. frames.Loop bound 0 ∷ fs) none)
          ∙ ap (λ n. at (m.begun + 1) (frames.Loop n 0 ∷ [])) (sym (ap Rattle.nested_loop.specs.Nest.bound_of_action is))
          ∙ sym (ap (λ fs. after_event nest (at m.begun fs) (events.Loop 1)) none);
      depth = ap (λ x. x.depth) others ∙ ap (λ d. d + 1) stands.depth ∙ sym (depth_more nest past 1 stands.is_past);
      frames_spare = omega (arith, spare);
      deferred_spare = let same = ap (λ x. x.deferred.spare) others in omega (arith, same);
    })

  -- ---- in a task

  module _ (task begun : ℕ) (inside : slice_get m.frames.items 0 ≡ Some (frames.Task task begun)) where
    task_asked : (o : Option NestStep) → slice_get (steps_of nest task) begun ≡ o
        → asked_by nest past m.begun m.frames.items ≡ Some (task_step (depth_of past) task o)
    task_asked o is = ap (asked_by nest past m.begun) (with_first m.frames.items (frames.Task task begun) inside)
        ∙ ap (λ x. Some (task_step (depth_of past) task x)) is

    pub task_room : length past < events_bound nest
    task_room = has_room nest past m (task_step (depth_of past) task (slice_get (steps_of nest task) begun)) stands
        (task_asked (slice_get (steps_of nest task) begun) refl)

    -- the frames where the next step is begun
    stepped : at m.begun (frames.Task task (begun + 1) ∷ left m.frames.items) ≡ step_begun m.begun m.frames.items
    stepped = sym (ap (step_begun m.begun) (with_first m.frames.items (frames.Task task begun) inside))

    pub task_end : (opened : Listed Frame) → slice_get (steps_of nest task) begun ≡ None → opened.items ≡ task_ended (left m.frames.items)
        → m.frames.spare ≤ opened.spare → Made nest past (events.End task) (record m { frames = opened })
    task_end opened is items spare = made nest past (events.End task) m (record m { frames = opened }) stands (record {
      next = task_asked None is;
      waiting = still (events.End task) (λ place. refl) (λ t. refl);
      deferred = stands.deferred ∙ sym (deferred_kept past (events.End task) (λ t. refl) refl);
      nesting = ap (at m.begun) items;
      depth = stands.depth ∙ sym (depth_kept past (events.End task) refl refl);
      frames_spare = omega (arith, spare);
      deferred_spare = omega arith;
    })

    pub task_say : (value : ℕ) (opened : Listed Frame) → slice_get (steps_of nest task) begun ≡ Some (steps.Say value)
        → opened.items ≡ frames.Task task (begun + 1) ∷ left m.frames.items → m.frames.spare ≤ opened.spare
        → Made nest past (events.Say value) (record m { frames = opened })
    task_say value opened is items spare = made nest past (events.Say value) m (record m { frames = opened }) stands (record {
      next = task_asked (Some (steps.Say value)) is;
      waiting = still (events.Say value) (λ place. refl) (λ t. refl);
      deferred = stands.deferred ∙ sym (deferred_kept past (events.Say value) (λ t. refl) refl);
      nesting = ap (at m.begun) items ∙ stepped;
      depth = stands.depth ∙ sym (depth_kept past (events.Say value) refl refl);
      frames_spare = omega (arith, spare);
      deferred_spare = omega arith;
    })

    pub task_can_post : (posted queue : ℕ) → slice_get (steps_of nest task) begun ≡ Some (steps.Post posted queue)
        → CanPostNext nest past m.waiting posted queue
    task_can_post posted queue is = record {
      sound = stands.sound;
      is_past = stands.is_past;
      keeps = stands.waiting;
      next = asked nest past m stands ∙ task_asked (Some (steps.Post posted queue)) is;
    }

    pub task_post : (posted queue : ℕ) (opened : Listed Frame) (waiting : Waiting) → slice_get (steps_of nest task) begun ≡ Some (steps.Post posted queue)
        → opened.items ≡ frames.Task task (begun + 1) ∷ left m.frames.items → m.frames.spare ≤ opened.spare
        → KeepsManager nest (past ++ events.Post posted queue ∷ []) waiting
        → Made nest past (events.Post posted queue) (record m { frames = opened; waiting = waiting })
    task_post posted queue opened waiting is items spare keeps = made nest past (events.Post posted queue) m
        (record m { frames = opened; waiting = waiting }) stands (record {
          next = task_asked (Some (steps.Post posted queue)) is;
          waiting = keeps;
          deferred = stands.deferred ∙ sym (deferred_kept past (events.Post posted queue) (λ t. refl) refl);
          nesting = ap (at m.begun) items ∙ stepped;
          depth = stands.depth ∙ sym (depth_kept past (events.Post posted queue) refl refl);
          frames_spare = omega (arith, spare);
          deferred_spare = omega arith;
        })

    pub task_loop : (bound : ℕ) (opened : Listed Frame) (after : Machine) → slice_get (steps_of nest task) begun ≡ Some (steps.Loop bound)
        → opened.items ≡ frames.Task task (begun + 1) ∷ left m.frames.items → m.frames.spare ≤ opened.spare
        → after ≡ record m { frames = after.frames; depth = m.depth + 1 } → after.frames.items ≡ frames.Loop bound 0 ∷ opened.items
        → after.frames.spare + 1 ≡ opened.spare → Made nest past (events.Loop (m.depth + 1)) after
    task_loop bound opened after is items spare others entered less =
        subst (λ d. Made nest past (events.Loop (d + 1)) after) (sym stands.depth) (made nest past (events.Loop (depth_of past + 1)) m after stands (record {
          next = task_asked (Some (steps.Loop bound)) is;
          waiting = subst (KeepsManager nest (past ++ events.Loop (depth_of past + 1) ∷ [])) (sym (ap (λ x. x.waiting) others))
              (still (events.Loop (depth_of past + 1)) (λ place. refl) (λ t. refl));
          deferred = ap (λ x. x.deferred.items) others ∙ stands.deferred ∙ sym (deferred_kept past (events.Loop (depth_of past + 1)) (λ t. refl) refl);
          nesting =
              let first = with_first m.frames.items (frames.Task task begun) inside in
              ap (λ b. at b after.frames.items) (ap (λ x. x.begun) others)
              ∙ ap (at m.begun) (entered ∙ ap (λ fs. frames.Loop bound 0 ∷ fs) items)
              ∙ ap (λ n. at m.begun (frames.Loop n 0 ∷ frames.Task task (begun + 1) ∷ left m.frames.items))
              (sym (ap Rattle.nested_loop.specs.Nest.bound_of_step is))
              ∙ sym (ap (λ fs. after_event nest (at m.begun fs) (events.Loop (depth_of past + 1))) first);
          depth = ap (λ x. x.depth) others ∙ ap (λ d. d + 1) stands.depth ∙ sym (depth_more nest past (depth_of past + 1) stands.is_past);
          frames_spare = omega (arith, spare, less);
          deferred_spare = let same = ap (λ x. x.deferred.spare) others in omega (arith, same);
        }))

  -- ---- in a loop

  module _ (bound ended : ℕ) (inside : slice_get m.frames.items 0 ≡ Some (frames.Loop bound ended)) where
    loop_asked : (event : Event) → loop_step nest past bound ended ≡ event → asked_by nest past m.begun m.frames.items ≡ Some event
    loop_asked event is = ap (asked_by nest past m.begun) (with_first m.frames.items (frames.Loop bound ended) inside) ∙ ap Some is

    pub loop_room : length past < events_bound nest
    loop_room = has_room nest past m (loop_step nest past bound ended) stands (loop_asked (loop_step nest past bound ended) refl)

    pub loop_depth : 1 ≤ m.depth
    loop_depth =
        let deep = depth_inside nest past bound ended (left m.frames.items) stands.is_past
        (sym stands.frames ∙ with_first m.frames.items (frames.Loop bound ended) inside) in
        let is = stands.depth in
        omega (arith, deep, is)

    -- what the loop asks for, by its tests
    full : ended ≡ bound → loop_step nest past bound ended ≡ events.Quit (depth_of past)
    full same = ap (λ b. cond b (events.Quit (depth_of past)) (cond (eqb (depth_of past) 1)
        (outermost_step (option_or (slice_get (deferred_tasks past) 0) (front_task nest past))) (nested_step nest (depth_of past) (front_task nest past))))
        (eq-eqb ended bound same)

    outermost : ended ≢ bound → m.depth ≡ 1
        → loop_step nest past bound ended ≡ outermost_step (option_or (slice_get (deferred_tasks past) 0) (front_task nest past))
    outermost other one =
        ap (λ b. cond b (events.Quit (depth_of past)) (cond (eqb (depth_of past) 1)
        (outermost_step (option_or (slice_get (deferred_tasks past) 0) (front_task nest past))) (nested_step nest (depth_of past) (front_task nest past))))
        (ne_eqb ended bound other)
        ∙ ap (λ b. cond b (outermost_step (option_or (slice_get (deferred_tasks past) 0) (front_task nest past)))
        (nested_step nest (depth_of past) (front_task nest past)))
        (eq-eqb (depth_of past) 1 (sym stands.depth ∙ one))

    nested : ended ≢ bound → m.depth ≢ 1 → loop_step nest past bound ended ≡ nested_step nest (depth_of past) (front_task nest past)
    nested other deep =
        ap (λ b. cond b (events.Quit (depth_of past)) (cond (eqb (depth_of past) 1)
        (outermost_step (option_or (slice_get (deferred_tasks past) 0) (front_task nest past))) (nested_step nest (depth_of past) (front_task nest past))))
        (ne_eqb ended bound other)
        ∙ ap (λ b. cond b (outermost_step (option_or (slice_get (deferred_tasks past) 0) (front_task nest past)))
        (nested_step nest (depth_of past) (front_task nest past)))
        (ne_eqb (depth_of past) 1 (λ one. deep (stands.depth ∙ one)))

    -- the loop quits, where what waits and what is deferred are as they were
    quits : (after : Machine) → loop_step nest past bound ended ≡ events.Quit (depth_of past) → KeepsManager nest past after.waiting
        → after.deferred.items ≡ deferred_tasks past → after.deferred.spare ≡ m.deferred.spare → after.begun ≡ m.begun → after.depth ≡ m.depth - 1
        → after.frames.items ≡ left m.frames.items → m.frames.spare ≤ after.frames.spare → Made nest past (events.Quit m.depth) after
    quits after asks keeps deferred_is deferred_spare begun_is depth_is items spare =
        subst (λ d. Made nest past (events.Quit d) after) (sym stands.depth) (made nest past (events.Quit (depth_of past)) m after stands (record {
          next = loop_asked (events.Quit (depth_of past)) asks;
          waiting = keeps_still nest past (events.Quit (depth_of past)) after.waiting (λ place. refl) (λ t. refl) keeps;
          deferred = deferred_is ∙ sym (deferred_kept past (events.Quit (depth_of past)) (λ t. refl) refl);
          nesting = ap (λ b. at b after.frames.items) begun_is ∙ ap (at m.begun) items;
          depth = depth_is ∙ ap (λ d. d - 1) stands.depth ∙ sym (depth_less nest past (depth_of past) stands.is_past);
          frames_spare = omega (arith, spare);
          deferred_spare = omega (arith, deferred_spare);
        }))

    pub quits_full : (after : Machine) → ended ≡ bound → after ≡ record m { frames = after.frames; depth = m.depth - 1 }
        → after.frames.items ≡ left m.frames.items → m.frames.spare ≤ after.frames.spare → Made nest past (events.Quit m.depth) after
    quits_full after same others items spare = quits after (full same) (subst (KeepsManager nest past) (sym (ap (λ x. x.waiting) others)) stands.waiting)
        (ap (λ x. x.deferred.items) others ∙ stands.deferred) (ap (λ x. x.deferred.spare) others) (ap (λ x. x.begun) others)
        (ap (λ x. x.depth) others) items spare

    pub quits_outermost : (taken after : Machine) → ended ≢ bound → m.depth ≡ 1 → IsTakenNext nest past None m taken
        → after ≡ record taken { frames = after.frames; depth = taken.depth - 1 } → after.frames.items ≡ left taken.frames.items
        → taken.frames.spare ≤ after.frames.spare → Made nest past (events.Quit taken.depth) after
    quits_outermost taken after other one is others items spare =
        let same_depth = ap (λ x. x.depth) is.others in
        let same_frames = ap (λ x. x.frames) is.others in
        let kept = is.none refl in
        let at_spare : m.frames.spare ≤ after.frames.spare = subst (λ f. f.spare ≤ after.frames.spare) same_frames spare in
        subst (λ d. Made nest past (events.Quit d) after) (sym same_depth) (quits after
        (outermost other one ∙ ap outermost_step (sym is.is) ∙ ap events.Quit (sym one ∙ stands.depth))
        (subst (KeepsManager nest past) (sym (ap (λ x. x.waiting) others)) kept.0)
        (ap (λ x. x.deferred.items) others ∙ kept.1) (ap (λ x. x.deferred.spare) others ∙ is.spare)
        (ap (λ x. x.begun) others ∙ ap (λ x. x.begun) is.others) (ap (λ x. x.depth) others ∙ ap (λ d. d - 1) same_depth)
        (items ∙ ap (λ f. left f.items) same_frames) at_spare)

    pub quits_nested : (waiting : Waiting) (after : Machine) → ended ≢ bound → m.depth ≢ 1 → None ≡ front_task nest past → KeepsManager nest past waiting
        → after ≡ record m { waiting = waiting; frames = after.frames; depth = m.depth - 1 } → after.frames.items ≡ left m.frames.items
        → m.frames.spare ≤ after.frames.spare → Made nest past (events.Quit m.depth) after
    quits_nested waiting after other deep none keeps others items spare = quits after (nested other deep ∙ ap (nested_step nest (depth_of past)) (sym none))
        (subst (KeepsManager nest past) (sym (ap (λ x. x.waiting) others)) keeps) (ap (λ x. x.deferred.items) others ∙ stands.deferred)
        (ap (λ x. x.deferred.spare) others) (ap (λ x. x.begun) others) (ap (λ x. x.depth) others) items spare

    -- a task starts
    starts_with : (task : ℕ) (after : Machine) → loop_step nest past bound ended ≡ events.Start task (depth_of past)
        → KeepsManager nest (past ++ events.Start task (depth_of past) ∷ []) after.waiting
        → after.deferred.items ≡ deferred_tasks (past ++ events.Start task (depth_of past) ∷ []) → after.deferred.spare ≡ m.deferred.spare
        → after.begun ≡ m.begun → after.depth ≡ m.depth → after.frames.items ≡ frames.Task task 0 ∷ m.frames.items
        → after.frames.spare + 1 ≡ m.frames.spare → Made nest past (events.Start task m.depth) after
    starts_with task after asks keeps deferred_is deferred_spare begun_is depth_is items spare =
        subst (λ d. Made nest past (events.Start task d) after) (sym stands.depth) (made nest past (events.Start task (depth_of past)) m after stands (record {
          next = loop_asked (events.Start task (depth_of past)) asks;
          waiting = keeps;
          deferred = deferred_is;
          nesting = ap (λ b. at b after.frames.items) begun_is ∙ ap (at m.begun) items;
          depth = depth_is ∙ stands.depth ∙ sym (depth_kept past (events.Start task (depth_of past)) refl refl);
          frames_spare = omega (arith, spare);
          deferred_spare = omega (arith, deferred_spare);
        }))

    pub starts_outermost : (task : ℕ) (taken after : Machine) → ended ≢ bound → m.depth ≡ 1 → IsTakenNext nest past (Some task) m taken
        → after ≡ record taken { frames = after.frames } → after.frames.items ≡ frames.Task task 0 ∷ taken.frames.items
        → after.frames.spare + 1 ≡ taken.frames.spare → Made nest past (events.Start task taken.depth) after
    starts_outermost task taken after other one is others items spare =
        let depth_one : depth_of past ≡ 1 = sym stands.depth ∙ one in
        let same_frames = ap (λ x. x.frames) is.others in
        subst (λ d. Made nest past (events.Start task d) after) (sym (ap (λ x. x.depth) is.others)) (starts_with task after
        (outermost other one ∙ ap outermost_step (sym is.is) ∙ ap (events.Start task) (sym depth_one))
        (subst (λ d. KeepsManager nest (past ++ events.Start task d ∷ []) after.waiting) (sym depth_one)
        (subst (KeepsManager nest (past ++ events.Start task 1 ∷ [])) (sym (ap (λ x. x.waiting) others)) (is.waiting task refl)))
        (ap (λ x. x.deferred.items) others ∙ is.deferred task refl ∙ ap (λ d. deferred_tasks (past ++ events.Start task d ∷ [])) (sym depth_one))
        (ap (λ x. x.deferred.spare) others ∙ is.spare)
        (ap (λ x. x.begun) others ∙ ap (λ x. x.begun) is.others) (ap (λ x. x.depth) others ∙ ap (λ x. x.depth) is.others)
        (items ∙ ap (λ f. frames.Task task 0 ∷ f.items) same_frames) (spare ∙ ap (λ f. f.spare) same_frames))

    pub starts_nested : (task : ℕ) (waiting : Waiting) (after : Machine) → ended ≢ bound → m.depth ≢ 1 → Some task ≡ front_task nest past
        → is_nestable nest task ≡ true → IsTakenFrom nest past (Some task) waiting
        → after ≡ record m { waiting = waiting; frames = after.frames } → after.frames.items ≡ frames.Task task 0 ∷ m.frames.items
        → after.frames.spare + 1 ≡ m.frames.spare → Made nest past (events.Start task m.depth) after
    starts_nested task waiting after other deep front may takes others items spare = starts_with task after
        (nested other deep ∙ ap (nested_step nest (depth_of past)) (sym front) ∙ ap (λ b. cond b (events.Start task (depth_of past)) (events.Defer task)) may)
        (subst (KeepsManager nest (past ++ events.Start task (depth_of past) ∷ [])) (sym (ap (λ x. x.waiting) others))
        (takes (events.Start task (depth_of past)) (eq-eqb task task refl)))
        (ap (λ x. x.deferred.items) others ∙ stands.deferred
        ∙ sym (deferred_same past task (depth_of past) (front_waits nest past task (sym front)).not_deferred))
        (ap (λ x. x.deferred.spare) others) (ap (λ x. x.begun) others) (ap (λ x. x.depth) others) items spare

    -- a task is deferred
    pub defers_front : (task : ℕ) (waiting : Waiting) (more : Listed ℕ) → ended ≢ bound → m.depth ≢ 1 → Some task ≡ front_task nest past
        → is_nestable nest task ≡ false → IsTakenFrom nest past (Some task) waiting → more.items ≡ m.deferred.items ++ task ∷ []
        → more.spare + 1 ≡ m.deferred.spare → Made nest past (events.Defer task) (record m { waiting = waiting; deferred = more })
    defers_front task waiting more other deep front not_may takes items spare =
        made nest past (events.Defer task) m (record m { waiting = waiting; deferred = more }) stands (record {
          next = loop_asked (events.Defer task)
              (nested other deep ∙ ap (nested_step nest (depth_of past)) (sym front)
              ∙ ap (λ b. cond b (events.Start task (depth_of past)) (events.Defer task)) not_may);
          waiting = takes (events.Defer task) (ap (λ b. b || false) (eq-eqb task task refl));
          deferred = items ∙ ap (λ ts. ts ++ task ∷ []) stands.deferred ∙ sym (deferred_more past task (front_waits nest past task (sym front)).not_started);
          nesting = refl;
          depth = stands.depth ∙ sym (depth_kept past (events.Defer task) refl refl);
          frames_spare = omega arith;
          deferred_spare = omega (arith, spare);
        })

  -- ---- the outermost loop's next task

  pub takes_deferred : (task : ℕ) (rest : Listed ℕ) → Some task ≡ slice_get m.deferred.items 0 → rest.items ≡ drop 1 m.deferred.items
      → rest.spare ≡ m.deferred.spare → IsTakenNext nest past (Some task) m (record m { deferred = rest })
  takes_deferred task rest first items spare =
      let is_first : slice_get (deferred_tasks past) 0 ≡ Some task = sym (first ∙ ap (λ ts. slice_get ts 0) stands.deferred) in
      record {
        is = ap (λ o. option_or o (front_task nest past)) (sym is_first);
        others = refl;
        spare = spare;
        waiting = λ t same. subst (λ u. KeepsManager nest (past ++ events.Start u 1 ∷ []) m.waiting) (Rattle.list_laws.proofs.Values.some-injective same)
            (keeps_resumed nest past task 1 m.waiting (first_deferred_is past task is_first).0 stands.waiting);
        deferred = λ t same. subst (λ u. rest.items ≡ deferred_tasks (past ++ events.Start u 1 ∷ [])) (Rattle.list_laws.proofs.Values.some-injective same)
            (items ∙ ap (drop 1) stands.deferred ∙ sym (deferred_less nest past task 1 stands.is_past is_first));
        none = λ impossible. absurd (Rattle.std.proofs.lemmas.Option.none-some task (sym impossible));
      }

  pub takes_front : (task : Option ℕ) (rest : Listed ℕ) (waiting : Waiting) → None ≡ slice_get m.deferred.items 0 → rest.items ≡ drop 1 m.deferred.items
      → rest.spare ≡ m.deferred.spare → task ≡ front_task nest past → IsTakenFrom nest past task waiting
      → IsTakenNext nest past task m (record m { deferred = rest; waiting = waiting })
  takes_front task rest waiting none items spare front takes =
      let is_none : slice_get (deferred_tasks past) 0 ≡ None = sym (none ∙ ap (λ ts. slice_get ts 0) stands.deferred) in
      let same : rest.items ≡ deferred_tasks past = items ∙ ap (drop 1) stands.deferred ∙ empty (deferred_tasks past) is_none in
      record {
        is = front ∙ ap (λ o. option_or o (front_task nest past)) (sym is_none);
        others = refl;
        spare = spare;
        waiting = λ t is. subst (λ o. IsTakenFrom nest past o waiting) is takes (events.Start t 1) (eq-eqb t t refl);
        deferred = λ t is. same ∙ sym (deferred_same past t 1 (front_waits nest past t (sym front ∙ is)).not_deferred);
        none = λ is. (subst (λ o. IsTakenFrom nest past o waiting) is takes, same);
      }
    where
      empty : (ts : List ℕ) → slice_get ts 0 ≡ None → drop 1 ts ≡ ts
      empty [] h = refl
      empty (t ∷ ts) h = absurd (Rattle.std.proofs.lemmas.Option.none-some t (sym h))
