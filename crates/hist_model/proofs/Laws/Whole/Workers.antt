-- What waits in its sequence is left to the workers, where the script is sound.
-- Cited by `whole_logs_lose_nothing`, `Laws/Progress/Blockers`.
use Rattle.std.proofs.Common.{◌≡◌, ℕ, ◌+◌, ◌<◌, Bool, true, false, cond, eqb, List, [], length}
use Rattle.std.proofs.Common.{refl, sym, subst, ◌∙◌, inl, inr, ⊎_elim, arith}
use Rattle.std.specs.Prelude.{◌⊎◌, ◌&&◌, ◌||◌, slice_get, Contains}
use Rattle.std.specs.List.{AllByRecursion}
use Rattle.std.proofs.lemmas.Bool.{and_parts, or_cases, eqb-true}
use Rattle.task_base.specs.Plan.{Plan}
use Rattle.task_base.specs.Runners.{is_parallel, sequence_of, sequence_count}
use Rattle.task_base.specs.declared.entry.Entry.{Entry}
use Rattle.task_base.specs.declared.entry.Kind.{Kind}
use Rattle.task_base.specs.declared.entry.Kind.TheVariants as kinds
use Rattle.task_base.specs.declared.script.Action.{Action}
use Rattle.task_base.specs.declared.script.Action.TheVariants as actions
use Rattle.task_base.specs.declared.source.TaskSource.TheVariants.{Sequence}
use Rattle.task_base.specs.declared.step.Step.{Step}
use Rattle.task_base.specs.declared.step.Step.TheVariants as steps
use Rattle.list_laws.specs.Lists.{holds_of}
use Rattle.list_laws.proofs.Elements.{AllByRecursion-append, AllByRecursion-contains}
use Rattle.script_model.specs.Laws.Sound.{IsRunnerPost, IsStepSound, IsActionSound, IsSound}
use Rattle.task_model.specs.Past.{fold_past}
use Rattle.task_model.specs.Posts.{Posted, posts, posted_by}
use Rattle.task_model.specs.Policies.{is_held}
use Rattle.task_model.specs.Sources.{Candidate, sequence_candidate}
use Rattle.pool_laws.specs.Choice.{IsWaiting, WouldWait}
use Rattle.task_model.proofs.Growth.{posts_push}
use Rattle.pool_laws.proofs.Choice.Candidates.{sequence_in, candidate_would_wait, not_held_is_waiting}
use Rattle.hist_model.specs.Views.{own_entries}
use Rattle.hist_model.specs.Script.{wants}
use Rattle.hist_model.specs.Allowed.{by_script, by_task, enters, may_come}
use Rattle.hist_model.specs.Legal.{IsLegal}
use Rattle.hist_model.specs.Laws.Whole.{sequence_at, WaitsInSequence}
use Rattle.hist_model.specs.Laws.Whole.{IsLeftToWorkers}
use Rattle.hist_model.proofs.Laws.Open.{closed_post}
use Rattle.hist_model.proofs.Laws.Legal.{entry_induction}
use Rattle.hist_model.proofs.Laws.BySound.{wanted_soundly, entered_soundly}

-- the task and the runner are declared
record IsDeclared (script : Plan) (task runner : ℕ) : Type 0 where
  task_declared : task < length script.tasks
  runner_declared : runner < length script.runners

declared : (script : Plan) (task runner t r : ℕ) → eqb task t ≡ true → eqb runner r ≡ true → IsRunnerPost script t r → IsDeclared script task runner
declared script task runner t r same_task same_runner post =
    let task_is : task ≡ t = eqb-true task t same_task in
    let runner_is : runner ≡ r = eqb-true runner r same_runner in
    record { task_declared = omega (arith, task_is, post.task_declared); runner_declared = omega (arith, runner_is, post.runner_declared) }

-- an action posts what is declared
action_posts : (script : Plan) (own : List Entry) (x : Action) (made : List Entry) (task runner delay : ℕ) (ok : Bool) → IsActionSound script x
    → wants own x made (kinds.Post task runner delay ok) ≡ true → IsDeclared script task runner
action_posts script own (actions.Post t r d) made task runner delay ok sound h =
    let outer = and_parts (eqb task t && eqb runner r) (eqb delay d) h in
    let inner = and_parts (eqb task t) (eqb runner r) outer.0 in
    declared script task runner t r inner.0 inner.1 sound.0
action_posts script own x made task runner delay ok sound h = absurd cc

driver_posts : (script : Plan) (past : List Entry) (seat task runner delay : ℕ) (ok : Bool) → IsSound script
    → by_script script past seat (kinds.Post task runner delay ok) ≡ true → IsDeclared script task runner
driver_posts script past seat task runner delay ok sound h =
    let by = wanted_soundly script past seat (kinds.Post task runner delay ok) sound h in
    action_posts script (own_entries 0 past) by.action by.made task runner delay ok by.sound by.wanted

-- so does a step
step_posts : (script : Plan) (of : ℕ) (step : Step) (task runner delay : ℕ) (ok : Bool) → IsStepSound script of step
    → enters of step (kinds.Post task runner delay ok) ≡ true → IsDeclared script task runner
step_posts script of (steps.Post t r d) task runner delay ok sound h =
    let outer = and_parts (eqb task t && eqb runner r) (eqb delay d) h in
    let inner = and_parts (eqb task t) (eqb runner r) outer.0 in
    declared script task runner t r inner.0 inner.1 sound.1
step_posts script of step task runner delay ok sound h = absurd cc

task_posts : (script : Plan) (past : List Entry) (seat task runner delay : ℕ) (ok : Bool) → IsSound script
    → by_task script past seat (kinds.Post task runner delay ok) ≡ true → IsDeclared script task runner
task_posts script past seat task runner delay ok sound h =
    let by = entered_soundly script past seat (kinds.Post task runner delay ok) sound h in
    step_posts script by.now.task by.step task runner delay ok by.sound by.entered

posts_declared : (script : Plan) (past : List Entry) (seat : ℕ) (kind : Kind) → IsSound script → may_come script past seat kind ≡ true
    → AllByRecursion (λ p. IsDeclared script p.task p.home) (posted_by past kind)
unfolding may_come
posts_declared script past seat (kinds.Post task runner delay true) sound may =
    let kind = kinds.Post task runner delay true in
    let wanted = and_parts (by_script script past seat kind || by_task script past seat kind) _
    (sym (closed_post script past seat task runner delay true sound.closed) ∙ may) in (
      ⊎_elim (driver_posts script past seat task runner delay true sound) (task_posts script past seat task runner delay true sound)
          (or_cases (by_script script past seat kind) (by_task script past seat kind) wanted.0),
      tt,
    )
posts_declared script past seat (kinds.Post task runner delay false) sound may = tt
posts_declared script past seat kind sound may = tt

-- each accepted task of the pool is declared, and so is its runner
abbrev AreDeclared : Plan → List Entry → Type 0
AreDeclared script past = AllByRecursion (λ p. IsDeclared script p.task p.home) (posts past)

no_posts : (script : Plan) → AreDeclared script []
unfolding posts fold_past
no_posts script = tt

are_declared : (script : Plan) (log : List Entry) → IsSound script → IsLegal script log → AreDeclared script log
are_declared script log sound = entry_induction script (AreDeclared script) (no_posts script) (λ past e known may all.
    subst (AllByRecursion (λ p. IsDeclared script p.task p.home)) (sym (posts_push past e))
    (AllByRecursion-append (λ p. IsDeclared script p.task p.home) (posts past) (posted_by past e.kind)
    all (posts_declared script past e.seat e.kind sound may))) log

-- so its sequence is one of the script's
sequence_within : (script : Plan) (task runner : ℕ) → IsDeclared script task runner → sequence_of script runner task < sequence_count script
sequence_within script task runner d = by_parallel (holds_of (λ r. is_parallel r.kind) (slice_get script.runners runner))
  where
    by_parallel : (b : Bool) → cond b (length script.runners + task) runner < length script.runners + length script.tasks
    by_parallel true = omega (arith, d.task_declared)
    by_parallel false = omega (arith, d.runner_declared)

left_to_workers : (script : Plan) (log : List Entry) (c : Candidate) → WouldWait script log c → IsLeftToWorkers script log c
left_to_workers script log c would = record { would_wait = would; held_or_waits = by_held (is_held log c.priority) refl }
  where
    by_held : (b : Bool) → is_held log c.priority ≡ b → (is_held log c.priority ≡ true) ⊎ IsWaiting script log c
    by_held true held = inl held
    by_held false free = inr (not_held_is_waiting script log c would free)

-- the sequence of a task that waits is left to the workers, where the script is sound
pub waits_for_workers : (script : Plan) (log : List Entry) (p : Posted) → IsSound script → IsLegal script log → Contains (posts log) p
    → (w : WaitsInSequence script log p) → IsLeftToWorkers script log (sequence_candidate script log (sequence_at script p) w.head)
waits_for_workers script log p sound legal among w =
    let known = AllByRecursion-contains (λ q. IsDeclared script q.task q.home) (posts log) p (are_declared script log sound legal) among in
    let within = sequence_within script p.task p.home known in
    left_to_workers script log (sequence_candidate script log (sequence_at script p) w.head)
    (candidate_would_wait script log (Sequence (sequence_at script p)) (sequence_candidate script log (sequence_at script p) w.head)
    (sequence_in script log (sequence_at script p) within ∙ w.waits))
