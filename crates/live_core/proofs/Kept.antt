-- The tasks that steps post, noted step by step; and the books before anything is done.
-- Cited by `Books::open`, `AtStart`.
use Rattle.std.proofs.Common.{◌≡◌, ℕ, Bool, true, false, eqb, List, [], ◌∷◌, length, refl, sym, ap, ◌∙◌, subst, arith, inl, inr, None, Some, replicate}
use Rattle.std.specs.Prelude.{◌||◌, is_some, slice_set}
use Rattle.std.specs.List.{list_any}
use Rattle.std.proofs.Math.Bool.{or-false, or-true, or_assoc}
use Rattle.std.proofs.lemmas.Bool.{cases_lt, ne_eqb}
use Rattle.std.proofs.lemmas.List.{length-replicate, set_past}
use Rattle.list_laws.proofs.Places.{slice_get-replicate}
use Rattle.list_laws.proofs.Values.{eqb-same}
use Rattle.task_base.specs.Plan.{Plan}
use Rattle.task_base.specs.declared.step.Step.{Step}
use Rattle.task_base.specs.declared.step.Step.TheVariants as steps
use Rattle.task_model.specs.Capacity.{open_scope}
use Rattle.task_model.specs.Jobs.{is_cancelled, job_post_of}
use Rattle.task_model.specs.Past.{fold_past}
use Rattle.task_model.specs.Phase.{phase_of}
use Rattle.task_model.specs.Seats.{holding, running}
use Rattle.task_traits.specs.declared.phase.Phase.TheVariants as phases
use Rattle.hist_model.specs.Open.{is_kept, step_posts, was_posted}
use Rattle.sequence_manager.proofs.Tables.{table_same, table_set}
use Rattle.sequence_manager.specs.Queues.{IsTable}
use Rattle.live_core.specs.Books.{at_seat, fresh_mark, idle, mark_of, mark_step, marked, marked_by}

-- a list of one value is the table that says it everywhere
pub repeats : {A : Type 0} (f : ℕ → A) (count : ℕ) (x : A) → ((i : ℕ) → x ≡ f i) → IsTable f count (replicate count x)
repeats f count x same = record {
  all = length-replicate count x;
  each = λ i less. slice_get-replicate count i x less ∙ ap Some (same i);
}

-- ---- before anything is done

pub seats_at_start : (count : ℕ) → IsTable (at_seat []) count (replicate count idle)
unfolding running holding
seats_at_start count = repeats (at_seat []) count idle (λ seat. refl)

pub scopes_at_start : (count : ℕ) → IsTable (λ task. is_some (open_scope [] task)) count (replicate count false)
unfolding open_scope fold_past
scopes_at_start count = repeats (λ task. is_some (open_scope [] task)) count false (λ task. refl)

pub no_scope_at_start : (task : ℕ) → open_scope [] task ≡ None
unfolding open_scope fold_past
no_scope_at_start task = refl

pub jobs_at_start : (count : ℕ) → IsTable (mark_of []) count (replicate count fresh_mark)
unfolding job_post_of is_cancelled fold_past
jobs_at_start count = repeats (mark_of []) count fresh_mark (λ job. refl)

pub posted_at_start : (count made : ℕ) (posted : List Bool) → made ≡ count → posted ≡ replicate made false → IsTable (was_posted []) count posted
unfolding was_posted
posted_at_start count made posted same is = rw (is, same) (repeats (was_posted []) count false (λ task. refl))

pub phase_at_start : phases.Running ≡ phase_of []
unfolding phase_of
phase_at_start = refl

-- ---- the tasks that steps post

noted : (f : ℕ → Bool) (count : ℕ) (kept : List Bool) (task : ℕ) → IsTable f count kept
    → IsTable (λ t. f t || eqb task t) count (slice_set kept task true)
noted f count kept task table = elim (cases_lt task count) [
  | inl there ↦ table_set f (λ t. f t || eqb task t) count kept task true table there
      (λ other within apart. sym (rw (ne_eqb task other (λ same. apart (sym same))) (or-false (f other))))
      (sym (rw (eqb-same task) (or-true (f task))))
  | inr beyond ↦ subst (IsTable (λ t. f t || eqb task t) count) (sym (set_past kept task true (omega (arith, beyond, table.all))))
      (table_same f (λ t. f t || eqb task t) count kept
      (λ t within. sym (rw (ne_eqb task t (λ same. omega (arith, same, within, beyond))) (or-false (f t)))) table)
]

step_noted : (f : ℕ → Bool) (count : ℕ) (kept : List Bool) (step : Step) → IsTable f count kept
    → IsTable (λ t. f t || step_posts t step) count (mark_step kept step)
step_noted f count kept (steps.Post task runner delay) table = noted f count kept task table
step_noted f count kept (steps.Main task queue delay) table = noted f count kept task table
step_noted f count kept step table = table_same f (λ t. f t || false) count kept (λ t within. sym (or-false (f t))) table

steps_noted : (made : List Step) (f : ℕ → Bool) (count : ℕ) (kept : List Bool) → IsTable f count kept
    → IsTable (λ t. f t || list_any (step_posts t) made) count (marked made kept)
steps_noted [] f count kept table = table_same f (λ t. f t || false) count kept (λ t within. sym (or-false (f t))) table
steps_noted (step ∷ made) f count kept table =
    table_same (λ t. (f t || step_posts t step) || list_any (step_posts t) made) (λ t. f t || list_any (step_posts t) (step ∷ made)) count
    (marked made (mark_step kept step)) (λ t within. or_assoc (f t) (step_posts t step) (list_any (step_posts t) made))
    (steps_noted made (λ t. f t || step_posts t step) count (mark_step kept step) (step_noted f count kept step table))

tasks_noted : (tasks : List (List Step)) (f : ℕ → Bool) (count : ℕ) (kept : List Bool) → IsTable f count kept
    → IsTable (λ t. f t || list_any (λ made. list_any (step_posts t) made) tasks) count (marked_by tasks kept)
tasks_noted [] f count kept table = table_same f (λ t. f t || false) count kept (λ t within. sym (or-false (f t))) table
tasks_noted (made ∷ tasks) f count kept table =
    table_same (λ t. (f t || list_any (step_posts t) made) || list_any (λ xs. list_any (step_posts t) xs) tasks)
    (λ t. f t || list_any (λ xs. list_any (step_posts t) xs) (made ∷ tasks)) count
    (marked_by tasks (marked made kept))
    (λ t within. or_assoc (f t) (list_any (step_posts t) made) (list_any (λ xs. list_any (step_posts t) xs) tasks))
    (tasks_noted tasks (λ t. f t || list_any (step_posts t) made) count (marked made kept) (steps_noted made f count kept table))

all_noted : (plan : Plan) → IsTable (is_kept plan) (length plan.tasks) (marked_by plan.tasks (replicate (length plan.tasks) false))
all_noted plan = tasks_noted plan.tasks (λ t. false) (length plan.tasks) (replicate (length plan.tasks) false)
    (repeats (λ t. false) (length plan.tasks) false (λ t. refl))

-- so of a list that was made of the plan's tasks
pub kept_noted : (plan : Plan) (tasks : List (List Step)) (kept : List Bool) → tasks ≡ plan.tasks
    → kept ≡ marked_by tasks (replicate (length tasks) false) → IsTable (is_kept plan) (length plan.tasks) kept
kept_noted plan tasks kept same is = rw (is, same) (all_noted plan)
