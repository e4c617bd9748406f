-- What one more entry does to each notion of the past.
-- Cited by `env_core`, `env_crew`, `env_shared`, `env_step`, `hist_model`, `live_core`, `log_context`, `log_count`, `nested_loop`,
-- `next_entry`, `past_lookup`, `pool_core`, `pool_laws`, `queue_laws`, `run_summary`, `sequence_manager`, `simulation`, `situation`,
-- `task_reply`.
use Rattle.std.proofs.Common.{◌≡◌, ℕ, ◌+◌, ◌%◌, ◌^◌, Bool, true, false, cond, eqb, List, [], ◌∷◌, ◌++◌, length, refl, sym, ap, ◌∙◌, append_assoc, None}
use Rattle.std.specs.Prelude.{◌||◌, is_some, slice_get, filter}
use Rattle.std.specs.List.{list_any}
use Rattle.std.specs.Option.{option_map_or}
use Rattle.std.proofs.Math.Bool.{or-false}
use Rattle.std.proofs.lemmas.List.{append-nil, length-append}
use Rattle.std.proofs.lemmas.List.Elements.{filter-append}
use Rattle.std.proofs.lemmas.List.Folds.{list_any-append}
use Rattle.std.proofs.lemmas.List.Sums.{fold-append}
use Rattle.task_base.specs.Plan.{Plan}
use Rattle.task_base.specs.declared.entry.Entry.{Entry}
use Rattle.task_base.specs.declared.entry.Kind.{Kind}
use Rattle.task_base.specs.declared.policy.Policy.TheVariants as policies
use Rattle.task_traits.specs.declared.phase.Phase.TheVariants as phases
use Rattle.list_laws.specs.Lists.{count}
use Rattle.task_model.specs.Past.{fold_past, fold_past_from}
use Rattle.task_model.specs.Time.{now_of, now_after}
use Rattle.task_model.specs.Posts.{posts, posted_by, main_posts, main_posted_by, is_taken, takes, is_ended}
use Rattle.task_model.specs.Posts.{ends, is_main_taken, main_takes}
use Rattle.task_model.specs.Phase.{phase_of, phase_after}
use Rattle.task_model.specs.Policies.{policy_of, policy_after}
use Rattle.task_model.specs.Refusal.{is_closed, closes}
use Rattle.task_model.specs.Seats.{running, running_after, holding, holding_after, acts_done, acts_after}
use Rattle.task_model.specs.Cells.{cell_of, cell_after, main_cell_of, main_cell_after}
use Rattle.task_model.specs.Capacity.{declared_priority, priority_of, priority_after, taken_with, taken_after, open_scope, scope_after}
use Rattle.task_model.specs.Jobs.{job_post_of, job_post_after, is_cancelled, cancels, claimed, claims, done, value_by, job_sum}
use Rattle.task_model.specs.Orders.{draws, drawn_by}
use Rattle.task_model.specs.MainQueues.{fence_of, fence_after, votes_on, vote_after, class_of, class_after, streak_of, streak_after}

fold_past_from-push : {A : Type 0} (step : List Entry → A → Entry → A) (before : List Entry) (value : A) (rest : List Entry) (e : Entry)
    → fold_past_from step before value (rest ++ e ∷ []) ≡ step (before ++ rest) (fold_past_from step before value rest) e
fold_past_from-push step before value [] e = ap (λ b. step b value e) (sym (append-nil before))
fold_past_from-push step before value (x ∷ rest) e =
    fold_past_from-push step (before ++ x ∷ []) (step before value x) rest e
    ∙ ap (λ b. step b (fold_past_from step (before ++ x ∷ []) (step before value x) rest) e) (append_assoc before (x ∷ []) rest)

pub fold_past-push : {A : Type 0} (step : List Entry → A → Entry → A) (start : A) (past : List Entry) (e : Entry)
    → fold_past step start (past ++ e ∷ []) ≡ step past (fold_past step start past) e
unfolding fold_past
fold_past-push step start past e = fold_past_from-push step [] start past e

-- a test that some entry passes
pub any-push : (test : Kind → Bool) (past : List Entry) (e : Entry)
    → list_any (λ x. test x.kind) (past ++ e ∷ []) ≡ (list_any (λ x. test x.kind) past || test e.kind)
any-push test past e = list_any-append (λ x. test x.kind) past (e ∷ []) ∙ ap (λ b. list_any (λ x. test x.kind) past || b) (or-false (test e.kind))

-- how many entries pass a test
count-push : (test : Kind → Bool) (past : List Entry) (e : Entry)
    → count (λ x. test x.kind) (past ++ e ∷ []) ≡ count (λ x. test x.kind) past + cond (test e.kind) 1 0
count-push test past e = ap length (filter-append (λ x. test x.kind) past (e ∷ []))
    ∙ length-append (filter (λ x. test x.kind) past) (filter (λ x. test x.kind) (e ∷ [])) ∙ ap (λ n. count (λ x. test x.kind) past + n) (one (test e.kind))
  where
    one : (b : Bool) → length (cond b (e ∷ []) []) ≡ cond b 1 0
    one true = refl
    one false = refl

pub now_of_push : (past : List Entry) (e : Entry) → now_of (past ++ e ∷ []) ≡ now_after (now_of past) e.kind
unfolding now_of
now_of_push past e = fold-append (λ now x. now_after now x.kind) 0 past (e ∷ [])

pub posts_push : (past : List Entry) (e : Entry) → posts (past ++ e ∷ []) ≡ posts past ++ posted_by past e.kind
unfolding posts
posts_push past e = fold_past-push (λ before known x. known ++ posted_by before x.kind) [] past e

pub main_posts_push : (past : List Entry) (e : Entry) → main_posts (past ++ e ∷ []) ≡ main_posts past ++ main_posted_by past e.kind
unfolding main_posts
main_posts_push past e = fold_past-push (λ before known x. known ++ main_posted_by before x.kind) [] past e

pub is_taken_push : (past : List Entry) (e : Entry) (t : ℕ) → is_taken (past ++ e ∷ []) t ≡ (is_taken past t || takes t e.kind)
unfolding is_taken
is_taken_push past e t = any-push (takes t) past e

pub is_ended_push : (past : List Entry) (e : Entry) (t : ℕ) → is_ended (past ++ e ∷ []) t ≡ (is_ended past t || ends t e.kind)
unfolding is_ended
is_ended_push past e t = any-push (ends t) past e

pub is_main_taken_push : (past : List Entry) (e : Entry) (t : ℕ) → is_main_taken (past ++ e ∷ []) t ≡ (is_main_taken past t || main_takes t e.kind)
unfolding is_main_taken
is_main_taken_push past e t = any-push (main_takes t) past e

pub phase_of_push : (past : List Entry) (e : Entry) → phase_of (past ++ e ∷ []) ≡ phase_after (phase_of past) e.kind
unfolding phase_of
phase_of_push past e = fold-append (λ now x. phase_after now x.kind) phases.Running past (e ∷ [])

pub policy_of_push : (past : List Entry) (e : Entry) → policy_of (past ++ e ∷ []) ≡ policy_after (policy_of past) e.kind
unfolding policy_of
policy_of_push past e = fold-append (λ now x. policy_after now x.kind) policies.All past (e ∷ [])

pub is_closed_push : (past : List Entry) (e : Entry) (q : ℕ) → is_closed (past ++ e ∷ []) q ≡ (is_closed past q || closes q e.kind)
unfolding is_closed
is_closed_push past e q = any-push (closes q) past e

pub running_push : (past : List Entry) (e : Entry) (seat : ℕ)
    → running (past ++ e ∷ []) seat ≡ cond (eqb e.seat seat) (running_after (running past seat) e.kind) (running past seat)
unfolding running
running_push past e seat = fold-append (λ now x. cond (eqb x.seat seat) (running_after now x.kind) now) None past (e ∷ [])

pub holding_push : (past : List Entry) (e : Entry) (seat : ℕ)
    → holding (past ++ e ∷ []) seat ≡ cond (eqb e.seat seat) (holding_after (holding past seat) e.kind) (holding past seat)
unfolding holding
holding_push past e seat = fold-append (λ now x. cond (eqb x.seat seat) (holding_after now x.kind) now) None past (e ∷ [])

pub acts_done_push : (past : List Entry) (e : Entry) (seat : ℕ)
    → acts_done (past ++ e ∷ []) seat ≡ cond (eqb e.seat seat) (acts_after (acts_done past seat) e.kind) (acts_done past seat)
unfolding acts_done
acts_done_push past e seat = fold-append (λ now x. cond (eqb x.seat seat) (acts_after now x.kind) now) 0 past (e ∷ [])

pub cell_of_push : (script : Plan) (past : List Entry) (e : Entry) (s : ℕ)
    → cell_of script (past ++ e ∷ []) s ≡ cell_after script s past (cell_of script past s) e.seat e.kind
unfolding cell_of
cell_of_push script past e s = fold_past-push (λ before value x. cell_after script s before value x.seat x.kind) 0 past e

pub main_cell_of_push : (past : List Entry) (e : Entry) (q : ℕ) → main_cell_of (past ++ e ∷ []) q ≡ main_cell_after q past (main_cell_of past q) e.seat e.kind
unfolding main_cell_of
main_cell_of_push past e q = fold_past-push (λ before value x. main_cell_after q before value x.seat x.kind) 0 past e

pub priority_of_push : (script : Plan) (past : List Entry) (e : Entry) (runner : ℕ)
    → priority_of script (past ++ e ∷ []) runner ≡ priority_after runner (priority_of script past runner) e.kind
unfolding priority_of
priority_of_push script past e runner = fold-append (λ now x. priority_after runner now x.kind) (declared_priority script runner) past (e ∷ [])

pub taken_with_push : (script : Plan) (past : List Entry) (e : Entry) (seat : ℕ) → taken_with script (past ++ e ∷ []) seat
    ≡ cond (eqb e.seat seat) (taken_after script past (taken_with script past seat) e.kind) (taken_with script past seat)
unfolding taken_with
taken_with_push script past e seat =
    fold_past-push (λ before now x. cond (eqb x.seat seat) (taken_after script before now x.kind) now) None past e

pub open_scope_push : (past : List Entry) (e : Entry) (t : ℕ) → open_scope (past ++ e ∷ []) t ≡ scope_after t past (open_scope past t) e.kind
unfolding open_scope
open_scope_push past e t = fold_past-push (λ before now x. scope_after t before now x.kind) None past e

pub job_post_of_push : (past : List Entry) (e : Entry) (j : ℕ) → job_post_of (past ++ e ∷ []) j ≡ job_post_after j past (job_post_of past j) e.kind
unfolding job_post_of
job_post_of_push past e j = fold_past-push (λ before now x. job_post_after j before now x.kind) None past e

pub is_cancelled_push : (past : List Entry) (e : Entry) (j : ℕ) → is_cancelled (past ++ e ∷ []) j ≡ (is_cancelled past j || cancels j e.kind)
unfolding is_cancelled
is_cancelled_push past e j = any-push (cancels j) past e

pub claimed_push : (past : List Entry) (e : Entry) (j : ℕ) → claimed (past ++ e ∷ []) j ≡ claimed past j + cond (claims j e.kind) 1 0
unfolding claimed
claimed_push past e j = count-push (claims j) past e

pub done_push : (past : List Entry) (e : Entry) (j : ℕ) → done (past ++ e ∷ []) j ≡ done past j + cond (is_some (value_by j e.kind)) 1 0
unfolding done
done_push past e j = count-push (λ kind. is_some (value_by j kind)) past e

pub job_sum_push : (past : List Entry) (e : Entry) (j : ℕ) → job_sum (past ++ e ∷ []) j
    ≡ option_map_or (λ value. (job_sum past j + value) % 2 ^ 64) (value_by j e.kind) (job_sum past j)
unfolding job_sum
job_sum_push past e j = fold-append (λ sum x. option_map_or (λ value. (sum + value) % 2 ^ 64) (value_by j x.kind) sum) 0 past (e ∷ [])

pub draws_push : (past : List Entry) (e : Entry) → draws (past ++ e ∷ []) ≡ draws past + drawn_by past e.kind
unfolding draws
draws_push past e = fold_past-push (λ before n x. n + drawn_by before x.kind) 0 past e

pub fence_of_push : (past : List Entry) (e : Entry) (q : ℕ) → fence_of (past ++ e ∷ []) q ≡ fence_after q past (fence_of past q) e.kind
unfolding fence_of
fence_of_push past e q = fold_past-push (λ before now x. fence_after q before now x.kind) None past e

pub votes_on_push : (past : List Entry) (e : Entry) (q v : ℕ) → votes_on (past ++ e ∷ []) q v ≡ vote_after q v (votes_on past q v) e.kind
unfolding votes_on
votes_on_push past e q v = fold-append (λ now x. vote_after q v now x.kind) true past (e ∷ [])

pub class_of_push : (script : Plan) (past : List Entry) (e : Entry) (q : ℕ) → class_of script (past ++ e ∷ []) q ≡ class_after q (class_of script past q) e.kind
unfolding class_of
class_of_push script past e q = fold-append (λ now x. class_after q now x.kind) (option_map_or (λ queue. queue.class) (slice_get script.queues q) 0) past
    (e ∷ [])

pub streak_of_push : (script : Plan) (past : List Entry) (e : Entry)
    → streak_of script (past ++ e ∷ []) ≡ streak_after script past (streak_of script past) e.kind
unfolding streak_of
streak_of_push script past e = fold_past-push (λ before n x. streak_after script before n x.kind) 0 past e
