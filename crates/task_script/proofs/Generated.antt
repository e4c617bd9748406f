-- The script that is made from a number and a size is sound.
-- Cited by `generate`, `numbers_behind`, `generator.rt`, `run_summary`.
use Rattle.std.proofs.Common.{◌≡◌, ℕ, zero, suc, ◌+◌, ◌-◌, ◌*◌, ◌<◌, ◌≤◌, Bool, true, false, cond, eqb, List, [], ◌∷◌, ◌++◌, length, take}
use Rattle.std.proofs.Common.{get_or, flat_map, refl, sym, ap, subst, ◌∙◌, inl, inr, Option, Some, arith, append_assoc, length-append}
use Rattle.std.specs.Prelude.{slice_get, IfSome, sum_by}
use Rattle.std.specs.List.{range_with_len, AllByRecursion}
use Rattle.std.proofs.lemmas.Bool.{cases_Bool, eqb-true, eqb-false}
use Rattle.std.proofs.lemmas.List.{append-nil, length-map, length-take-le, take_more}
use Rattle.std.proofs.lemmas.Option.{same_Some}
use Rattle.std.proofs.lemmas.List.Concat.{flat_map-cons}
use Rattle.std.proofs.lemmas.List.Sums.{sum_by-cons}
use Rattle.std.proofs.lemmas.Grind.{flat_map-append}
use Rattle.task_base.specs.Plan.{Plan}
use Rattle.task_base.specs.declared.step.Step.{Step}
use Rattle.task_base.specs.declared.step.Step.TheVariants.{Add}
use Rattle.task_base.specs.declared.script.Action.{Action}
use Rattle.task_base.specs.declared.script.Action.TheVariants.{Post, Main, Pump, Flush, StartJob, Join}
use Rattle.list_laws.proofs.Elements.{AllByRecursion-always, AllByRecursion-append, AllByRecursion-mapped, slice_get_all}
use Rattle.list_laws.proofs.Pigeons.{count_one}
use Rattle.list_laws.proofs.Counts.{count-cons}
use Rattle.list_laws.proofs.Places.{count_none}
use Rattle.list_laws.proofs.Tests.{list_any_none}
use Rattle.script_model.specs.Bound.{events_of_task, events_of_action}
use Rattle.script_model.specs.Laws.Postings.{posts_of_action, times, IsPostedOnce}
use Rattle.script_model.specs.Draft.{opens_scope, is_start_of, is_shutdown, ticks_of}
use Rattle.script_model.specs.Laws.Sound.{IsSound, IsConfigSound, IsWithinLimits, AreDeclarationsSound, AreActionsSound}
use Rattle.script_model.specs.Laws.Sound.{IsDoneOnce, IsTaskSound, IsActionSound, IsInOrder}
use Rattle.script_model.proofs.Laws.Postings.{posts_of_task, posted_parts}
use Rattle.task_script.specs.Generated.{number_behind, numbers_behind, amount_of, goal_of, posting_of, postings_from}
use Rattle.task_script.specs.Generated.{generated_tasks, generated_actions, generated_from, generated}

-- ---- the numbers

-- there are as many numbers as were asked for
pub length-numbers_behind : (x n : ℕ) → length (numbers_behind x n) ≡ n
unfolding numbers_behind
length-numbers_behind x zero = refl
length-numbers_behind x (suc n) = ap suc (length-numbers_behind (number_behind x) n)

-- the numbers that are left begin with the next one
numbers_left : (x n i : ℕ) → i < n → numbers_behind x (n - i) ≡ number_behind x ∷ numbers_behind (number_behind x) (n - (i + 1))
unfolding numbers_behind
numbers_left x n i below = let e : n - i ≡ suc (n - (i + 1)) = omega arith in rw e refl

-- one more number at the end, against the numbers that are left
pub numbers_more : (done : List ℕ) (x n i : ℕ) → i < n
    → (done ++ number_behind x ∷ []) ++ numbers_behind (number_behind x) (n - (i + 1)) ≡ done ++ numbers_behind x (n - i)
numbers_more done x n i below = rw (append_assoc, numbers_left x n i below) refl

-- where none is left, all are there
pub numbers_done : (done : List ℕ) (x n i : ℕ) → n ≤ i → done ++ numbers_behind x (n - i) ≡ done
unfolding numbers_behind
numbers_done done x n i none = let e : n - i ≡ 0 = omega arith in rw (e, append-nil) refl

-- ---- elements that are alike

-- a sum over elements that each give the same
sum_alike : {A : Type 0} (f : A → ℕ) (k : ℕ) (xs : List A) → AllByRecursion (λ x. f x ≡ k) xs → sum_by f xs ≡ k * length xs
sum_alike f k [] all = omega arith
sum_alike f k (x ∷ xs) all = omega (arith, sum_by-cons f x xs, all.0, sum_alike f k xs all.1)

-- ---- the tasks

-- what holds of a task that adds an amount holds of each
tasks_all : (P : List Step → Type 0) (xs : List ℕ) → ((x : ℕ) → P (Add (amount_of x) ∷ [])) → AllByRecursion P (generated_tasks xs)
tasks_all P xs each = AllByRecursion-mapped P (λ x. Add (amount_of x) ∷ []) xs (AllByRecursion-always (λ x. P (Add (amount_of x) ∷ [])) xs each)

-- no task opens a scope
no_scope : (xs : List ℕ) (t : ℕ) → opens_scope (generated_tasks xs) t ≡ false
no_scope [] t = refl
no_scope (x ∷ xs) zero = refl
no_scope (x ∷ xs) (suc t) = no_scope xs t

-- no task posts one
tasks_post_none : (xs : List ℕ) → flat_map posts_of_task (generated_tasks xs) ≡ []
tasks_post_none [] = refl
tasks_post_none (x ∷ xs) = rw (flat_map-cons posts_of_task (Add (amount_of x) ∷ []) (generated_tasks xs)) (tasks_post_none xs)

-- each task is sound
task_sound : (script : Plan) (t x : ℕ) → IsTaskSound script t (Add (amount_of x) ∷ [])
task_sound script t x = record { steps_within = (omega arith, tt); steps_sound = (tt, tt); scopes_in_turn = refl }

-- ---- the posts of the tasks

-- what holds of a post to the main queue and of one to each of the four runners holds of the post of a task
posting_is : (P : Action → Type 0) (t x : ℕ) → P (Main t 0 0) → ((r : ℕ) → r < 4 → P (Post t r 0)) → P (posting_of t x)
posting_is P t x main post = elim (cases_Bool (eqb (goal_of x) 4)) [
  | inl is ↦ rw is main
  | inr is ↦ let other = eqb-false (goal_of x) 4 is in rw is (post (goal_of x) (omega (arith, other)))
]

-- so it does of the posts of all tasks
postings_all : (P : Action → Type 0) (t : ℕ) (xs : List ℕ) → ((u : ℕ) → u < t + length xs → P (Main u 0 0))
    → ((u r : ℕ) → u < t + length xs → r < 4 → P (Post u r 0)) → AllByRecursion P (postings_from t xs)
postings_all P t [] main post = tt
postings_all P t (x ∷ xs) main post = (
  posting_is P t x (main t (omega arith)) (λ r few. post t r (omega arith) few),
  postings_all P (t + 1) xs (λ u below. main u (omega (arith, below))) (λ u r below few. post u r (omega (arith, below)) few),
)

-- with one more number there is one more post
postings_push : (t : ℕ) (xs : List ℕ) (x : ℕ) → postings_from t (xs ++ x ∷ []) ≡ postings_from t xs ++ posting_of (t + length xs) x ∷ []
postings_push t [] x = ap (λ (u : ℕ). posting_of u x ∷ []) (omega arith)
postings_push t (y ∷ ys) x =
    let e : t + 1 + length ys ≡ t + suc (length ys) = omega arith in
    ap (λ (actions : List Action). posting_of t y ∷ actions) (postings_push (t + 1) ys x ∙ ap (λ (u : ℕ). postings_from (t + 1) ys ++ posting_of u x ∷ []) e)

-- so there is behind the numbers that a loop has passed
pub postings_more : (xs : List ℕ) (i d : ℕ) → i < length xs
    → postings_from 0 (take (i + 1) xs) ≡ postings_from 0 (take i xs) ++ posting_of i (get_or xs i d) ∷ []
postings_more xs i d below =
    let long : length (take i xs) ≡ i = length-take-le i xs (omega arith) in
    let place : 0 + length (take i xs) ≡ i = omega (arith, long) in
    ap (postings_from 0) (take_more xs i d below) ∙ postings_push 0 (take i xs) (get_or xs i d)
    ∙ ap (λ (u : ℕ). postings_from 0 (take i xs) ++ posting_of u (get_or xs i d) ∷ []) place

-- there is a post for each task
length-postings_from : (t : ℕ) (xs : List ℕ) → length (postings_from t xs) ≡ length xs
length-postings_from t [] = refl
length-postings_from t (x ∷ xs) = ap suc (length-postings_from (t + 1) xs)

-- they post the tasks in order
pub tasks_posted : (t : ℕ) (xs : List ℕ) → flat_map posts_of_action (postings_from t xs) ≡ range_with_len t (length xs)
tasks_posted t [] = refl
tasks_posted t (x ∷ xs) =
    let one : posts_of_action (posting_of t x) ≡ t ∷ [] = posting_is (λ a. posts_of_action a ≡ t ∷ []) t x refl (λ r few. refl) in
    rw (flat_map-cons posts_of_action (posting_of t x) (postings_from (t + 1) xs), one) (ap (λ (us : List ℕ). t ∷ us) (tasks_posted (t + 1) xs))

-- ---- the actions

-- what holds of each sort of action holds of all behind the start of the job
rest_all : (P : Action → Type 0) (size : ℕ) (xs : List ℕ) → ((u : ℕ) → u < length xs → P (Main u 0 0))
    → ((u r : ℕ) → u < length xs → r < 4 → P (Post u r 0)) → P (Pump size) → P (Join 0) → P Flush
    → AllByRecursion P (postings_from 0 xs ++ Pump size ∷ Join 0 ∷ Flush ∷ [])
rest_all P size xs main post pump join flush = AllByRecursion-append P (postings_from 0 xs) (Pump size ∷ Join 0 ∷ Flush ∷ [])
    (postings_all P 0 xs (λ u below. main u (omega (arith, below))) (λ u r below few. post u r (omega (arith, below)) few))
    (pump, (join, (flush, tt)))

-- there are four actions beside the posts
length-actions : (size : ℕ) (xs : List ℕ) → length (generated_actions size xs) ≡ length xs + 4
length-actions size xs =
    let parts = length-append (postings_from 0 xs) (Pump size ∷ Join 0 ∷ Flush ∷ []) in
    omega (arith, parts, length-postings_from 0 xs)

-- they post each task, in order
actions_post : (size : ℕ) (xs : List ℕ) → flat_map posts_of_action (generated_actions size xs) ≡ range_with_len 0 (length xs)
actions_post size xs = rw (
  flat_map-cons posts_of_action (StartJob 0) (postings_from 0 xs ++ Pump size ∷ Join 0 ∷ Flush ∷ []),
  flat_map-append posts_of_action (postings_from 0 xs) (Pump size ∷ Join 0 ∷ Flush ∷ []),
  append-nil (flat_map posts_of_action (postings_from 0 xs)),
) (tasks_posted 0 xs)

-- ---- the script

-- the configuration is in its ranges
config_sound : (size : ℕ) (xs : List ℕ) → IsConfigSound (generated_from size xs)
config_sound size xs = record {
  some_workers = omega arith;
  few_workers = omega arith;
  some_foreground = omega arith;
  few_foreground = omega arith;
  some_best = omega arith;
  best_within = omega arith;
  few_background = omega arith;
  threshold_within = omega arith;
}

-- no limit is passed
limits_kept : (size : ℕ) (xs : List ℕ) → length xs ≡ size → size ≤ 8192 → IsWithinLimits (generated_from size xs)
limits_kept size xs long few =
    let tasks = length-map xs (λ (x : ℕ). Add (amount_of x) ∷ []) in
    let steps = sum_alike (λ (steps : List Step). length steps) 1 (generated_tasks xs) (tasks_all (λ steps. length steps ≡ 1) xs (λ x. refl)) in
    let task_events = sum_alike events_of_task 2 (generated_tasks xs) (tasks_all (λ steps. events_of_task steps ≡ 2) xs (λ x. refl)) in
    let ticks = sum_alike ticks_of 0 (generated_actions size xs)
    (refl, rest_all (λ a. ticks_of a ≡ 0) size xs (λ u below. refl) (λ u r below runner. refl) refl refl refl) in
    let action_events = sum_alike events_of_action 1 (generated_actions size xs)
    (refl, rest_all (λ a. events_of_action a ≡ 1) size xs (λ u below. refl) (λ u r below runner. refl) refl refl refl) in
    let actions = length-actions size xs in
    record {
      few_runners = omega arith;
      few_queues = omega arith;
      few_tasks = omega (arith, tasks, long);
      few_jobs = omega arith;
      few_items = omega arith;
      few_steps = omega (arith, steps, tasks, long);
      few_ticks = omega (arith, ticks);
      few_events = omega (arith, task_events, tasks, action_events, actions, long);
    }

-- all that is declared is sound
declarations_sound : (size : ℕ) (xs : List ℕ) → size ≤ 8192 → AreDeclarationsSound (generated_from size xs)
declarations_sound size xs few =
    let script = generated_from size xs in
    record {
      seats_there = (tt, (tt, (tt, (tt, tt))));
      queues_within = (record { class_within = omega arith; voters_within = omega arith }, tt);
      tasks_sound = λ t steps is. subst (λ (o : Option (List Step)). IfSome o (IsTaskSound script t)) is
          (slice_get_all (IsTaskSound script t) (generated_tasks xs) t (tasks_all (IsTaskSound script t) xs (task_sound script t)));
      jobs_sound = (
        record {
          items_within = omega arith;
          some_cap = omega arith;
          cap_within = omega arith;
          steps_within = (omega arith, (omega arith, tt));
          steps_compute = refl;
        },
        tt,
      );
    }

-- all that is done is sound, and in order
actions_sound : (size : ℕ) (xs : List ℕ) → length xs ≡ size → 1 ≤ size → size ≤ 8192 → AreActionsSound (generated_from size xs)
actions_sound size xs long some few =
    let script = generated_from size xs in
    let tasks = length-map xs (λ (x : ℕ). Add (amount_of x) ∷ []) in
    record {
      each_sound = (
        omega arith,
        rest_all (IsActionSound script) size xs
            (λ u below. (record { task_declared = omega (arith, tasks, below); queue_declared = omega arith; no_scope = no_scope xs u }, omega arith))
            (λ u r below runner. (
              record {
                task_declared = omega (arith, tasks, below);
                runner_declared = omega (arith, runner);
                may_block = λ opens. let shut = no_scope xs u in absurd cc;
              },
              omega arith,
            )) (some, omega (arith, few)) (omega arith) tt,
      );
      in_order = in_turn;
    }
  where
    follows : AllByRecursion (λ a. (earlier : List Action) → IsInOrder (StartJob 0 ∷ earlier) a) (postings_from 0 xs ++ Pump size ∷ Join 0 ∷ Flush ∷ [])
    follows = rest_all (λ a. (earlier : List Action) → IsInOrder (StartJob 0 ∷ earlier) a) size xs
        (λ u below earlier. tt) (λ u r below runner earlier. tt) (λ earlier. tt) (λ earlier. refl) (λ earlier. tt)

    in_turn : (k : ℕ) (action : Action) → slice_get (generated_actions size xs) k ≡ Some action → IsInOrder (take k (generated_actions size xs)) action
    in_turn zero action is = subst (IsInOrder []) (same_Some (StartJob 0) action is) refl
    in_turn (suc k) action is =
        let rest = postings_from 0 xs ++ Pump size ∷ Join 0 ∷ Flush ∷ [] in
        subst (λ (o : Option Action). IfSome o (λ a. (earlier : List Action) → IsInOrder (StartJob 0 ∷ earlier) a)) is
        (slice_get_all (λ a. (earlier : List Action) → IsInOrder (StartJob 0 ∷ earlier) a) rest k follows) (take k rest)

-- no two posts name one task
posted_once : (size : ℕ) (xs : List ℕ) → IsPostedOnce (generated_from size xs)
posted_once size xs t =
    let parts = posted_parts (generated_from size xs) t in
    let of_tasks : times t (flat_map posts_of_task (generated_tasks xs)) ≡ 0 = ap (times t) (tasks_post_none xs) in
    let of_actions = ap (times t) (actions_post size xs) in
    let one = count_one (λ u. eqb u t) 0 (length xs) (λ i j at also. eqb-true i t at ∙ sym (eqb-true j t also)) in
    omega (arith, parts, of_tasks, of_actions, one)

-- the job is started once, and shutdown not at all
done_once : (size : ℕ) (xs : List ℕ) → IsDoneOnce (generated_from size xs)
done_once size xs =
    let rest = postings_from 0 xs ++ Pump size ∷ Join 0 ∷ Flush ∷ [] in
    record {
      posted_once = posted_once size xs;
      started_once = λ j.
          let none = count_none (is_start_of j) rest (list_any_none (is_start_of j) rest
          (rest_all (λ a. is_start_of j a ≡ false) size xs (λ u below. refl) (λ u r below runner. refl) refl refl refl)) in
          let one = count-cons (is_start_of j) (StartJob 0) rest in
          omega (arith, none, one, at_most_one (is_start_of j (StartJob 0)));
      one_shutdown =
          let none = count_none is_shutdown (StartJob 0 ∷ rest) (list_any_none is_shutdown (StartJob 0 ∷ rest)
          (refl, rest_all (λ a. is_shutdown a ≡ false) size xs (λ u below. refl) (λ u r below runner. refl) refl refl refl)) in
          omega (arith, none);
    }
  where
    at_most_one : (b : Bool) → cond b 1 0 ≤ 1
    at_most_one true = omega arith
    at_most_one false = omega arith

-- the script of a number and so many tasks is sound
pub generated_sound : (number size : ℕ) → 1 ≤ size → size ≤ 8192 → IsSound (generated number size)
unfolding generated
generated_sound number size some few =
    let xs = numbers_behind number size in
    let long = length-numbers_behind number size in
    record {
      closed = refl;
      config = config_sound size xs;
      limits = limits_kept size xs long few;
      declarations = declarations_sound size xs few;
      actions = actions_sound size xs long some few;
      once = done_once size xs;
    }
