-- The generated scripts are such scripts: what a script of a number and a size posts, and what its tasks add.
-- Cited by `Tasks`.
use Rattle.task_script.proofs.Generated.{length-numbers_behind, tasks_posted}
use Rattle.std.proofs.Common.{◌≡◌, ℕ, zero, suc, ◌+◌, ◌*◌, ◌/◌, ◌^◌, ◌<◌, ◌≤◌, Bool, true, false, cond, eqb, List, []}
use Rattle.std.proofs.Common.{◌∷◌, ◌++◌, length, map, refl, sym, ap, ◌∙◌, Option, Some, None, arith, add-one}
use Rattle.std.specs.Prelude.{flat_map, slice_get, sum_by}
use Rattle.std.specs.List.{list_any, range_with_len}
use Rattle.std.specs.Option.{option_map, option_map_or}
use Rattle.std.proofs.Math.Nat.{mod-eq_of_lt, mod-lt}
use Rattle.std.proofs.lemmas.Bool.{eqb-true, eqb-false, or_right}
use Rattle.std.proofs.lemmas.List.{length-map}
use Rattle.std.proofs.lemmas.List.Concat.{flat_map-append}
use Rattle.std.proofs.lemmas.List.Folds.{list_any-append}
use Rattle.std.proofs.lemmas.List.Sums.{sum_by-cons}
use Rattle.std.proofs.lemmas.Option.{slice_get-map}
use Rattle.task_base.specs.Steps.{after}
use Rattle.task_base.specs.Runners.{seat_of}
use Rattle.task_base.specs.declared.step.Step.{Step}
use Rattle.task_base.specs.declared.step.Step.TheVariants.{Add}
use Rattle.task_base.specs.declared.script.Action.{Action}
use Rattle.task_base.specs.declared.script.Action.TheVariants as actions
use Rattle.list_laws.proofs.Counts.{filter_length_congr}
use Rattle.list_laws.proofs.Pigeons.{count_one}
use Rattle.list_laws.proofs.Ranges.{range_with}
use Rattle.list_laws.proofs.Values.{eqb-turned}
use Rattle.script_model.specs.Laws.Postings.{posts_of_step, posts_of_action, postings, times, IsPostedOnce}
use Rattle.task_model.specs.Seats.{steps_of}
use Rattle.task_script.specs.Generated.{numbers_behind, amount_of, goal_of, posting_of, postings_from, generated}
use Rattle.hist_model.specs.Laws.Consistent.{is_pump}
use Rattle.hist_model.proofs.Laws.Postings.Driver.{times-append, actions_post}
use Rattle.run_summary.proofs.Calm.{generated_is_calm}
use Rattle.run_summary.proofs.Tasks.Driver.{IsPlain, ArePlain}
use Rattle.run_summary.proofs.Tasks.Adding.{AddsUp}
use Rattle.run_summary.proofs.Tasks.Rows.{sum_same}

-- ---- the numbers

-- what the task of a place adds, by the numbers
abbrev pub amount_at : List ℕ → ℕ → ℕ
amount_at numbers t = option_map_or amount_of (slice_get numbers t) 0

-- ---- the posts

-- a list with something in it is not empty
not_nothing : {A : Type 0} (xs : List A) (y : A) (ys : List A) → xs ++ y ∷ ys ≡ [] → ⊥
not_nothing [] y ys h = absurd cc
not_nothing (x ∷ xs) y ys h = absurd cc

-- a goal that is no main queue is one of four runners
one_of_four : (x : ℕ) → (goal_of x ≡ 4 → ⊥) → goal_of x < 4
one_of_four x other = let below : goal_of x < 5 = mod-lt (x / 2 ^ 33) (omega arith) in omega (arith, below, other)

-- a post of a generated script is plain
plain_posting : (size t x : ℕ) (rest : List Action) → t < size → (rest ≡ [] → ⊥) → IsPlain size (posting_of t x) rest
plain_posting size t x rest below more = by_goal (eqb (goal_of x) 4) refl
  where
    by_goal : (b : Bool) → eqb (goal_of x) 4 ≡ b → IsPlain size (cond b (actions.Main t 0 0) (actions.Post t (goal_of x) 0)) rest
    by_goal true is = (below, refl, refl, more)
    by_goal false is = (below, one_of_four x (eqb-false (goal_of x) 4 is), refl, more)

-- so are all of them, before plain actions
plain_postings : (size t : ℕ) (xs : List ℕ) (y : Action) (ys : List Action) → t + length xs ≤ size → ArePlain size (y ∷ ys)
    → ArePlain size (postings_from t xs ++ y ∷ ys)
plain_postings size t [] y ys within plain = plain
plain_postings size t (x ∷ xs) y ys within plain = (
  plain_posting size t x (postings_from (t + 1) xs ++ y ∷ ys) (omega (arith, within)) (not_nothing (postings_from (t + 1) xs) y ys),
  plain_postings size (t + 1) xs y ys (omega (arith, within)) plain,
)

-- each number of a row stands in it once
times_in_row : (t len : ℕ) → t < len → times t (range_with_len 0 len) ≡ 1
times_in_row t len below = filter_length_congr (λ u. eqb u t) (λ u. eqb t u) (range_with_len 0 len) (λ u. eqb-turned u t)
    ∙ range_with t 0 len (omega arith) (omega (arith, below))

-- and no number stands in it twice
once_in_row : (t len : ℕ) → times t (range_with_len 0 len) ≤ 1
once_in_row t len = count_one (λ u. eqb u t) 0 len (λ i j one other. eqb-true i t one ∙ sym (eqb-true j t other))

-- the actions of a generated script post each task once
generated_posts : (number size t : ℕ) → actions_post t (generated number size).actions ≡ times t (range_with_len 0 size)
unfolding generated
generated_posts number size t = ap (times t) (flat_map-append posts_of_action (postings_from 0 (numbers_behind number size))
    (actions.Pump size ∷ actions.Join 0 ∷ actions.Flush ∷ []))
    ∙ times-append t (flat_map posts_of_action (postings_from 0 (numbers_behind number size))) []
    ∙ omega (
      arith,
      ap (times t) (tasks_posted 0 (numbers_behind number size)),
      ap (λ n. times t (range_with_len 0 n)) (length-numbers_behind number size),
    )

-- and its tasks post none
steps_post_none : (numbers : List ℕ) → flat_map (λ steps. flat_map posts_of_step steps) (map (λ x. Add (amount_of x) ∷ []) numbers) ≡ []
steps_post_none [] = refl
steps_post_none (x ∷ numbers) = steps_post_none numbers

-- so no task is posted twice
generated_posts_once : (number size : ℕ) → IsPostedOnce (generated number size)
unfolding generated postings
generated_posts_once number size t = omega (
  arith,
  times-append t (flat_map posts_of_action (generated number size).actions)
      (flat_map (λ steps. flat_map posts_of_step steps) (map (λ x. Add (amount_of x) ∷ []) (numbers_behind number size))),
  ap (times t) (steps_post_none (numbers_behind number size)),
  generated_posts number size t,
  once_in_row t size,
)

-- there is a pump
generated_pumps : (number size : ℕ) → list_any is_pump (generated number size).actions ≡ true
unfolding generated
generated_pumps number size = list_any-append is_pump (postings_from 0 (numbers_behind number size)) (actions.Pump size ∷ actions.Join 0 ∷ actions.Flush ∷ [])
    ∙ or_right (list_any is_pump (postings_from 0 (numbers_behind number size))) true refl

-- ---- what the tasks add

-- a task of a generated script adds its amount
generated_adds : (number size t found : ℕ) → found + amount_at (numbers_behind number size) t < 2 ^ 64
    → after (steps_of (generated number size) t) found ≡ found + amount_at (numbers_behind number size) t
unfolding generated
generated_adds number size t found below =
    ap (λ o. after (option_map_or (λ (steps : List Step). steps) o []) found) (slice_get-map (λ x. Add (amount_of x) ∷ []) (numbers_behind number size) t)
    ∙ by_number (slice_get (numbers_behind number size) t) below
  where
    by_number : (o : Option ℕ) → found + option_map_or amount_of o 0 < 2 ^ 64
        → after (option_map_or (λ (steps : List Step). steps) (option_map (λ x. Add (amount_of x) ∷ []) o) []) found ≡ found + option_map_or amount_of o 0
    by_number None less = omega arith
    by_number (Some x) less = mod-eq_of_lt less

-- a sum over the places behind the first is one over the places of the rest
sum_shifted : (f : ℕ → ℕ) (start len : ℕ) → sum_by f (range_with_len (start + 1) len) ≡ sum_by (λ k. f (k + 1)) (range_with_len start len)
sum_shifted f start zero = refl
sum_shifted f start (suc len) = omega (
  arith,
  sum_by-cons f (start + 1) (range_with_len (start + 1 + 1) len),
  sum_by-cons (λ k. f (k + 1)) start (range_with_len (start + 1) len),
  sum_shifted f (start + 1) len,
)

-- so what all tasks add is the sum over the numbers
amounts_of : (numbers : List ℕ) → sum_by (amount_at numbers) (range_with_len 0 (length numbers)) ≡ sum_by amount_of numbers
amounts_of [] = refl
amounts_of (x ∷ numbers) = omega (
  arith,
  sum_by-cons (amount_at (x ∷ numbers)) 0 (range_with_len 1 (length numbers)),
  sum_by-cons amount_of x numbers,
  sum_shifted (amount_at (x ∷ numbers)) 0 (length numbers),
  sum_same (λ k. amount_at (x ∷ numbers) (k + 1)) (amount_at numbers) 0 (length numbers) (λ k from to. ap (amount_at (x ∷ numbers)) (add-one k)),
  amounts_of numbers,
)

-- what all tasks of a generated script add
pub amounts_of_all : (number size : ℕ) → sum_by (amount_at (numbers_behind number size)) (range_with_len 0 size) ≡ sum_by amount_of (numbers_behind number size)
amounts_of_all number size = ap (λ n. sum_by (amount_at (numbers_behind number size)) (range_with_len 0 n)) (sym (length-numbers_behind number size))
    ∙ amounts_of (numbers_behind number size)

-- each adds less than 1000
few_each : (numbers : List ℕ) (t : ℕ) → amount_at numbers t ≤ 1000
few_each numbers t = by_number (slice_get numbers t)
  where
    by_number : (o : Option ℕ) → option_map_or amount_of o 0 ≤ 1000
    by_number None = omega arith
    by_number (Some x) = let below : amount_of x < 1000 = mod-lt (x / 2 ^ 40) (omega arith) in omega (arith, below)

-- and all together less than 1000 each
few_in_all : (f : ℕ → ℕ) (start len : ℕ) → ((t : ℕ) → f t ≤ 1000) → sum_by f (range_with_len start len) ≤ len * 1000
few_in_all f start zero few = omega arith
few_in_all f start (suc len) few = omega (arith, sum_by-cons f start (range_with_len (start + 1) len), few start, few_in_all f (start + 1) len few)

-- ---- all of it

-- the actions of a generated script are plain
generated_is_plain : (number size : ℕ) → ArePlain size (generated number size).actions
unfolding generated
generated_is_plain number size = (
  not_nothing (postings_from 0 (numbers_behind number size)) (actions.Pump size) (actions.Join 0 ∷ actions.Flush ∷ []),
  plain_postings size 0 (numbers_behind number size) (actions.Pump size) (actions.Join 0 ∷ actions.Flush ∷ [])
      (omega (arith, length-numbers_behind number size))
      ((refl, refl, (λ h. absurd cc)), ((λ h. absurd cc), (refl, tt))),
)

-- no runner of it is a single-thread runner
no_single_thread : (number size runner : ℕ) → seat_of (generated number size) runner ≡ None
unfolding generated
no_single_thread number size zero = refl
no_single_thread number size (suc zero) = refl
no_single_thread number size (suc (suc zero)) = refl
no_single_thread number size (suc (suc (suc zero))) = refl
no_single_thread number size (suc (suc (suc (suc runner)))) = refl

-- generated scripts add up
pub generated_adds_up : (number size : ℕ) → size ≤ 8192 → AddsUp (generated number size) size (amount_at (numbers_behind number size))
unfolding generated
generated_adds_up number size few = record {
  calm = generated_is_calm number size;
  plain = generated_is_plain number size;
  pumps = generated_pumps number size;
  posts_each = λ t below. omega (arith, generated_posts number size t, times_in_row t size below);
  posted_once = generated_posts_once number size;
  some_workers = omega arith;
  some_foreground = omega arith;
  some_best = omega arith;
  four_runners = refl;
  no_single = no_single_thread number size;
  one_queue = refl;
  tasks_are = length-map (numbers_behind number size) (λ x. Add (amount_of x) ∷ []) ∙ length-numbers_behind number size;
  adds = generated_adds number size;
  few = omega (arith, few, few_in_all (amount_at (numbers_behind number size)) 0 size (few_each (numbers_behind number size)));
}
