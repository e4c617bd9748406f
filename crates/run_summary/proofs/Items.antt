-- What the items of a generated script's job add up to: all are done, and item i gives 3 i + 1.
-- Cited by `AddUp`.
use Rattle.std.proofs.Common.{◌≡◌, ℕ, zero, suc, ◌+◌, ◌-◌, ◌*◌, ◌%◌, ◌^◌, ◌<◌, ◌≤◌, Bool, true, false, cond, eqb, List, [], ◌∷◌, refl, ap, ◌∙◌, None, arith}
use Rattle.std.specs.Prelude.{sum_by}
use Rattle.std.specs.List.{list_any, range_with_len, AllByRecursion}
use Rattle.std.proofs.Math.Nat.{mod-eq_of_lt, mul-le-mul}
use Rattle.std.proofs.lemmas.Bool.{and_parts, or_right}
use Rattle.std.proofs.lemmas.List.Folds.{list_any-append}
use Rattle.std.proofs.lemmas.List.Sums.{sum_by-cons}
use Rattle.task_base.specs.Plan.{Plan}
use Rattle.task_base.specs.declared.entry.Entry.{Entry}
use Rattle.task_base.specs.declared.script.Action.TheVariants as actions
use Rattle.list_laws.specs.Lists.{count}
use Rattle.list_laws.proofs.Elements.{AllByRecursion-append}
use Rattle.task_model.specs.Seats.{holding, is_quiet}
use Rattle.task_model.specs.Jobs.{claimed, done, items_of, item_value}
use Rattle.hist_model.specs.Legal.{IsLegal}
use Rattle.hist_model.specs.Script.{is_finished, IsWhole}
use Rattle.hist_model.specs.Laws.Consistent.{is_join}
use Rattle.hist_model.specs.Laws.Whole.{LosesNothing}
use Rattle.hist_model.proofs.Laws.Whole.Losing.{loses_nothing}
use Rattle.task_script.specs.Generated.{numbers_behind, goal_of, posting_of, postings_from, generated}
use Rattle.run_summary.specs.Summary.{ends_item, value_in}
use Rattle.run_summary.proofs.Calm.{postings_all, generated_is_calm}
use Rattle.run_summary.proofs.Jobs.{HasOneJob, done_items, value_held, values_held, values_below, AddsUp, adds_up}
use Rattle.run_summary.proofs.Joins.{joins_first, joined_is_done, finished_script_joins}

-- a generated script has one job
generated_has_one_job : (number size : ℕ) → HasOneJob (generated number size)
unfolding generated
generated_has_one_job number size zero some = refl
generated_has_one_job number size (suc j) some = absurd (omega (arith, some))

-- that job has eight items for each task
generated_items : (number size : ℕ) → items_of (generated number size) 0 ≡ 8 * size
unfolding generated
generated_items number size = refl

-- it joins that job, and no other
posting_joins_none : (t x : ℕ) → joins_first (posting_of t x) ≡ true
posting_joins_none t x = at (eqb (goal_of x) 4)
  where
    at : (b : Bool) → joins_first (cond b (actions.Main t 0 0) (actions.Post t (goal_of x) 0)) ≡ true
    at true = refl
    at false = refl

-- no action joins another job
generated_joins_first : (number size : ℕ) → AllByRecursion (λ action. joins_first action ≡ true) (generated number size).actions
unfolding generated
generated_joins_first number size = (
  refl,
  AllByRecursion-append (λ action. joins_first action ≡ true) (postings_from 0 (numbers_behind number size))
      (actions.Pump size ∷ actions.Join 0 ∷ actions.Flush ∷ [])
      (postings_all (λ action. joins_first action ≡ true) posting_joins_none 0 (numbers_behind number size)) (refl, (refl, (refl, tt))),
)

-- and one joins it
generated_joins : (number size : ℕ) → list_any is_join (generated number size).actions ≡ true
unfolding generated
generated_joins number size = list_any-append is_join (postings_from 0 (numbers_behind number size)) (actions.Pump size ∷ actions.Join 0 ∷ actions.Flush ∷ [])
    ∙ or_right (list_any is_join (postings_from 0 (numbers_behind number size))) true refl

-- all items are done
generated_done : (number size : ℕ) (log : List Entry) → IsLegal (generated number size) log → IsWhole (generated number size) log → done log 0 ≡ 8 * size
generated_done number size log legal whole =
    joined_is_done (generated number size) (generated_is_calm number size) (generated_joins_first number size) log legal
    (finished_script_joins (generated number size) log (generated_is_calm number size).closed
    (and_parts (is_finished (generated number size) log) (is_quiet (generated number size) log) whole).0 (generated_joins number size))
    ∙ generated_items number size

-- so many entries end an item
pub items_of_generated : (number size : ℕ) (log : List Entry) → IsLegal (generated number size) log → IsWhole (generated number size) log
    → count (λ e. ends_item e.kind) log ≡ 8 * size
items_of_generated number size log legal whole =
    done_items (generated number size) (generated_has_one_job number size) log legal ∙ generated_done number size log legal whole

-- an item's value
generated_value : (number size i : ℕ) → i < 65536 → item_value (generated number size) 0 i ≡ 3 * i + 1
unfolding generated
generated_value number size i few =
    let thrice : (i * 3) % 2 ^ 64 ≡ i * 3 = mod-eq_of_lt (omega (arith, few)) in
    let more : (i * 3 + 1) % 2 ^ 64 ≡ i * 3 + 1 = mod-eq_of_lt (omega (arith, few)) in
    ap (λ n. (n + 1) % 2 ^ 64) thrice ∙ more ∙ omega arith

-- the values of the first items, twice
values_are : (number size n : ℕ) → n ≤ 65536 → 2 * values_below (item_value (generated number size) 0) n + n ≡ 3 * (n * n)
unfolding values_below
values_are number size zero few = refl
values_are number size (suc n) few = omega (arith, values_are number size n (omega (arith, few)), generated_value number size n (omega (arith, few)))

-- where nobody holds an item, nothing is held
nothing_held : (script : Plan) (past : List Entry) → ((seat : ℕ) → holding past seat ≡ None) → values_held script past ≡ 0
nothing_held script past none = nothing 0 (script.workers + 1)
  where
    nothing : (a n : ℕ) → sum_by (λ s. value_held script (holding past s)) (range_with_len a n) ≡ 0
    nothing a zero = refl
    nothing a (suc n) = omega (
      arith,
      sum_by-cons (λ s. value_held script (holding past s)) a (range_with_len (a + 1) n),
      ap (value_held script) (none a),
      nothing (a + 1) n,
    )

-- all values, added up
values_of_generated : (number size : ℕ) (log : List Entry) → IsLegal (generated number size) log → IsWhole (generated number size) log
    → sum_by (λ e. value_in e.kind) log ≡ values_below (item_value (generated number size) 0) (8 * size)
unfolding AddsUp
values_of_generated number size log legal whole =
    let lost : LosesNothing (generated number size) log = loses_nothing (generated number size) log legal whole in
    let all : claimed log 0 ≡ 8 * size = lost.items_done 0 ∙ generated_done number size log legal whole in
    let up : AddsUp (generated number size) log = adds_up (generated number size) (generated_has_one_job number size) log legal in
    omega (
      arith,
      up,
      nothing_held (generated number size) log lost.nobody_holds,
      ap (values_below (item_value (generated number size) 0)) all,
    )

-- twice a sum, and the sum
half : (total size : ℕ) → 1 ≤ size → 2 * total + 8 * size ≡ 3 * (8 * size * (8 * size)) → total ≡ 12 * size * (8 * size - 1) + 8 * size
half total size some is = omega (arith, is, less_one (8 * size) (omega (arith, some)))
  where
    less_one : (b : ℕ) → 1 ≤ b → size * (b - 1) + size ≡ size * b
    less_one zero at_least = absurd (omega (arith, at_least))
    less_one (suc k) at_least = let e : suc k - 1 ≡ k = omega arith in rw e (omega arith)

-- a sum that is small
small : (total n : ℕ) → n ≤ 65536 → 2 * total + n ≡ 3 * (n * n) → total < 2 ^ 64
small total n few is = omega (arith, is, mul-le-mul few few)

-- the sum of all values, modulo 2^64
pub sums_of_generated : (number size : ℕ) (log : List Entry) → 1 ≤ size → size ≤ 8192 → IsLegal (generated number size) log
    → IsWhole (generated number size) log → sum_by (λ e. value_in e.kind) log % 2 ^ 64 ≡ 12 * size * (8 * size - 1) + 8 * size
sums_of_generated number size log some few legal whole =
    let twice = values_are number size (8 * size) (omega (arith, few)) in
    ap (λ n. n % 2 ^ 64) (values_of_generated number size log legal whole)
    ∙ mod-eq_of_lt (small (values_below (item_value (generated number size) 0) (8 * size)) (8 * size) (omega (arith, few)) twice)
    ∙ half (values_below (item_value (generated number size) 0) (8 * size)) size some twice
