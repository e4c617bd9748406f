-- What every run of a generated script adds up to: the tasks, the items, the cells and the sums together.
-- Cited by `generated.rt`.
use Rattle.std.proofs.Common.{◌≡◌, ℕ, zero, suc, ◌*◌, ◌/◌, ◌^◌, ◌<◌, ◌≤◌, List, refl, arith}
use Rattle.std.specs.Prelude.{sum_by}
use Rattle.std.proofs.Math.Nat.{mod-eq_of_lt, mod-lt}
use Rattle.std.proofs.lemmas.List.Sums.{sum_by-cons}
use Rattle.task_base.specs.declared.entry.Entry.{Entry}
use Rattle.hist_model.specs.Legal.{IsLegal}
use Rattle.hist_model.specs.Script.{IsWhole}
use Rattle.task_script.specs.Generated.{amount_of, number_behind, numbers_behind, generated}
use Rattle.run_summary.specs.Summary.{generated_totals, summary_of}
use Rattle.run_summary.proofs.Items.{items_of_generated, sums_of_generated}
use Rattle.run_summary.proofs.Tasks.{tasks_of_generated, cells_of_generated}

-- what so many tasks add is below a thousand each
amounts_below : (number size : ℕ) → sum_by amount_of (numbers_behind number size) ≤ 1000 * size
unfolding numbers_behind
amounts_below number zero = omega arith
amounts_below number (suc size) = omega (
  arith,
  sum_by-cons amount_of (number_behind number) (numbers_behind (number_behind number) size),
  mod-lt (number_behind number / 2 ^ 40) {m = 1000} (omega arith),
  amounts_below (number_behind number) size,
)

-- the four figures of a whole run of a generated script
pub totals_of_generated : (number size : ℕ) (log : List Entry) → number < 2 ^ 64 → 1 ≤ size → size ≤ 8192
    → IsLegal (generated number size) log → IsWhole (generated number size) log → summary_of (generated number size) log ≡ generated_totals number size
unfolding summary_of
totals_of_generated number size log below some few legal whole = rw (
  tasks_of_generated number size log below some few legal whole,
  items_of_generated number size log legal whole,
  cells_of_generated number size log below some few legal whole,
  mod-eq_of_lt {n = sum_by amount_of (numbers_behind number size)} {m = 2 ^ 64} (omega (arith, few, amounts_below number size)),
  sums_of_generated number size log some few legal whole,
) refl
