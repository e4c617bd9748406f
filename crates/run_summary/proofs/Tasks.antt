-- In every whole run of a generated script each task ends once, and the cells hold what the tasks add.
-- Cited by `AddUp`.
use Rattle.std.proofs.Common.{◌≡◌, ℕ, ◌+◌, ◌^◌, ◌<◌, ◌≤◌, true, false, cond, List, refl, ◌∙◌}
use Rattle.std.specs.Prelude.{sum_by}
use Rattle.task_base.specs.declared.entry.Entry.{Entry}
use Rattle.task_base.specs.declared.entry.Kind.{Kind}
use Rattle.task_base.specs.declared.entry.Kind.TheVariants as kinds
use Rattle.list_laws.specs.Lists.{count}
use Rattle.task_script.specs.Generated.{amount_of, numbers_behind, generated}
use Rattle.hist_model.specs.Legal.{IsLegal}
use Rattle.hist_model.specs.Script.{IsWhole}
use Rattle.run_summary.specs.Summary.{ends_task, cells_of}
use Rattle.run_summary.proofs.Tasks.Adding.{AddsUp}
use Rattle.run_summary.proofs.Tasks.Rows.{sum_plus, sum_ones, count_sum}
use Rattle.run_summary.proofs.Tasks.Ends.{ends_add}
use Rattle.run_summary.proofs.Tasks.Once.{ends_of_whole}
use Rattle.run_summary.proofs.Tasks.Cells.{cells_add_up}
use Rattle.run_summary.proofs.Tasks.Numbers.{amount_at, amounts_of_all, generated_adds_up}
pub mod Driver
pub mod Comes
pub mod Adding
pub mod Posted
pub mod Rows
pub mod Ends
pub mod Rest
pub mod Pumped
pub mod Once
pub mod Cells
pub mod Numbers

-- an entry that ends a task is an end of one, of the pool or of the main queue
one_each : (kind : Kind) → ends_add false (λ t. 1) kind + ends_add true (λ t. 1) kind ≡ cond (ends_task kind) 1 0
one_each (kinds.End task left) = refl
one_each (kinds.MainEnd task left) = refl
one_each kind = refl

-- as many tasks end as the script has
pub tasks_of_generated : (number size : ℕ) (log : List Entry) → number < 2 ^ 64 → 1 ≤ size → size ≤ 8192
    → IsLegal (generated number size) log → IsWhole (generated number size) log → count (λ e. ends_task e.kind) log ≡ size
tasks_of_generated number size log in_range some few legal whole =
    count_sum (λ (e : Entry). ends_task e.kind) (λ e. ends_add false (λ t. 1) e.kind + ends_add true (λ t. 1) e.kind) log (λ e. one_each e.kind)
    ∙ sum_plus (λ (e : Entry). ends_add false (λ t. 1) e.kind) (λ e. ends_add true (λ t. 1) e.kind) log
    ∙ ends_of_whole (generated number size) size (amount_at (numbers_behind number size)) (λ t. 1) log (generated_adds_up number size few) legal whole
    ∙ sum_ones 0 size

-- the cells hold what the tasks add
pub cells_of_generated : (number size : ℕ) (log : List Entry) → number < 2 ^ 64 → 1 ≤ size → size ≤ 8192
    → IsLegal (generated number size) log → IsWhole (generated number size) log
    → cells_of (generated number size) log ≡ sum_by amount_of (numbers_behind number size)
cells_of_generated number size log in_range some few legal whole =
    let adds : AddsUp (generated number size) size (amount_at (numbers_behind number size)) = generated_adds_up number size few in
    cells_add_up (generated number size) size (amount_at (numbers_behind number size)) adds log legal
    ∙ ends_of_whole (generated number size) size (amount_at (numbers_behind number size)) (amount_at (numbers_behind number size)) log adds legal whole
    ∙ amounts_of_all number size
