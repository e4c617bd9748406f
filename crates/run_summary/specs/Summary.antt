-- What a log adds up to (this project's own notion).
use Rattle.std.specs.Prelude.{ℕ, ◌+◌, ◌*◌, ◌-◌, ◌%◌, ◌^◌, Bool, true, false, List, length, sum_by}
use Rattle.std.specs.List.{range_with_len}
use Rattle.task_base.specs.Plan.{Plan}
use Rattle.task_base.specs.Runners.{sequence_count}
use Rattle.task_base.specs.declared.entry.Entry.{Entry}
use Rattle.task_base.specs.declared.entry.Kind.{Kind}
use Rattle.task_base.specs.declared.entry.Kind.TheVariants.{End, MainEnd, JobStep}
use Rattle.list_laws.specs.Lists.{count}
use Rattle.task_model.specs.Cells.{cell_of, main_cell_of}
use Rattle.run_summary.specs.declared.totals.Summary.{Summary}
use Rattle.task_script.specs.Generated.{amount_of, numbers_behind}

-- the entry ends a task, of the pool or of a main queue
abbrev pub ends_task : Kind → Bool
ends_task (End task left) = true
ends_task (MainEnd task left) = true
ends_task kind = false

-- the entry ends an item of a job
abbrev pub ends_item : Kind → Bool
ends_item (JobStep job id item value next) = true
ends_item kind = false

-- the value of the item that the entry ends
abbrev pub value_in : Kind → ℕ
value_in (JobStep job id item value next) = value
value_in kind = 0

-- the last values of all cells, added up
abbrev pub cells_of : Plan → List Entry → ℕ
cells_of script log =
    sum_by (cell_of script log) (range_with_len 0 (sequence_count script)) + sum_by (main_cell_of log) (range_with_len 0 (length script.queues))

-- the summary of a log
unfoldable pub summary_of : Plan → List Entry → Summary
summary_of script log = record {
  tasks = count (λ e. ends_task e.kind) log;
  items = count (λ e. ends_item e.kind) log;
  cells = cells_of script log % 2 ^ 64;
  sums = sum_by (λ e. value_in e.kind) log % 2 ^ 64;
}

-- what every run of a generated script adds up to: each task ends, and leaves its amount in a cell; each item i of the job
-- has the value 3 i + 1
abbrev pub generated_totals : ℕ → ℕ → Summary
generated_totals number size = record {
  tasks = size;
  items = 8 * size;
  cells = sum_by amount_of (numbers_behind number size);
  sums = 12 * size * (8 * size - 1) + 8 * size;
}
