-- What stands for the cells of a past: a table of them, and what each seat's task belongs to.
use Rattle.std.specs.Prelude.{◌≡◌, ℕ, if◌then◌else◌, List, length, map, slice_set, slice_index_or, Option, Some, None}
use Rattle.std.specs.List.{range_with_len}
use Rattle.task_base.specs.Plan.{Plan}
use Rattle.task_base.specs.Runners.{sequence_of, sequence_count}
use Rattle.task_base.specs.declared.entry.Entry.{Entry}
use Rattle.task_base.specs.declared.entry.Kind.{Kind}
use Rattle.task_base.specs.declared.entry.Kind.TheVariants.{Take, End, MainTake, MainEnd}
use Rattle.task_model.specs.Seats.{Running, running, all_seats}
use Rattle.task_model.specs.Cells.{cell_of, main_cell_of}
use Rattle.run_summary.specs.declared.cells.Cells.{Cells}
use Rattle.run_summary.specs.declared.cells.Home.{Home}
use Rattle.run_summary.specs.declared.cells.Home.TheVariants.{Nothing, Sequence, Queue}

-- what a task that runs belongs to
abbrev pub home_in_run : Plan → Option Running → Home
home_in_run script None = Nothing
home_in_run script (Some w) = if w.is_main then Queue w.home else Sequence (sequence_of script w.home w.task)

-- the table has the cell of each sequence and of each main queue of the past, and what each seat's task belongs to
pub record AreCells (script : Plan) (past : List Entry) (cells : Cells) : Type 0 where
  pub homes : cells.homes.items ≡ map (λ seat. home_in_run script (running past seat)) (all_seats script)
  pub sequences : cells.sequences.items ≡ map (cell_of script past) (range_with_len 0 (sequence_count script))
  pub queues : cells.queues.items ≡ map (main_cell_of past) (range_with_len 0 (length script.queues))

-- what a seat's task belongs to, by the table; a seat that the table does not have runs nothing
abbrev pub home_at : List Home → ℕ → Home
home_at homes seat = slice_index_or homes seat Nothing

-- what the seats' tasks belong to after an entry of a seat
abbrev pub homes_after : Plan → List Home → ℕ → Kind → List Home
homes_after script homes seat (Take task runner found) = slice_set homes seat (Sequence (sequence_of script runner task))
homes_after script homes seat (MainTake task queue found) = slice_set homes seat (Queue queue)
homes_after script homes seat (End task left) = slice_set homes seat Nothing
homes_after script homes seat (MainEnd task left) = slice_set homes seat Nothing
homes_after script homes seat kind = homes

-- the cells of the sequences where a task that belongs here leaves a value
abbrev pub left_in_sequences : Home → ℕ → List ℕ → List ℕ
left_in_sequences (Sequence s) left cells = slice_set cells s left
left_in_sequences home left cells = cells

-- the cells of the main queues where a task that belongs here leaves a value
abbrev pub left_in_queues : Home → ℕ → List ℕ → List ℕ
left_in_queues (Queue q) left cells = slice_set cells q left
left_in_queues home left cells = cells

-- the cells of the sequences after an entry of a seat whose task belongs here
abbrev pub sequences_after : Home → List ℕ → Kind → List ℕ
sequences_after home cells (End task left) = left_in_sequences home left cells
sequences_after home cells kind = cells

-- the cells of the main queues after an entry of a seat whose task belongs here
abbrev pub queues_after : Home → List ℕ → Kind → List ℕ
queues_after home cells (MainEnd task left) = left_in_queues home left cells
queues_after home cells kind = cells
