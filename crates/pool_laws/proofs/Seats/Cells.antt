-- What one more entry does to the cells: the end of a task leaves its value in the cell of its sequence, the end of a main
-- task in that of its queue. No other kind changes a cell, and no end that of another sequence or queue.
-- Cited by `pool_core`, `run_summary`, `sequence_manager`.
use Rattle.std.proofs.Common.{◌≡◌, false, refl, ◌∙◌}
use Rattle.std.specs.Prelude.{ℕ, List, [], ◌∷◌, ◌++◌, ◌==◌, if◌then◌else◌, Some, true}
use Rattle.std.proofs.lemmas.Bool.{true≢false}
use Rattle.task_base.specs.declared.entry.Kind.{Kind}
use Rattle.task_base.specs.declared.entry.Kind.TheVariants.{End, MainEnd}
use Rattle.task_base.specs.Runners.{sequence_of}
use Rattle.task_model.specs.Seats.{Running, running}
use Rattle.task_model.specs.Cells.{cell_of, cell_after, main_cell_of, main_cell_after}
use Rattle.pool_laws.specs.Seats.{moves_cells, moves_main_cells}
use Rattle.task_model.proofs.Growth.{cell_of_push, main_cell_of_push}
use Rattle.task_base.specs.Plan.{Plan}
use Rattle.task_base.specs.declared.entry.Entry.{Entry}

pub cell_same : (script : Plan) (past : List Entry) (e : Entry) (s : ℕ) → moves_cells e.kind ≡ false → cell_of script (past ++ e ∷ []) s ≡ cell_of script past s
cell_same script past e s quiet = cell_of_push script past e s ∙ by_kind e.kind quiet
  where
    by_kind : (kind : Kind) → moves_cells kind ≡ false → cell_after script s past (cell_of script past s) e.seat kind ≡ cell_of script past s
    by_kind (End task left) h = absurd (true≢false h)
    by_kind kind h = refl

-- the cell of the sequence of the task that ends has what it left
pub cell_at_end : (script : Plan) (past : List Entry) (e : Entry) (s task left : ℕ) (w : Running) → e.kind ≡ End task left → running past e.seat ≡ Some w
    → w.is_main ≡ false
    → cell_of script (past ++ e ∷ []) s ≡ (if sequence_of script w.home w.task == s then left else cell_of script past s)
cell_at_end script past e s task left w is runs pool = rw (cell_of_push script past e s, is, runs, pool) refl

pub main_cell_same : (past : List Entry) (e : Entry) (q : ℕ) → moves_main_cells e.kind ≡ false → main_cell_of (past ++ e ∷ []) q ≡ main_cell_of past q
main_cell_same past e q quiet = main_cell_of_push past e q ∙ by_kind e.kind quiet
  where
    by_kind : (kind : Kind) → moves_main_cells kind ≡ false → main_cell_after q past (main_cell_of past q) e.seat kind ≡ main_cell_of past q
    by_kind (MainEnd task left) h = absurd (true≢false h)
    by_kind kind h = refl

-- the cell of the queue of the main task that ends has what it left
pub main_cell_at_end : (past : List Entry) (e : Entry) (q task left : ℕ) (w : Running) → e.kind ≡ MainEnd task left → running past e.seat ≡ Some w
    → w.is_main ≡ true
    → main_cell_of (past ++ e ∷ []) q ≡ (if w.home == q then left else main_cell_of past q)
main_cell_at_end past e q task left w is runs main = rw (main_cell_of_push past e q, is, runs, main) refl
