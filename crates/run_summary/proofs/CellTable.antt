-- The table of cells stands for the past: before the first entry, and behind one more.
-- Cited by `Cells::new`, `cells_behind`, `summary`.
use Rattle.std.proofs.Common.{◌≡◌, ℕ, ◌+◌, ◌%◌, ◌^◌, ◌<◌, ◌≤◌, Bool, true, false, cond, eqb, leb, List, [], ◌∷◌, ◌++◌, length, get_or, take, set, replicate}
use Rattle.std.proofs.Common.{map, sum, refl, sym, ap, ◌∙◌, Option, Some, None, ◌⊎◌, inl, inr, arith, length-set, get_or-set_same, get_or-set_other}
use Rattle.std.specs.Prelude.{◌&&◌, not, sum_by}
use Rattle.std.specs.List.{range_with_len}
use Rattle.std.proofs.lemmas.Bool.{cases_eq, eq-eqb, ne_eqb, and_parts, leb-true}
use Rattle.std.proofs.lemmas.List.{length-replicate, get_or-replicate, take_more}
use Rattle.std.proofs.lemmas.List.Sums.{sum-map}
use Rattle.std.proofs.lemmas.Option.{slice_get-get_or}
use Rattle.std.proofs.lemmas.List.FromFn.{length-map-range_with_len, get_or-map-range_with_len, fill_by_all}
use Rattle.task_base.specs.Plan.{Plan}
use Rattle.task_base.specs.Runners.{sequence_of, sequence_count}
use Rattle.task_base.specs.declared.entry.Entry.{Entry}
use Rattle.task_base.specs.declared.entry.Kind.{Kind}
use Rattle.task_base.specs.declared.entry.Kind.TheVariants as kinds
use Rattle.list_laws.specs.Lists.{count, holds_of}
use Rattle.list_laws.proofs.Elements.{AllByRecursion-always}
use Rattle.list_laws.proofs.Filters.{map-congr_in}
use Rattle.task_model.specs.Past.{fold_past}
use Rattle.task_model.specs.Seats.{Running, running, running_after, runs_of, all_seats}
use Rattle.task_model.specs.Cells.{cell_of, cell_after, main_cell_of, main_cell_after}
use Rattle.task_model.proofs.Growth.{running_push, cell_of_push, main_cell_of_push}
use Rattle.hist_model.specs.Allowed.{IsAllowed}
use Rattle.hist_model.specs.Legal.{IsLegal}
use Rattle.hist_model.proofs.Laws.AtPlaces.{allowed_at}
use Rattle.run_summary.specs.Summary.{ends_task, ends_item, value_in, cells_of, summary_of}
use Rattle.run_summary.specs.declared.cells.Cells.{Cells}
use Rattle.run_summary.specs.declared.cells.Home.{Home}
use Rattle.run_summary.specs.declared.cells.Home.TheVariants.{Nothing, Sequence, Queue}
use Rattle.run_summary.specs.Cells.{home_in_run, AreCells, home_at, homes_after, left_in_sequences, left_in_queues, sequences_after, queues_after}

-- what each number of a row gives, where all give the same
row_of_one : {A : Type 0} (f : ℕ → A) (n : ℕ) (x : A) → ((k : ℕ) → f k ≡ x) → replicate n x ≡ map f (range_with_len 0 n)
row_of_one f n x same = fill_by_all f (replicate n x) n x (length-replicate n x) (λ k below. get_or-replicate n k x x below ∙ sym (same k))

-- what the numbers of a row give, where each gives the same by two ways
row_same : {A : Type 0} (f g : ℕ → A) (n : ℕ) → ((k : ℕ) → g k ≡ f k) → map f (range_with_len 0 n) ≡ map g (range_with_len 0 n)
row_same f g n same = map-congr_in f g (range_with_len 0 n) (AllByRecursion-always (λ k. f k ≡ g k) (range_with_len 0 n) (λ k. sym (same k)))

-- a value put at a place of what the numbers of a row give
row_changes : {A : Type 0} (f g : ℕ → A) (n i : ℕ) (x : A) → ((k : ℕ) → g k ≡ cond (eqb i k) x (f k))
    → set (map f (range_with_len 0 n)) i x ≡ map g (range_with_len 0 n)
row_changes f g n i x changes = fill_by_all g (set (map f (range_with_len 0 n)) i x) n x long (λ k below. at k below (cases_eq i k))
  where
    long : length (set (map f (range_with_len 0 n)) i x) ≡ n
    long = length-set (map f (range_with_len 0 n)) i x ∙ length-map-range_with_len f 0 n

    at : (k : ℕ) → k < n → (i ≡ k) ⊎ (i ≡ k → ⊥) → get_or (set (map f (range_with_len 0 n)) i x) k x ≡ g k
    at k below (inl here) = rw (changes k, eq-eqb i k here, here)
        (get_or-set_same (map f (range_with_len 0 n)) k x x (omega (arith, below, length-map-range_with_len f 0 n)))
    at k below (inr other) = rw (changes k, ne_eqb i k other)
        (get_or-set_other (map f (range_with_len 0 n)) i k x x (λ same. other (sym same)) ∙ get_or-map-range_with_len f 0 n k k x below (omega arith))

-- before the first entry all cells are 0, and no seat runs a task
pub no_cells : (script : Plan) (cells : Cells) → cells.homes.items ≡ replicate (script.workers + 1) Nothing
    → cells.sequences.items ≡ replicate (sequence_count script) 0 → cells.queues.items ≡ replicate (length script.queues) 0 → AreCells script [] cells
unfolding running cell_of main_cell_of fold_past
no_cells script cells homes sequences queues = record {
  homes = homes ∙ row_of_one (λ seat. home_in_run script (running [] seat)) (script.workers + 1) Nothing (λ k. refl);
  sequences = sequences ∙ row_of_one (cell_of script []) (sequence_count script) 0 (λ k. refl);
  queues = queues ∙ row_of_one (main_cell_of []) (length script.queues) 0 (λ k. refl);
}

-- the table tells what the task of each seat of the script belongs to
told : (script : Plan) (past : List Entry) (cells : Cells) (seat : ℕ) → AreCells script past cells → seat ≤ script.workers
    → home_at cells.homes.items seat ≡ home_in_run script (running past seat)
told script past cells seat are known = rw are.homes
    (get_or-map-range_with_len (λ s. home_in_run script (running past s)) 0 (script.workers + 1) seat seat Nothing (omega (arith, known)) (omega arith))

-- what the seats' tasks belong to, behind one more entry
homes_next : (script : Plan) (past : List Entry) (seat : ℕ) (kind : Kind)
    → homes_after script (map (λ s. home_in_run script (running past s)) (all_seats script)) seat kind
    ≡ map (λ s. home_in_run script (running (past ++ record { seat = seat; kind = kind } ∷ []) s)) (all_seats script)
homes_next script past seat kind = at kind (running_push past (record { seat = seat; kind = kind }))
  where
    runs : Kind → ℕ → Option Running
    runs k s = running (past ++ record { seat = seat; kind = k } ∷ []) s

    changes : (k : Kind) (home : Home) → ((s : ℕ) → home_in_run script (runs k s) ≡ cond (eqb seat s) home (home_in_run script (running past s)))
        → set (map (λ s. home_in_run script (running past s)) (all_seats script)) seat home ≡ map (λ s. home_in_run script (runs k s)) (all_seats script)
    changes k home by = row_changes (λ s. home_in_run script (running past s)) (λ s. home_in_run script (runs k s)) (script.workers + 1) seat home by

    either : (b : Bool) (now later : Option Running) → home_in_run script (cond b later now) ≡ cond b (home_in_run script later) (home_in_run script now)
    either true now later = refl
    either false now later = refl

    stays : (b : Bool) (now : Option Running) → home_in_run script (cond b now now) ≡ home_in_run script now
    stays true now = refl
    stays false now = refl

    at : (k : Kind) → ((s : ℕ) → runs k s ≡ cond (eqb seat s) (running_after (running past s) k) (running past s))
        → homes_after script (map (λ s. home_in_run script (running past s)) (all_seats script)) seat k
        ≡ map (λ s. home_in_run script (runs k s)) (all_seats script)
    at (kinds.Take task runner found) push = changes (kinds.Take task runner found) (Sequence (sequence_of script runner task))
        (λ s. ap (home_in_run script) (push s) ∙ either (eqb seat s) (running past s) _)
    at (kinds.MainTake task queue found) push = changes (kinds.MainTake task queue found) (Queue queue)
        (λ s. ap (home_in_run script) (push s) ∙ either (eqb seat s) (running past s) _)
    at (kinds.End task left) push = changes (kinds.End task left) Nothing (λ s. ap (home_in_run script) (push s) ∙ either (eqb seat s) (running past s) None)
    at (kinds.MainEnd task left) push = changes (kinds.MainEnd task left) Nothing
        (λ s. ap (home_in_run script) (push s) ∙ either (eqb seat s) (running past s) None)
    at k push = row_same (λ s. home_in_run script (running past s)) (λ s. home_in_run script (runs k s)) (script.workers + 1)
        (λ s. ap (home_in_run script) (push s) ∙ stays (eqb seat s) (running past s))

-- the cells of the sequences, behind one more entry
sequences_next : (script : Plan) (past : List Entry) (seat : ℕ) (kind : Kind)
    → sequences_after (home_in_run script (running past seat)) (map (cell_of script past) (range_with_len 0 (sequence_count script))) kind
    ≡ map (cell_of script (past ++ record { seat = seat; kind = kind } ∷ [])) (range_with_len 0 (sequence_count script))
sequences_next script past seat kind = at kind (cell_of_push script past (record { seat = seat; kind = kind }))
  where
    later : Kind → ℕ → ℕ
    later k = cell_of script (past ++ record { seat = seat; kind = k } ∷ [])

    same : (k : Kind) → ((s : ℕ) → later k s ≡ cell_of script past s)
        → map (cell_of script past) (range_with_len 0 (sequence_count script)) ≡ map (later k) (range_with_len 0 (sequence_count script))
    same k by = row_same (cell_of script past) (later k) (sequence_count script) by

    ended : (task left : ℕ) (now : Option Running)
        → ((s : ℕ) → later (kinds.End task left) s ≡ cond (holds_of (runs_of script s) now) left (cell_of script past s))
        → left_in_sequences (home_in_run script now) left (map (cell_of script past) (range_with_len 0 (sequence_count script)))
        ≡ map (later (kinds.End task left)) (range_with_len 0 (sequence_count script))
    ended task left None by = same (kinds.End task left) by
    ended task left (Some w) by = which w.is_main refl by
      where
        which : (main : Bool) → w.is_main ≡ main
            → ((s : ℕ) → later (kinds.End task left) s ≡ cond (not main && eqb (sequence_of script w.home w.task) s) left (cell_of script past s))
            → left_in_sequences (cond main (Queue w.home) (Sequence (sequence_of script w.home w.task))) left
            (map (cell_of script past) (range_with_len 0 (sequence_count script)))
            ≡ map (later (kinds.End task left)) (range_with_len 0 (sequence_count script))
        which true is k = same (kinds.End task left) k
        which false is k = row_changes (cell_of script past) (later (kinds.End task left)) (sequence_count script) (sequence_of script w.home w.task) left k

    at : (k : Kind) → ((s : ℕ) → later k s ≡ cell_after script s past (cell_of script past s) seat k)
        → sequences_after (home_in_run script (running past seat)) (map (cell_of script past) (range_with_len 0 (sequence_count script))) k
        ≡ map (later k) (range_with_len 0 (sequence_count script))
    at (kinds.End task left) push = ended task left (running past seat) push
    at k push = same k push

-- the cells of the main queues, behind one more entry
queues_next : (script : Plan) (past : List Entry) (seat : ℕ) (kind : Kind)
    → queues_after (home_in_run script (running past seat)) (map (main_cell_of past) (range_with_len 0 (length script.queues))) kind
    ≡ map (main_cell_of (past ++ record { seat = seat; kind = kind } ∷ [])) (range_with_len 0 (length script.queues))
queues_next script past seat kind = at kind (main_cell_of_push past (record { seat = seat; kind = kind }))
  where
    later : Kind → ℕ → ℕ
    later k = main_cell_of (past ++ record { seat = seat; kind = k } ∷ [])

    same : (k : Kind) → ((q : ℕ) → later k q ≡ main_cell_of past q)
        → map (main_cell_of past) (range_with_len 0 (length script.queues)) ≡ map (later k) (range_with_len 0 (length script.queues))
    same k by = row_same (main_cell_of past) (later k) (length script.queues) by

    ended : (task left : ℕ) (now : Option Running)
        → ((q : ℕ) → later (kinds.MainEnd task left) q ≡ cond (holds_of (λ w. w.is_main && eqb w.home q) now) left (main_cell_of past q))
        → left_in_queues (home_in_run script now) left (map (main_cell_of past) (range_with_len 0 (length script.queues)))
        ≡ map (later (kinds.MainEnd task left)) (range_with_len 0 (length script.queues))
    ended task left None by = same (kinds.MainEnd task left) by
    ended task left (Some w) by = which w.is_main refl by
      where
        which : (main : Bool) → w.is_main ≡ main
            → ((q : ℕ) → later (kinds.MainEnd task left) q ≡ cond (main && eqb w.home q) left (main_cell_of past q))
            → left_in_queues (cond main (Queue w.home) (Sequence (sequence_of script w.home w.task))) left
            (map (main_cell_of past) (range_with_len 0 (length script.queues)))
            ≡ map (later (kinds.MainEnd task left)) (range_with_len 0 (length script.queues))
        which true is k = row_changes (main_cell_of past) (later (kinds.MainEnd task left)) (length script.queues) w.home left k
        which false is k = same (kinds.MainEnd task left) k

    at : (k : Kind) → ((q : ℕ) → later k q ≡ main_cell_after q past (main_cell_of past q) seat k)
        → queues_after (home_in_run script (running past seat)) (map (main_cell_of past) (range_with_len 0 (length script.queues))) k
        ≡ map (later k) (range_with_len 0 (length script.queues))
    at (kinds.MainEnd task left) push = ended task left (running past seat) push
    at k push = same k push

-- behind one more entry of a seat of the script the table stands for the longer past
pub cells_next : (script : Plan) (past : List Entry) (e : Entry) (old new : Cells) → e.seat ≤ script.workers → AreCells script past old
    → new.homes.items ≡ homes_after script old.homes.items e.seat e.kind
    → new.sequences.items ≡ sequences_after (home_at old.homes.items e.seat) old.sequences.items e.kind
    → new.queues.items ≡ queues_after (home_at old.homes.items e.seat) old.queues.items e.kind → AreCells script (past ++ e ∷ []) new
cells_next script past e old new known are homes sequences queues = record {
  homes = homes ∙ ap (λ xs. homes_after script xs e.seat e.kind) are.homes ∙ homes_next script past e.seat e.kind;
  sequences = sequences ∙ ap (λ home. sequences_after home old.sequences.items e.kind) here
      ∙ ap (λ xs. sequences_after (home_in_run script (running past e.seat)) xs e.kind) are.sequences ∙ sequences_next script past e.seat e.kind;
  queues = queues ∙ ap (λ home. queues_after home old.queues.items e.kind) here
      ∙ ap (λ xs. queues_after (home_in_run script (running past e.seat)) xs e.kind) are.queues ∙ queues_next script past e.seat e.kind;
}
  where
    here : home_at old.homes.items e.seat ≡ home_in_run script (running past e.seat)
    here = told script past old e.seat are known

-- behind one more entry of a legal log
pub cells_more : (script : Plan) (log : List Entry) (k : ℕ) (d : Entry) (old new : Cells) → IsLegal script log → k < length log
    → AreCells script (take k log) old
    → new.homes.items ≡ homes_after script old.homes.items (get_or log k d).seat (get_or log k d).kind
    → new.sequences.items ≡ sequences_after (home_at old.homes.items (get_or log k d).seat) old.sequences.items (get_or log k d).kind
    → new.queues.items ≡ queues_after (home_at old.homes.items (get_or log k d).seat) old.queues.items (get_or log k d).kind
    → AreCells script (take (k + 1) log) new
cells_more script log k d old new legal below are homes sequences queues = rw (take_more log k d below)
    (cells_next script (take k log) (get_or log k d) old new known are homes sequences queues)
  where
    allowed : IsAllowed script (take k log) (get_or log k d)
    allowed = allowed_at script log k (get_or log k d) legal (slice_get-get_or log k d below)

    known : (get_or log k d).seat ≤ script.workers
    known = leb-true (get_or log k d).seat script.workers (and_parts (leb (get_or log k d).seat script.workers) _ allowed).0

-- the sum of the table is the sum of the cells
pub cells_sum : (script : Plan) (log : List Entry) (cells : Cells) → AreCells script log cells
    → sum cells.sequences.items + sum cells.queues.items ≡ cells_of script log
cells_sum script log cells are = rw (
  are.sequences,
  are.queues,
  sum-map (cell_of script log) (range_with_len 0 (sequence_count script)),
  sum-map (main_cell_of log) (range_with_len 0 (length script.queues)),
) refl

-- the four figures are the summary
pub figures : (script : Plan) (log : List Entry) (cells : Cells) (tasks items total values : ℕ) → AreCells script log cells
    → tasks ≡ count (λ e. ends_task e.kind) log → items ≡ count (λ e. ends_item e.kind) log
    → total ≡ (sum cells.sequences.items + sum cells.queues.items) % 2 ^ 64 → values ≡ sum_by (λ e. value_in e.kind) log % 2 ^ 64
    → record { tasks = tasks; items = items; cells = total; sums = values } ≡ summary_of script log
unfolding summary_of
figures script log cells tasks items total values are tasks_are items_are total_is values_are =
    rw (tasks_are, items_are, total_is, values_are, cells_sum script log cells are) refl
