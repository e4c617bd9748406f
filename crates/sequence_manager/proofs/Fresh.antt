-- The parts of a manager as they are made, queue by queue.
-- Cited by `TaskQueues::new`, `set_classes`, `AtStart`.
use Rattle.list_laws.proofs.Values.{some-injective}
use Rattle.queue_selector.specs.Rows.{closed_row}
use Rattle.queue_selector.specs.Selecting.{Selecting, with_class}
use Rattle.queue_selector.specs.declared.row.Row.{Row}
use Rattle.sequence_manager.specs.State.{fresh_queue, fresh_queues}
use Rattle.sequence_manager.specs.declared.task_queue.TaskQueue.{TaskQueue}
use Rattle.std.proofs.Common.{List, Some, [], add-one, ap, append_assoc, arith, drop, drop-cons, get_or, length}
use Rattle.std.proofs.Common.{map, refl, replicate, suc, sym, take, zero, ℕ, ◌+◌, ◌++◌, ◌<◌, ◌∙◌, ◌∷◌, ◌≡◌}
use Rattle.std.proofs.lemmas.Option.{none-some, slice_get-get_or, slice_get_within}
use Rattle.std.specs.Prelude.{slice_get, slice_index_or, slice_set}
use Rattle.task_base.specs.declared.script.MainQueue.{MainQueue}

-- what a selector knows of a queue that was given its class
abbrev pub row_of_class : MainQueue → Row
row_of_class queue = record closed_row { class = queue.class }

-- the rows of the queues, of which so many were given their classes
abbrev pub classed : ℕ → List MainQueue → List Row
classed n queues = map row_of_class (take n queues) ++ replicate (length (drop n queues)) closed_row

-- one more row is of the class of its queue
class_next : (queues : List MainQueue) (k : ℕ) (queue : MainQueue) → slice_get queues k ≡ Some queue
    → slice_set (classed k queues) k (record (slice_index_or (classed k queues) k closed_row) { class = queue.class }) ≡ classed (suc k) queues
class_next [] k queue is = absurd (none-some queue is)
class_next (q ∷ queues) zero queue is = ap (λ x. row_of_class x ∷ replicate (length queues) closed_row) (some-injective (sym is))
class_next (q ∷ queues) (suc k) queue is = ap (λ rows. row_of_class q ∷ rows) (class_next queues k queue is)

-- the next queue is given its class
pub class_set : (queues : List MainQueue) (k : ℕ) (queue : MainQueue) (selector : Selecting) → slice_get queues k ≡ Some queue
    → selector ≡ record { rows = classed k queues; streak = 0 } → with_class selector k queue.class ≡ record { rows = classed (k + 1) queues; streak = 0 }
class_set queues k queue selector is so_far = rw (so_far, add-one) (ap (λ (rows : List Row). record { rows = rows; streak = 0 }) (class_next queues k queue is))

-- one more queue is a fresh one
pub fresh_next : (rooms : List ℕ) (queues : List MainQueue) (made : List TaskQueue) (k : ℕ) (queue : MainQueue) (more : TaskQueue)
    → length rooms ≡ length queues → slice_get queues k ≡ Some queue → more ≡ fresh_queue queue.voters (get_or rooms k 0)
    → made ++ fresh_queues (drop k rooms) (drop k queues) ≡ fresh_queues rooms queues
    → (made ++ more ∷ []) ++ fresh_queues (drop (k + 1) rooms) (drop (k + 1) queues) ≡ fresh_queues rooms queues
fresh_next rooms queues made k queue more all is fresh so_far =
    append_assoc made (more ∷ []) (fresh_queues (drop (k + 1) rooms) (drop (k + 1) queues))
    ∙ ap (λ x. made ++ x ∷ fresh_queues (drop (k + 1) rooms) (drop (k + 1) queues)) fresh ∙ ap (λ qs. made ++ qs) (sym front) ∙ so_far
  where
    less : k < length queues
    less = slice_get_within queues k queue is

    front : fresh_queues (drop k rooms) (drop k queues)
        ≡ fresh_queue queue.voters (get_or rooms k 0) ∷ fresh_queues (drop (k + 1) rooms) (drop (k + 1) queues)
    front = rw (
      add-one,
      drop-cons rooms k 0 (omega (arith, less, all)),
      drop-cons queues k queue less,
      ← some-injective (sym is ∙ slice_get-get_or queues k queue less),
    ) refl
