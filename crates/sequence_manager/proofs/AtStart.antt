-- A manager of fresh parts stands for a history that has not begun.
-- Cited by `Manager::new`, `Manager::open`.
use Rattle.list_laws.proofs.Places.{slice_get-replicate}
use Rattle.list_laws.proofs.Values.{some-injective}
use Rattle.sequence_manager.proofs.Fresh.{row_of_class}
use Rattle.sequence_manager.proofs.Parts.{load}
use Rattle.sequence_manager.proofs.Pasts.{past_at_start}
use Rattle.sequence_manager.proofs.Tables.{queue_at_is}
use Rattle.sequence_manager.specs.Pasts.{IsMainScript}
use Rattle.sequence_manager.specs.Postings.{room_of}
use Rattle.sequence_manager.specs.Queues.{IsTable, queue_of, row_of}
use Rattle.sequence_manager.specs.StandsFor.{StandsFor}
use Rattle.sequence_manager.specs.State.{fresh_manager, fresh_queue, fresh_queues, queue_at}
use Rattle.sequence_manager.specs.declared.manager.Manager.{Manager}
use Rattle.std.proofs.Common.{List, Some, [], ap, arith, length, map, refl, replicate, suc, sym, true, zero, ℕ, ◌+◌, ◌<◌, ◌∙◌, ◌∷◌, ◌≡◌}
use Rattle.std.proofs.lemmas.List.{length-map, length-replicate}
use Rattle.std.proofs.lemmas.Option.{none-some, slice_get-get_or, slice_get-map}
use Rattle.std.specs.List.{range_with_len}
use Rattle.std.specs.Option.{option_map}
use Rattle.std.specs.Prelude.{slice_get}
use Rattle.task_base.specs.Plan.{Plan, opened}
use Rattle.task_base.specs.declared.script.MainQueue.{MainQueue}
use Rattle.task_model.specs.Cells.{main_cell_of}
use Rattle.task_model.specs.MainQueues.{class_of, fence_of, streak_of, votes_on}
use Rattle.task_model.specs.Orders.{draws}
use Rattle.queue_laws.specs.Orders.{main_arrivals}
use Rattle.task_model.specs.Past.{fold_past}
use Rattle.task_model.specs.Posts.{main_posts}
use Rattle.task_model.specs.Refusal.{is_closed}
use Rattle.task_model.specs.Seats.{running}
use Rattle.task_model.specs.Time.{now_of}

-- all voters vote on
votes_at_start : (q start n : ℕ) → replicate n true ≡ map (votes_on [] q) (range_with_len start n)
unfolding votes_on
votes_at_start q start zero = refl
votes_at_start q start (suc n) = ap (λ votes. true ∷ votes) (votes_at_start q (start + 1) n)

-- a declared queue is a fresh one
queue_at_start : (script : Plan) (q : ℕ) (queue : MainQueue) → slice_get script.queues q ≡ Some queue
    → fresh_queue queue.voters (room_of script q) ≡ queue_of script [] [] [] q
unfolding queue_of is_closed fence_of running main_cell_of fold_past
queue_at_start script q queue is = rw (is, ← (votes_at_start q 0 queue.voters)) refl

-- of the class that it was declared with, and without open fronts
row_at_start : (script : Plan) (q : ℕ) (queue : MainQueue) → slice_get script.queues q ≡ Some queue → row_of_class queue ≡ row_of script [] [] [] q
unfolding class_of
row_at_start script q queue is = rw (← (queue_at_start script q queue is), is) refl

-- a queue is declared under each number that there is
declared_at : (script : Plan) (q : ℕ) → q < length script.queues → (queue : MainQueue) × (slice_get script.queues q ≡ Some queue)
declared_at script q less = (_, slice_get-get_or script.queues q (record { class = 0; voters = 0 }) less)

-- there is a fresh queue for each declared one
fresh_length : (rooms : List ℕ) (queues : List MainQueue) → length rooms ≡ length queues → length (fresh_queues rooms queues) ≡ length queues
fresh_length [] queues all = all
fresh_length (room ∷ rooms) [] all = refl
fresh_length (room ∷ rooms) (queue ∷ queues) all = ap suc (fresh_length rooms queues (omega (arith, all)))

-- and each is of the voters and the room of its number
fresh_at : (rooms : List ℕ) (queues : List MainQueue) (q room : ℕ) (queue : MainQueue) → slice_get rooms q ≡ Some room → slice_get queues q ≡ Some queue
    → slice_get (fresh_queues rooms queues) q ≡ Some (fresh_queue queue.voters room)
fresh_at [] queues q room queue there is = absurd (none-some room there)
fresh_at (n ∷ rooms) [] q room queue there is = absurd (none-some queue is)
fresh_at (n ∷ rooms) (x ∷ queues) zero room queue there is =
    ap (λ x. Some (fresh_queue x.voters n)) (some-injective is) ∙ ap (λ n. Some (fresh_queue queue.voters n)) (some-injective there)
fresh_at (n ∷ rooms) (x ∷ queues) (suc q) room queue there is = fresh_at rooms queues q room queue there is

-- the fresh queues are those of a past that has not begun
queues_at_start : (script : Plan) (rooms : List ℕ) → IsTable (room_of script) (length script.queues) rooms
    → IsTable (queue_of script [] [] []) (length script.queues) (fresh_queues rooms script.queues)
queues_at_start script rooms table = record {
  all = fresh_length rooms script.queues table.all;
  each = λ q less.
      let (queue, is) = declared_at script q less in
      fresh_at rooms script.queues q (room_of script q) queue (table.each q less) is ∙ ap Some (queue_at_start script q queue is);
}

-- so are the rows of a selector that was told the classes
rows_at_start : (script : Plan) → IsTable (row_of script [] [] []) (length script.queues) (map row_of_class script.queues)
rows_at_start script = record {
  all = length-map script.queues row_of_class;
  each = λ q less.
      let (queue, is) = declared_at script q less in
      slice_get-map row_of_class script.queues q ∙ ap (option_map row_of_class) is ∙ ap Some (row_at_start script q queue is);
}

-- the fresh queues hold nothing
nothing_held : (script : Plan) (rooms : List ℕ) (q : ℕ) → IsTable (room_of script) (length script.queues) rooms → q < length script.queues
    → load (queue_at (fresh_queues rooms script.queues) q) ≡ 0
nothing_held script rooms q table less =
    let (queue, is) = declared_at script q less in
    ap load (queue_at_is (queue_of script [] [] []) (length script.queues) (fresh_queues rooms script.queues) q (queues_at_start script rooms table) less
    ∙ sym (queue_at_start script q queue is))

-- a fresh manager with the room of each queue stands for a history that has not begun
stands_at_start : (script : Plan) (rooms : List ℕ) → IsMainScript script → IsTable (room_of script) (length script.queues) rooms
    → StandsFor script [] (fresh_manager rooms script.queues)
unfolding main_arrivals main_posts draws streak_of now_of fold_past
stands_at_start script rooms fits table = record {
  script_fits = fits;
  past_fits = past_at_start script;
  parts = record {
    queues = queues_at_start script rooms table;
    rows = rows_at_start script;
    streak = refl;
    order_is = refl;
    room = λ q less. rw (nothing_held script rooms q table less) (omega arith);
    few_orders = omega arith;
  };
  moment = refl;
}

-- so does the manager that is made of these rooms
pub stands_at : (script : Plan) (rooms given : List ℕ) (manager : Manager) → IsMainScript script → IsTable (room_of script) (length script.queues) rooms
    → given ≡ rooms → manager ≡ fresh_manager given script.queues → StandsFor script [] manager
stands_at script rooms given manager fits table same is = rw (is, same) (stands_at_start script rooms fits table)

-- the rooms of an open plan: each queue has room for all tasks
pub open_rooms : (script : Plan) → IsTable (room_of (opened script)) (length script.queues) (replicate (length script.queues) (length script.tasks))
open_rooms script = record {
  all = length-replicate (length script.queues) (length script.tasks);
  each = λ q less. slice_get-replicate (length script.queues) q (length script.tasks) less;
}
