-- The order in which the tasks of a sequence, and of a main queue, are taken.
use Rattle.std.specs.Prelude.{◌≡◌, ℕ, ◌<◌, nat_lt, true, List, take, Some}
use Rattle.task_base.specs.Plan.{Plan}
use Rattle.task_base.specs.Keys.{key_below}
use Rattle.task_base.specs.Runners.{sequence_of}
use Rattle.task_base.specs.declared.entry.Entry.{Entry}
use Rattle.task_base.specs.declared.entry.Kind.TheVariants as kinds
use Rattle.task_base.specs.declared.source.Key.{Key}
use Rattle.task_model.specs.Posts.{post_behind}
use Rattle.task_model.specs.Keys.{key_of}
use Rattle.task_model.specs.Orders.{order_of}
use Rattle.hist_model.specs.Laws.Places.{IsAt}

-- before this place the task was posted to the runner and accepted, and at this place it has a key: of an immediate task
-- where it was posted, of a delayed one the first tick at or past its ripe moment, that moment, and where it was posted
-- (`thread_pool.h`)
pub record HasKeyAt (log : List Entry) (place task runner : ℕ) : Type 0 where
  pub post : ℕ
  pub poster : ℕ
  pub delay : ℕ
  pub key : Key
  pub before : post < place
  pub posts : IsAt log post poster (kinds.Post task runner delay true)
  pub keyed : key_of (take place log) (post_behind (take post log) task runner delay) ≡ Some key

-- the tasks taken at the two places have keys there, the first a lesser one than the second; two immediate ones were posted
-- in this order
pub record InOrderOfKeys (log : List Entry) (i j task runner other home : ℕ) : Type 0 where
  pub first : HasKeyAt log i task runner
  pub second : HasKeyAt log j other home
  pub below : key_below first.key second.key ≡ true
  pub immediate : first.delay ≡ 0 → second.delay ≡ 0 → first.post < second.post

-- before this place the main task was posted to the queue and accepted, and at this place it has an order, the number that it
-- drew: an immediate task at its post, a delayed one at the tick that ripened it (`task_queue.h`)
pub record HasOrderAt (log : List Entry) (place task queue : ℕ) : Type 0 where
  pub post : ℕ
  pub poster : ℕ
  pub delay : ℕ
  pub order : ℕ
  pub before : post < place
  pub posts : IsAt log post poster (kinds.Main task queue delay true)
  pub ordered : order_of (take place log) (post_behind (take post log) task queue delay) ≡ Some order

-- the main tasks taken at the two places have orders there; those of one lane, both immediate or both delayed, the first a
-- lesser one than the second; two immediate ones were posted in this order
pub record InOrderOfDraws (log : List Entry) (i j task other queue : ℕ) : Type 0 where
  pub first : HasOrderAt log i task queue
  pub second : HasOrderAt log j other queue
  pub below : nat_lt 0 first.delay ≡ nat_lt 0 second.delay → first.order < second.order
  pub immediate : first.delay ≡ 0 → second.delay ≡ 0 → first.post < second.post

pub record TakenInOrder (script : Plan) (log : List Entry) : Type 0 where
  -- two tasks of one sequence are taken in the order of their keys (`thread_pool.h`: a sequence's tasks run in order)
  pub in_order : (i j seat worker task other runner home found value : ℕ) → i < j → IsAt log i seat (kinds.Take task runner found)
      → IsAt log j worker (kinds.Take other home value) → sequence_of script runner task ≡ sequence_of script home other
      → InOrderOfKeys log i j task runner other home
  -- two main tasks of one lane of one queue are taken in the order of what they drew (`task_queue.h`)
  pub main_in_order : (i j seat driver task other queue found value : ℕ) → i < j → IsAt log i seat (kinds.MainTake task queue found)
      → IsAt log j driver (kinds.MainTake other queue value) → InOrderOfDraws log i j task other queue
