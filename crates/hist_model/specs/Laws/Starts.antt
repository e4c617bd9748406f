-- What every legal log gives of the start and the end of a task.
use Rattle.std.specs.Prelude.{◌≡◌, ℕ, ◌<◌, true, List}
use Rattle.task_base.specs.declared.entry.Entry.{Entry}
use Rattle.task_base.specs.declared.entry.Kind.TheVariants as kinds
use Rattle.hist_model.specs.Laws.Places.{IsAt}

-- before this place the task was posted to this runner, and accepted (`thread_pool.h`)
pub record PostedBefore (log : List Entry) (place task runner : ℕ) : Type 0 where
  pub at : ℕ
  pub poster : ℕ
  pub delay : ℕ
  pub earlier : at < place
  pub is : IsAt log at poster (kinds.Post task runner delay true)

-- before this place the seat took the task (`thread_pool.h`)
pub record TakenBefore (log : List Entry) (place seat task : ℕ) : Type 0 where
  pub at : ℕ
  pub runner : ℕ
  pub found : ℕ
  pub earlier : at < place
  pub is : IsAt log at seat (kinds.Take task runner found)

-- before this place the main task was posted to this queue, and accepted (`sequence_manager.h`)
pub record MainPostedBefore (log : List Entry) (place task queue : ℕ) : Type 0 where
  pub at : ℕ
  pub poster : ℕ
  pub delay : ℕ
  pub earlier : at < place
  pub is : IsAt log at poster (kinds.Main task queue delay true)

-- before this place the seat took the main task (`sequence_manager.h`)
pub record MainTakenBefore (log : List Entry) (place seat task : ℕ) : Type 0 where
  pub at : ℕ
  pub queue : ℕ
  pub found : ℕ
  pub earlier : at < place
  pub is : IsAt log at seat (kinds.MainTake task queue found)

-- tasks start at most once, end at most once, and do so in order
pub record TasksStartAtMostOnce (log : List Entry) : Type 0 where
  -- two places that take one task of the pool are one place, of one seat and one runner
  pub one_take : (i k seat other task runner home found value : ℕ) → IsAt log i seat (kinds.Take task runner found)
      → IsAt log k other (kinds.Take task home value) → (i ≡ k) × (seat ≡ other) × (runner ≡ home)
  -- a task of the pool is taken from the runner that it was posted to before, and was accepted
  pub posted_before : (k seat task runner found : ℕ) → IsAt log k seat (kinds.Take task runner found) → PostedBefore log k task runner
  -- two places that end one task of the pool are one place, of one seat
  pub one_end : (i k seat other task left value : ℕ) → IsAt log i seat (kinds.End task left) → IsAt log k other (kinds.End task value)
      → (i ≡ k) × (seat ≡ other)
  -- the seat that ends a task of the pool took it before
  pub taken_before : (k seat task left : ℕ) → IsAt log k seat (kinds.End task left) → TakenBefore log k seat task
  -- two places that take one main task are one place, of one seat and one queue
  pub one_main_take : (i k seat other task queue home found value : ℕ) → IsAt log i seat (kinds.MainTake task queue found)
      → IsAt log k other (kinds.MainTake task home value) → (i ≡ k) × (seat ≡ other) × (queue ≡ home)
  -- a main task is taken from the queue that it was posted to before, and was accepted
  pub main_posted_before : (k seat task queue found : ℕ) → IsAt log k seat (kinds.MainTake task queue found) → MainPostedBefore log k task queue
  -- two places that end one main task are one place, of one seat
  pub one_main_end : (i k seat other task left value : ℕ) → IsAt log i seat (kinds.MainEnd task left) → IsAt log k other (kinds.MainEnd task value)
      → (i ≡ k) × (seat ≡ other)
  -- the seat that ends a main task took it before
  pub main_taken_before : (k seat task left : ℕ) → IsAt log k seat (kinds.MainEnd task left) → MainTakenBefore log k seat task
