-- Which tasks were posted, and where.
use Rattle.std.specs.Prelude.{ℕ, ◌+◌, Bool, true, false, ◌==◌, ◌&&◌, ◌||◌, nat_lt, List, [], ◌∷◌, ◌++◌, length}
use Rattle.std.specs.List.{list_any}
use Rattle.task_base.specs.declared.entry.Entry.{Entry}
use Rattle.task_base.specs.declared.entry.Kind.{Kind}
use Rattle.task_base.specs.declared.entry.Kind.TheVariants.{Post, Main, Take, End, MainTake}
use Rattle.task_model.specs.Past.{fold_past}
use Rattle.task_model.specs.Time.{now_of}

-- an accepted task: the place of its post, its number, its home, which is a runner or a main queue, its delay,
-- and its ripe moment, which is the moment of its post plus the delay
pub record Posted : Type 0 where
  pub place : ℕ
  pub task : ℕ
  pub home : ℕ
  pub delay : ℕ
  pub ripe : ℕ

-- its delay is above 0
abbrev pub is_delayed : Posted → Bool
is_delayed p = nat_lt 0 p.delay

-- the first ripens before the second: by the ripe moment, then by the place of the post
abbrev pub ripens_before : Posted → Posted → Bool
ripens_before p q = nat_lt p.ripe q.ripe || (p.ripe == q.ripe && nat_lt p.place q.place)

-- a post behind a past
abbrev pub post_behind : List Entry → ℕ → ℕ → ℕ → Posted
post_behind before task home delay = record { place = length before; task = task; home = home; delay = delay; ripe = now_of before + delay }

-- what an entry behind a past adds to the accepted tasks of the pool
abbrev pub posted_by : List Entry → Kind → List Posted
posted_by before (Post task runner delay true) = post_behind before task runner delay ∷ []
posted_by before kind = []

-- the accepted tasks of the pool, in the order of their posts; a task of a legal history has one post
-- (`thread_pool.h`)
unfoldable pub posts : List Entry → List Posted
posts past = fold_past (λ before known e. known ++ posted_by before e.kind) [] past

-- what an entry behind a past adds to the accepted main tasks
abbrev pub main_posted_by : List Entry → Kind → List Posted
main_posted_by before (Main task queue delay true) = post_behind before task queue delay ∷ []
main_posted_by before kind = []

-- the accepted main tasks, in the order of their posts (`sequence_manager.h`)
unfoldable pub main_posts : List Entry → List Posted
main_posts past = fold_past (λ before known e. known ++ main_posted_by before e.kind) [] past

-- the entry takes this task of the pool
abbrev pub takes : ℕ → Kind → Bool
takes t (Take task runner found) = task == t
takes t kind = false

-- the task of the pool has been taken
unfoldable pub is_taken : List Entry → ℕ → Bool
is_taken past t = list_any (λ e. takes t e.kind) past

-- the entry ends this task of the pool
abbrev pub ends : ℕ → Kind → Bool
ends t (End task left) = task == t
ends t kind = false

-- the task of the pool has ended
unfoldable pub is_ended : List Entry → ℕ → Bool
is_ended past t = list_any (λ e. ends t e.kind) past

-- the entry takes this main task
abbrev pub main_takes : ℕ → Kind → Bool
main_takes t (MainTake task queue found) = task == t
main_takes t kind = false

-- the main task has been taken
unfoldable pub is_main_taken : List Entry → ℕ → Bool
is_main_taken past t = list_any (λ e. main_takes t e.kind) past
