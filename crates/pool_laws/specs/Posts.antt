-- Words of the laws on accepted tasks: the post of each, and the order of the posts.
use Rattle.std.specs.Prelude.{◌≢◌, ℕ, ◌<◌, ◌==◌, Bool, false, List, [], ◌∷◌, Option, IsTrue, IsSome}
use Rattle.std.specs.List.{list_any, find, AllByRecursion}
use Rattle.task_base.specs.declared.entry.Entry.{Entry}
use Rattle.task_base.specs.declared.entry.Kind.{Kind}
use Rattle.task_base.specs.declared.entry.Kind.TheVariants.{MainEnd}
use Rattle.task_model.specs.Posts.{Posted, is_delayed, posts, main_posts}

-- the fact of it
abbrev pub IsDelayed : Posted → Type 0
IsDelayed p = IsTrue (is_delayed p)

-- the accepted post of a task of the pool, if it has one
abbrev pub post_of : List Entry → ℕ → Option Posted
post_of past t = find (λ p. p.task == t) (posts past)

-- the task of the pool was accepted
abbrev pub IsAccepted : List Entry → ℕ → Type 0
IsAccepted past t = IsSome (post_of past t)

-- the accepted post of a main task, if it has one
abbrev pub main_post_of : List Entry → ℕ → Option Posted
main_post_of past t = find (λ p. p.task == t) (main_posts past)

-- the main task was accepted
abbrev pub IsMainAccepted : List Entry → ℕ → Type 0
IsMainAccepted past t = IsSome (main_post_of past t)

-- the entry ends this main task
abbrev pub main_ends : ℕ → Kind → Bool
main_ends t (MainEnd task left) = task == t
main_ends t kind = false

-- the main task has ended
unfoldable pub is_main_ended : List Entry → ℕ → Bool
is_main_ended past t = list_any (λ e. main_ends t e.kind) past

-- the first was posted before the second, and is another task
pub record Before (p q : Posted) : Type 0 where
  pub earlier : p.place < q.place
  pub another : p.task ≢ q.task

-- each was posted before all that follow, and is another task
abbrev pub InOrder : List Posted → Type 0
InOrder [] = Unit {0}
InOrder (p ∷ ps) = AllByRecursion (Before p) ps × InOrder ps
