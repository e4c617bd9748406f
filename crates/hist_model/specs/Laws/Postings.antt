-- Which tasks a history posted.
use Rattle.std.specs.Prelude.{◌≡◌, ℕ, false, List, [], ◌∷◌, flat_map, None}
use Rattle.task_base.specs.declared.entry.Entry.{Entry}
use Rattle.task_base.specs.declared.entry.Kind.{Kind}
use Rattle.task_base.specs.declared.entry.Kind.TheVariants as kinds
use Rattle.script_model.specs.Laws.Postings.{times}
use Rattle.task_model.specs.Posts.{posts, main_posts, is_taken, is_ended, is_main_taken}
use Rattle.pool_laws.specs.Posts.{post_of, IsAccepted, main_post_of, IsMainAccepted, InOrder}

-- the task that an entry posts, accepted or refused
abbrev pub kind_posts : Kind → List ℕ
kind_posts (kinds.Post task runner delay ok) = task ∷ []
kind_posts (kinds.Main task queue delay ok) = task ∷ []
kind_posts kind = []

-- the tasks that were posted, accepted or refused, in order
unfoldable pub posted_in : List Entry → List ℕ
posted_in past = flat_map (λ e. kind_posts e.kind) past

-- the accepted tasks are in order of their posts and differ, on the pool and on the main queues, and none is on both
pub record AreAcceptedOnce (past : List Entry) : Type 0 where
  pub pool : InOrder (posts past)
  pub main : InOrder (main_posts past)
  pub apart : (t : ℕ) → IsAccepted past t → IsMainAccepted past t → ⊥

-- the history knows nothing of the task: it was neither posted, nor accepted, taken or ended
pub record IsNew (past : List Entry) (t : ℕ) : Type 0 where
  pub not_posted : times t (posted_in past) ≡ 0
  pub not_accepted : post_of past t ≡ None
  pub not_main_accepted : main_post_of past t ≡ None
  pub not_taken : is_taken past t ≡ false
  pub not_main_taken : is_main_taken past t ≡ false
  pub not_ended : is_ended past t ≡ false
