-- What every legal log of an elaborated script gives of replies.
use Rattle.std.specs.Prelude.{◌≡◌, ℕ, ◌<◌, ◌≤◌, Bool, true, ◌||◌, List, [], ◌∷◌, length, take, filter, slice_get, Some, Contains}
use Rattle.task_base.specs.Plan.{Plan}
use Rattle.task_base.specs.Steps.{is_act}
use Rattle.task_base.specs.declared.entry.Entry.{Entry}
use Rattle.task_base.specs.declared.entry.Kind.{Kind}
use Rattle.task_base.specs.declared.entry.Kind.TheVariants as kinds
use Rattle.task_base.specs.Entries.{is_acting}
use Rattle.task_model.specs.Posts.{takes, main_takes, ends}
use Rattle.pool_laws.specs.Posts.{main_ends}
use Rattle.task_model.specs.Seats.{Running, running, acts_done, steps_of}
use Rattle.hist_model.specs.Laws.Places.{IsAt, StandsBefore}
use Rattle.hist_model.specs.Laws.Postings.{kind_posts}
use Rattle.task_reply.specs.declared.reply.Home.{Home}
use Rattle.task_reply.specs.declared.reply.Home.TheVariants.{Runner, Queue}
use Rattle.task_reply.specs.declared.reply.Reply.{Reply}

-- ---- what the log has

-- the entry of a task's post to this home, without a delay
abbrev pub post_to : ℕ → Home → Bool → Kind
post_to task (Runner runner) ok = kinds.Post task runner 0 ok
post_to task (Queue queue) ok = kinds.Main task queue 0 ok

-- the entry of the reply's post, accepted or refused, as its line says
abbrev pub post_by_reply : Reply → Bool → Kind
post_by_reply reply ok = post_to reply.reply reply.home ok

-- at this place the seat posts the task, wherever to, accepted or refused
pub record PostsAt (log : List Entry) (place seat task : ℕ) : Type 0 where
  pub kind : Kind
  pub is : IsAt log place seat kind
  pub posts : kind_posts kind ≡ task ∷ []

-- what stands at this place is by the task: the seat runs it there
pub record IsByTask (log : List Entry) (place seat task : ℕ) : Type 0 where
  pub now : Running
  pub running_is : running (take place log) seat ≡ Some now
  pub task_is : now.task ≡ task

-- how many act steps the task has of its own
abbrev pub own_acts : Plan → ℕ → ℕ
own_acts script task = length (filter is_act (steps_of script task))

-- at this place the task enters one of its own act steps: it has entered fewer before than it has of its own
pub record EntersOwnAct (script : Plan) (log : List Entry) (place seat task : ℕ) : Type 0 where
  pub kind : Kind
  pub is : IsAt log place seat kind
  pub acts : is_acting kind ≡ true
  pub by_task : IsByTask log place seat task
  pub is_own : acts_done (take place log) seat < own_acts script task

-- the two replies are of one task, and the line of the first stands before that of the second
pub record IsBefore (replies : List Reply) (first second : Reply) : Type 0 where
  pub m : ℕ
  pub n : ℕ
  pub first_is : slice_get replies m ≡ Some first
  pub second_is : slice_get replies n ≡ Some second
  pub less : m < n
  pub one_task : first.task ≡ second.task

-- ---- the laws

-- the post at this place is the one that the reply's line says, it is by the task, and all act steps that the task has of
-- its own were entered before
pub record IsReplysPost (script : Plan) (log : List Entry) (place seat : ℕ) (reply : Reply) : Type 0 where
  pub ok : Bool
  pub is : IsAt log place seat (post_by_reply reply ok)
  pub by_task : IsByTask log place seat reply.task
  pub own_done : own_acts script reply.task ≤ acts_done (take place log) seat

-- a reply is posted by its task alone, once at most, and behind all own act steps of the task
pub record ArePostedLast (script : Plan) (replies : List Reply) (log : List Entry) : Type 0 where
  pub by_its_task : (reply : Reply) (place seat : ℕ) → Contains replies reply → PostsAt log place seat reply.reply → IsReplysPost script log place seat reply
  pub one_post : (reply : Reply) (i k seat other : ℕ) → Contains replies reply → PostsAt log i seat reply.reply → PostsAt log k other reply.reply → i ≡ k
  pub behind_own : (reply : Reply) (i k seat other : ℕ) → Contains replies reply → EntersOwnAct script log i seat reply.task
      → PostsAt log k other reply.reply → i < k

-- a reply is taken, of the pool or of a main queue, only behind its post, which was accepted
pub record StartAfterPost (replies : List Reply) (log : List Entry) : Type 0 where
  pub posted_before : (reply : Reply) (place seat : ℕ) (kind : Kind) → Contains replies reply → IsAt log place seat kind
      → (takes reply.reply kind || main_takes reply.reply kind) ≡ true → StandsBefore log place (post_by_reply reply true)

-- a task ends, of the pool or of a main queue, only behind the posts of all its replies, which stand in the order of their lines
pub record EndAfterReplies (replies : List Reply) (log : List Entry) : Type 0 where
  pub all_posted : (reply : Reply) (place seat : ℕ) (kind : Kind) → Contains replies reply → IsAt log place seat kind
      → (ends reply.task kind || main_ends reply.task kind) ≡ true → (ok : Bool) × StandsBefore log place (post_by_reply reply ok)
  pub in_order : (first second : Reply) (i k seat other : ℕ) → IsBefore replies first second → PostsAt log i seat first.reply
      → PostsAt log k other second.reply → i < k
