-- The script that replies make of a script: each task posts its replies behind all its own steps.
use Rattle.std.specs.Prelude.{◌≡◌, ℕ, ◌<◌, ◌==◌, List, ◌++◌, length, map, filter, slice_get, Some, Ok}
use Rattle.std.specs.List.{AllByRecursion}
use Rattle.task_base.specs.Plan.{Plan}
use Rattle.task_base.specs.declared.step.Step.{Step}
use Rattle.task_base.specs.declared.step.Step.TheVariants.{Post, Main}
use Rattle.task_reply.specs.declared.reply.Home.{Home}
use Rattle.task_reply.specs.declared.reply.Home.TheVariants.{Runner, Queue}
use Rattle.task_reply.specs.declared.reply.Reply.{Reply}
use Rattle.task_reply.specs.Replies.{replies_read}

-- the step that posts a task to this home, without a delay
abbrev pub posting_to : ℕ → Home → Step
posting_to task (Runner runner) = Post task runner 0
posting_to task (Queue queue) = Main task queue 0

-- the step that posts the reply
abbrev pub reply_posting : Reply → Step
reply_posting reply = posting_to reply.reply reply.home

-- the replies of a task, in the order of their lines
abbrev pub replies_to : ℕ → List Reply → List Reply
replies_to task replies = filter (λ reply. reply.task == task) replies

-- the result is the script in which each task posts its replies, in the order of their lines, behind all its own steps
-- (Chromium's `PostTaskAndReply`, `base/task/task_runner.h`; that the line names the reply's home is this project's own)
pub record IsElaborated (script : Plan) (replies : List Reply) (result : Plan) : Type 0 where
  -- each reply is one of a task of the script
  pub tasks_there : AllByRecursion (λ reply. reply.task < length script.tasks) replies
  -- there are as many tasks
  pub task_count : length result.tasks ≡ length script.tasks
  -- each has its own steps, and then the posts of its replies
  pub steps_added : (t : ℕ) (own : List Step) → slice_get script.tasks t ≡ Some own
      → slice_get result.tasks t ≡ Some (own ++ map reply_posting (replies_to t replies))
  -- all else is the script's
  pub rest_stays : result ≡ record script { tasks = result.tasks }

-- no line of the bytes is bad, and the result is the script with the replies that they say
pub record IsElaboratedBy (script : Plan) (bytes : List ℕ) (result : Plan) : Type 0 where
  pub replies : List Reply
  pub said : replies_read script bytes ≡ Ok replies
  pub elaborated : IsElaborated script replies result
