-- The tasks that wait, as the manager of the main queues keeps them: the script that it is made with, and its past.
use Rattle.std.specs.Prelude.{◌≡◌, ℕ, ◌*◌, ◌≤◌, ◌==◌, ◌&&◌, ◌||◌, Bool, true, false, List, [], ◌∷◌, ◌++◌, flat_map, map, length, None}
use Rattle.std.specs.List.{AllByRecursion}
use Rattle.task_base.specs.Plan.{Plan}
use Rattle.task_base.specs.declared.entry.Entry.{Entry}
use Rattle.task_base.specs.declared.entry.Kind.{Kind}
use Rattle.task_base.specs.declared.entry.Kind.TheVariants as kinds
use Rattle.task_base.specs.declared.script.Action.{Action}
use Rattle.task_base.specs.declared.script.Action.TheVariants as script_actions
use Rattle.task_base.specs.declared.script.MainQueue.{MainQueue}
use Rattle.task_model.specs.Posts.{Posted, is_main_taken, main_posts}
use Rattle.task_model.specs.Seats.{running}
use Rattle.sequence_manager.specs.Postings.{MainPosting}
use Rattle.nested_loop.specs.Nest.{NestPosted, is_started, posted_tasks, was_deferred}
use Rattle.nested_loop.specs.Plan.{NestPlan, NestTaskPlan}
use Rattle.nested_loop.specs.declared.event.Event.{Event}
use Rattle.nested_loop.specs.declared.nest.NestAction.{NestAction}
use Rattle.nested_loop.specs.declared.nest.NestAction.TheVariants as actions
use Rattle.nested_loop.specs.declared.nest.NestStep.{NestStep}
use Rattle.nested_loop.specs.declared.nest.NestStep.TheVariants as steps

-- the action of a script that posts what an action of a nest posts
abbrev pub main_of_action : NestAction → List Action
main_of_action (actions.Post task queue) = script_actions.Main task queue 0 ∷ []
main_of_action (actions.Run bound) = []

-- the action of a script that posts what a step of a nest posts
abbrev pub main_of_step : NestStep → List Action
main_of_step (steps.Post task queue) = script_actions.Main task queue 0 ∷ []
main_of_step (steps.Say value) = []
main_of_step (steps.Loop bound) = []

-- the actions of a script that post what a task of a nest posts
abbrev pub main_of_task : NestTaskPlan → List Action
main_of_task task = flat_map main_of_step task.steps

-- a queue of this class, without voters
abbrev pub queue_of_class : ℕ → MainQueue
queue_of_class class = record { class = class; voters = 0 }

-- the script that the manager is made with: the queues of the nest, its tasks without steps, and an action for each post
abbrev pub nest_script : NestPlan → Plan
nest_script nest = record {
  workers = 1;
  foreground = 1;
  foreground_best = 1;
  background = 0;
  threshold = 0;
  runners = [];
  queues = map queue_of_class nest.classes;
  tasks = map (λ task. []) nest.tasks;
  jobs = [];
  actions = flat_map main_of_action nest.actions ++ flat_map main_of_task nest.tasks;
  is_open = false;
}

-- the entry is one that a nest makes of the main queues: a post that is accepted without a delay, a take or an end
abbrev pub is_plain : Kind → Bool
is_plain (kinds.Main task queue delay ok) = delay == 0 && ok
is_plain (kinds.MainTake task queue found) = true
is_plain (kinds.MainEnd task left) = true
is_plain kind = false

-- what was posted, by either past
abbrev pub posting_of_entry : Posted → MainPosting
posting_of_entry p = record { task = p.task; queue = p.home }

abbrev pub posting_of_nest : NestPosted → MainPosting
posting_of_nest p = record { task = p.task; queue = p.queue }

-- the entries tell of the main queues what the events do: the same posts, and a task is taken where it is deferred or starts,
-- and is ended at once
pub record TellsEntries (past : List Event) (entries : List Entry) : Type 0 where
  pub posts : map posting_of_entry (main_posts entries) ≡ map posting_of_nest (posted_tasks past)
  pub taken : (t : ℕ) → is_main_taken entries t ≡ (was_deferred past t || is_started past t)
  pub plain : AllByRecursion (λ e. is_plain e.kind ≡ true) entries
  pub idle : running entries 0 ≡ None
  pub few : length entries ≤ 2 * length past
