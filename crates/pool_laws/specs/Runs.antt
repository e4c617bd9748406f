-- What is run of the pool and of the main queues: notions that each have alike, of main tasks where `main` is true.
use Rattle.std.specs.Prelude.{◌≡◌, ℕ, ◌≤◌, Bool, true, false, List, [], ◌∷◌, Some, Contains, ◌⊎◌}
use Rattle.task_base.specs.Plan.{Plan}
use Rattle.task_base.specs.Runners.{sequence_of}
use Rattle.task_base.specs.declared.entry.Entry.{Entry}
use Rattle.task_base.specs.declared.entry.Kind.{Kind}
use Rattle.task_model.specs.Posts.{Posted, posts, posted_by, main_posts, main_posted_by, is_taken, takes, is_main_taken, main_takes}
use Rattle.task_model.specs.Posts.{is_ended, ends}
use Rattle.pool_laws.specs.Posts.{is_main_ended, main_ends}
use Rattle.task_model.specs.Seats.{Running, running}
use Rattle.pool_laws.specs.Moves.{Part, Takes, Ends, moves}
use Rattle.pool_laws.specs.Seats.{main_parts}

-- the accepted tasks, and what an entry adds to them
abbrev pub posts_as : Bool → List Entry → List Posted
posts_as false past = posts past
posts_as true past = main_posts past

abbrev pub posted_as : Bool → List Entry → Kind → List Posted
posted_as false past kind = posted_by past kind
posted_as true past kind = main_posted_by past kind

-- the task was taken, and the entry takes it
abbrev pub taken_as : Bool → List Entry → ℕ → Bool
taken_as false past t = is_taken past t
taken_as true past t = is_main_taken past t

abbrev pub takes_as : Bool → ℕ → Kind → Bool
takes_as false t kind = takes t kind
takes_as true t kind = main_takes t kind

-- the task has ended, and the entry ends it
abbrev pub ended_as : Bool → List Entry → ℕ → Bool
ended_as false past t = is_ended past t
ended_as true past t = is_main_ended past t

abbrev pub ends_as : Bool → ℕ → Kind → Bool
ends_as false t kind = ends t kind
ends_as true t kind = main_ends t kind

-- what the taking and the ending of such a task move
abbrev pub run_parts : Bool → List Part
run_parts false = Takes ∷ Ends ∷ []
run_parts true = main_parts

abbrev pub moves_runs : Bool → Kind → Bool
moves_runs main = moves (run_parts main)

-- the task was accepted, and the seat is one for it: a worker for a task of the pool, the driver for a main task
pub record CanRun (script : Plan) (past : List Entry) (seat : ℕ) (w : Running) (main : Bool) : Type 0 where
  pub accepted : Posted
  pub posted : Contains (posts_as main past) accepted
  pub task_is : accepted.task ≡ w.task
  pub home_is : accepted.home ≡ w.home
  pub worker : main ≡ false → 1 ≤ seat
  pub driver : main ≡ true → seat ≡ 0
  pub known : seat ≤ script.workers

-- the seat runs such a task, which was taken and has not ended
pub record RunsAs (script : Plan) (past : List Entry) (seat : ℕ) (w : Running) (main : Bool) : Type 0 where
  pub can : CanRun script past seat w main
  pub taken : taken_as main past w.task ≡ true
  pub not_ended : ended_as main past w.task ≡ false

-- what has ended was taken, and seats run such tasks; no two seats run one task, or tasks of one sequence
pub record RunsSingly (script : Plan) (past : List Entry) (main : Bool) : Type 0 where
  pub taken_before_ended : (t : ℕ) → ended_as main past t ≡ true → taken_as main past t ≡ true
  pub runs : (seat : ℕ) (w : Running) → running past seat ≡ Some w → w.is_main ≡ main → RunsAs script past seat w main
  pub alone : (a b : ℕ) (v w : Running) → running past a ≡ Some v → running past b ≡ Some w → v.is_main ≡ main → w.is_main ≡ main
      → (v.task ≡ w.task) ⊎ (sequence_of script v.home v.task ≡ sequence_of script w.home w.task) → a ≡ b
