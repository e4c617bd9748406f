-- The bodies of the tasks that may still be taken.
use Rattle.std.specs.Prelude.{◌≡◌, ℕ, ◌<◌, ◌==◌, Bool, true, false, not, ◌&&◌, ◌||◌, List, length, Option, Some, None, is_some, unwrap_or, slice_get, slice_set}
use Rattle.std.specs.List.{list_any}
use Rattle.task_base.specs.Plan.{Plan}
use Rattle.task_base.specs.declared.entry.Entry.{Entry}
use Rattle.task_base.specs.declared.entry.Kind.{Kind}
use Rattle.task_base.specs.declared.entry.Kind.TheVariants as kinds
use Rattle.task_base.specs.declared.step.Step.{Step}
use Rattle.task_model.specs.Posts.{is_main_taken, is_taken, main_takes, takes}
use Rattle.task_model.specs.Seats.{steps_of}

-- the entry is a refused post of this task, to a runner or to a main queue
abbrev pub refuses : ℕ → Kind → Bool
refuses t (kinds.Post task runner delay ok) = task == t && not ok
refuses t (kinds.Main task queue delay ok) = task == t && not ok
refuses t kind = false

-- the post of the task was refused
unfoldable pub was_refused : List Entry → ℕ → Bool
was_refused past t = list_any (λ e. refuses t e.kind) past

-- the task may still be taken: it was not, from the pool or from a main queue, and its post was not refused
abbrev pub is_in_drawer : List Entry → ℕ → Bool
is_in_drawer past t = not (is_taken past t || is_main_taken past t || was_refused past t)

-- the entry takes the task, or refuses its post
abbrev pub empties : ℕ → Kind → Bool
empties t kind = takes t kind || main_takes t kind || refuses t kind

-- there is a place for each task, and a body in it exactly while the task may still be taken: a body of its steps, of which
-- none is done
pub record AreBodies {X : Type 0} (bodies : List (Option X)) (whole rest : X → List Step) (script : Plan) (past : List Entry) : Type 0 where
  pub all : length bodies ≡ length script.tasks
  pub held : (t : ℕ) → t < length script.tasks → is_some (unwrap_or (slice_get bodies t) None) ≡ is_in_drawer past t
  pub whole_is : (t : ℕ) (body : X) → slice_get bodies t ≡ Some (Some body) → whole body ≡ steps_of script t
  pub rest_is : (t : ℕ) (body : X) → slice_get bodies t ≡ Some (Some body) → rest body ≡ steps_of script t

-- the bodies, without that of a task whose post was refused
abbrev pub kept_if : {X : Type 0} → Bool → List (Option X) → ℕ → List (Option X)
kept_if true bodies task = bodies
kept_if false bodies task = slice_set bodies task None
