-- What is known of who is inside a job.
use Rattle.std.specs.Prelude.{◌≡◌, ℕ, ◌<◌, ◌≤◌, ◌==◌, true, ◌&&◌, List, map, length, Option, Some, None, slice_get}
use Rattle.std.specs.List.{filter_map, range_with_len}
use Rattle.std.specs.Option.{option_map}
use Rattle.task_base.specs.Plan.{Plan}
use Rattle.task_base.specs.declared.entry.Entry.{Entry}
use Rattle.list_laws.specs.Lists.{keep}
use Rattle.task_model.specs.Seats.{Holding, all_seats, holding, running}
use Rattle.task_model.specs.Jobs.{is_job_accepted}
use Rattle.job_source.specs.declared.source.TheConstants.{MOST_INSIDE}

-- the item that is held, where it is of the job and held under the number
abbrev pub item_if : ℕ → ℕ → Option Holding → Option ℕ
item_if j id held = option_map (λ h. h.item) (keep (λ h. h.job == j && h.id == id) held)

-- the item of the job that a seat holds under the number, if one does
abbrev pub item_under : Plan → List Entry → ℕ → ℕ → Option ℕ
item_under script past j id = slice_get (filter_map (λ seat. item_if j id (holding past seat)) (all_seats script)) 0

-- the items of the job that are held, by their numbers
unfoldable pub held_in : Plan → List Entry → ℕ → List (Option ℕ)
held_in script past j = map (item_under script past j) (range_with_len 0 MOST_INSIDE)

-- who holds an item is a seat of the script; its job is declared and was accepted; its number is one of those of a job
pub record HoldsItem (script : Plan) (past : List Entry) (seat : ℕ) (h : Holding) : Type 0 where
  pub known : seat ≤ script.workers
  pub declared : h.job < length script.jobs
  pub fits : h.id < MOST_INSIDE
  pub accepted : is_job_accepted past h.job ≡ true

-- who is inside a job is known, no two are under one number, and a worker inside runs no task
pub record AreInside (script : Plan) (past : List Entry) : Type 0 where
  pub holds : (seat : ℕ) (h : Holding) → holding past seat ≡ Some h → HoldsItem script past seat h
  pub own_number : (a b : ℕ) (h k : Holding) → holding past a ≡ Some h → holding past b ≡ Some k → h.job ≡ k.job → h.id ≡ k.id → a ≡ b
  pub one_thing : (seat : ℕ) (h : Holding) → 1 ≤ seat → holding past seat ≡ Some h → running past seat ≡ None
