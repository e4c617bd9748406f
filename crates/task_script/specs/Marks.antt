-- Marks for tasks by their numbers, as a list of flags.
use Rattle.std.specs.Prelude.{◌≡◌, ℕ, ◌==◌, Bool, true, false, ◌||◌, List, [], ◌∷◌, slice_index_or, slice_set}
use Rattle.std.specs.List.{list_any}

-- the marks, and those of these tasks
abbrev pub marked : List Bool → List ℕ → List Bool
marked marks [] = marks
marked marks (task ∷ tasks) = marked (slice_set marks task true) tasks

-- one of the tasks has a mark, or stands before among the tasks
abbrev pub is_any_marked : List Bool → List ℕ → Bool
is_any_marked marks [] = false
is_any_marked marks (task ∷ tasks) = slice_index_or marks task false || is_any_marked (slice_set marks task true) tasks

-- the tasks that have a mark are those of the list
abbrev pub AreMarks : List Bool → List ℕ → Type 0
AreMarks marks tasks = (t : ℕ) → slice_index_or marks t false ≡ list_any (λ task. task == t) tasks
