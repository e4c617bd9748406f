-- The tasks that a line posts, where its words are right.
use Rattle.std.specs.Prelude.{ℕ, suc, ◌==◌, Bool, false, if◌then◌else◌, List, [], ◌∷◌, codes, Option, Some, None}
use Rattle.script_model.specs.Words.{words_of, is_word}
use Rattle.line_places.specs.Words.{id_of}
use Rattle.nest_lint.specs.declared.posts.Part.{Part}
use Rattle.nest_lint.specs.declared.posts.Part.TheVariants.{Task, Queue, Other}

-- what the next word is behind one that is this, and not `post`
abbrev pub part_after : Part → Part
part_after Task = Queue
part_after part = Other

-- what the next word is behind one that is this
abbrev pub part_behind : Part → List ℕ → Part
part_behind part word = if is_word word (codes "post") then Task else part_after part

-- the number is there, and this one
abbrev pub is_id : ℕ → Option ℕ → Bool
is_id task None = false
is_id task (Some id) = id == task

-- a word is this task, and posted
abbrev pub is_task : ℕ → Part → List ℕ → Bool
is_task task Task word = is_id task (id_of word)
is_task task part word = false

-- the first place of words, from this one on, at which they post the task
unfoldable pub place_of : ℕ → Part → List (List ℕ) → ℕ → Option ℕ
place_of task part [] place = None
place_of task part (word ∷ words) place =
    if is_task task part word then Some place else place_of task (part_behind part word) words (suc place)

-- the first place of a line at which it posts the task
abbrev pub posting_place : List ℕ → ℕ → Option ℕ
posting_place line task = place_of task Other (words_of line) 1
