-- Tasks in lists: which tasks a list has, and how it changes.
use Rattle.std.specs.Prelude.{◌+◌, if◌then◌else◌, slice_set, ◌≡◌, ◌⊎◌, ⊤, ℕ, zero, suc, true, List, [], ◌∷◌, length, Option, Some, None, is_some, unwrap_or, slice_index_or}
use Rattle.pool_core.specs.declared.task_lists.TaskLine.{TaskLine}

-- the lists by their first tasks, and for each task that is in a list what comes after it
pub record Lists : Type 0 where
  pub lines : List TaskLine
  pub after : List (Option ℕ)

-- an empty list
abbrev pub no_line : TaskLine
no_line = record { first = 0; count = 0 }

-- the task after one that is in a list
abbrev pub after_of : List (Option ℕ) → ℕ → ℕ
after_of after t = unwrap_or (slice_index_or after t None) 0

-- that many tasks, from the first one on
abbrev pub chain : ℕ → List (Option ℕ) → ℕ → List ℕ
chain zero after t = []
chain (suc n) after t = t ∷ chain n after (after_of after t)

-- the tasks of a list
abbrev pub list_of : Lists → ℕ → List ℕ
list_of lists l = chain (slice_index_or lists.lines l no_line).count lists.after (slice_index_or lists.lines l no_line).first

-- the task is one of these
abbrev pub IsAmong : ℕ → List ℕ → Type 0
IsAmong t [] = ⊥
IsAmong t (x ∷ xs) = (x ≡ t) ⊎ IsAmong t xs

-- none of these is there twice
abbrev pub IsOnce : List ℕ → Type 0
IsOnce [] = ⊤
IsOnce (x ∷ xs) = (IsAmong x xs → ⊥) × IsOnce xs

-- the task is in the list
abbrev pub IsListed : Lists → ℕ → ℕ → Type 0
IsListed lists l t = IsAmong t (list_of lists l)

-- the task is known to be in a list
abbrev pub is_marked : List (Option ℕ) → ℕ → Type 0
is_marked after t = is_some (slice_index_or after t None) ≡ true

-- each task is in one list at most, there once, and those that are in a list are known
pub record AreApart (lists : Lists) : Type 0 where
  pub once : (l : ℕ) → IsOnce (list_of lists l)
  pub apart : (a b t : ℕ) → IsListed lists a t → IsListed lists b t → a ≡ b
  pub marked : (l t : ℕ) → IsListed lists l t → is_marked lists.after t
  pub listed : (t : ℕ) → is_marked lists.after t → (l : ℕ) × IsListed lists l t

-- there are as many lists, of as many tasks
pub record AreAsMany (now before : Lists) : Type 0 where
  pub lists : length now.lines ≡ length before.lines
  pub tasks : length now.after ≡ length before.after

-- each other list is as it was
abbrev pub AreOthers : Lists → Lists → ℕ → Type 0
AreOthers before now list = (l : ℕ) → (l ≡ list → ⊥) → list_of now l ≡ list_of before l

-- the lists with the task in front of one, if it is in none
abbrev pub with_task : Lists → ℕ → ℕ → Lists
with_task lists l t = if is_some (slice_index_or lists.after t None) then lists else record {
  lines = slice_set lists.lines l (record { first = t; count = (slice_index_or lists.lines l no_line).count + 1 });
  after = slice_set lists.after t (Some (slice_index_or lists.lines l no_line).first);
}

-- the task has come to the front of the list, or was in one and stays there
abbrev pub IsPushed : Lists → Lists → ℕ → ℕ → Type 0
IsPushed before now list task =
    ((list_of now list ≡ task ∷ list_of before list) × AreOthers before now list)
    ⊎ ((now ≡ before) × (l : ℕ) × IsListed before l task)

-- the first task of the list has gone, where there was one
abbrev pub IsPopped : Lists → Lists → ℕ → Option ℕ → Type 0
IsPopped before now list None = (now ≡ before) × (list_of before list ≡ [])
IsPopped before now list (Some task) = (list_of before list ≡ task ∷ list_of now list) × AreOthers before now list
