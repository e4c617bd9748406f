-- The entry that a seat makes, and the past that it makes longer.
use Rattle.std.specs.Prelude.{ℕ, Bool, true, false, List, [], ◌∷◌, ◌++◌}
use Rattle.task_base.specs.declared.entry.Entry.{Entry}
use Rattle.task_base.specs.declared.entry.Kind.{Kind}
use Rattle.task_base.specs.declared.entry.Kind.TheVariants as kinds

-- the entry of a seat
abbrev pub entry_by : ℕ → Kind → Entry
entry_by seat kind = record { seat = seat; kind = kind }

-- the past with one more entry of a seat
abbrev pub next : List Entry → ℕ → Kind → List Entry
next past seat kind = past ++ entry_by seat kind ∷ []

-- the entry is one that an act step makes
abbrev pub is_acting : Kind → Bool
is_acting (kinds.Post task runner delay ok) = true
is_acting (kinds.Main task queue delay ok) = true
is_acting (kinds.Enter task scope) = true
is_acting (kinds.Leave task) = true
is_acting kind = false

-- shutdown starts with the entry
abbrev pub starts_shutdown : Kind → Bool
starts_shutdown kinds.Shutdown = true
starts_shutdown kind = false
