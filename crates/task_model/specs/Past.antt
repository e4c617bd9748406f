-- Notions of the past that each entry changes, where the change may depend on the entries before it.
use Rattle.std.specs.Prelude.{List, [], ◌∷◌, ◌++◌}
use Rattle.task_base.specs.declared.entry.Entry.{Entry}

-- the fold behind the entries before
abbrev pub fold_past_from : {A : Type 0} → (List Entry → A → Entry → A) → List Entry → A → List Entry → A
fold_past_from step before value [] = value
fold_past_from step before value (e ∷ rest) = fold_past_from step (before ++ e ∷ []) (step before value e) rest

-- a fold over the entries whose step also sees the entries before
unfoldable pub fold_past : {A : Type 0} → (List Entry → A → Entry → A) → A → List Entry → A
fold_past step start past = fold_past_from step [] start past
