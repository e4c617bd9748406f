-- What a reader or a writer of std is seen as.
use Rattle.std.specs.Prelude.{ℕ, List, Option, None, is_some, if◌then◌else◌}

-- the bytes that a reader has left or a writer holds, where these are told, and how often it failed
pub record Told : Type 0 where
  pub bytes : Option (List ℕ)
  pub faults : ℕ

-- what is told now, if it was told at first: what was not told at first never is
abbrev pub told_since : Option (List ℕ) → Option (List ℕ) → Option (List ℕ)
told_since first now = if is_some first then now else None
