-- What contracts see of delayed tasks.
use Rattle.std.specs.Prelude.{ℕ, ◌==◌, Bool, nat_lt, nat_le, ◌&&◌, ◌||◌, List}
use Rattle.delayed_manager.specs.declared.ripening.Ripening.{Ripening}

-- what is held, in the order in which it ripens; and how much there is room for
pub record Waiting : Type 0 where
  pub held : List Ripening
  pub room : ℕ

-- the room with other tasks in it
abbrev pub with_held : Waiting → List Ripening → Waiting
with_held waiting held = record waiting { held = held }

-- the first ripens before the second: by the moment, and at one moment by the post (this project's own rule)
abbrev pub ripens_before : Ripening → Ripening → Bool
ripens_before a b = nat_lt a.ripe b.ripe || (a.ripe == b.ripe && nat_lt a.post b.post)

-- it is ripe at the moment
abbrev pub is_ripe : ℕ → Ripening → Bool
is_ripe now r = nat_le r.ripe now
