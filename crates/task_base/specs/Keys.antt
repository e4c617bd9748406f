-- The order of keys.
use Rattle.std.specs.Prelude.{Bool, ◌==◌, nat_lt, ◌&&◌, ◌||◌}
use Rattle.task_base.specs.declared.source.Key.{Key}

-- the first key is below the second: keys are compared from left to right
abbrev pub key_below : Key → Key → Bool
key_below a b = nat_lt a.place b.place || (a.place == b.place && (nat_lt a.ripe b.ripe || (a.ripe == b.ripe && nat_lt a.post b.post)))
