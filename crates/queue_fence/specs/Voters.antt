-- What the votes on a queue come to.
use Rattle.std.specs.Prelude.{Bool, true, ◌&&◌, List, [], ◌∷◌}

-- all votes are for the queue
abbrev pub all_on : List Bool → Bool
all_on [] = true
all_on (on ∷ votes) = on && all_on votes
