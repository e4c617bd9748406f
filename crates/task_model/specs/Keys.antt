-- The order in which the tasks of a sequence are taken, which also decides between sources of one priority.
use Rattle.std.specs.Prelude.{ℕ, if◌then◌else◌, List, Option, Some}
use Rattle.std.specs.Option.{option_map}
use Rattle.std.specs.List.{filter_map}
use Rattle.task_base.specs.declared.entry.Entry.{Entry}
use Rattle.task_base.specs.declared.source.Key.{Key}
use Rattle.task_model.specs.Time.{tick_from}
use Rattle.task_model.specs.Posts.{Posted, is_delayed, posts}

-- the key of what is ready from its post on: where it was posted
abbrev pub key_at : ℕ → Key
key_at place = record { place = place; ripe = 0; post = place }

-- the key of an accepted task: of an immediate one where it was posted; of a delayed one the first tick at or past
-- its ripe moment, that moment, and where it was posted. Before that tick it has none (this project's own rule)
abbrev pub key_of : List Entry → Posted → Option Key
key_of past p =
    if is_delayed p
    then option_map (λ place. record { place = place; ripe = p.ripe; post = p.place }) (tick_from past p.ripe)
    else Some (key_at p.place)

-- an accepted task that has a key
pub record Ready : Type 0 where
  pub posted : Posted
  pub key : Key

-- the accepted tasks of the pool that have keys
unfoldable pub ready : List Entry → List Ready
ready past = filter_map (λ p. option_map (λ key. record { posted = p; key = key }) (key_of past p)) (posts past)
