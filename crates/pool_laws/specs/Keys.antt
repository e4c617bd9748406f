-- Words of the laws on posts, keys, and the tasks of sequences.
use Rattle.std.specs.Prelude.{◌≡◌, ℕ, ◌<◌, Bool, true, ◌&&◌, nat_lt, nat_le, if◌then◌else◌, List, [], ◌∷◌, ◌++◌, length, map, filter, Option, Some, None, is_none, Contains}
use Rattle.std.specs.Option.{option_map, option_or}
use Rattle.std.specs.List.{filter_map}
use Rattle.task_base.specs.declared.entry.Entry.{Entry}
use Rattle.task_base.specs.declared.entry.Kind.{Kind}
use Rattle.task_base.specs.declared.entry.Kind.TheVariants.{Post, Tick}
use Rattle.task_base.specs.declared.source.Key.{Key}
use Rattle.task_model.specs.Time.{now_of, is_tick_from, tick_from}
use Rattle.list_laws.specs.Sorts.{sort_by}
use Rattle.task_model.specs.Past.{fold_past}
use Rattle.task_model.specs.Posts.{Posted, is_delayed, post_behind, posts, ripens_before}
use Rattle.task_model.specs.Keys.{Ready, key_at, key_of}
use Rattle.task_base.specs.Keys.{key_below}
use Rattle.task_base.specs.Plan.{Plan}
use Rattle.task_model.specs.Sequences.{is_of, may_start}
use Rattle.pool_laws.specs.Moves.{Part, MainPosts, Moment, Phases, Posts, Takes, moves}

-- the place of the entry, where it is a tick of the moment or a later one
abbrev pub tick_by : List Entry → ℕ → Kind → Option ℕ
tick_by before moment kind = if is_tick_from moment kind then Some (length before) else None

-- the key of a delayed task at the tick that makes it ripe
abbrev pub key_by : List Entry → Posted → Kind → Option Key
key_by before p kind =
    if is_delayed p
    then option_map (λ place. record { place = place; ripe = p.ripe; post = p.place }) (tick_by before p.ripe kind)
    else None

-- the kinds that may give a task its key: an accepted post, and a tick
abbrev pub ready_parts : List Part
ready_parts = Posts ∷ Moment ∷ []

abbrev pub moves_ready : Kind → Bool
moves_ready = moves ready_parts

-- the accepted tasks that have keys at the tick behind a past
abbrev pub ready_at_tick_of : List Entry → ℕ → List Ready
ready_at_tick_of before moment =
    filter_map (λ p. option_map (λ key. record { posted = p; key = key }) (option_or (key_of before p) (key_by before p (Tick moment)))) (posts before)

-- no tick has come to a moment ahead; it holds where the moments of the ticks never fall
abbrev pub NoTickAhead : List Entry → Type 0
NoTickAhead past = (moment : ℕ) → now_of past < moment → tick_from past moment ≡ None

-- the kind is an accepted post to a runner, or to a main queue
abbrev pub moves_posts : Kind → Bool
moves_posts = moves (Posts ∷ [])

abbrev pub moves_main_posts : Kind → Bool
moves_main_posts = moves (MainPosts ∷ [])

-- the kinds that may change what a sequence may run next: an accepted post, a tick, a take, and the phases
abbrev pub sequence_parts : List Part
sequence_parts = Takes ∷ Phases ∷ ready_parts

abbrev pub moves_sequences : Kind → Bool
moves_sequences = moves sequence_parts

-- an accepted task that becomes ripe at the tick behind a past, with its key
abbrev pub ripe_at_tick_of : List Entry → ℕ → Posted → Option Ready
ripe_at_tick_of before moment p =
    if is_none (key_of before p) then option_map (λ key. record { posted = p; key = key }) (key_by before p (Tick moment)) else None

-- the key of the first is below that of the second
abbrev pub ready_below : Ready → Ready → Bool
ready_below a b = key_below a.key b.key

-- a head is an accepted task of its sequence, with its key, which has not been taken and may start in the phase
pub record IsHead (script : Plan) (past : List Entry) (s : ℕ) (head : Ready) : Type 0 where
  pub accepted : Contains (posts past) head.posted
  pub keyed : key_of past head.posted ≡ Some head.key
  pub of_sequence : is_of script s head.posted ≡ true
  pub free : may_start script past head.posted ≡ true

-- an immediate task behind a past, with its key
abbrev pub ready_behind : List Entry → ℕ → ℕ → ℕ → Ready
ready_behind before task runner delay = record { posted = post_behind before task runner delay; key = key_at (length before) }

-- the delayed task gets its key at a tick of this moment behind a past: it is ripe by then, and no tick before was at or
-- past its ripe moment
abbrev pub becomes_ripe : List Entry → ℕ → Posted → Bool
becomes_ripe before moment p = is_delayed p && nat_le p.ripe moment && is_none (tick_from before p.ripe)

-- a delayed task with the key that it gets at a tick behind a past
abbrev pub ripe_behind : List Entry → Posted → Ready
ripe_behind before p = record { posted = p; key = record { place = length before; ripe = p.ripe; post = p.place } }

-- the tasks that get their keys at an entry behind a past, in the order of the keys: an accepted immediate one at its
-- post, and those that become ripe at a tick by ripe moment, then by place of post
abbrev pub arriving_by : List Entry → Kind → List Ready
arriving_by before (Post task runner delay true) = if nat_lt 0 delay then [] else ready_behind before task runner delay ∷ []
arriving_by before (Tick moment) = map (ripe_behind before) (sort_by ripens_before (filter (becomes_ripe before moment) (posts before)))
arriving_by before kind = []

-- the accepted tasks of the pool in the order in which they get their keys
unfoldable pub arrivals : List Entry → List Ready
arrivals past = fold_past (λ before known e. known ++ arriving_by before e.kind) [] past
