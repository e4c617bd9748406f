-- Words of the laws on the orders of main tasks.
use Rattle.std.specs.Prelude.{◌≡◌, ℕ, ◌+◌, List, [], ◌∷◌, ◌++◌, Option, Some, ◌<◌, nat_lt, Bool, true, ◌&&◌, if◌then◌else◌, is_none}
use Rattle.std.specs.List.{AllByRecursion, filter_map}
use Rattle.std.specs.Option.{option_map}
use Rattle.list_laws.specs.Sorts.{sort_by}
use Rattle.task_base.specs.declared.entry.Entry.{Entry}
use Rattle.task_model.specs.Past.{fold_past}
use Rattle.task_model.specs.Posts.{Posted, is_delayed, main_posts, post_behind, ripens_before}
use Rattle.task_model.specs.Orders.{order_of, next_draw, drawn_at, ripening}
use Rattle.task_base.specs.declared.entry.Kind.{Kind}
use Rattle.task_base.specs.declared.entry.Kind.TheVariants.{Main, Tick}
use Rattle.pool_laws.specs.Moves.{Part, MainPosts, Moment, moves}
use Rattle.task_model.specs.Time.{tick_from}

-- an accepted main task with its order
pub record Ordered : Type 0 where
  pub posted : Posted
  pub order : ℕ

-- the accepted main tasks that have orders
unfoldable pub ordered : List Entry → List Ordered
ordered past = filter_map (λ p. option_map (λ order. record { posted = p; order = order }) (order_of past p)) (main_posts past)

-- each of the tasks draws one number, from n upward
abbrev pub numbered_from : ℕ → List Posted → List Ordered
numbered_from n [] = []
numbered_from n (p ∷ ps) = record { posted = p; order = n } ∷ numbered_from (n + 1) ps

-- the main tasks that draw at an entry behind a past, in the order in which they draw: an accepted immediate one at its
-- post, and those that ripen at a tick by ripe moment, then by place of post
abbrev pub drawing_by : List Entry → Kind → List Ordered
drawing_by before (Main task queue delay true) = if nat_lt 0 delay then [] else numbered_from (next_draw before) (post_behind before task queue delay ∷ [])
drawing_by before (Tick moment) = numbered_from (next_draw before) (sort_by ripens_before (ripening before moment))
drawing_by before kind = []

-- the accepted main tasks in the order in which they draw
unfoldable pub main_arrivals : List Entry → List Ordered
main_arrivals past = fold_past (λ before known e. known ++ drawing_by before e.kind) [] past

-- no two of the tasks have one number
abbrev pub Distinct : (Posted → Option ℕ) → List Posted → Type 0
Distinct number [] = Unit {0}
Distinct number (p ∷ ps) = AllByRecursion (λ q. (n : ℕ) → number p ≡ Some n → number q ≡ Some n → ⊥) ps × Distinct number ps

-- no two accepted main tasks have one order
abbrev pub OrdersDistinct : List Entry → Type 0
OrdersDistinct past = Distinct (order_of past) (main_posts past)

-- the kinds that may give a main task its order: an accepted post, and a tick, which alone does so to a task of the past
abbrev pub order_parts : List Part
order_parts = MainPosts ∷ Moment ∷ []

abbrev pub moves_orders : Kind → Bool
moves_orders = moves (Moment ∷ [])

-- each order that was drawn is below the next draw; it holds where the moments of the ticks never fall
abbrev pub OrdersBelow : List Entry → Type 0
OrdersBelow past = AllByRecursion (λ p. (n : ℕ) → order_of past p ≡ Some n → n < next_draw past) (main_posts past)

-- the order of a task of the past after a tick
abbrev pub order_at_tick_of : List Entry → ℕ → Posted → Option ℕ
order_at_tick_of before moment p = if is_delayed p && is_none (tick_from before p.ripe) then drawn_at before moment p else order_of before p

-- the order of the first is below that of the second
abbrev pub ordered_below : Ordered → Ordered → Bool
ordered_below a b = nat_lt a.order b.order
