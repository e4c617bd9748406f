-- What a past of the main queues says of the tasks that were accepted.
-- Cited by `Pasts`, `Streak`, `TakenLanes`, `Takes`.
use Rattle.pool_laws.proofs.Keys.Posts.{in_order_found}
use Rattle.std.proofs.Common.{◌≡◌, ℕ, ◌<◌, ◌≤◌, List, refl, sym, ap, ◌∙◌, Option, Some, None, inl, inr}
use Rattle.std.specs.Prelude.{◌⊎◌, Contains}
use Rattle.std.specs.Option.{option_map}
use Rattle.std.proofs.lemmas.Bool.{cases_lt}
use Rattle.std.proofs.lemmas.Option.{none-some}
use Rattle.list_laws.specs.Sorts.{SameMembers}
use Rattle.list_laws.proofs.Elements.{AllByRecursion-contains}
use Rattle.list_laws.proofs.Made.{filter_map_contains}
use Rattle.list_laws.proofs.Values.{some-injective}
use Rattle.pool_laws.specs.Keys.{NoTickAhead}
use Rattle.queue_laws.proofs.Orders.{order_is}
use Rattle.task_base.specs.declared.entry.Entry.{Entry}
use Rattle.task_model.specs.Orders.{order_of}
use Rattle.queue_laws.specs.Orders.{Ordered, main_arrivals, ordered}
use Rattle.task_model.specs.Posts.{Posted, main_posts}
use Rattle.pool_laws.specs.Posts.{InOrder, main_post_of}
use Rattle.task_model.specs.Time.{now_of}
use Rattle.sequence_manager.specs.Pasts.{IsDue}

-- an accepted task has one post
pub one_post : (past : List Entry) (p : Posted) → InOrder (main_posts past) → Contains (main_posts past) p → main_post_of past p.task ≡ Some p
one_post past p order among =
    AllByRecursion-contains (λ q. main_post_of past q.task ≡ Some q) (main_posts past) p (in_order_found (main_posts past) order) among

-- a task that has drawn was accepted, and its order is what it drew
pub arrival_accepted : (past : List Entry) (o : Ordered) → SameMembers (main_arrivals past) (ordered past) → Contains (main_arrivals past) o
    → Contains (main_posts past) o.posted × (order_of past o.posted ≡ Some o.order)
unfolding ordered
arrival_accepted past o same among =
    let (p, accepted, made) = filter_map_contains (λ p. option_map (λ order. record { posted = p; order = order }) (order_of past p)) (main_posts past) o
    (AllByRecursion-contains (Contains (ordered past)) (main_arrivals past) o same.forth among) in
    by_posted p accepted (order_of past p) refl made
  where
    by_posted : (p : Posted) → Contains (main_posts past) p → (n : Option ℕ) → order_of past p ≡ n
        → ◌≡◌ {A = Option Ordered} (option_map (λ order. record { posted = p; order = order }) n) (Some o)
        → Contains (main_posts past) o.posted × (order_of past o.posted ≡ Some o.order)
    by_posted p accepted None drew made = absurd (none-some o made)
    by_posted p accepted (Some n) drew made =
        let is : ◌≡◌ {A = Ordered} (record { posted = p; order = n }) o = some-injective made in
        rw (← is) (accepted, drew)

-- two tasks that have drawn are one where they have one number
pub one_arrival : (past : List Entry) (a b : Ordered) → InOrder (main_posts past) → SameMembers (main_arrivals past) (ordered past)
    → Contains (main_arrivals past) a → Contains (main_arrivals past) b → a.posted.task ≡ b.posted.task → a ≡ b
one_arrival past a b order same among also is =
    let of_a = arrival_accepted past a same among in
    let of_b = arrival_accepted past b same also in
    let posted : a.posted ≡ b.posted =
    some-injective (sym (one_post past a.posted order of_a.0) ∙ ap (main_post_of past) is ∙ one_post past b.posted order of_b.0) in
    let drew : a.order ≡ b.order = some-injective (sym of_a.1 ∙ ap (order_of past) posted ∙ of_b.1) in
    ap (λ p. record { posted = p; order = a.order }) posted ∙ ap (λ n. record { posted = b.posted; order = n }) drew

-- a task that has drawn is due
pub drawn_is_due : (past : List Entry) (p : Posted) (n : ℕ) → NoTickAhead past → order_of past p ≡ Some n → IsDue past p
drawn_is_due past p n none drew delayed = by_order (cases_lt (now_of past) p.ripe)
  where
    by_order : (now_of past < p.ripe) ⊎ (p.ripe ≤ now_of past) → p.ripe ≤ now_of past
    by_order (inl ahead) =
        let undrawn : order_of past p ≡ None = rw (order_is past p, delayed, none p.ripe ahead) refl in
        absurd (none-some n (sym undrawn ∙ drew))
    by_order (inr come) = come
