use Rattle.std.proofs.Common.{◌≡◌, ◌<◌, ℕ, true, length, is_ok, vec_len, vec_capacity, ap, sym, ◌∙◌, arith, rules}
use Rattle.std.specs.Prelude.{nat_lt}
use Rattle.std.specs.List.{prefix_len}
use Rattle.std.proofs.lemmas.List.Sums.{prefix_len-le-length}
use Rattle.queue_selector.specs.FrontSet.{Entries, entry_below}
use Rattle.queue_selector.proofs.Sorting.{insert_by-place}
use Rattle.queue_selector.proofs.front_set.FrontSet.insert.Goals as goal

place_is : (order place : ℕ) (one other : Entries) → one ≡ other → place ≡ prefix_len (λ entry. nat_lt entry.order order) other.entries
    → place ≡ prefix_len (λ entry. nat_lt entry.order order) one.entries
place_is order place one other same is = is ∙ ap (λ (s : Entries). prefix_len (λ entry. nat_lt entry.order order) s.entries) (sym same)

pub insert-requires : goal.insert-requires
insert-requires c = omega (
  arith,
  place_is c.args.entry.order c.place-place.result _ _ c.self.view_is c.place-place.ensures,
  prefix_len-le-length (λ entry. nat_lt entry.order c.args.entry.order) c.self.inside.entries.items,
  c.self.inside.entries.ok.0,
)

pub returns : goal.returns
returns c =
    let room : vec_len c.self.inside.entries < vec_capacity c.self.inside.entries =
    omega (arith, c.requires.room, c.self.inside.entries.ok.0, ap (λ s. length s.entries) c.self.view_is, ap (λ s. s.room) c.self.view_is) in
    let ok : is_ok c.insert.result ≡ true = search (rules, c.insert.ensures.succeeds room) in
    let place : c.place-place.result ≡ prefix_len (λ entry. nat_lt entry.order c.args.entry.order) c.self.inside.entries.items =
    place_is c.args.entry.order c.place-place.result _ _ c.self.view_is c.place-place.ensures in
    rw (← c.self.view_is, c.insert.ensures.items, ok, (c.insert.ensures.in_place room).1.0, place)
    (ap (λ entries. record { entries = entries; room = vec_capacity c.self.inside.entries })
    (sym (insert_by-place entry_below c.args.entry c.self.inside.entries.items)))
