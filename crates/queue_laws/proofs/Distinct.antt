-- The orders of main tasks: each is below the next draw, and no two tasks have one. Both hold since the main arrivals rise.
-- Cited by `hist_model`.
use Rattle.std.proofs.Common.{◌≡◌, ℕ, ◌+◌, ◌<◌, Bool, true, cond, None, arith, List, [], ◌∷◌, ◌++◌, sym, ap, ◌∙◌, subst, Option, Some, inl, inr}
use Rattle.std.specs.Prelude.{◌⊎◌, ◌&&◌, not, nat_lt, nat_le, Contains}
use Rattle.std.specs.Option.{option_map, IfSome}
use Rattle.std.specs.List.{AllByRecursion}
use Rattle.std.proofs.lemmas.Bool.{true≢false, and_parts, ltb-true, true_from_ne_false, both_ways}
use Rattle.task_base.specs.declared.entry.Entry.{Entry}
use Rattle.task_base.specs.declared.entry.Kind.TheVariants as kinds
use Rattle.list_laws.proofs.Made.{count_less, contains_filter}
use Rattle.task_model.specs.Time.{now_of}
use Rattle.task_model.specs.Refusal.{is_closed}
use Rattle.pool_laws.specs.Keys.{NoTickAhead}
use Rattle.queue_laws.proofs.Orders.{order_at_tick}
use Rattle.std.proofs.lemmas.Option.{same_Some}
use Rattle.list_laws.specs.Sorts.{Differ, SameMembers}
use Rattle.task_model.specs.Posts.{Posted, is_delayed, ripens_before, main_posts}
use Rattle.task_model.specs.Orders.{ripens, ripening, next_draw, order_of}
use Rattle.queue_laws.specs.Orders.{Ordered, ordered, main_arrivals, OrdersBelow, Distinct, OrdersDistinct, ordered_below}
use Rattle.list_laws.proofs.Elements.{AllByRecursion-map, AllByRecursion-both, AllByRecursion-through, AllByRecursion-contains_itself, AllByRecursion-made}
use Rattle.list_laws.specs.Lists.{Ranks, count}
use Rattle.list_laws.proofs.Ranks.{ranks_by}
use Rattle.list_laws.proofs.Sorts.{rises_apart}
use Rattle.pool_laws.proofs.Keys.Arrivals.{ranks_ripens, main_posts_differ}
use Rattle.queue_laws.proofs.Arrivals.{main_arrivals_below, main_arrivals_rise}

ranks_order : Ranks ordered_below
ranks_order = ranks_by (λ o. o.order)

-- a task with its order
abbrev with : Posted → ℕ → Ordered
with p n = record { posted = p; order = n }

-- what holds of the arrivals holds of the accepted main tasks under their orders
by_arrivals : (P : Ordered → Type 0) (past : List Entry) → SameMembers (main_arrivals past) (ordered past) → AllByRecursion P (main_arrivals past)
    → AllByRecursion (λ p. (n : ℕ) → order_of past p ≡ Some n → P (with p n)) (main_posts past)
unfolding ordered
by_arrivals P past same all = AllByRecursion-map (λ p. IfSome (option_map (with p) (order_of past p)) P)
    (λ p. (n : ℕ) → order_of past p ≡ Some n → P (with p n)) (main_posts past)
    (λ p h n is. subst (λ (o : Option ℕ). IfSome (option_map (with p) o) P) is h)
    (AllByRecursion-made P (λ p. option_map (with p) (order_of past p)) (main_posts past)
    (AllByRecursion-through P (ordered past) (main_arrivals past) same.back all))

pub orders_below : (past : List Entry) → SameMembers (main_arrivals past) (ordered past) → OrdersBelow past
orders_below past same = by_arrivals (λ o. o.order < next_draw past) past same (main_arrivals_below past)

pub orders_distinct : (past : List Entry) → SameMembers (main_arrivals past) (ordered past) → OrdersDistinct past
orders_distinct past same = apart (main_posts past) (main_posts_differ past)
    (by_arrivals (Contains (main_arrivals past)) past same (AllByRecursion-contains_itself (main_arrivals past)))
  where
    arrives : Posted → Type 0
    arrives p = (n : ℕ) → order_of past p ≡ Some n → Contains (main_arrivals past) (with p n)

    never : (p q : Posted) (n : ℕ) → (ripens_before p q ≡ true) ⊎ (ripens_before q p ≡ true)
        → (with p n ≡ with q n) ⊎ ((ordered_below (with p n) (with q n) ≡ true)
        ⊎ (ordered_below (with q n) (with p n) ≡ true)) → ⊥
    never p q n (inl first) (inl one) = absurd (true≢false (sym first ∙ ap (λ o. ripens_before o.posted q) one ∙ ranks_ripens.itself q))
    never p q n (inr first) (inl one) = absurd (true≢false (sym first ∙ ap (λ o. ripens_before q o.posted) one ∙ ranks_ripens.itself q))
    never p q n first (inr (inl less)) = absurd (true≢false (sym less ∙ ranks_order.itself (with p n)))
    never p q n first (inr (inr less)) = absurd (true≢false (sym less ∙ ranks_order.itself (with p n)))

    apart : (ps : List Posted) → Differ ripens_before ps → AllByRecursion arrives ps → Distinct (order_of past) ps
    apart [] differ all = tt
    apart (p ∷ ps) differ all = (
      AllByRecursion-map (λ q. ((ripens_before p q ≡ true) ⊎ (ripens_before q p ≡ true)) × arrives q)
          (λ q. (n : ℕ) → order_of past p ≡ Some n → order_of past q ≡ Some n → ⊥) ps
          (λ q h n of_p of_q. never p q n h.0 (rises_apart ordered_below (main_arrivals past) (with p n) (with q n)
          (main_arrivals_rise past) (all.0 n of_p) (h.1 n of_q)))
          (AllByRecursion-both (λ q. (ripens_before p q ≡ true) ⊎ (ripens_before q p ≡ true)) arrives ps differ.0 all.1),
      apart ps differ.1 all.1,
    )

-- of two main tasks that ripen at one tick, the one that ripens before the other has the lesser order
pub ripened_in_order : (past : List Entry) (e : Entry) (p q : Posted) (moment m n : ℕ) → NoTickAhead past → e.kind ≡ kinds.Tick moment
    → Contains (main_posts past) p → ripens past moment p ≡ true → ripens past moment q ≡ true → ripens_before p q ≡ true
    → order_of (past ++ e ∷ []) p ≡ Some m → order_of (past ++ e ∷ []) q ≡ Some n → m < n
unfolding ripening
ripened_in_order past e p q moment m n ahead tick among ripe also first of_p of_q =
    omega (
      arith,
      drew p m ripe of_p,
      drew q n also of_q,
      count_less (λ r. ripens_before r p) (λ r. ripens_before r q) (ripening past moment) p (λ r h. through r h)
          (contains_filter (ripens past moment) (main_posts past) p among ripe) (ranks_ripens.itself p) first,
    )
  where
    through : (r : Posted) → ripens_before r p ≡ true → ripens_before r q ≡ true
    through r h = true_from_ne_false (ripens_before r q) (λ no. both_ways (ripens_before r p)
        (ranks_ripens.through r q p no (ranks_ripens.one_way p q first)) h)

    -- what a task that ripens draws
    drew : (r : Posted) (k : ℕ) → ripens past moment r ≡ true → order_of (past ++ e ∷ []) r ≡ Some k
        → next_draw past + count (λ x. ripens_before x r) (ripening past moment) ≡ k
    drew r k is order =
        let last = and_parts (is_delayed r && not (is_closed past r.home) && nat_lt (now_of past) r.ripe) (nat_le r.ripe moment) is in
        let later = and_parts (is_delayed r && not (is_closed past r.home)) (nat_lt (now_of past) r.ripe) last.0 in
        let delayed = (and_parts (is_delayed r) (not (is_closed past r.home)) later.0).0 in
        same_Some _ _ (sym (ap (λ (b : Bool). cond b (Some (next_draw past + count (λ x. ripens_before x r) (ripening past moment))) None) is)
        ∙ sym (order_at_tick past e r moment tick delayed (ahead r.ripe (ltb-true (now_of past) r.ripe later.1))) ∙ order)
