-- The main arrivals: they rise in order, they are the accepted main tasks that have orders, and the front of a lane is
-- the first of them that is in it.
-- Cited by `Distinct`, `hist_model`, `nested_loop`, `sequence_manager`.
use Rattle.std.proofs.Common.{◌≡◌, ℕ, suc, ◌+◌, ◌<◌, ◌≤◌, Bool, true, false, cond, List, [], ◌∷◌, ◌++◌, length}
use Rattle.std.proofs.Common.{map, take, refl, sym, ap, ◌∙◌, subst, Option, Some, None, arith}
use Rattle.std.specs.Prelude.{not, ◌&&◌, nat_lt, nat_le, find, filter, is_none, option_and_then}
use Rattle.std.specs.Option.{option_map, option_or}
use Rattle.std.specs.List.{AllByRecursion, filter_map}
use Rattle.std.proofs.lemmas.Bool.{true≢false, lt-ltb, ltb-true}
use Rattle.std.proofs.lemmas.Option.{none-some}
use Rattle.std.proofs.lemmas.List.{append-nil}
use Rattle.std.proofs.lemmas.List.Elements.{filter_map-append}
use Rattle.task_base.specs.Plan.{Plan}
use Rattle.task_base.specs.declared.entry.Entry.{Entry}
use Rattle.task_base.specs.declared.entry.Kind.{Kind}
use Rattle.task_base.specs.declared.entry.Kind.TheVariants as kinds
use Rattle.task_base.specs.declared.script.FenceAt.TheVariants.{Now}
use Rattle.task_base.specs.declared.script.Lane.{Lane}
use Rattle.list_laws.specs.Lists.{count, least}
use Rattle.list_laws.specs.Sorts.{sort_by, Rises, SameMembers}
use Rattle.task_model.specs.Past.{fold_past}
use Rattle.task_model.specs.Time.{now_of, tick_from}
use Rattle.task_model.specs.Posts.{Posted, is_delayed, ripens_before, post_behind, main_posted_by, main_posts}
use Rattle.task_model.specs.Refusal.{is_closed}
use Rattle.task_model.specs.Orders.{ripens}
use Rattle.queue_laws.specs.Orders.{Ordered, ordered, numbered_from, drawing_by, main_arrivals, moves_orders, order_at_tick_of, ordered_below, order_parts}
use Rattle.task_model.specs.Orders.{ripening, next_draw, draws, drawn_by, drawn_at, order_of}
use Rattle.task_model.specs.MainQueues.{class_of, front_with, is_in_lane, order_below, front_of}
use Rattle.pool_laws.specs.Keys.{NoTickAhead}
use Rattle.queue_laws.specs.Fronts.{front_for}
use Rattle.list_laws.proofs.Values.{some-injective}
use Rattle.list_laws.proofs.Counts.{count-cons}
use Rattle.list_laws.proofs.Filters.{filter_none, filter_map_congr, filter_map_congr_in, filter-filter_map}
use Rattle.list_laws.proofs.Filters.{map-congr_in, filter_map-passing, filter_map-option_map}
use Rattle.list_laws.proofs.Least.{least-map}
use Rattle.list_laws.proofs.Elements.{AllByRecursion-map, AllByRecursion-append, AllByRecursion-always, push_induction}
use Rattle.list_laws.proofs.Ranks.{ranks_by}
use Rattle.list_laws.proofs.Members.{same_members-refl, same_members-trans, same_members-append, same_members-map, same_members-either}
use Rattle.list_laws.proofs.Sorts.{count-sort_by, length-sort_by, rises-sort_by, rises-append, differ-filter, least_is_first, same_members-sort_by}
use Rattle.task_base.specs.Entries.{entry_by as by}
use Rattle.task_model.proofs.Growth.{fold_past-push, main_posts_push, draws_push}
use Rattle.pool_laws.proofs.Keys.Arrivals.{ranks_ripens, main_posts_differ}
use Rattle.queue_laws.proofs.Orders.{main_places, drawn, order_is, order_of_same, order_tick, order_at_post, unordered}
use Rattle.queue_laws.proofs.Fronts.{front_is_least}
use Rattle.pool_laws.specs.Moves.{moves}

pub main_arrivals_push : (past : List Entry) (e : Entry) → main_arrivals (past ++ e ∷ []) ≡ main_arrivals past ++ drawing_by past e.kind
unfolding main_arrivals
main_arrivals_push past e = fold_past-push (λ before known x. known ++ drawing_by before x.kind) [] past e

-- What one more entry does to the main arrivals.

pub main_arrivals_same : (past : List Entry) (e : Entry) → moves order_parts e.kind ≡ false → main_arrivals (past ++ e ∷ []) ≡ main_arrivals past
main_arrivals_same past e quiet =
    main_arrivals_push past e ∙ ap (λ xs. main_arrivals past ++ xs) (none e.kind quiet) ∙ append-nil (main_arrivals past)
  where
    none : (kind : Kind) → moves order_parts kind ≡ false → drawing_by past kind ≡ []
    none (kinds.Main task queue delay true) h = absurd (true≢false h)
    none (kinds.Tick now) h = absurd (true≢false h)
    none kind h = refl

pub main_arrivals_at_post : (past : List Entry) (e : Entry) (task queue delay : ℕ) → e.kind ≡ kinds.Main task queue delay true → nat_lt 0 delay ≡ false
    → main_arrivals (past ++ e ∷ []) ≡ main_arrivals past ++ record { posted = post_behind past task queue delay; order = next_draw past } ∷ []
main_arrivals_at_post past e task queue delay is immediate =
    main_arrivals_push past e
    ∙ ap (λ kind. main_arrivals past ++ drawing_by past kind) is
    ∙ ap (λ (b : Bool). main_arrivals past ++ cond b [] (numbered_from (next_draw past) (post_behind past task queue delay ∷ []))) immediate

pub main_arrivals_at_delayed_post : (past : List Entry) (e : Entry) (task queue delay : ℕ) → e.kind ≡ kinds.Main task queue delay true
    → nat_lt 0 delay ≡ true → main_arrivals (past ++ e ∷ []) ≡ main_arrivals past
main_arrivals_at_delayed_post past e task queue delay is delayed =
    main_arrivals_push past e
    ∙ ap (λ kind. main_arrivals past ++ drawing_by past kind) is
    ∙ ap (λ (b : Bool). main_arrivals past ++ cond b [] (numbered_from (next_draw past) (post_behind past task queue delay ∷ []))) delayed
    ∙ append-nil (main_arrivals past)

pub main_arrivals_at_tick : (past : List Entry) (e : Entry) (moment : ℕ) → e.kind ≡ kinds.Tick moment → main_arrivals (past ++ e ∷ [])
    ≡ main_arrivals past ++ numbered_from (next_draw past) (sort_by ripens_before (ripening past moment))
main_arrivals_at_tick past e moment is = main_arrivals_push past e ∙ ap (λ kind. main_arrivals past ++ drawing_by past kind) is

-- The main arrivals rise in order.

-- numbers from n upward, one for each task
numbered_within : (n : ℕ) (ps : List Posted) → AllByRecursion (λ o. (n ≤ o.order) × (o.order < n + length ps)) (numbered_from n ps)
numbered_within n [] = tt
numbered_within n (p ∷ ps) = (
  (omega arith, omega arith),
  AllByRecursion-map (λ o. (n + 1 ≤ o.order) × (o.order < n + 1 + length ps)) (λ o. (n ≤ o.order) × (o.order < n + suc (length ps))) (numbered_from (n + 1) ps)
      (λ o h. (omega (arith, h.0), omega (arith, h.1))) (numbered_within (n + 1) ps),
)

numbered_rises : (n : ℕ) (ps : List Posted) → Rises ordered_below (numbered_from n ps)
numbered_rises n [] = tt
numbered_rises n (p ∷ ps) = (
  AllByRecursion-map (λ o. (n + 1 ≤ o.order) × (o.order < n + 1 + length ps)) (λ o. nat_lt n o.order ≡ true) (numbered_from (n + 1) ps)
      (λ o h. lt-ltb n o.order (omega (arith, h.0))) (numbered_within (n + 1) ps),
  numbered_rises (n + 1) ps,
)

-- what draws at an entry draws the next numbers
drawing_within : (past : List Entry) (e : Entry)
    → AllByRecursion (λ o. (next_draw past ≤ o.order) × (o.order < next_draw (past ++ e ∷ []))) (drawing_by past e.kind)
drawing_within past e = by_kind e.kind (draws_push past e)
  where
    within : (kind : Kind) (ps : List Posted) → length ps ≡ drawn_by past kind → draws (past ++ e ∷ []) ≡ draws past + drawn_by past kind
        → AllByRecursion (λ o. (next_draw past ≤ o.order) × (o.order < next_draw (past ++ e ∷ []))) (numbered_from (next_draw past) ps)
    within kind ps long grown = AllByRecursion-map (λ o. (next_draw past ≤ o.order) × (o.order < next_draw past + length ps))
        (λ o. (next_draw past ≤ o.order) × (o.order < next_draw (past ++ e ∷ []))) (numbered_from (next_draw past) ps)
        (λ o h. (h.0, let lt : o.order < next_draw past + length ps = h.1 in omega (arith, lt, long, grown))) (numbered_within (next_draw past) ps)

    posted : (task queue delay : ℕ) (b : Bool) → draws (past ++ e ∷ []) ≡ draws past + cond b 0 1
        → AllByRecursion (λ o. (next_draw past ≤ o.order) × (o.order < next_draw (past ++ e ∷ [])))
        (cond b [] (numbered_from (next_draw past) (post_behind past task queue delay ∷ [])))
    posted task queue delay true grown = tt
    posted task queue delay false grown = ((omega arith, omega (arith, grown)), tt)

    by_kind : (kind : Kind) → draws (past ++ e ∷ []) ≡ draws past + drawn_by past kind
        → AllByRecursion (λ o. (next_draw past ≤ o.order) × (o.order < next_draw (past ++ e ∷ []))) (drawing_by past kind)
    by_kind (kinds.Main task queue delay true) grown = posted task queue delay (nat_lt 0 delay) grown
    by_kind (kinds.Tick moment) grown = within (kinds.Tick moment) (sort_by ripens_before (ripening past moment))
        (length-sort_by ripens_before (ripening past moment)) grown
    by_kind kind grown = tt

-- each order that was drawn is below the next draw
pub main_arrivals_below : (past : List Entry) → AllByRecursion (λ o. o.order < next_draw past) (main_arrivals past)
unfolding main_arrivals fold_past
main_arrivals_below = push_induction (λ past. AllByRecursion (λ o. o.order < next_draw past) (main_arrivals past)) tt
    (λ past e below. subst (AllByRecursion (λ o. o.order < next_draw (past ++ e ∷ []))) (sym (main_arrivals_push past e))
    (AllByRecursion-append (λ o. o.order < next_draw (past ++ e ∷ [])) (main_arrivals past) (drawing_by past e.kind)
    (AllByRecursion-map (λ o. o.order < next_draw past) (λ o. o.order < next_draw (past ++ e ∷ [])) (main_arrivals past)
    (λ o lt. omega (arith, lt, draws_push past e)) below)
    (AllByRecursion-map (λ o. (next_draw past ≤ o.order) × (o.order < next_draw (past ++ e ∷ []))) (λ o. o.order < next_draw (past ++ e ∷ []))
    (drawing_by past e.kind) (λ o h. h.1) (drawing_within past e))))

drawing_rises : (past : List Entry) (kind : Kind) → Rises ordered_below (drawing_by past kind)
drawing_rises past (kinds.Main task queue delay true) = by_order (nat_lt 0 delay)
  where
    by_order : (b : Bool) → Rises ordered_below (cond b [] (numbered_from (next_draw past) (post_behind past task queue delay ∷ [])))
    by_order true = tt
    by_order false = (tt, tt)
drawing_rises past (kinds.Tick moment) = numbered_rises (next_draw past) (sort_by ripens_before (ripening past moment))
drawing_rises past kind = tt

pub main_arrivals_rise : (past : List Entry) → Rises ordered_below (main_arrivals past)
unfolding main_arrivals fold_past
main_arrivals_rise = push_induction (λ past. Rises ordered_below (main_arrivals past)) tt
    (λ past e rises. subst (Rises ordered_below) (sym (main_arrivals_push past e))
    (rises-append ordered_below (main_arrivals past) (drawing_by past e.kind) rises (drawing_rises past e.kind)
    (AllByRecursion-map (λ o. o.order < next_draw past) (λ o. AllByRecursion (λ q. ordered_below o q ≡ true) (drawing_by past e.kind))
    (main_arrivals past)
    (λ o lt. AllByRecursion-map (λ q. (next_draw past ≤ q.order) × (q.order < next_draw (past ++ e ∷ []))) (λ q. ordered_below o q ≡ true)
    (drawing_by past e.kind)
    (λ q h. let le : next_draw past ≤ q.order = h.0 in lt-ltb o.order q.order (omega (arith, lt, le))) (drawing_within past e))
    (main_arrivals_below past))))

-- The main arrivals are the accepted main tasks that have orders.

abbrev with_order : (Posted → Option ℕ) → Posted → Option Ordered
with_order order p = option_map (λ n. record { posted = p; order = n }) (order p)

-- in a list that rises each task draws as many numbers above n as there are tasks before it
numbered_is : (n : ℕ) (ps : List Posted) → Rises ripens_before ps
    → numbered_from n ps ≡ map (λ p. record { posted = p; order = n + count (λ q. ripens_before q p) ps }) ps
numbered_is n [] rises = refl
numbered_is n (x ∷ xs) rises =
    ap (λ os. record { posted = x; order = n } ∷ os) (numbered_is (n + 1) xs rises.1
    ∙ map-congr_in (λ p. record { posted = p; order = n + 1 + count (λ q. ripens_before q p) xs })
    (λ p. record { posted = p; order = n + count (λ q. ripens_before q p) (x ∷ xs) }) xs
    (AllByRecursion-map (λ p. ripens_before x p ≡ true)
    (λ p. record { posted = p; order = n + 1 + count (λ q. ripens_before q p) xs }
    ≡ record { posted = p; order = n + count (λ q. ripens_before q p) (x ∷ xs) }) xs
    (λ p before. ap (λ m. record { posted = p; order = m }) (behind p before)) rises.0))
    ∙ ap (λ m. record { posted = x; order = m } ∷ map (λ p. record { posted = p; order = n + count (λ q. ripens_before q p) (x ∷ xs) }) xs) first
  where
    behind : (p : Posted) → ripens_before x p ≡ true → n + 1 + count (λ q. ripens_before q p) xs ≡ n + count (λ q. ripens_before q p) (x ∷ xs)
    behind p before =
        let one : count (λ q. ripens_before q p) (x ∷ xs) ≡ count (λ q. ripens_before q p) xs + 1 =
        count-cons (λ q. ripens_before q p) x xs ∙ ap (λ (b : Bool). count (λ q. ripens_before q p) xs + cond b 1 0) before in
        omega (arith, one)

    none : count (λ q. ripens_before q x) (x ∷ xs) ≡ 0
    none = ap length (filter_none (λ q. ripens_before q x) (x ∷ xs) (
      ranks_ripens.itself x,
      AllByRecursion-map (λ p. ripens_before x p ≡ true) (λ p. ripens_before p x ≡ false) xs (λ p before. ranks_ripens.one_way x p before) rises.0,
    ))

    first : n ≡ n + count (λ q. ripens_before q x) (x ∷ xs)
    first = omega (arith, none)

-- at a tick those draw that ripen
drawing_ripens : (past : List Entry) (moment : ℕ)
    → SameMembers (drawing_by past (kinds.Tick moment)) (filter_map (with_order (drawn_at past moment)) (main_posts past))
unfolding ripening
drawing_ripens past moment =
    rw (
      numbered_is (next_draw past) sorted (rises-sort_by ripens_before ranks_ripens newly
          (differ-filter ripens_before (ripens past moment) (main_posts past) (main_posts_differ past))),
      map-congr_in (λ p. record { posted = p; order = next_draw past + count (λ q. ripens_before q p) sorted }) made sorted counted,
      filter_map-passing (with_order (drawn_at past moment)) (ripens past moment) made (main_posts past) (λ p. by_posted p (ripens past moment p)),
    )
    (same_members-map made sorted newly (same_members-sort_by ripens_before newly))
  where
    newly : List Posted
    newly = filter (ripens past moment) (main_posts past)

    sorted : List Posted
    sorted = sort_by ripens_before newly

    made : Posted → Ordered
    made p = record { posted = p; order = next_draw past + count (λ q. ripens_before q p) newly }

    counted : AllByRecursion (λ p. record { posted = p; order = next_draw past + count (λ q. ripens_before q p) sorted } ≡ made p) sorted
    counted = AllByRecursion-always _ sorted
        (λ p. ap (λ m. record { posted = p; order = next_draw past + m }) (count-sort_by (λ q. ripens_before q p) ripens_before newly))

    by_posted : (p : Posted) (b : Bool) → option_map (λ n. record { posted = p; order = n })
        (cond b (Some (next_draw past + count (λ q. ripens_before q p) newly)) None)
        ≡ cond b (Some (made p)) None
    by_posted p true = refl
    by_posted p false = refl

-- the order of a task of the past after a tick, as long as no tick has come to a moment ahead
order_or_drawn : (past : List Entry) (moment : ℕ) (p : Posted) → NoTickAhead past
    → (order_at_tick_of past moment p ≡ option_or (order_of past p) (drawn_at past moment p))
    × ((n : ℕ) → order_of past p ≡ Some n → drawn_at past moment p ≡ None)
order_or_drawn past moment p none = by_delayed (is_delayed p) refl (tick_from past p.ripe) refl
  where
    kept : (o : Option ℕ) (d : Option ℕ) → d ≡ None → (o ≡ option_or o d) × ((n : ℕ) → o ≡ Some n → d ≡ None)
    kept None d is = (sym is, λ n h. is)
    kept (Some n) d is = (refl, λ m h. is)

    fresh : (o d : Option ℕ) → o ≡ None → (d ≡ option_or o d) × ((n : ℕ) → o ≡ Some n → d ≡ None)
    fresh None d is = (refl, λ n h. absurd (none-some n h))
    fresh (Some n) d is = absurd (none-some n (sym is))

    -- what does not ripen draws nothing
    idle : ripens past moment p ≡ false → drawn_at past moment p ≡ None
    idle h = ap (λ (b : Bool). cond b (Some (next_draw past + count (λ q. ripens_before q p) (ripening past moment))) None) h

    ripe_ahead : (place : ℕ) → tick_from past p.ripe ≡ Some place → (b : Bool) → nat_lt (now_of past) p.ripe ≡ b → b ≡ false
    ripe_ahead place some true ahead = absurd (none-some place (sym (none p.ripe (ltb-true (now_of past) p.ripe ahead)) ∙ some))
    ripe_ahead place some false ahead = refl

    neither : (a b c d : Bool) → c ≡ false → (a && b && c && d) ≡ false
    neither false b c d h = refl
    neither true false c d h = refl
    neither true true c d h = ap (λ t. t && d) h

    by_delayed : (b : Bool) → is_delayed p ≡ b → (o : Option ℕ) → tick_from past p.ripe ≡ o
        → (cond (b && is_none o) (drawn_at past moment p) (order_of past p) ≡ option_or (order_of past p) (drawn_at past moment p))
        × ((n : ℕ) → order_of past p ≡ Some n → drawn_at past moment p ≡ None)
    by_delayed false immediate o was = kept (order_of past p) (drawn_at past moment p)
        (idle (ap (λ b. b && not (is_closed past p.home) && nat_lt (now_of past) p.ripe && nat_le p.ripe moment) immediate))
    by_delayed true delayed (Some place) was = kept (order_of past p) (drawn_at past moment p)
        (idle (neither (is_delayed p) (not (is_closed past p.home)) (nat_lt (now_of past) p.ripe) (nat_le p.ripe moment) (ripe_ahead place was _ refl)))
    by_delayed true delayed None was = fresh (order_of past p) (drawn_at past moment p)
        (order_is past p
        ∙ ap (λ (b : Bool). cond b (option_and_then (drawn past p) (tick_from past p.ripe)) (Some (next_draw (take p.place past)))) delayed
        ∙ ap (option_and_then (drawn past p)) was)

-- the tasks of the past that have orders, after one more entry
ordered_grown : (past : List Entry) (e : Entry) (order : Posted → Option ℕ) → ((p : Posted) → p.place < length past → order_of (past ++ e ∷ []) p ≡ order p)
    → ordered (past ++ e ∷ [])
    ≡ filter_map (with_order order) (main_posts past) ++ filter_map (with_order (order_of (past ++ e ∷ []))) (main_posted_by past e.kind)
unfolding ordered
ordered_grown past e order same =
    ap (filter_map (with_order (order_of (past ++ e ∷ [])))) (main_posts_push past e)
    ∙ filter_map-append (with_order (order_of (past ++ e ∷ []))) (main_posts past) (main_posted_by past e.kind)
    ∙ ap (λ os. os ++ filter_map (with_order (order_of (past ++ e ∷ []))) (main_posted_by past e.kind))
    (filter_map_congr_in (with_order (order_of (past ++ e ∷ []))) (with_order order) (main_posts past)
    (AllByRecursion-map (λ p. p.place < length past) (λ p. with_order (order_of (past ++ e ∷ [])) p ≡ with_order order p) (main_posts past)
    (λ p lt. ap (option_map (λ n. record { posted = p; order = n })) (same p lt)) (main_places past)))

pub main_arrivals_are_ordered_at_start : SameMembers (main_arrivals []) (ordered [])
unfolding main_arrivals ordered main_posts fold_past
main_arrivals_are_ordered_at_start = same_members-refl []

pub main_arrivals_are_ordered_grows : (past : List Entry) (e : Entry) → NoTickAhead past → SameMembers (main_arrivals past) (ordered past)
    → SameMembers (main_arrivals (past ++ e ∷ [])) (ordered (past ++ e ∷ []))
unfolding ordered
main_arrivals_are_ordered_grows past e none same = rw (main_arrivals_push past e) (by_kind e.kind refl)
  where
    after : Posted → Option Ordered
    after = with_order (order_of (past ++ e ∷ []))

    quiet : moves_orders e.kind ≡ false → ordered (past ++ e ∷ []) ≡ ordered past ++ filter_map after (main_posted_by past e.kind)
    quiet h = ordered_grown past e (order_of past) (λ p lt. order_of_same past e p lt h)

    added : (kind : Kind) → e.kind ≡ kind → moves_orders kind ≡ false → filter_map after (main_posted_by past kind) ≡ drawing_by past kind
        → SameMembers (main_arrivals past ++ drawing_by past e.kind) (ordered (past ++ e ∷ []))
    added kind is h new =
        rw (quiet (ap moves_orders is ∙ h) ∙ ap (λ k. ordered past ++ filter_map after (main_posted_by past k)) is ∙ ap (λ os. ordered past ++ os) new)
        (subst (λ k. SameMembers (main_arrivals past ++ drawing_by past k) (ordered past ++ drawing_by past kind)) (sym is)
        (same_members-append (main_arrivals past) (ordered past) (drawing_by past kind) (drawing_by past kind) same (same_members-refl (drawing_by past kind))))

    posted : (task queue delay : ℕ) → e.kind ≡ kinds.Main task queue delay true → (b : Bool) → nat_lt 0 delay ≡ b
        → filter_map after (post_behind past task queue delay ∷ []) ≡ cond b [] (numbered_from (next_draw past) (post_behind past task queue delay ∷ []))
    posted task queue delay is false immediate = rw (order_at_post past e task queue delay immediate) refl
    posted task queue delay is true delayed =
        let positive : 0 < delay = ltb-true 0 delay delayed in
        rw (unordered past e (post_behind past task queue delay) (ap moves_orders is) delayed (none (now_of past + delay) (omega (arith, positive)))) refl

    ticked : (moment : ℕ) → e.kind ≡ kinds.Tick moment
        → SameMembers (main_arrivals past ++ drawing_by past (kinds.Tick moment)) (ordered (past ++ e ∷ []))
    ticked moment is = same_members-trans (main_arrivals past ++ drawing_by past (kinds.Tick moment))
        (ordered past ++ filter_map (with_order (drawn_at past moment)) (main_posts past)) (ordered (past ++ e ∷ []))
        (same_members-append (main_arrivals past) (ordered past) (drawing_by past (kinds.Tick moment))
        (filter_map (with_order (drawn_at past moment)) (main_posts past)) same (drawing_ripens past moment))
        (subst (SameMembers (ordered past ++ filter_map (with_order (drawn_at past moment)) (main_posts past)))
        (filter_map_congr (λ p. option_or (with_order (order_of past) p) (with_order (drawn_at past moment) p))
        (with_order (order_at_tick_of past moment)) (main_posts past) (λ p. either p _ _ _ (order_or_drawn past moment p none).0)
        ∙ sym (ordered_grown past e (order_at_tick_of past moment) (λ p lt. order_tick past e p moment is lt)
        ∙ ap (λ kind. filter_map (with_order (order_at_tick_of past moment)) (main_posts past) ++ filter_map after (main_posted_by past kind)) is
        ∙ append-nil (filter_map (with_order (order_at_tick_of past moment)) (main_posts past))))
        (same_members-either (with_order (order_of past)) (with_order (drawn_at past moment)) (main_posts past)
        (λ p o h. apart p (order_of past p) o h (order_or_drawn past moment p none).1)))
      where
        with : Posted → ℕ → Ordered
        with p n = record { posted = p; order = n }

        either : (p : Posted) (o d a : Option ℕ) → a ≡ option_or o d → option_or (option_map (with p) o) (option_map (with p) d) ≡ option_map (with p) a
        either p None d a is_either = ap (option_map (with p)) (sym is_either)
        either p (Some m) d a is_either = ap (option_map (with p)) (sym is_either)

        apart : (p : Posted) (o : Option ℕ) (r : Ordered) → option_map (with p) o ≡ Some r → ((n : ℕ) → o ≡ Some n → drawn_at past moment p ≡ None)
            → with_order (drawn_at past moment) p ≡ None
        apart p None r h idle = absurd (none-some r h)
        apart p (Some n) r h idle = ap (option_map (with p)) (idle n refl)

    by_kind : (kind : Kind) → e.kind ≡ kind → SameMembers (main_arrivals past ++ drawing_by past e.kind) (ordered (past ++ e ∷ []))
    by_kind (kinds.Main task queue delay true) is = added (kinds.Main task queue delay true) is refl (posted task queue delay is (nat_lt 0 delay) refl)
    by_kind (kinds.Tick moment) is = subst (λ kind. SameMembers (main_arrivals past ++ drawing_by past kind) (ordered (past ++ e ∷ []))) (sym is)
        (ticked moment is)
    by_kind kind is = added kind is refl refl

-- The front of a lane is the first arrival in it.

pub front_is_first_arrival : (script : Plan) (past : List Entry) (q : ℕ) (lane : Lane) → SameMembers (main_arrivals past) (ordered past)
    → front_of script past q lane ≡ option_map (front_for script past q lane) (find (λ o. is_in_lane past q lane o.posted) (main_arrivals past))
unfolding ordered
front_is_first_arrival script past q lane same =
    front_is_least script past q lane
    ∙ ap (least order_below)
    (filter_map_congr (front_with script past q lane) (λ p. option_map (front_for script past q lane) (with_order (order_of past) p))
    (filter (is_in_lane past q lane) (main_posts past)) (λ p. over p (order_of past p))
    ∙ filter_map-option_map (with_order (order_of past)) (front_for script past q lane) (filter (is_in_lane past q lane) (main_posts past))
    ∙ ap (map (front_for script past q lane)) (filter-filter_map (λ o. is_in_lane past q lane o.posted) (is_in_lane past q lane) (with_order (order_of past))
    (main_posts past) (λ p o. made p (order_of past p) o)))
    ∙ least-map ordered_below order_below (front_for script past q lane) (filter (λ o. is_in_lane past q lane o.posted) (ordered past)) (λ a b. refl)
    ∙ ap (option_map (front_for script past q lane)) (least_is_first ordered_below (λ o. is_in_lane past q lane o.posted) (ordered past) (main_arrivals past)
    (ranks_by (λ o. o.order)) (main_arrivals_rise past) same)
  where
    over : (p : Posted) (o : Option ℕ)
        → option_map (λ order. record { queue = q; lane = lane; task = p.task; order = order; class = class_of script past q }) o
        ≡ option_map (front_for script past q lane) (option_map (λ n. record { posted = p; order = n }) o)
    over p None = refl
    over p (Some n) = refl

    made : (p : Posted) (o : Option ℕ) (r : Ordered) → option_map (λ n. record { posted = p; order = n }) o ≡ Some r
        → is_in_lane past q lane r.posted ≡ is_in_lane past q lane p
    made p None r h = absurd (none-some r h)
    made p (Some n) r h = ap (λ x. is_in_lane past q lane x.posted) (sym (some-injective h))

-- Two short histories, by computing.

rows : List Ordered → List (ℕ × ℕ)
rows os = map (λ o. (o.posted.task, o.order)) os

-- an immediate task draws at its post, a fence by now draws too; at a tick those draw that ripen, the earliest first, and
-- those of one moment by their posts
worked_draws : rows (main_arrivals (by 0 (kinds.Main 7 0 5 true) ∷ by 0 (kinds.Main 8 0 3 true) ∷ by 0 (kinds.Main 9 1 0 true) ∷ by 0 (kinds.Main 10 1 3 true)
    ∷ by 0 (kinds.Fence 0 Now) ∷ by 0 (kinds.Tick 6) ∷ by 0 (kinds.Main 11 0 0 false) ∷ by 0 (kinds.Main 12 0 0 true) ∷ []))
    ≡ (9, 2) ∷ (8, 4) ∷ (10, 5) ∷ (7, 6) ∷ (12, 7) ∷ []
unfolding main_arrivals main_posts fold_past now_of ripening draws is_closed rows
worked_draws = refl

-- a task of a queue that was closed before it ripens draws nothing
worked_closed : rows (main_arrivals (by 0 (kinds.Main 1 0 2 true) ∷ by 0 (kinds.Main 2 1 2 true) ∷ by 0 (kinds.Close 0) ∷ by 0 (kinds.Tick 2)
    ∷ by 0 (kinds.Main 3 1 0 true) ∷ []))
    ≡ (2, 2) ∷ (3, 3) ∷ []
unfolding main_arrivals main_posts fold_past now_of ripening draws is_closed rows
worked_closed = refl
