-- The front that the main queues choose is the arrival of the least class of its queue, then of the least order, of those
-- that have not been taken.
-- Cited by `Front`, `Kept`.
use Rattle.std.proofs.Common.{◌≡◌, ℕ, ◌<◌, ◌≤◌, length, Bool, true, false, cond, eqb, List, [], ◌∷◌}
use Rattle.std.proofs.Common.{◌++◌, refl, sym, ap, ◌∙◌, subst, Option, Some, None, arith, inl, inr}
use Rattle.std.specs.Prelude.{◌⊎◌, ◌&&◌, not, nat_lt, filter, find, flat_map, Contains}
use Rattle.std.specs.List.{AllByRecursion, list_all, range_with_len}
use Rattle.std.specs.Option.{option_map, option_map_or, option_to_list}
use Rattle.std.proofs.lemmas.Bool.{and_parts, and_from, or_parts, eq-eqb, eqb-true, ltb-false, le-ltb, true≢false}
use Rattle.std.proofs.lemmas.Option.{none-some}
use Rattle.std.proofs.lemmas.List.Elements.{All-contains, Contains-append_left, Contains-append_right}
use Rattle.list_laws.specs.Lists.{IsLeast, Ranks, holds_of, least, then_by}
use Rattle.list_laws.specs.Sorts.{Rises, SameMembers}
use Rattle.list_laws.proofs.Elements.{AllByRecursion-append, AllByRecursion-contains, AllByRecursion-filter, AllByRecursion-unmapped, AllByRecursion-each_list}
use Rattle.list_laws.proofs.Finds.{find_contains, find_passes}
use Rattle.list_laws.proofs.Least.{least_is_least, no_least}
use Rattle.list_laws.proofs.Made.{contains_cases, contains_filter, contains_range, filter_contains, none_contained}
use Rattle.list_laws.proofs.Ranks.{by_same, ranks_by, ranks_then_by}
use Rattle.list_laws.proofs.Sorts.{rises_apart}
use Rattle.list_laws.proofs.Tests.{find-none}
use Rattle.list_laws.proofs.Values.{some-injective}
use Rattle.task_base.specs.Plan.{Plan}
use Rattle.task_base.specs.declared.entry.Entry.{Entry}
use Rattle.task_base.specs.declared.script.Lane.{Lane}
use Rattle.task_base.specs.declared.script.Lane.TheVariants.{Immediate, Delayed}
use Rattle.task_model.specs.MainQueues.{Front, choice_among, chosen_of, class_below, front_of, fronts_of, is_in_lane, is_of_lane, is_open}
use Rattle.task_model.specs.MainQueues.{fence_of, least_class, of_least_class, open_fronts, order_below, voters_of, votes_on}
use Rattle.queue_laws.specs.Orders.{Ordered, main_arrivals, ordered, ordered_below}
use Rattle.task_model.specs.Posts.{is_delayed, is_main_taken, main_posts}
use Rattle.task_model.specs.Refusal.{is_closed}
use Rattle.queue_laws.specs.Fronts.{front_for}
use Rattle.queue_laws.proofs.Arrivals.{front_is_first_arrival, main_arrivals_rise}
use Rattle.nested_loop.proofs.Plain.{IsPlain, first_class}

-- in a list that rises, what passes a test is the first that does, or goes behind it
found_first : {A : Type 0} (below : A → A → Bool) (p : A → Bool) (xs : List A) (x y : A) → Rises below xs → find p xs ≡ Some x → Contains xs y → p y ≡ true
    → (x ≡ y) ⊎ (below x y ≡ true)
found_first below p [] x y rises found among passes = absurd (none-some x found)
found_first {A = A} below p (z ∷ zs) x y rises found among passes =
    by_test (p z) refl found (contains_cases z zs y among) (λ later there. found_first below p zs x y rises.1 later there passes)
  where
    by_test : (b : Bool) → p z ≡ b → cond b (Some z) (find p zs) ≡ Some x → (z ≡ y) ⊎ Contains zs y
        → (find p zs ≡ Some x → Contains zs y → (x ≡ y) ⊎ (below x y ≡ true)) → (x ≡ y) ⊎ (below x y ≡ true)
    by_test true is here (inl same) rest = inl (sym (some-injective here) ∙ same)
    by_test true is here (inr there) rest = inr
        (ap (λ w. below w y) (sym (some-injective here)) ∙ AllByRecursion-contains (λ w. below z w ≡ true) zs y rises.0 there)
    by_test false is later (inl same) rest = absurd (true≢false (sym passes ∙ ap p (sym same) ∙ is))
    by_test false is later (inr there) rest = rest later there

-- what passes a test is found, or another before it
some_found : {A : Type 0} (p : A → Bool) (xs : List A) (y : A) → Contains xs y → p y ≡ true → (x : A) × (find p xs ≡ Some x)
some_found {A = A} p xs y among passes = by_found (find p xs) refl
  where
    by_found : (o : Option A) → find p xs ≡ o → (x : A) × (find p xs ≡ Some x)
    by_found None is = absurd (true≢false (sym passes ∙ AllByRecursion-contains (λ x. p x ≡ false) xs y (find-none p xs is) among))
    by_found (Some x) is = (x, is)

in_lists : {A B : Type 0} (f : A → List B) (xs : List A) (x : A) (y : B) → Contains xs x → Contains (f x) y → Contains (flat_map f xs) y
in_lists f [] x y among within = absurd (none_contained x among)
in_lists {A = A} f (z ∷ zs) x y among within = by_side (contains_cases z zs x among) (λ there. in_lists f zs x y there within)
  where
    by_side : (z ≡ x) ⊎ Contains zs x → (Contains zs x → Contains (flat_map f zs) y) → Contains (f z ++ flat_map f zs) y
    by_side (inl same) rest = Contains-append_left (f z) (flat_map f zs) y (subst (λ w. Contains (f w) y) (sym same) within)
    by_side (inr there) rest = Contains-append_right (f z) (flat_map f zs) y (rest there)

module _ (script : Plan) (entries : List Entry) (plain : IsPlain script entries) (no_voters : (q : ℕ) → voters_of script q ≡ 0)
    (same : SameMembers (main_arrivals entries) (ordered entries)) where
  -- the task has not been taken
  not_taken : Ordered → Bool
  not_taken o = not (is_main_taken entries o.posted.task)

  -- the class of its queue
  class_at : Ordered → ℕ
  class_at o = first_class script o.posted.home

  -- the front is an arrival that has not been taken
  record IsArrival (f : Front) : Type 0 where
    arrival : Ordered
    among : Contains (main_arrivals entries) arrival
    waits : not_taken arrival ≡ true
    task_is : arrival.posted.task ≡ f.task
    order_is : arrival.order ≡ f.order
    class_is : class_at arrival ≡ f.class
    home_is : arrival.posted.home ≡ f.queue

  front_is_arrival : (q : ℕ) (lane : Lane) (f : Front) → front_of script entries q lane ≡ Some f → IsArrival f
  unfolding not_taken class_at
  front_is_arrival q lane f is =
      by_ordered (find (λ o. is_in_lane entries q lane o.posted) (main_arrivals entries)) refl (sym (front_is_first_arrival script entries q lane same) ∙ is)
    where
      by_ordered : (o : Option Ordered) → find (λ o. is_in_lane entries q lane o.posted) (main_arrivals entries) ≡ o
          → option_map (front_for script entries q lane) o ≡ Some f → IsArrival f
      by_ordered None found h = absurd (none-some f h)
      by_ordered (Some o) found h =
          let passes = find_passes (λ o. is_in_lane entries q lane o.posted) (main_arrivals entries) o found in
          let parts = and_parts (eqb o.posted.home q && is_of_lane lane o.posted) (not (is_main_taken entries o.posted.task)) passes in
          let home = eqb-true o.posted.home q (and_parts (eqb o.posted.home q) (is_of_lane lane o.posted) parts.0).0 in
          let is_front = some-injective h in
          record {
            arrival = o;
            among = find_contains (λ o. is_in_lane entries q lane o.posted) (main_arrivals entries) o found;
            waits = parts.1;
            task_is = ap (λ x. x.task) is_front;
            order_is = ap (λ x. x.order) is_front;
            class_is = ap (first_class script) home ∙ sym (plain.class_is q) ∙ ap (λ x. x.class) is_front;
            home_is = home ∙ ap (λ x. x.queue) is_front;
          }

  open_is_arrival : (f : Front) → Contains (open_fronts script entries) f → IsArrival f
  unfolding open_fronts
  open_is_arrival f among = AllByRecursion-contains IsArrival (open_fronts script entries) f (AllByRecursion-filter IsArrival (is_open script entries)
      (flat_map (fronts_of script entries) (range_with_len 0 (length script.queues)))
      (AllByRecursion-each_list IsArrival (fronts_of script entries) (range_with_len 0 (length script.queues)) (λ q.
      AllByRecursion-append IsArrival (option_to_list (front_of script entries q Immediate)) (option_to_list (front_of script entries q Delayed))
      (one q Immediate (front_of script entries q Immediate) refl) (one q Delayed (front_of script entries q Delayed) refl)))) among
    where
      one : (q : ℕ) (lane : Lane) (o : Option Front) → front_of script entries q lane ≡ o → AllByRecursion IsArrival (option_to_list o)
      one q lane None is = tt
      one q lane (Some f) is = (front_is_arrival q lane f is, tt)

  -- each front is open
  all_open : (f : Front) → is_open script entries f ≡ true
  all_open f =
      let enabled = ap (λ n. list_all (votes_on entries f.queue) (range_with_len 0 n)) (no_voters f.queue) in
      and_from (not (is_closed entries f.queue) && list_all (votes_on entries f.queue) (range_with_len 0 (voters_of script f.queue)))
      (option_map_or (nat_lt f.order) (fence_of entries f.queue) true)
      (and_from (not (is_closed entries f.queue)) (list_all (votes_on entries f.queue) (range_with_len 0 (voters_of script f.queue)))
      (ap not (plain.not_closed f.queue)) enabled)
      (ap (λ o. option_map_or (nat_lt f.order) o true) (plain.no_fence f.queue))

  -- an open front of the class of an arrival's queue, that does not go behind it
  record IsAhead (o : Ordered) : Type 0 where
    front : Front
    among : Contains (open_fronts script entries) front
    class_is : front.class ≡ class_at o
    not_behind : front.order ≤ o.order

  ahead : (o : Ordered) → Contains (main_arrivals entries) o → not_taken o ≡ true → is_delayed o.posted ≡ false → o.posted.home < length script.queues
      → IsAhead o
  unfolding open_fronts not_taken class_at
  ahead o among waits immediate there =
      let test : Ordered → Bool = λ x. is_in_lane entries o.posted.home Immediate x.posted in
      let passes = and_from (eqb o.posted.home o.posted.home && not (is_delayed o.posted)) (not (is_main_taken entries o.posted.task))
      (and_from (eqb o.posted.home o.posted.home) (not (is_delayed o.posted)) (eq-eqb o.posted.home o.posted.home refl) (ap not immediate)) waits in
      let found = some_found test (main_arrivals entries) o among passes in
      let f = front_for script entries o.posted.home Immediate found.0 in
      let is_front = front_is_first_arrival script entries o.posted.home Immediate same
      ∙ ap (option_map (front_for script entries o.posted.home Immediate)) found.1 in
      record {
        front = f;
        among = contains_filter (is_open script entries) (flat_map (fronts_of script entries) (range_with_len 0 (length script.queues))) f
            (in_lists (fronts_of script entries) (range_with_len 0 (length script.queues)) o.posted.home f
            (contains_range (length script.queues) o.posted.home there)
            (subst (λ fs. Contains (option_to_list fs ++ option_to_list (front_of script entries o.posted.home Delayed)) f) (sym is_front)
            (0, omega arith, refl)))
            (all_open f);
        class_is = plain.class_is o.posted.home;
        not_behind = first_or_before found.0
            (found_first ordered_below test (main_arrivals entries) found.0 o (main_arrivals_rise entries) found.1 among passes);
      }
    where
      first_or_before : (x : Ordered) → (x ≡ o) ⊎ (ordered_below x o ≡ true) → x.order ≤ o.order
      first_or_before x (inl is) = let e = ap (λ y. y.order) is in omega (arith, e)
      first_or_before x (inr before) = grind (arith, before)

  -- those that have not been taken
  waiting : List Ordered
  waiting = filter not_taken (main_arrivals entries)

  -- the first goes before the second
  before : Ordered → Ordered → Bool
  before = then_by class_at ordered_below

  ranks_before : Ranks before
  unfolding before
  ranks_before = ranks_then_by class_at ordered_below (ranks_by (λ o. o.order))

  choice_plain : chosen_of script entries ≡ least order_below (of_least_class (open_fronts script entries))
  unfolding choice_among
  choice_plain = ap (choice_among (open_fronts script entries)) plain.no_streak

  -- the least class among some fronts, with a front of that class
  record IsLeastClass (fronts : List Front) : Type 0 where
    class : ℕ
    is : least_class fronts ≡ Some class
    front : Front
    among : Contains fronts front
    class_is : front.class ≡ class
    none_below : (g : Front) → Contains fronts g → class ≤ g.class

  least_class_of : (fronts : List Front) (g : Front) → Contains fronts g → IsLeastClass fronts
  least_class_of fronts g among = by_least (least class_below fronts) refl
    where
      by_least : (o : Option Front) → least class_below fronts ≡ o → IsLeastClass fronts
      by_least None is = absurd (none_contained g (subst (λ fs. Contains fs g) (no_least class_below fronts is) among))
      by_least (Some f) is =
          let found = least_is_least class_below (ranks_by (λ x. x.class)) fronts f is in
          record {
            class = f.class;
            is = ap (option_map (λ x. x.class)) is;
            front = f;
            among = found.member;
            class_is = refl;
            none_below = λ h there. ltb-false h.class f.class (All-contains (λ y. class_below y f ≡ false) fronts h found.none_below there);
          }

  -- a front of the least class is among those of the least class
  of_least : (fronts : List Front) (least_of : IsLeastClass fronts) (g : Front) → Contains fronts g → g.class ≡ least_of.class
      → Contains (of_least_class fronts) g
  unfolding of_least_class
  of_least fronts least_of g among is = contains_filter (λ f. holds_of (λ class. eqb f.class class) (least_class fronts)) fronts g among
      (ap (holds_of (λ class. eqb g.class class)) least_of.is ∙ eq-eqb g.class least_of.class is)

  -- and only those are
  least_only : (fronts : List Front) (least_of : IsLeastClass fronts) (g : Front) → Contains (of_least_class fronts) g
      → Contains fronts g × (g.class ≡ least_of.class)
  unfolding of_least_class
  least_only fronts least_of g among =
      let parts = filter_contains (λ f. holds_of (λ class. eqb f.class class) (least_class fronts)) fronts g among in
      (parts.0, eqb-true g.class least_of.class (sym (ap (holds_of (λ class. eqb g.class class)) least_of.is) ∙ parts.1))

  of_least_within : (g : Front) → Contains (of_least_class (open_fronts script entries)) g → Contains (open_fronts script entries) g
  unfolding of_least_class
  of_least_within g among =
      (filter_contains (λ f. holds_of (λ class. eqb f.class class) (least_class (open_fronts script entries))) (open_fronts script entries) g among).0

  module _ (homes_there : AllByRecursion (λ p. p.home < length script.queues) (main_posts entries)) where
    -- an arrival that waits has an open front ahead of it
    waits_ahead : (o : Ordered) → Contains waiting o → IsAhead o
    unfolding waiting
    waits_ahead o among =
        let parts = filter_contains not_taken (main_arrivals entries) o among in
        let all = subst (AllByRecursion (λ p. p.home < length script.queues)) (sym plain.arrivals) homes_there in
        let immediate = subst (AllByRecursion (λ p. is_delayed p ≡ false)) (sym plain.arrivals) plain.immediate in
        ahead o parts.0 parts.1
        (AllByRecursion-contains (λ x. is_delayed x.posted ≡ false) (main_arrivals entries) o
        (AllByRecursion-unmapped (λ p. is_delayed p ≡ false) (λ x. x.posted) (main_arrivals entries) immediate) parts.0)
        (AllByRecursion-contains (λ x. x.posted.home < length script.queues) (main_arrivals entries) o
        (AllByRecursion-unmapped (λ p. p.home < length script.queues) (λ x. x.posted) (main_arrivals entries) all) parts.0)

    -- a front that is chosen waits
    arrival_waits : (f : Front) (a : IsArrival f) → Contains waiting a.arrival
    unfolding waiting
    arrival_waits f a = contains_filter not_taken (main_arrivals entries) a.arrival a.among a.waits

    same_arrival : (f : Front) (l : Ordered) → IsLeast order_below (of_least_class (open_fronts script entries)) f → IsLeast before waiting l
        → f.task ≡ l.posted.task
    unfolding before waiting
    same_arrival f l least_front least_arrival =
        let ahead_of_l = waits_ahead l least_arrival.member in
        let least_of = least_class_of (open_fronts script entries) ahead_of_l.front ahead_of_l.among in
        let only = least_only (open_fronts script entries) least_of f least_front.member in
        let a = open_is_arrival f only.0 in
        let not_before = All-contains (λ o. before o l ≡ false) waiting a.arrival least_arrival.none_below (arrival_waits f a) in
        let at_most = least_of.none_below ahead_of_l.front ahead_of_l.among in
        let class_order = not_lesser a.arrival l not_before in
        let of_f : f.class ≡ least_of.class = only.1 in
        let of_a = a.class_is in
        let of_l = ahead_of_l.class_is in
        let same_class : class_at a.arrival ≡ class_at l = omega (arith, class_order, at_most, of_f, of_a, of_l) in
        let order_of_l = not_earlier a.arrival l same_class not_before in
        let g_least = of_least (open_fronts script entries) least_of ahead_of_l.front ahead_of_l.among (omega (arith, same_class, of_f, of_a, of_l)) in
        let g_order = ltb-false ahead_of_l.front.order f.order
        (All-contains (λ g. order_below g f ≡ false) (of_least_class (open_fronts script entries)) ahead_of_l.front least_front.none_below g_least) in
        let not_behind = ahead_of_l.not_behind in
        let order_is = a.order_is in
        let same_order : a.arrival.order ≡ l.order = omega (arith, order_of_l, g_order, not_behind, order_is) in
        sym a.task_is ∙ ap (λ o. o.posted.task)
        (one_order a.arrival l a.among (filter_contains not_taken (main_arrivals entries) l least_arrival.member).0 same_order)
      where
        not_lesser : (o x : Ordered) → then_by class_at ordered_below o x ≡ false → class_at x ≤ class_at o
        not_lesser o x h = ltb-false (class_at o) (class_at x)
            (or_parts (nat_lt (class_at o) (class_at x)) (eqb (class_at o) (class_at x) && ordered_below o x) h).0

        not_earlier : (o x : Ordered) → class_at o ≡ class_at x → then_by class_at ordered_below o x ≡ false → x.order ≤ o.order
        not_earlier o x is h = ltb-false o.order x.order (sym (by_same class_at ordered_below o x is) ∙ h)

        one_order : (o x : Ordered) → Contains (main_arrivals entries) o → Contains (main_arrivals entries) x → o.order ≡ x.order → o ≡ x
        one_order o x of_o of_x is = by_apart (rises_apart ordered_below (main_arrivals entries) o x (main_arrivals_rise entries) of_o of_x)
          where
            by_apart : (o ≡ x) ⊎ ((ordered_below o x ≡ true) ⊎ (ordered_below x o ≡ true)) → o ≡ x
            by_apart (inl one) = one
            by_apart (inr (inl lt)) = absurd (true≢false (sym lt ∙ le-ltb o.order x.order (omega (arith, is))))
            by_apart (inr (inr lt)) = absurd (true≢false (sym lt ∙ le-ltb x.order o.order (omega (arith, is))))

    -- the task that is chosen is that of the least arrival that waits
    pub chosen_task : option_map (λ f. f.task) (chosen_of script entries) ≡ option_map (λ o. o.posted.task)
        (least (then_by (λ o. first_class script o.posted.home) ordered_below)
        (filter (λ o. not (is_main_taken entries o.posted.task)) (main_arrivals entries)))
    unfolding before waiting not_taken class_at
    chosen_task = ap (option_map (λ f. f.task)) choice_plain
        ∙ by_least (least order_below (of_least_class (open_fronts script entries))) refl (least before waiting) refl
      where
        by_least : (chosen : Option Front) → least order_below (of_least_class (open_fronts script entries)) ≡ chosen → (first : Option Ordered)
            → least before waiting ≡ first
            → option_map (λ f. f.task) chosen ≡ option_map (λ o. o.posted.task) first
        by_least None none None is = refl
        by_least (Some f) is (Some l) first = ap Some (same_arrival f l
            (least_is_least order_below (ranks_by (λ x. x.order)) (of_least_class (open_fronts script entries)) f is)
            (least_is_least before ranks_before waiting l first))
        by_least None none (Some l) first =
            let ahead_of_l = waits_ahead l (least_is_least before ranks_before waiting l first).member in
            let least_of = least_class_of (open_fronts script entries) ahead_of_l.front ahead_of_l.among in
            absurd (none_contained least_of.front
            (subst (λ fs. Contains fs least_of.front) (no_least order_below (of_least_class (open_fronts script entries)) none)
            (of_least (open_fronts script entries) least_of least_of.front least_of.among least_of.class_is)))
        by_least (Some f) is None none =
            let there = (least_is_least order_below (ranks_by (λ x. x.order)) (of_least_class (open_fronts script entries)) f is).member in
            let a = open_is_arrival f (of_least_within f there) in
            absurd (none_contained a.arrival (subst (λ os. Contains os a.arrival) (no_least before waiting none) (arrival_waits f a)))

    -- it is of a queue that is declared
    pub chosen_declared : (f : Front) → chosen_of script entries ≡ Some f → f.queue < length script.queues
    chosen_declared f is =
        let there = (least_is_least order_below (ranks_by (λ x. x.order)) (of_least_class (open_fronts script entries)) f (sym choice_plain ∙ is)).member in
        let a = open_is_arrival f (of_least_within f there) in
        let all = subst (AllByRecursion (λ p. p.home < length script.queues)) (sym plain.arrivals) homes_there in
        subst (λ q. q < length script.queues) a.home_is (AllByRecursion-contains (λ x. x.posted.home < length script.queues) (main_arrivals entries) a.arrival
        (AllByRecursion-unmapped (λ p. p.home < length script.queues) (λ x. x.posted) (main_arrivals entries) all) a.among)
