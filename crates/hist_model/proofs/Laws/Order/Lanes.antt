-- The main tasks of a lane are taken in the order of what they drew.
-- Cited by `Laws/Order/Taken`.
use Rattle.std.proofs.Common.{◌≡◌, ℕ, ◌<◌, ◌≤◌, Bool, true, false, cond, List, ◌++◌}
use Rattle.std.proofs.Common.{take, drop, refl, sym, ap, subst, ◌∙◌, Some, inl, inr, arith}
use Rattle.std.specs.Prelude.{◌⊎◌, not, nat_lt, Contains, option_and_then}
use Rattle.std.specs.Option.{option_map}
use Rattle.std.proofs.lemmas.Bool.{eq-eqb, both_ways, ltb-true, false_from_ne_true}
use Rattle.std.proofs.lemmas.Option.{same_Some}
use Rattle.task_base.specs.Plan.{Plan}
use Rattle.task_base.specs.declared.entry.Entry.{Entry}
use Rattle.task_base.specs.declared.entry.Kind.TheVariants as kinds
use Rattle.list_laws.proofs.Elements.{AllByRecursion-contains}
use Rattle.list_laws.proofs.Made.{contains_filter, contains_filter_map}
use Rattle.task_model.specs.Time.{tick_from}
use Rattle.task_model.specs.Posts.{Posted, is_delayed, main_posts, is_main_taken, main_takes}
use Rattle.task_base.specs.declared.script.Lane.{Lane}
use Rattle.task_base.specs.declared.script.Lane.TheVariants.{Immediate, Delayed}
use Rattle.task_model.specs.MainQueues.{is_of_lane, is_in_lane, front_with}
use Rattle.task_model.specs.MainQueues.{class_of}
use Rattle.queue_laws.specs.Fronts.{lane_of}
use Rattle.task_model.specs.Orders.{draws, next_draw, order_of}
use Rattle.queue_laws.proofs.Orders.{drawn, order_is}
use Rattle.hist_model.specs.Legal.{IsLegal}
use Rattle.hist_model.specs.Laws.Places.{IsAt}
use Rattle.hist_model.specs.Laws.Order.{HasOrderAt}
use Rattle.hist_model.proofs.Laws.AtPlaces.{in_past, of_past, passes_at, passed_by, past_is_legal}
use Rattle.hist_model.proofs.Laws.Rising.{legal_rises, orders_are_distinct}
use Rattle.hist_model.proofs.Laws.Order.Pasts.{take_take, longer_past}
use Rattle.hist_model.proofs.Laws.Order.Draws.{draws_rise, order_early, same_number, MainTaking}

-- what was taken stays taken, and what is taken at a place is taken behind it
pub main_still_taken : (log : List Entry) (i j t : ℕ) → i < j → is_main_taken (take i log) t ≡ true → is_main_taken (take j log) t ≡ true
unfolding is_main_taken
main_still_taken log i j t less taken =
    let at = passes_at (λ e. main_takes t e.kind) (take i log) taken in
    let (before, is) = of_past log at.place i at.value at.is in
    passed_by (λ e. main_takes t e.kind) (take j log) at.place at.value (in_past log at.place j (omega (arith, less, before)) ∙ is) at.passes

pub main_taken_behind : (log : List Entry) (i j seat t q v : ℕ) → i < j → IsAt log i seat (kinds.MainTake t q v) → is_main_taken (take j log) t ≡ true
unfolding is_main_taken
main_taken_behind log i j seat t q v less is = passed_by (λ e. main_takes t e.kind) (take j log) i _ (in_past log i j less ∙ is) (eq-eqb t t refl)

-- two tasks that are both immediate or both delayed are of one lane
pub one_lane : (lane : Lane) (p q : Posted) → is_delayed p ≡ is_delayed q → is_of_lane lane p ≡ true → is_of_lane lane q ≡ true
one_lane Immediate p q same is = ap not (sym same) ∙ is
one_lane Delayed p q same is = sym same ∙ is

-- a task that has an order and has not been taken is in its lane
pub among_lane : (script : Plan) (past : List Entry) (q : ℕ) (lane : Lane) (p : Posted) (n : ℕ) → Contains (main_posts past) p → order_of past p ≡ Some n
    → p.home ≡ q → is_of_lane lane p ≡ true → is_main_taken past p.task ≡ false
    → Contains (lane_of script past q lane) (record { queue = q; lane = lane; task = p.task; order = n; class = class_of script past q })
among_lane script past q lane p n among ordered home of free = contains_filter_map (front_with script past q lane) _ p _
    (contains_filter (is_in_lane past q lane) (main_posts past) p among (rw (eq-eqb p.home q home, of, free) refl))
    (ap (option_map (λ order. record { queue = q; lane = lane; task = p.task; order = order; class = class_of script past q })) ordered)

-- the order of the first of two takes of one lane is below that of the second
pub orders_rise : (script : Plan) (log : List Entry) (i j seat worker task other queue value w : ℕ) → IsLegal script log → i < j
    → IsAt log i seat (kinds.MainTake task queue value) → IsAt log j worker (kinds.MainTake other queue w)
    → (a : MainTaking script log i task queue) (b : MainTaking script log j other queue) → is_delayed a.p ≡ is_delayed b.p → a.order < b.order
orders_rise script log i j seat worker task other queue value w legal less first second a b one =
    by_side (order_early script past rest b.p b.order (subst (IsLegal script) (sym longer) (past_is_legal script log j _ legal second))
    (subst (λ l. Contains (main_posts l) b.p) (sym longer) b.among) (ap (λ l. order_of l b.p) longer ∙ b.ordered))
  where
    past : List Entry
    past = take i log

    rest : List Entry
    rest = drop i (take j log)

    longer : past ++ rest ≡ take j log
    longer = longer_past log i j (omega (arith, less))

    known : IsLegal script past
    known = past_is_legal script log i _ legal first

    -- the two have two posts
    differ : a.p ≡ b.p → ⊥
    differ same = both_ways (is_main_taken (take j log) b.p.task) b.not_taken
        (ap (is_main_taken (take j log)) (sym (ap (λ p. p.task) same) ∙ a.task_is) ∙ main_taken_behind log i j seat task queue value less first)

    -- the second task waited already when the first was taken
    waited : Contains (main_posts past) b.p → order_of past b.p ≡ Some b.order → a.order < b.order
    waited among ordered = at (nat_lt a.order b.order) refl
      where
        not_before : nat_lt b.order a.order ≡ false
        not_before = a.least _ (among_lane script past queue a.lane b.p b.order among ordered b.home_is (one_lane a.lane a.p b.p one a.in_lane)
            (false_from_ne_true (is_main_taken past b.p.task) (λ h. both_ways (is_main_taken (take j log) b.p.task) b.not_taken
            (main_still_taken log i j b.p.task less h))))

        at : (c : Bool) → nat_lt a.order b.order ≡ c → a.order < b.order
        at true h = ltb-true a.order b.order h
        at false h =
            let equal : a.order ≡ b.order = grind (arith, h, not_before) in
            absurd (differ (same_number (order_of past) (main_posts past) a.p b.p a.order (orders_are_distinct script past known) a.among among a.ordered
            (ordered ∙ ap Some (sym equal))))

    by_side : (Contains (main_posts past) b.p × (order_of past b.p ≡ Some b.order)) ⊎ (next_draw past ≤ b.order) → a.order < b.order
    by_side (inl early) = waited early.0 early.1
    by_side (inr late) = omega (
      arith,
      late,
      AllByRecursion-contains (λ p. (n : ℕ) → order_of past p ≡ Some n → n < next_draw past) (main_posts past) a.p
          (legal_rises script past known).orders_below a.among a.order a.ordered,
    )

-- of immediate main tasks with orders one below the other the first was posted first
pub drawn_first : (script : Plan) (log : List Entry) (i j task other queue : ℕ) → i ≤ j
    → (a : MainTaking script log i task queue) (b : MainTaking script log j other queue)
    → a.p.delay ≡ 0 → b.p.delay ≡ 0 → a.order < b.order → a.p.place < b.p.place
drawn_first script log i j task other queue le a b a_now b_now below = at (nat_lt a.p.place b.p.place) refl
  where
    order_at : (k t : ℕ) (c : MainTaking script log k t queue) → c.p.delay ≡ 0 → next_draw (take c.p.place log) ≡ c.order
    order_at k t c now = ap next_draw (sym (take_take log c.p.place k (omega (arith, c.before))))
        ∙ same_Some _ c.order (ap (λ d. cond (nat_lt 0 d) (option_and_then (drawn (take k log) c.p) (tick_from (take k log) c.p.ripe))
        (Some (next_draw (take c.p.place (take k log))))) (sym now) ∙ sym (order_is (take k log) c.p) ∙ c.ordered)

    at : (c : Bool) → nat_lt a.p.place b.p.place ≡ c → a.p.place < b.p.place
    at true h = ltb-true a.p.place b.p.place h
    at false h =
        let longer = longer_past log b.p.place a.p.place (grind (arith, h)) in
        absurd (omega (
          arith,
          below,
          order_at i task a a_now,
          order_at j other b b_now,
          draws_rise (take b.p.place log) (drop b.p.place (take a.p.place log)),
          ap draws longer,
        ))

-- the main task that is taken has an order
abbrev pub has_order : (script : Plan) (log : List Entry) (place task queue : ℕ) → MainTaking script log place task queue → HasOrderAt log place task queue
has_order script log place task queue a = record {
  post = a.p.place;
  poster = a.seat;
  delay = a.p.delay;
  order = a.order;
  before = a.before;
  posts = a.posted;
  ordered = ap (order_of (take place log)) a.same ∙ a.ordered;
}
