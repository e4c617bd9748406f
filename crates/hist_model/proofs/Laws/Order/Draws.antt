-- What main tasks drew, and the front that is taken.
-- Cited by `Laws/Order/Lanes`, `Laws/Order/Taken`.
use Rattle.std.proofs.Common.{◌≡◌, ℕ, ◌+◌, ◌<◌, ◌≤◌, Bool, true, false, eqb, cond, List, [], ◌∷◌, ◌++◌, length}
use Rattle.std.proofs.Common.{take, drop, refl, sym, ap, subst, ◌∙◌, append_assoc, Option, Some, None, inl, inr, arith}
use Rattle.std.specs.Prelude.{◌⊎◌, not, ◌&&◌, nat_lt, Contains, option_and_then, filter, if◌then◌else◌}
use Rattle.std.specs.Option.{option_to_list}
use Rattle.std.specs.List.{AllByRecursion, flat_map, range_with_len}
use Rattle.std.proofs.lemmas.Bool.{eqb-true, and_parts, not-true, ltb-true}
use Rattle.std.proofs.lemmas.Option.{none-some, same_Some}
use Rattle.std.proofs.lemmas.List.{append-nil, take-append-drop, take-append-le}
use Rattle.std.proofs.lemmas.List.Elements.{All-contains}
use Rattle.std.proofs.Math.Seq.{take-append_seam}
use Rattle.task_base.specs.Plan.{Plan}
use Rattle.task_base.specs.declared.entry.Entry.{Entry}
use Rattle.task_base.specs.declared.entry.Kind.TheVariants as kinds
use Rattle.list_laws.specs.Lists.{IsLeast, count, holds_of}
use Rattle.list_laws.proofs.Elements.{AllByRecursion-append, AllByRecursion-contains, AllByRecursion-filter, push_induction}
use Rattle.list_laws.proofs.Made.{filter_contains, filter_map_contains, contains_cases}
use Rattle.task_model.specs.Time.{tick_from}
use Rattle.task_model.specs.Posts.{Posted, is_delayed, ripens_before, post_behind, main_posts, is_main_taken}
use Rattle.task_base.specs.declared.script.Lane.{Lane}
use Rattle.task_base.specs.declared.script.Lane.TheVariants.{Immediate, Delayed}
use Rattle.task_model.specs.Cells.{main_cell_of}
use Rattle.task_model.specs.MainQueues.{streak_of, Front, is_of_lane, is_immediate, is_in_lane, front_with, order_below, front_of, fronts_of, is_open}
use Rattle.task_model.specs.MainQueues.{open_fronts, class_of, immediate_fronts, is_starved, chosen_of, choice_among}
use Rattle.queue_laws.specs.Fronts.{chosen_class, chosen_fronts, lane_of}
use Rattle.task_model.specs.MainQueues.{of_least_class}
use Rattle.queue_laws.proofs.Fronts.{front_is_first}
use Rattle.task_model.proofs.Growth.{draws_push}
use Rattle.task_model.specs.Orders.{ripens, ripening, draws, next_draw, drawn_at, moment_at, order_of}
use Rattle.queue_laws.specs.Orders.{Distinct}
use Rattle.queue_laws.proofs.Orders.{drawn, order_is, drawn_front}
use Rattle.hist_model.specs.Allowed.{is_front, by_script, may_come}
use Rattle.hist_model.specs.Legal.{IsLegal}
use Rattle.hist_model.specs.Laws.Places.{IsAt}
use Rattle.hist_model.proofs.Laws.AtPlaces.{of_past, may_come_at}
use Rattle.hist_model.proofs.Laws.Choice.{found, of_least, option_map_some}
use Rattle.hist_model.proofs.Laws.Order.Pasts.{take_take, tick_early, IsPostedAt, was_posted, posts_early, no_tick_before}

-- draws never fall
pub draws_rise : (past rest : List Entry) → draws past ≤ draws (past ++ rest)
draws_rise past = push_induction (λ rest. draws past ≤ draws (past ++ rest)) (omega (arith, ap draws (append-nil past)))
    (λ rest e less. omega (arith, less, ap draws (sym (append_assoc past rest (e ∷ []))) ∙ draws_push (past ++ rest) e))

-- what is drawn at or behind a past is not below its next draw
pub draws_by : (past rest : List Entry) (k : ℕ) → length past ≤ k → next_draw past ≤ next_draw (take k (past ++ rest))
draws_by past rest k le =
    let all = past ++ rest in
    let front : take (length past) (take k all) ≡ past = take_take all (length past) k le ∙ take-append_seam past rest in
    let whole : past ++ drop (length past) (take k all) ≡ take k all
    = ap (λ xs. xs ++ drop (length past) (take k all)) (sym front) ∙ take-append-drop (length past) (take k all) in
    omega (arith, draws_rise past (drop (length past) (take k all)), ap draws whole)

-- what a delayed task draws is not below the next draw
pub drawn_from : (before : List Entry) (o : Option ℕ) (p : Posted) (n : ℕ) → option_and_then (λ moment. drawn_at before moment p) o ≡ Some n
    → next_draw before ≤ n
drawn_from before None p n h = absurd (none-some n h)
drawn_from before (Some moment) p n h = by_ripens (ripens before moment p) h
  where
    by_ripens : (b : Bool) → cond b (Some (next_draw before + count (λ q. ripens_before q p) (ripening before moment))) None ≡ Some n → next_draw before ≤ n
    by_ripens true k = omega (arith, same_Some _ n k)
    by_ripens false k = absurd (none-some n k)

-- an order is known in the front, and so is its task, or it was drawn behind the front
pub order_early : (script : Plan) (past rest : List Entry) (p : Posted) (n : ℕ) → IsLegal script (past ++ rest) → Contains (main_posts (past ++ rest)) p
    → order_of (past ++ rest) p ≡ Some n → (Contains (main_posts past) p × (order_of past p ≡ Some n)) ⊎ (next_draw past ≤ n)
order_early script past rest p n legal among is = by_delayed (is_delayed p) refl (sym (order_is later p) ∙ is)
  where
    later : List Entry
    later = past ++ rest

    was : IsPostedAt true later p
    was = was_posted true later p among

    at_tick : is_delayed p ≡ true → (place : ℕ) → tick_from later p.ripe ≡ Some place → drawn later p place ≡ Some n → (b : Bool)
        → nat_lt place (length past) ≡ b → (Contains (main_posts past) p × (option_and_then (drawn past p) (tick_from past p.ripe) ≡ Some n))
        ⊎ (next_draw past ≤ n)
    at_tick delayed place tick h true early =
        let less : place < length past = ltb-true place (length past) early in
        inl (
          posts_early true past rest p among (omega (arith, less, no_tick_before script true later p place legal was delayed tick)),
          ap (option_and_then (drawn past p)) (tick_early past rest p.ripe place tick less) ∙ sym (drawn_front past rest p place less) ∙ h,
        )
    at_tick delayed place tick h false late = inr (omega (
      arith,
      draws_by past rest place (grind (arith, late)),
      drawn_from (take place later) (moment_at later place) p n h,
    ))

    ticked_at : is_delayed p ≡ true → (o : Option ℕ) → tick_from later p.ripe ≡ o → option_and_then (drawn later p) o ≡ Some n
        → (Contains (main_posts past) p × (option_and_then (drawn past p) (tick_from past p.ripe) ≡ Some n)) ⊎ (next_draw past ≤ n)
    ticked_at delayed None tick h = absurd (none-some n h)
    ticked_at delayed (Some place) tick h = at_tick delayed place tick h (nat_lt place (length past)) refl

    at_post : next_draw (take p.place later) ≡ n → (b : Bool) → nat_lt p.place (length past) ≡ b
        → (Contains (main_posts past) p × (next_draw (take p.place past) ≡ n)) ⊎ (next_draw past ≤ n)
    at_post h true early =
        let less : p.place < length past = ltb-true p.place (length past) early in
        inl (posts_early true past rest p among less, ap next_draw (sym (take-append-le p.place past rest (omega (arith, less)))) ∙ h)
    at_post h false late = inr (omega (arith, draws_by past rest p.place (grind (arith, late)), h))

    by_delayed : (b : Bool) → is_delayed p ≡ b → cond b (option_and_then (drawn later p) (tick_from later p.ripe))
        (Some (next_draw (take p.place later))) ≡ Some n
        → (Contains (main_posts past) p × (order_of past p ≡ Some n)) ⊎ (next_draw past ≤ n)
    by_delayed true delayed h = known (λ k. order_is past p ∙ ap (λ b. cond b (option_and_then (drawn past p) (tick_from past p.ripe))
        (Some (next_draw (take p.place past)))) delayed ∙ k) (ticked_at delayed (tick_from later p.ripe) refl h)
      where
        known : ((option_and_then (drawn past p) (tick_from past p.ripe) ≡ Some n) → order_of past p ≡ Some n)
            → (Contains (main_posts past) p × (option_and_then (drawn past p) (tick_from past p.ripe) ≡ Some n)) ⊎ (next_draw past ≤ n)
            → (Contains (main_posts past) p × (order_of past p ≡ Some n)) ⊎ (next_draw past ≤ n)
        known f (inl k) = inl (k.0, f k.1)
        known f (inr k) = inr k
    by_delayed false immediate h = known (at_post (same_Some _ n h) (nat_lt p.place (length past)) refl)
      where
        known : (Contains (main_posts past) p × (next_draw (take p.place past) ≡ n)) ⊎ (next_draw past ≤ n)
            → (Contains (main_posts past) p × (order_of past p ≡ Some n)) ⊎ (next_draw past ≤ n)
        known (inl k) = inl (
          k.0,
          order_is past p ∙ ap (λ b. cond b (option_and_then (drawn past p) (tick_from past p.ripe))
              (Some (next_draw (take p.place past)))) immediate ∙ ap Some k.1,
        )
        known (inr k) = inr k

-- where no two have one number, two with one number are the same
pub same_number : (number : Posted → Option ℕ) (ps : List Posted) (p q : Posted) (n : ℕ) → Distinct number ps → Contains ps p → Contains ps q
    → number p ≡ Some n → number q ≡ Some n → p ≡ q
same_number number [] p q n apart (k, less, is) among pn qn = absurd (omega (arith, less))
same_number number (x ∷ ps) p q n apart one two pn qn = by_side (contains_cases x ps p one) (contains_cases x ps q two)
    (λ a b. same_number number ps p q n apart.1 a b pn qn)
  where
    alone : (r : Posted) → Contains ps r → (m : ℕ) → number x ≡ Some m → number r ≡ Some m → ⊥
    alone r among = AllByRecursion-contains (λ s. (m : ℕ) → number x ≡ Some m → number s ≡ Some m → ⊥) ps r apart.0 among

    by_side : (x ≡ p) ⊎ Contains ps p → (x ≡ q) ⊎ Contains ps q → (Contains ps p → Contains ps q → p ≡ q) → p ≡ q
    by_side (inl a) (inl b) later = sym a ∙ b
    by_side (inl a) (inr b) later = absurd (alone q b n (ap number a ∙ pn) qn)
    by_side (inr a) (inl b) later = absurd (alone p a n (ap number b ∙ qn) pn)
    by_side (inr a) (inr b) later = later a b

-- ---- fronts

-- the front is that of a lane of a queue
pub record FrontOf (script : Plan) (past : List Entry) (f : Front) : Type 0 where
  pub queue : ℕ
  pub lane : Lane
  pub is : front_of script past queue lane ≡ Some f

pub each_front : (script : Plan) (past : List Entry) (q : ℕ) → AllByRecursion (FrontOf script past) (fronts_of script past q)
each_front script past q = AllByRecursion-append (FrontOf script past) (option_to_list (front_of script past q Immediate))
    (option_to_list (front_of script past q Delayed)) (one Immediate (front_of script past q Immediate) refl)
    (one Delayed (front_of script past q Delayed) refl)
  where
    one : (lane : Lane) (o : Option Front) → front_of script past q lane ≡ o → AllByRecursion (FrontOf script past) (option_to_list o)
    one lane None is = tt
    one lane (Some f) is = (record { queue = q; lane = lane; is = is }, tt)

pub each_front_of : (script : Plan) (past : List Entry) (queues : List ℕ) → AllByRecursion (FrontOf script past) (flat_map (fronts_of script past) queues)
each_front_of script past [] = tt
each_front_of script past (q ∷ queues) = AllByRecursion-append (FrontOf script past) (fronts_of script past q) (flat_map (fronts_of script past) queues)
    (each_front script past q) (each_front_of script past queues)

-- the chosen front is that of a lane
pub chosen_front : (script : Plan) (past : List Entry) (f : Front) → chosen_of script past ≡ Some f → FrontOf script past f
unfolding choice_among of_least_class open_fronts
chosen_front script past f is = of_least (FrontOf script past) order_below
    (if is_starved (open_fronts script past) (streak_of script past) then immediate_fronts script past else chosen_fronts script past) f
    (either (is_starved (open_fronts script past) (streak_of script past))) is
  where
    chosen : AllByRecursion (FrontOf script past) (chosen_fronts script past)
    chosen = AllByRecursion-filter (FrontOf script past) (λ g. holds_of (λ class. eqb g.class class) (chosen_class script past)) (open_fronts script past)
        (AllByRecursion-filter (FrontOf script past) (is_open script past) _ (each_front_of script past (range_with_len 0 (length script.queues))))

    either : (b : Bool) → AllByRecursion (FrontOf script past) (if b then immediate_fronts script past else chosen_fronts script past)
    either true = AllByRecursion-filter (FrontOf script past) (λ g. is_immediate g.lane) (chosen_fronts script past) chosen
    either false = chosen

-- the front that a main take takes
pub record TakesFront (script : Plan) (past : List Entry) (task queue : ℕ) : Type 0 where
  pub front : Front
  pub of_lane : FrontOf script past front
  pub task_is : front.task ≡ task
  pub queue_is : front.queue ≡ queue

pub takes_front : (script : Plan) (past : List Entry) (seat task queue value : ℕ) → may_come script past seat (kinds.MainTake task queue value) ≡ true
    → TakesFront script past task queue
unfolding may_come
takes_front script past seat task queue value h =
    let last = and_parts _ (eqb value (main_cell_of past queue)) h in
    let wanted = and_parts (by_script script past seat (kinds.MainTake task queue value)) (holds_of (is_front task queue) (chosen_of script past)) last.0 in
    let front = found (is_front task queue) (chosen_of script past) wanted.1 in
    let same = and_parts (eqb front.value.task task) (eqb front.value.queue queue) front.passes in
    record {
      front = front.value;
      of_lane = chosen_front script past front.value front.is;
      task_is = eqb-true front.value.task task same.0;
      queue_is = eqb-true front.value.queue queue same.1;
    }

-- what is known of a main take
pub record MainTaking (script : Plan) (log : List Entry) (place task queue : ℕ) : Type 0 where
  pub p : Posted
  pub order : ℕ
  pub lane : Lane
  pub among : Contains (main_posts (take place log)) p
  pub ordered : order_of (take place log) p ≡ Some order
  pub task_is : p.task ≡ task
  pub home_is : p.home ≡ queue
  pub before : p.place < place
  pub seat : ℕ
  pub posted : IsAt log p.place seat (kinds.Main task queue p.delay true)
  pub same : post_behind (take p.place log) task queue p.delay ≡ p
  pub in_lane : is_of_lane lane p ≡ true
  pub not_taken : is_main_taken (take place log) p.task ≡ false
  pub least : (f : Front) → Contains (lane_of script (take place log) queue lane) f → nat_lt f.order order ≡ false

pub main_taking : (script : Plan) (log : List Entry) (k seat task queue value : ℕ) → IsLegal script log → IsAt log k seat (kinds.MainTake task queue value)
    → MainTaking script log k task queue
main_taking script log k seat task queue value legal is = of_member
    (filter_map_contains (front_with script past q lane) (filter (is_in_lane past q lane) (main_posts past))
    t.front first.member)
  where
    past : List Entry
    past = take k log

    t : TakesFront script past task queue
    t = takes_front script past seat task queue value (may_come_at script log k _ legal is)

    q : ℕ
    q = t.of_lane.queue

    lane : Lane
    lane = t.of_lane.lane

    first : IsLeast order_below (lane_of script past q lane) t.front
    first = front_is_first script past q lane t.front t.of_lane.is

    of_member : ((p : Posted) × Contains (filter (is_in_lane past q lane) (main_posts past)) p × (front_with script past q lane p ≡ Some t.front))
        → MainTaking script log k task queue
    of_member (p, inside, made) = of_order (option_map_some (λ n. record { queue = q; lane = lane; task = p.task; order = n; class = class_of script past q })
        (order_of past p) t.front made)
      where
        kept : Contains (main_posts past) p × (is_in_lane past q lane p ≡ true)
        kept = filter_contains (is_in_lane past q lane) (main_posts past) p inside

        parts : ((eqb p.home q && is_of_lane lane p) ≡ true) × (not (is_main_taken past p.task) ≡ true)
        parts = and_parts (eqb p.home q && is_of_lane lane p) (not (is_main_taken past p.task)) kept.1

        where_is : (eqb p.home q ≡ true) × (is_of_lane lane p ≡ true)
        where_is = and_parts (eqb p.home q) (is_of_lane lane p) parts.0

        was : IsPostedAt true past p
        was = was_posted true past p kept.0

        there : (p.place < k) × IsAt log p.place was.seat (kinds.Main p.task p.home p.delay true)
        there = of_past log p.place k _ was.is

        of_order : ((n : ℕ) × (order_of past p ≡ Some n) × (record { queue = q; lane = lane; task = p.task; order = n; class = class_of script past q }
            ≡ t.front))
            → MainTaking script log k task queue
        of_order (n, order_is, front) = record {
          p = p;
          order = n;
          lane = lane;
          among = kept.0;
          ordered = order_is;
          task_is = task_is;
          home_is = home_is;
          before = there.0;
          seat = was.seat;
          posted = there.1 ∙ ap (λ m. Some (record { seat = was.seat; kind = kinds.Main m p.home p.delay true })) task_is
              ∙ ap (λ r. Some (record { seat = was.seat; kind = kinds.Main task r p.delay true })) home_is;
          same = ap (λ before. post_behind before task queue p.delay) (sym (take_take log p.place k (omega (arith, there.0))))
              ∙ ap (λ m. post_behind (take p.place past) m queue p.delay) (sym task_is)
              ∙ ap (λ r. post_behind (take p.place past) p.task r p.delay) (sym home_is) ∙ was.same;
          in_lane = where_is.1;
          not_taken = not-true (is_main_taken past p.task) parts.1;
          least = λ f among. ap (nat_lt f.order) (ap (λ g. g.order) front) ∙ All-contains (λ y. order_below y t.front ≡ false) (lane_of script past q lane) f
              first.none_below (subst (λ r. Contains (lane_of script past r lane) f) (sym here) among);
        }
          where
            task_is : p.task ≡ task
            task_is = ap (λ g. g.task) front ∙ t.task_is

            here : q ≡ queue
            here = ap (λ g. g.queue) front ∙ t.queue_is

            home_is : p.home ≡ queue
            home_is = eqb-true p.home q where_is.0 ∙ here
