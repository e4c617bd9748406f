-- A main task that was never taken lies in a closed queue, has no order, or waits in its lane.
-- Cited by `Laws/Whole/Losing`.
use Rattle.std.proofs.Common.{◌≡◌, ℕ, ◌+◌, ◌<◌, ◌≤◌, Bool, true, false, cond, List, [], ◌∷◌, ◌++◌, length}
use Rattle.std.proofs.Common.{refl, sym, ap, subst, ◌∙◌, Option, Some, None, arith}
use Rattle.std.specs.Prelude.{not, nat_lt, nat_le, filter, take, Contains}
use Rattle.std.specs.Option.{option_map, option_or}
use Rattle.std.specs.List.{AllByRecursion, filter_map}
use Rattle.std.proofs.lemmas.Bool.{or_parts, eq-eqb}
use Rattle.std.proofs.lemmas.Bool.{lt-ltb, ltb-true, true_from_ne_false}
use Rattle.std.proofs.lemmas.Option.{none-some}
use Rattle.std.proofs.lemmas.List.Elements.{All-contains}
use Rattle.task_base.specs.Plan.{Plan}
use Rattle.task_base.specs.declared.entry.Entry.{Entry}
use Rattle.task_base.specs.declared.entry.Kind.{Kind}
use Rattle.task_base.specs.declared.entry.Kind.TheVariants as kinds
use Rattle.task_base.specs.declared.script.Lane.{Lane}
use Rattle.task_base.specs.declared.script.Lane.TheVariants.{Immediate, Delayed}
use Rattle.list_laws.specs.Lists.{count}
use Rattle.list_laws.proofs.Elements.{AllByRecursion-append, AllByRecursion-both, AllByRecursion-contains, AllByRecursion-map, push_induction}
use Rattle.list_laws.proofs.Least.{least_is_least, no_least}
use Rattle.list_laws.proofs.Made.{contains_filter, contains_filter_map, contains_not_empty}
use Rattle.list_laws.proofs.Ranks.{ranks_by}
use Rattle.task_model.specs.Time.{now_of, now_after, tick_from}
use Rattle.task_model.specs.Past.{fold_past}
use Rattle.task_model.specs.Posts.{Posted, is_delayed, ripens_before, post_behind, main_posts}
use Rattle.task_model.specs.Posts.{main_posted_by, is_main_taken}
use Rattle.task_model.specs.Refusal.{is_closed, closes}
use Rattle.task_model.specs.Orders.{ripens, ripening, next_draw, drawn_at, order_of}
use Rattle.task_model.specs.MainQueues.{Front, class_of, is_of_lane, is_in_lane, front_with, order_below, front_of}
use Rattle.task_model.proofs.Growth.{now_of_push, main_posts_push, is_closed_push}
use Rattle.pool_laws.specs.Keys.{NoTickAhead, tick_by}
use Rattle.pool_laws.proofs.Keys.Ready.{tick_from_push}
use Rattle.queue_laws.specs.Orders.{moves_orders}
use Rattle.queue_laws.proofs.Orders.{main_places, order_at_tick, order_of_stays, tick_same}
use Rattle.hist_model.specs.Legal.{IsLegal}
use Rattle.hist_model.specs.Laws.Whole.{HasNoOrder, WaitsInLane, LeftMainTask}
use Rattle.hist_model.specs.Laws.Whole.LeftMainTask.{Closed, NoOrder, InLane}
use Rattle.hist_model.proofs.Laws.Legal.{legal_induction}
use Rattle.hist_model.proofs.Laws.Rising.{legal_rises}
use Rattle.hist_model.proofs.Laws.Whole.Rest.{none_of, not_none_some}

abbrev lane_of : Posted → Lane
lane_of p = cond (is_delayed p) Delayed Immediate

lies_in_lane : (p : Posted) → is_of_lane (lane_of p) p ≡ true
lies_in_lane p = by_delayed (is_delayed p) refl
  where
    by_delayed : (b : Bool) → is_delayed p ≡ b → is_of_lane (cond b Delayed Immediate) p ≡ true
    by_delayed true is = is
    by_delayed false is = ap not is

waits_in_lane : (script : Plan) (past : List Entry) (p : Posted) (order : ℕ) → Contains (main_posts past) p → order_of past p ≡ Some order
    → is_main_taken past p.task ≡ false → WaitsInLane script past p
unfolding front_of
waits_in_lane script past p order among is free = by_front (front_of script past p.home (lane_of p)) refl
  where
    in_lane : is_in_lane past p.home (lane_of p) p ≡ true
    in_lane = rw (eq-eqb p.home p.home refl, lies_in_lane p, free) refl

    own : Front
    own = record { queue = p.home; lane = lane_of p; task = p.task; order = order; class = class_of script past p.home }

    fronts : List Front
    fronts = filter_map (front_with script past p.home (lane_of p)) (filter (is_in_lane past p.home (lane_of p)) (main_posts past))

    own_there : Contains fronts own
    own_there = contains_filter_map (front_with script past p.home (lane_of p)) (filter (is_in_lane past p.home (lane_of p)) (main_posts past)) p own
        (contains_filter (is_in_lane past p.home (lane_of p)) (main_posts past) p among in_lane)
        (ap (option_map (λ n. record { queue = p.home; lane = lane_of p; task = p.task; order = n; class = class_of script past p.home })) is)

    at_most : (n m : ℕ) → nat_lt n m ≡ false → m ≤ n
    at_most n m h = grind arith

    by_front : (o : Option Front) → front_of script past p.home (lane_of p) ≡ o → WaitsInLane script past p
    by_front None none = absurd (contains_not_empty fronts own own_there (no_least order_below fronts none))
    by_front (Some front) some = record {
      order = order;
      order_is = is;
      lane = lane_of p;
      in_lane = in_lane;
      front = front;
      front_is = some;
      at_or_below = at_most order front.order (All-contains (λ f. order_below f front ≡ false) fronts own
          (least_is_least order_below (ranks_by (λ f. f.order)) fronts front some).none_below own_there);
    }

-- Orders.

both_none : {A : Type 0} (a b : Option A) → option_or a b ≡ None → (a ≡ None) × (b ≡ None)
both_none None b h = (refl, h)
both_none (Some x) b h = absurd (none-some x (sym h))

-- where no tick has come to a moment, the history has not
not_there_yet : (moment : ℕ) (past : List Entry) → 0 < moment → tick_from past moment ≡ None → now_of past < moment
unfolding now_of
not_there_yet moment past above = push_induction (λ xs. tick_from xs moment ≡ None → now_of xs < moment) (λ none. above) next past
  where
    by_past : (xs : List Entry) (kind : Kind) → tick_by xs moment kind ≡ None → now_of xs < moment → now_after (now_of xs) kind < moment
    by_past xs (kinds.Tick now) none before = below (nat_le moment now) refl none
      where
        below : (b : Bool) → nat_le moment now ≡ b → cond b (Some (length xs)) None ≡ None → now < moment
        below true is k = absurd (none-some (length xs) (sym k))
        below false is k = grind arith
    by_past xs kind none before = before

    next : (xs : List Entry) (x : Entry) → (tick_from xs moment ≡ None → now_of xs < moment) → tick_from (xs ++ x ∷ []) moment ≡ None
        → now_of (xs ++ x ∷ []) < moment
    next xs x before none =
        let both = both_none (tick_from xs moment) (tick_by xs moment x.kind) (sym (tick_from_push xs x moment) ∙ none) in
        subst (λ n. n < moment) (sym (now_of_push xs x)) (by_past xs x.kind both.1 (before both.0))

-- a main task of an open queue draws at the first tick at or past its ripe moment, which is above 0 where it is delayed
record DrawsInTime (past : List Entry) (p : Posted) : Type 0 where
  later : is_delayed p ≡ true → 0 < p.ripe
  draws : is_closed past p.home ≡ false → order_of past p ≡ None → tick_from past p.ripe ≡ None

abbrev AllDraw : List Entry → Type 0
AllDraw past = AllByRecursion (DrawsInTime past) (main_posts past)

-- an immediate main task has an order from its post on
is_late : (past : List Entry) (p : Posted) → order_of past p ≡ None → is_delayed p ≡ true
unfolding order_of
is_late past p none = true_from_ne_false (is_delayed p) (λ immediate. not_none_some (order_of past p) (next_draw (take p.place past)) none (rw immediate refl))

-- a task that ripens at the tick draws there
draws_nothing : (past : List Entry) (moment : ℕ) (p : Posted) → is_delayed p ≡ true → is_closed past p.home ≡ false → now_of past < p.ripe
    → drawn_at past moment p ≡ None → tick_by past p.ripe (kinds.Tick moment) ≡ None
draws_nothing past moment p delayed opened ahead none = by_order (nat_le p.ripe moment) refl
  where
    drawing : nat_le p.ripe moment ≡ true → ripens past moment p ≡ true
    drawing ripe = rw (delayed, opened, lt-ltb (now_of past) p.ripe ahead, ripe) refl

    by_order : (b : Bool) → nat_le p.ripe moment ≡ b → cond b (Some (length past)) None ≡ None
    by_order true ripe = absurd (not_none_some (drawn_at past moment p) (next_draw past + count (λ q. ripens_before q p) (ripening past moment)) none
        (ap (λ (b : Bool). cond b (Some (next_draw past + count (λ q. ripens_before q p) (ripening past moment))) None) (drawing ripe)))
    by_order false early = refl

-- a task of the past draws in time after one more entry
draws_next : (past : List Entry) (e : Entry) (p : Posted) → p.place < length past → DrawsInTime past p → DrawsInTime (past ++ e ∷ []) p
draws_next past e p within d = record { later = d.later; draws = λ opened none. still e.kind refl (opened_before opened) none (no_order_before none) }
  where
    opened_before : is_closed (past ++ e ∷ []) p.home ≡ false → is_closed past p.home ≡ false
    opened_before opened = (or_parts (is_closed past p.home) (closes p.home e.kind) (sym (is_closed_push past e p.home) ∙ opened)).0

    no_order_before : order_of (past ++ e ∷ []) p ≡ None → order_of past p ≡ None
    no_order_before none = none_of (order_of past p) (λ n is.
        not_none_some (order_of (past ++ e ∷ []) p) n none (order_of_stays past (e ∷ []) p n within is))

    still : (kind : Kind) → e.kind ≡ kind → is_closed past p.home ≡ false → order_of (past ++ e ∷ []) p ≡ None → order_of past p ≡ None
        → tick_from (past ++ e ∷ []) p.ripe ≡ None
    still (kinds.Tick moment) is opened none before =
        let delayed = is_late past p before in
        let no_tick = d.draws opened before in
        let nothing : drawn_at past moment p ≡ None = sym (order_at_tick past e p moment is delayed no_tick) ∙ none in
        tick_from_push past e p.ripe
        ∙ ap (λ o. option_or o (tick_by past p.ripe e.kind)) no_tick
        ∙ ap (tick_by past p.ripe) is
        ∙ draws_nothing past moment p delayed opened (not_there_yet p.ripe past (d.later delayed) no_tick) nothing
    still kind is opened none before = tick_same past e (ap moves_orders is) p.ripe ∙ d.draws opened before

-- so does one that is posted now
draws_new : (past : List Entry) (e : Entry) → NoTickAhead past → AllByRecursion (DrawsInTime (past ++ e ∷ [])) (main_posted_by past e.kind)
draws_new past e ahead = by_kind e.kind refl
  where
    by_kind : (kind : Kind) → e.kind ≡ kind → AllByRecursion (DrawsInTime (past ++ e ∷ [])) (main_posted_by past kind)
    by_kind (kinds.Main task queue delay true) is = (
      record {
        later = λ delayed. let more : 0 < delay = ltb-true 0 delay delayed in omega (arith, more);
        draws = λ opened none. let more : 0 < delay = ltb-true 0 delay (is_late (past ++ e ∷ []) (post_behind past task queue delay) none) in
            tick_same past e (ap moves_orders is) (now_of past + delay) ∙ ahead (now_of past + delay) (omega (arith, more));
      },
      tt,
    )
    by_kind (kinds.Main task queue delay false) is = tt
    by_kind kind is = tt

none_posted : AllDraw []
unfolding main_posts fold_past
none_posted = tt

all_draw : (script : Plan) (log : List Entry) → IsLegal script log → AllDraw log
all_draw script = legal_induction script AllDraw none_posted (λ past e legal allowed all.
    subst (AllByRecursion (DrawsInTime (past ++ e ∷ []))) (sym (main_posts_push past e))
    (AllByRecursion-append (DrawsInTime (past ++ e ∷ [])) (main_posts past) (main_posted_by past e.kind)
    (AllByRecursion-map (λ p. (p.place < length past) × DrawsInTime past p) (DrawsInTime (past ++ e ∷ [])) (main_posts past)
    (λ p both. draws_next past e p both.0 both.1)
    (AllByRecursion-both (λ p. p.place < length past) (DrawsInTime past) (main_posts past) (main_places past) all))
    (draws_new past e (legal_rises script past legal).no_tick_ahead)))

no_order : (script : Plan) (log : List Entry) (p : Posted) → IsLegal script log → Contains (main_posts log) p → is_closed log p.home ≡ false
    → order_of log p ≡ None → HasNoOrder log p
no_order script log p legal among opened none = record {
  delayed = is_late log p none;
  no_tick = (AllByRecursion-contains (DrawsInTime log) (main_posts log) p (all_draw script log legal) among).draws opened none;
  no_order = none;
}

pub main_tasks_left : (script : Plan) (log : List Entry) → IsLegal script log → (p : Posted) → Contains (main_posts log) p → is_main_taken log p.task ≡ false
    → LeftMainTask script log p
main_tasks_left script log legal p among free = by_closed (is_closed log p.home) (order_of log p) refl refl
  where
    by_closed : (b : Bool) (o : Option ℕ) → is_closed log p.home ≡ b → order_of log p ≡ o → LeftMainTask script log p
    by_closed true o closed order_is = Closed closed
    by_closed false None opened none = NoOrder (no_order script log p legal among opened none)
    by_closed false (Some order) opened order_is = InLane (waits_in_lane script log p order among order_is free)
