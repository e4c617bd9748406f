-- A tick: at its start no delayed task has ripened, each step ripens one, and once none is left that is ripe the manager stands
-- for the past with the tick.
-- Cited by `Manager::tick`.
use Rattle.delayed_manager.specs.Delayed.{is_ripe}
use Rattle.delayed_manager.specs.declared.ripening.Ripening.{Ripening}
use Rattle.list_laws.proofs.Elements.{AllByRecursion-map}
use Rattle.list_laws.proofs.Filters.{filter_all, filter_none, filter_front}
use Rattle.list_laws.proofs.Ranks.{by_more}
use Rattle.list_laws.proofs.Sorts.{length-sort_by}
use Rattle.list_laws.proofs.Values.{some-injective}
use Rattle.list_laws.specs.Lists.{keep}
use Rattle.list_laws.specs.Sorts.{Rises}
use Rattle.pool_laws.proofs.Keys.Posts.{main_posts_same}
use Rattle.queue_laws.proofs.Arrivals.{main_arrivals_at_tick}
use Rattle.sequence_manager.proofs.Kept.{class_kept, driver_same, other_keeps}
use Rattle.sequence_manager.proofs.Lists.{rises_back}
use Rattle.sequence_manager.proofs.Parts.{parts_kept}
use Rattle.sequence_manager.proofs.Ripens.{can_ripen, few_drawn, first_held, known_with, ripens_on, there}
use Rattle.sequence_manager.proofs.Soonest.{soonest_is, soonest_of_none}
use Rattle.sequence_manager.proofs.Pasts.{past_at_tick}
use Rattle.sequence_manager.proofs.Waiting.{ripe_at_tick, unripe_at_tick, unripe_rises}
use Rattle.sequence_manager.specs.Calls.{CanTick, after_tick}
use Rattle.sequence_manager.specs.Queues.{ripening_of, unripe}
use Rattle.sequence_manager.specs.Ripening.{CanRipen, IsInTick, first_ripe, known, ripened}
use Rattle.sequence_manager.specs.StandsFor.{ArePartsOf, StandsFor}
use Rattle.sequence_manager.specs.State.{queue_at}
use Rattle.sequence_manager.specs.declared.manager.Manager.{Manager}
use Rattle.std.proofs.Common.{Bool, List, None, Option, Some, [], ap, arith, cond, false, inl, inr, length}
use Rattle.std.proofs.Common.{refl, subst, sym, true, ℕ, ◌++◌, ◌+◌, ◌-◌, ◌<◌, ◌^◌, ◌∙◌, ◌∷◌, ◌≡◌, ◌≤◌}
use Rattle.std.proofs.lemmas.Bool.{cases_lt, le-ltb, leb-false, leb-true, lt-leb, lt-ltb, true≢false}
use Rattle.std.proofs.lemmas.List.{append-nil, length-append}
use Rattle.std.proofs.lemmas.List.Elements.{filter-append}
use Rattle.std.proofs.lemmas.Option.{none-some}
use Rattle.std.specs.List.{AllByRecursion}
use Rattle.std.specs.Option.{option_map}
use Rattle.std.specs.Prelude.{filter, nat_le, nat_lt, slice_get, ◌⊎◌}
use Rattle.task_base.specs.Plan.{Plan}
use Rattle.task_base.specs.declared.entry.Entry.{Entry}
use Rattle.task_model.proofs.Growth.{draws_push, now_of_push, streak_of_push}
use Rattle.task_model.specs.Orders.{next_draw, ripening}
use Rattle.queue_laws.specs.Orders.{Ordered, main_arrivals, numbered_from}
use Rattle.task_model.specs.Posts.{Posted, ripens_before}
use Rattle.task_base.specs.declared.entry.Kind.TheVariants as kinds

-- The start.

-- the parts do not know the moment
parts_moved : {script : Plan} {past : List Entry} {arrivals : List Ordered} {waiting : List Posted} {order : ℕ} {manager : Manager}
    → ArePartsOf script past arrivals waiting order manager → (moment : ℕ)
    → ArePartsOf script past arrivals waiting order (record manager { moment = moment })
parts_moved parts moment = record {
  queues = parts.queues;
  rows = parts.rows;
  streak = parts.streak;
  order_is = parts.order_is;
  room = parts.room;
  few_orders = parts.few_orders;
}

-- the clock has been read, and no delayed task has got its order
pub in_tick_at_start : (script : Plan) (past : List Entry) (manager : Manager) (moment : ℕ) → CanTick script past manager moment
    → IsInTick script past moment [] (unripe past) (record manager { moment = moment })
in_tick_at_start script past manager moment can = record {
  before = manager;
  can = can;
  all = refl;
  ripe = tt;
  parts = subst (λ os. ArePartsOf script past os (unripe past) (next_draw past + 0) started) (sym (append-nil (main_arrivals past)))
      (subst (λ n. ArePartsOf script past (main_arrivals past) (unripe past) n started) (omega arith) (parts_moved can.stands.parts moment));
  moment_is = refl;
}
  where
    started : Manager
    started = record manager { moment = moment }

-- One step.

-- the tasks that are left rise
rest_rises : (past : List Entry) (front rest : List Posted) → unripe past ≡ front ++ rest → Rises ripens_before rest
rest_rises past front rest all = rises_back ripens_before front rest (subst (Rises ripens_before) all (unripe_rises past))

-- the queue of a task, if that is ripe
abbrev ripe_home : ℕ → Option (Ripening × ℕ) → Option ℕ
ripe_home moment first = option_map (λ x. x.1) (keep (λ x. is_ripe moment x.0) first)

-- the manager finds the queue of the first of them, if that is ripe
first_ripe_is : {script : Plan} {past : List Entry} {moment : ℕ} {front : List Posted} {p : Posted} {rest : List Posted} {manager : Manager}
    → IsInTick script past moment front (p ∷ rest) manager → first_ripe moment manager.queues ≡ cond (nat_le p.ripe moment) (Some p.home) None
first_ripe_is {script = script} {past = past} {moment = moment} {front = front} {p = p} {rest = rest} {manager = manager} tick =
    ap (ripe_home moment)
    (soonest_is script past (known past front) p rest manager.queues tick.parts.queues (rest_rises past front (p ∷ rest) tick.all) (there tick))
    ∙ by_order (nat_le p.ripe moment) (ripening_of p, p.home)
  where
    by_order : (b : Bool) (first : Ripening × ℕ) → option_map (λ x. x.1) (cond b (Some first) None) ≡ cond b (Some first.1) None
    by_order true first = refl
    by_order false first = refl

-- the first of the tasks that are left is ripe, and is of this queue
pub record StepsTo (script : Plan) (past : List Entry) (moment : ℕ) (manager : Manager) (queue : ℕ) : Type 0 where
  pub front : List Posted
  pub p : Posted
  pub rest : List Posted
  pub tick : IsInTick script past moment front (p ∷ rest) manager
  pub come : nat_le p.ripe moment ≡ true
  pub queue_is : queue ≡ p.home

-- so it is where the manager finds a queue
pub steps : {script : Plan} {past : List Entry} {moment : ℕ} {manager : Manager} {queue : ℕ}
    → (front : List Posted) × (rest : List Posted) × IsInTick script past moment front rest manager → first_ripe moment manager.queues ≡ Some queue
    → StepsTo script past moment manager queue
steps {script = script} {past = past} {moment = moment} {manager = manager} {queue = queue} (front, rest, tick) found = by_rest rest tick
  where
    with : (p : Posted) (ps : List Posted) → IsInTick script past moment front (p ∷ ps) manager → (b : Bool) → nat_le p.ripe moment ≡ b
        → cond b (Some p.home) None ≡ Some queue → StepsTo script past moment manager queue
    with p ps of_p true is h = record { front = front; p = p; rest = ps; tick = of_p; come = is; queue_is = sym (some-injective h) }
    with p ps of_p false is h = absurd (none-some queue h)

    by_rest : (ps : List Posted) → IsInTick script past moment front ps manager → StepsTo script past moment manager queue
    by_rest [] of_none = absurd (none-some queue
        (sym (ap (ripe_home moment) (soonest_of_none script past (known past front) manager.queues of_none.parts.queues)) ∙ found))
    by_rest (p ∷ ps) of_p = with p ps of_p (nat_le p.ripe moment) refl (sym (first_ripe_is of_p) ∙ found)

module _ {script : Plan} {past : List Entry} {moment : ℕ} {manager : Manager} {queue : ℕ} (step : StepsTo script past moment manager queue) where
  -- the step can be done
  pub step_can : (arrivals : List Ordered) × (first : Ripening) × CanRipen arrivals manager queue first
  step_can = (
    known_with past step.front step.p,
    ripening_of step.p,
    subst (λ q. CanRipen (known_with past step.front step.p) manager q (ripening_of step.p)) (sym step.queue_is) (can_ripen step.tick step.come),
  )

  -- it has been done
  module _ {after : Manager}
      (done : (first : Ripening) → slice_get (queue_at manager.queues queue).delayed.held 0 ≡ Some first → after ≡ ripened manager queue first.task) where
    -- it has ripened the first of them
    after_is : after ≡ ripened manager step.p.home step.p.task
    after_is =
        done (ripening_of step.p) (ap (λ q. slice_get (queue_at manager.queues q).delayed.held 0) step.queue_is ∙ first_held step.tick)
        ∙ ap (λ q. ripened manager q step.p.task) step.queue_is

    -- the tick goes on
    pub step_stays : (front : List Posted) × (rest : List Posted) × IsInTick script past moment front rest after
    step_stays = (
      step.front ++ step.p ∷ [],
      step.rest,
      subst (IsInTick script past moment (step.front ++ step.p ∷ []) step.rest) (sym after_is) (ripens_on step.tick step.come),
    )

    -- and one more order has been drawn
    pub step_smaller : 2 ^ 33 - after.next_order < 2 ^ 33 - manager.next_order
    step_smaller =
        let few : manager.next_order < 2 ^ 33 = few_drawn step.tick in
        let more : after.next_order ≡ manager.next_order + 1 = ap (λ x. x.next_order) after_is in
        omega (arith, few, more)

-- The end.

-- where the first is not ripe, none is
rest_unripe : (moment : ℕ) (p : Posted) (rest : List Posted) → Rises ripens_before (p ∷ rest) → moment < p.ripe
    → AllByRecursion (λ q. moment < q.ripe) (p ∷ rest)
rest_unripe moment p rest rises first = (
  first,
  AllByRecursion-map (λ q. ripens_before p q ≡ true) (λ q. moment < q.ripe) rest (λ q before. by_posted q before (cases_lt q.ripe p.ripe)) rises.0,
)
  where
    by_posted : (q : Posted) → ripens_before p q ≡ true → (q.ripe < p.ripe) ⊎ (p.ripe ≤ q.ripe) → moment < q.ripe
    by_posted q before (inl less) = absurd (true≢false (sym before ∙ by_more (λ x. x.ripe) (λ a b. nat_lt a.place b.place) p q less))
    by_posted q before (inr more) = omega (arith, first, more)

-- where the manager finds no queue, none of the tasks that are left is ripe
none_ripe : {script : Plan} {past : List Entry} {moment : ℕ} {front : List Posted} {manager : Manager} (rest : List Posted)
    → IsInTick script past moment front rest manager → first_ripe moment manager.queues ≡ None → AllByRecursion (λ p. moment < p.ripe) rest
none_ripe [] tick none = tt
none_ripe {past = past} {moment = moment} {front = front} (p ∷ rest) tick none =
    rest_unripe moment p rest (rest_rises past front (p ∷ rest) tick.all) (by_order (nat_le p.ripe moment) refl (sym (first_ripe_is tick) ∙ none))
  where
    by_order : (b : Bool) → nat_le p.ripe moment ≡ b → cond b (Some p.home) None ≡ None → moment < p.ripe
    by_order true is h = absurd (none-some p.home (sym h))
    by_order false is h = leb-false p.ripe moment is

-- no queue has a delayed task that is ripe
module _ {script : Plan} {past : List Entry} {moment : ℕ} {front rest : List Posted} {manager : Manager}
    (tick : IsInTick script past moment front rest manager) (none : first_ripe moment manager.queues ≡ None) where
  -- those that have ripened are all that are ripe
  ripe_are : filter (λ p. nat_le p.ripe moment) (unripe past) ≡ front
  ripe_are =
      filter_front (λ q. nat_le q.ripe moment) (unripe past) front rest tick.all tick.ripe
      ∙ ap (λ ps. front ++ ps) (filter_none (λ p. nat_le p.ripe moment) rest
      (AllByRecursion-map (λ p. moment < p.ripe) (λ p. nat_le p.ripe moment ≡ false) rest (λ p lt. lt-leb p.ripe moment lt) (none_ripe rest tick none)))
      ∙ append-nil front

  -- so they are the arrivals of the tick
  arrivals_after : (seat : ℕ) → main_arrivals (after_tick past seat moment) ≡ known past front
  arrivals_after seat =
      main_arrivals_at_tick past (record { seat = seat; kind = kinds.Tick moment }) moment refl
      ∙ ap (λ ps. main_arrivals past ++ numbered_from (next_draw past) ps) (ripe_at_tick past moment ∙ ripe_are)

  -- each has drawn an order
  draw_after : (seat : ℕ) → next_draw (after_tick past seat moment) ≡ next_draw past + length front
  draw_after seat =
      let many : length (ripening past moment) ≡ length front
      = sym (length-sort_by ripens_before (ripening past moment)) ∙ ap length (ripe_at_tick past moment ∙ ripe_are) in
      omega (arith, many, draws_push past (record { seat = seat; kind = kinds.Tick moment }))

  -- the others still wait
  unripe_after : (seat : ℕ) → unripe (after_tick past seat moment) ≡ rest
  unripe_after seat =
      unripe_at_tick past seat moment tick.can.later
      ∙ ap (filter (λ p. nat_lt moment p.ripe)) tick.all
      ∙ filter-append (λ p. nat_lt moment p.ripe) front rest
      ∙ ap (λ xs. xs ++ filter (λ p. nat_lt moment p.ripe) rest) (filter_none (λ p. nat_lt moment p.ripe) front
      (AllByRecursion-map (λ p. nat_le p.ripe moment ≡ true) (λ p. nat_lt moment p.ripe ≡ false) front
      (λ p h. le-ltb moment p.ripe (leb-true p.ripe moment h)) tick.ripe))
      ∙ filter_all (λ p. nat_lt moment p.ripe) rest
      (AllByRecursion-map (λ p. moment < p.ripe) (λ p. nat_lt moment p.ripe ≡ true) rest (λ p lt. lt-ltb moment p.ripe lt) (none_ripe rest tick none))

  -- the tick is done
  pub stands_after : (seat : ℕ) → StandsFor script (after_tick past seat moment) manager
  stands_after seat = record {
    script_fits = tick.can.stands.script_fits;
    past_fits = past_at_tick script past seat moment tick.can.stands.past_fits tick.can.later tick.can.fits;
    parts =
        subst (λ os. ArePartsOf script later os (unripe later) (next_draw later) manager) (sym (arrivals_after seat))
        (subst (λ ps. ArePartsOf script later (known past front) ps (next_draw later) manager) (sym (unripe_after seat))
        (subst (λ n. ArePartsOf script later (known past front) rest n manager) (sym (draw_after seat)) parts));
    moment = tick.moment_is ∙ sym (now_of_push past e);
  }
    where
      e : Entry
      e = record { seat = seat; kind = kinds.Tick moment }

      later : List Entry
      later = past ++ e ∷ []

      parts : ArePartsOf script later (known past front) rest (next_draw past + length front) manager
      parts = parts_kept script past e (known past front) rest (next_draw past + length front) manager
          (λ q. other_keeps past e q refl (driver_same past e refl)) (λ q. class_kept script past e q refl) (streak_of_push script past e)
          (main_posts_same past e refl) (omega (arith, length-append past (e ∷ []))) tick.parts
