-- One delayed task ripens in the course of a tick: it goes to the end of its lane.
-- Cited by `Ticks`.
use Rattle.delayed_manager.specs.Delayed.{with_held}
use Rattle.list_laws.proofs.Elements.{AllByRecursion-append, AllByRecursion-at, AllByRecursion-contains, AllByRecursion-map}
use Rattle.list_laws.proofs.Filters.{filter_front}
use Rattle.list_laws.proofs.Rises.{rises_front, rises_last}
use Rattle.list_laws.proofs.Values.{eqb-same}
use Rattle.list_laws.specs.Sorts.{Rises}
use Rattle.queue_laws.proofs.Arrivals.{main_arrivals_at_tick, main_arrivals_rise}
use Rattle.queue_laws.specs.Orders.{ordered_below, Ordered, main_arrivals, numbered_from}
use Rattle.sequence_manager.proofs.Arriving.{all_below, arrived, behind_first, other_arrived, other_waiting, room_left, load_same}
use Rattle.sequence_manager.proofs.Parts.{load, posted_to, room_by_past}
use Rattle.sequence_manager.proofs.PostingsFit.{posts_fit, queue_there}
use Rattle.sequence_manager.proofs.Refreshing.{can_refresh, refreshed_rows}
use Rattle.sequence_manager.proofs.Soonest.{delayed_of}
use Rattle.sequence_manager.proofs.Tables.{queue_at_is, table_set}
use Rattle.sequence_manager.proofs.Waiting.{IsWaiting, ripe_at_tick, unripe_waiting}
use Rattle.sequence_manager.specs.Calls.{after_tick}
use Rattle.sequence_manager.specs.Pasts.{IsMainPast, IsMainScript, IsPostedTo}
use Rattle.sequence_manager.specs.Postings.{room_of}
use Rattle.sequence_manager.specs.Queues.{IsTable, queue_of, ripening_of, unripe}
use Rattle.sequence_manager.specs.Ripening.{CanRipen, IsInTick, known, ripened, without_first}
use Rattle.sequence_manager.specs.StandsFor.{ArePartsOf}
use Rattle.sequence_manager.specs.State.{CanPush, CanRefresh, queue_at, row_by, with_queue, with_task}
use Rattle.sequence_manager.specs.declared.manager.Manager.{Manager}
use Rattle.sequence_manager.specs.declared.task_queue.TaskQueue.{TaskQueue}
use Rattle.std.proofs.Common.{List, Some, [], ap, append_assoc, arith, cond, drop, length, refl, subst, sym, true, ℕ, ◌++◌, ◌+◌, ◌<◌, ◌^◌, ◌∙◌, ◌∷◌, ◌≡◌, ◌≤◌}
use Rattle.std.proofs.lemmas.Bool.{ltb-true}
use Rattle.std.proofs.lemmas.List.{length-append}
use Rattle.std.proofs.lemmas.List.Elements.{Contains-append_left}
use Rattle.std.specs.List.{AllByRecursion}
use Rattle.std.specs.Prelude.{All, Contains, filter, nat_le, slice_get}
use Rattle.task_base.specs.Plan.{Plan}
use Rattle.task_base.specs.declared.entry.Entry.{Entry}
use Rattle.task_base.specs.declared.script.Lane.TheVariants.{Delayed}
use Rattle.task_model.specs.MainQueues.{class_of}
use Rattle.task_model.specs.Orders.{next_draw}
use Rattle.task_model.specs.Posts.{Posted, main_posts}
use Rattle.work_queue.specs.Lanes.{IsBelow, all_held}
use Rattle.task_base.specs.declared.entry.Kind.TheVariants as kinds

-- What has an order.

-- more tasks draw the next numbers
numbered-append : (n : ℕ) (xs ys : List Posted) → numbered_from n (xs ++ ys) ≡ numbered_from n xs ++ numbered_from (n + length xs) ys
numbered-append n [] ys = ap (λ m. numbered_from m ys) (omega arith)
numbered-append n (x ∷ xs) ys =
    ap (λ os. record { posted = x; order = n } ∷ os) (numbered-append (n + 1) xs ys
    ∙ ap (λ m. numbered_from (n + 1) xs ++ numbered_from m ys) (omega arith))

-- the task that ripens next, with the order that it draws
abbrev pub next_of : List Entry → List Posted → Posted → Ordered
next_of past front p = record { posted = p; order = next_draw past + length front }

-- the tasks that have orders, and that one
abbrev pub known_with : List Entry → List Posted → Posted → List Ordered
known_with past front p = known past front ++ next_of past front p ∷ []

-- they are those that have orders once it has ripened
known-push : (past : List Entry) (front : List Posted) (p : Posted) → known past (front ++ p ∷ []) ≡ known_with past front p
known-push past front p =
    ap (λ os. main_arrivals past ++ os) (numbered-append (next_draw past) front (p ∷ []))
    ∙ sym (append_assoc (main_arrivals past) (numbered_from (next_draw past) front) (next_of past front p ∷ []))

-- each accepted task has a queue that is declared
home_there : (script : Plan) (past : List Entry) (p : Posted) → IsMainScript script → IsMainPast script past → Contains (main_posts past) p
    → p.home < length script.queues
home_there script past p limits fits among = queue_there script p.task p.home limits
    (AllByRecursion-contains (λ x. IsPostedTo script x.task x.home) (main_posts past) p fits.posted among)

-- the manager with the queue's first delayed task at the end of its lane, of which the selector has not been told
abbrev untold : Manager → ℕ → ℕ → Manager
untold manager q task = record (with_queue (without_first manager q) q
    (with_task Delayed task manager.next_order (queue_at (without_first manager q).queues q))) { next_order = manager.next_order + 1 }

-- in the course of a tick some delayed tasks are left, of which this one is the first
module _ {script : Plan} {past : List Entry} {moment : ℕ} {front : List Posted} {p : Posted} {rest : List Posted} {manager : Manager}
    (tick : IsInTick script past moment front (p ∷ rest) manager) where
  -- it waits
  waiting : IsWaiting past p
  waiting = AllByRecursion-at (IsWaiting past) front p rest
      (subst (AllByRecursion (IsWaiting past)) tick.all (unripe_waiting script past tick.can.stands.past_fits))

  -- its queue is declared
  pub there : p.home < length script.queues
  there = home_there script past p tick.can.stands.script_fits tick.can.stands.past_fits waiting.among

  -- its queue, before it ripens
  queue_before : queue_at manager.queues p.home ≡ queue_of script past (known past front) (p ∷ rest) p.home
  queue_before = queue_at_is (queue_of script past (known past front) (p ∷ rest)) (length script.queues) manager.queues p.home tick.parts.queues there

  -- its queue holds it as its first
  pub first_held : slice_get (queue_at manager.queues p.home).delayed.held 0 ≡ Some (ripening_of p)
  first_held =
      ap (λ queue. slice_get queue.delayed.held 0) queue_before
      ∙ ap (λ xs. slice_get xs 0) (delayed_of script past (known past front) (p ∷ rest) p.home)
      ∙ rw (eqb-same p.home) refl

  -- few orders were drawn
  pub few_drawn : manager.next_order < 2 ^ 33
  few_drawn =
      let drawn : manager.next_order ≡ next_draw past + length front = tick.parts.order_is in
      let few : next_draw past + length front + length (p ∷ rest) ≤ 2 + length past = tick.parts.few_orders in
      let entries : length past < 2 ^ 32 = tick.can.few in
      omega (arith, drawn, few, entries)

  -- the queues without it
  queues_without : IsTable (queue_of script past (known past front) rest) (length script.queues) (without_first manager p.home).queues
  queues_without =
      table_set (queue_of script past (known past front) (p ∷ rest)) (queue_of script past (known past front) rest) (length script.queues) manager.queues
      p.home _ tick.parts.queues there (λ q less other. other_waiting script past (known past front) p rest q other)
      (ap {B = TaskQueue} (λ (queue : TaskQueue). record queue { delayed = with_held queue.delayed (drop 1 queue.delayed.held) }) queue_before
      ∙ behind_first script past (known past front) p rest)

  -- its queue without it
  queue_without : queue_at (without_first manager p.home).queues p.home ≡ queue_of script past (known past front) rest p.home
  queue_without = queue_at_is (queue_of script past (known past front) rest) (length script.queues) (without_first manager p.home).queues p.home
      queues_without there

  -- the queues with it in its lane
  queues_with : IsTable (queue_of script past (known_with past front p) rest) (length script.queues) (untold manager p.home p.task).queues
  queues_with =
      table_set (queue_of script past (known past front) rest) (queue_of script past (known_with past front p) rest) (length script.queues)
      (without_first manager p.home).queues p.home _ queues_without there
      (λ q less other. other_arrived script past (known past front) (next_of past front p) rest q other)
      (ap (λ n. with_task Delayed p.task n (queue_at (without_first manager p.home).queues p.home)) tick.parts.order_is
      ∙ ap (with_task Delayed p.task (next_draw past + length front)) queue_without
      ∙ arrived script past (known past front) (next_of past front p) rest waiting)

  -- one of these queues
  queue_with : (q : ℕ) → q < length script.queues
      → queue_at (untold manager p.home p.task).queues q ≡ queue_of script past (known_with past front p) rest q
  queue_with q less = queue_at_is (queue_of script past (known_with past front p) rest) (length script.queues) (untold manager p.home p.task).queues q
      queues_with less

  -- no queue holds more tasks than were accepted for it
  load_before : (q : ℕ) → q < length script.queues → load (queue_of script past (known past front) (p ∷ rest) q) ≤ posted_to past q
  load_before q less = room_by_past script past (known past front) (p ∷ rest) (next_draw past + length front) manager q tick.parts less

  -- it is ripe
  module _ (come : nat_le p.ripe moment ≡ true) where
    -- its order is above those that were drawn: at the tick more may draw, but behind it
    known_rises : Rises ordered_below (known_with past front p)
    known_rises =
        subst (Rises ordered_below) (known-push past front p)
        (rises_front ordered_below (known past (front ++ p ∷ [])) (numbered_from (next_draw past + length (front ++ p ∷ [])) more)
        (subst (Rises ordered_below) all (main_arrivals_rise (after_tick past 0 moment))))
      where
        more : List Posted
        more = filter (λ q. nat_le q.ripe moment) rest

        ripe : filter (λ q. nat_le q.ripe moment) (unripe past) ≡ (front ++ p ∷ []) ++ more
        ripe =
            filter_front (λ q. nat_le q.ripe moment) (unripe past) front (p ∷ rest) tick.all tick.ripe
            ∙ ap (λ b. front ++ cond b (p ∷ more) more) come
            ∙ sym (append_assoc front (p ∷ []) more)

        all : main_arrivals (after_tick past 0 moment) ≡ known past (front ++ p ∷ []) ++ numbered_from (next_draw past + length (front ++ p ∷ [])) more
        all =
            main_arrivals_at_tick past (record { seat = 0; kind = kinds.Tick moment }) moment refl
            ∙ ap (λ ps. main_arrivals past ++ numbered_from (next_draw past) ps) (ripe_at_tick past moment ∙ ripe)
            ∙ ap (λ os. main_arrivals past ++ os) (numbered-append (next_draw past) (front ++ p ∷ []) more)
            ∙ sym (append_assoc (main_arrivals past) (numbered_from (next_draw past) (front ++ p ∷ []))
            (numbered_from (next_draw past + length (front ++ p ∷ [])) more))

    -- so these are below it
    known_below : AllByRecursion (λ o. o.order < next_draw past + length front) (known past front)
    known_below = AllByRecursion-map (λ o. ordered_below o (next_of past front p) ≡ true) (λ o. o.order < next_draw past + length front) (known past front)
        (λ o is. ltb-true o.order (next_draw past + length front) is) (rises_last ordered_below (known past front) (next_of past front p) known_rises)

    -- its queue's fronts may be told
    can_tell : CanRefresh (known_with past front p) (untold manager p.home p.task) p.home
    can_tell = can_refresh script past past (known past front) (known_with past front p) (p ∷ rest) rest (untold manager p.home p.task) p.home known_rises
        (λ o among. Contains-append_left (known past front) (next_of past front p ∷ []) o among) tick.parts.rows queues_with.all there
        (queue_with p.home there)

    -- its lane has room for it
    can_push : CanPush (known_with past front p) (without_first manager p.home) p.home Delayed p.task
    can_push = record {
      there =
          let long : length (without_first manager p.home).queues ≡ length script.queues = queues_without.all in
          let less : p.home < length script.queues = there in
          omega (arith, long, less);
      order_fits = let few : manager.next_order < 2 ^ 33 = few_drawn in omega (arith, few);
      room = subst (λ queue. length (all_held queue.tasks) < queue.tasks.room) (sym queue_without)
          (room_left script past (known past front) p rest fits);
      above = subst (λ queue. All (IsBelow manager.next_order) (all_held queue.tasks)) (sym queue_without)
          (subst (λ n. All (IsBelow n) (all_held (queue_of script past (known past front) rest p.home).tasks)) (sym tick.parts.order_is)
          (all_below script past (known past front) rest p.home (next_draw past + length front) known_below));
      then_told = can_tell;
    }
      where
        fits : load (queue_of script past (known past front) (p ∷ rest) p.home) ≤ room_of script p.home
        fits =
            let held : load (queue_of script past (known past front) (p ∷ rest) p.home) ≤ posted_to past p.home = load_before p.home there in
            let posted : posted_to past p.home ≤ room_of script p.home = posts_fit script past p.home tick.can.stands.past_fits in
            omega (arith, held, posted)

    -- so it may ripen
    pub can_ripen : CanRipen (known_with past front p) manager p.home (ripening_of p)
    can_ripen = record {
      there =
          let long : length manager.queues ≡ length script.queues = tick.parts.queues.all in
          let less : p.home < length script.queues = there in
          omega (arith, long, less);
      first_is = first_held;
      ripe = ap (nat_le p.ripe) tick.moment_is ∙ come;
      can_push = can_push;
    }

    -- behind that step the tick goes on
    pub ripens_on : IsInTick script past moment (front ++ p ∷ []) rest (ripened manager p.home p.task)
    ripens_on = record {
      before = tick.before;
      can = tick.can;
      all = tick.all ∙ sym (append_assoc front (p ∷ []) rest);
      ripe = AllByRecursion-append (λ x. nat_le x.ripe moment ≡ true) front (p ∷ []) tick.ripe (come, tt);
      parts = subst (λ os. ArePartsOf script past os rest (next_draw past + length (front ++ p ∷ [])) (ripened manager p.home p.task))
          (sym (known-push past front p)) parts;
      moment_is = tick.moment_is;
    }
      where
        parts : ArePartsOf script past (known_with past front p) rest (next_draw past + length (front ++ p ∷ [])) (ripened manager p.home p.task)
        parts = record {
          queues = queues_with;
          rows = refreshed_rows script past past (known past front) (known_with past front p) (p ∷ rest) rest (untold manager p.home p.task) p.home
              tick.parts.rows there (queue_with p.home there) refl
              (λ q less other. ap (row_by (class_of script past q)) (other_waiting script past (known past front) p rest q other
              ∙ other_arrived script past (known past front) (next_of past front p) rest q other));
          streak = tick.parts.streak;
          order_is =
              let drawn : manager.next_order ≡ next_draw past + length front = tick.parts.order_is in
              omega (arith, drawn, length-append front (p ∷ []));
          room = λ q less. subst (λ n. n ≤ posted_to past q)
              (sym (ap load (queue_with q less) ∙ load_same script past (known past front) (next_of past front p) rest q waiting)) (load_before q less);
          few_orders =
              let few : next_draw past + length front + length (p ∷ rest) ≤ 2 + length past = tick.parts.few_orders in
              omega (arith, few, length-append front (p ∷ []));
        }
