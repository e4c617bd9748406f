-- One delayed task ripens in the course of a tick: it goes to the end of its sequence, if it may start.
-- Cited by `Calls/Ticks`.
use Rattle.list_laws.proofs.Rises.{rises_front}
use Rattle.delayed_manager.specs.Delayed.{Waiting, with_held}
use Rattle.list_laws.proofs.Elements.{AllByRecursion-append, AllByRecursion-at, AllByRecursion-both, AllByRecursion-contains_itself, AllByRecursion-filter}
use Rattle.list_laws.proofs.Filters.{filter_passes, filter_front}
use Rattle.list_laws.proofs.Sorts.{AllByRecursion-sort_by}
use Rattle.list_laws.specs.Sorts.{Rises}
use Rattle.pool_core.proofs.Sources.Listing.{listed_arrived}
use Rattle.pool_core.specs.Listings.{AreListed}
use Rattle.pool_core.specs.State.{listed_with}
use Rattle.pool_core.specs.TaskLists.{Lists}
use Rattle.pool_core.proofs.Accepted.{is_declared, posts_fit}
use Rattle.pool_core.proofs.Delays.{ripe_at_tick}
use Rattle.pool_core.proofs.Sources.Following.{all_refreshed, has_place, other_sequence, runner_is, sequence_made}
use Rattle.pool_core.proofs.Lines.{line_below, lines_at_arrival, lines_at_barred, sequence_there}
use Rattle.pool_core.specs.Calls.{after_tick}
use Rattle.pool_core.specs.Lines.{AreLines, waiting_of}
use Rattle.pool_core.specs.Pasts.{IsDeclared, IsPoolPast, IsPoolScript}
use Rattle.pool_core.specs.Queues.{HoldBy, with_source}
use Rattle.pool_core.specs.Ripens.{IsInTick, Ripens}
use Rattle.pool_core.specs.State.{CanArrive, CanRipen, HasPlace, arrived, is_barred, lane_by, pushed, rank_by, ripe_key, ripened, runner_of, standing}
use Rattle.pool_core.specs.Tables.{is_unripe, posting_of, ripening_of, unripe}
use Rattle.pool_core.specs.declared.lanes.Lane.{Lane}
use Rattle.pool_core.specs.declared.pool.Pool.{Pool}
use Rattle.pool_laws.proofs.Keys.Arrivals.{arrivals_at_tick, arrivals_rise}
use Rattle.pool_laws.specs.Keys.{ready_below, arrivals, ripe_behind}
use Rattle.std.proofs.Common.{Bool, List, None, Option, Some, [], ap, append_assoc, arith, cond, drop, false, length, length-drop}
use Rattle.std.proofs.Common.{map, refl, subst, suc, sym, true, ℕ, ◌++◌, ◌+◌, ◌<◌, ◌^◌, ◌∙◌, ◌∷◌, ◌≡◌, ◌≤◌}
use Rattle.std.proofs.lemmas.Bool.{and_from, and_right, false_from_ne_true, true≢false}
use Rattle.std.proofs.lemmas.List.{map-append}
use Rattle.std.specs.List.{AllByRecursion}
use Rattle.std.specs.Option.{option_map}
use Rattle.std.specs.Prelude.{All, Contains, filter, is_none, is_some, nat_le, not, ◌&&◌}
use Rattle.task_base.specs.Keys.{key_below}
use Rattle.task_base.specs.Plan.{Plan}
use Rattle.task_base.specs.Runners.{sequence_count, sequence_of}
use Rattle.task_base.specs.declared.entry.Entry.{Entry}
use Rattle.task_base.specs.declared.source.TaskSource.TheVariants.{Sequence}
use Rattle.task_model.specs.Keys.{Ready, key_at}
use Rattle.task_model.specs.Posts.{Posted, is_delayed, is_taken, posts, ripens_before}
use Rattle.task_model.specs.Refusal.{effective_at, is_forbidden}
use Rattle.task_model.specs.Sequences.{may_start}
use Rattle.task_model.specs.Time.{tick_from}
use Rattle.task_runners.specs.Table.{table_of}
use Rattle.task_sequence.specs.Sequences.{Held, sequence_at}
use Rattle.task_traits.specs.Behaviour.{forbids}
use Rattle.task_base.specs.declared.entry.Kind.TheVariants as kinds

-- What waits, and what has a key.

unripe_posted : (past : List Entry) → AllByRecursion (λ p. Contains (posts past) p × (is_unripe past p ≡ true)) (unripe past)
unripe_posted past = AllByRecursion-sort_by (λ p. Contains (posts past) p × (is_unripe past p ≡ true)) ripens_before (filter (is_unripe past) (posts past))
    (AllByRecursion-both (Contains (posts past)) (λ p. is_unripe past p ≡ true) (filter (is_unripe past) (posts past))
    (AllByRecursion-filter (Contains (posts past)) (is_unripe past) (posts past) (AllByRecursion-contains_itself (posts past)))
    (filter_passes (is_unripe past) (posts past)))

-- a task that is not ripe has no key, so it was not taken
unripe_untaken : (script : Plan) (past : List Entry) (p : Posted) → IsPoolPast script past → Contains (posts past) p → is_unripe past p ≡ true
    → is_taken past p.task ≡ false
unripe_untaken script past p fits among unripe_yet = false_from_ne_true (is_taken past p.task)
    (λ taken. by_delayed (is_delayed p) (tick_from past p.ripe) unripe_yet (fits.taken_have_keys p among taken))
  where
    by_delayed : (delayed : Bool) (o : Option ℕ) → (delayed && is_none o) ≡ true
        → is_some (cond delayed (option_map (λ place. record { place = place; ripe = p.ripe; post = p.place }) o) (Some (key_at p.place))) ≡ true → ⊥
    by_delayed false o h k = true≢false (sym h)
    by_delayed true None h k = true≢false (sym k)
    by_delayed true (Some place) h k = true≢false (sym h)

-- the arrivals with those in front
abbrev pub known : List Entry → List Posted → List Ready
known past front = arrivals past ++ map (ripe_behind past) front

known-push : (past : List Entry) (front : List Posted) (p : Posted) → known past (front ++ p ∷ []) ≡ known past front ++ ripe_behind past p ∷ []
known-push past front p =
    ap (λ rs. arrivals past ++ rs) (map-append (ripe_behind past) front (p ∷ []))
    ∙ sym (append_assoc (arrivals past) (map (ripe_behind past) front) (ripe_behind past p ∷ []))

pub arrivals_in_tick : (past : List Entry) (seat moment : ℕ) (front rest : List Posted) → unripe past ≡ front ++ rest
    → AllByRecursion (λ p. nat_le p.ripe moment ≡ true) front
    → arrivals (after_tick past seat moment) ≡ known past (front ++ filter (λ p. nat_le p.ripe moment) rest)
arrivals_in_tick past seat moment front rest parts ripe =
    arrivals_at_tick past (record { seat = seat; kind = kinds.Tick moment }) moment refl
    ∙ ap (λ ps. arrivals past ++ map (ripe_behind past) ps) (ripe_at_tick past moment
    ∙ filter_front (λ q. nat_le q.ripe moment) (unripe past) front rest parts ripe)

-- the next one has a key above all that have keys
known_rises : (past : List Entry) (moment : ℕ) (front : List Posted) (p : Posted) (rest : List Posted) → unripe past ≡ front ++ p ∷ rest
    → AllByRecursion (λ q. nat_le q.ripe moment ≡ true) front → nat_le p.ripe moment ≡ true
    → Rises ready_below (known past front ++ ripe_behind past p ∷ [])
known_rises past moment front p rest parts ripe is =
    rises_front ready_below (known past front ++ ripe_behind past p ∷ []) (map (ripe_behind past) (filter (λ q. nat_le q.ripe moment) rest))
    (subst (Rises ready_below) all (arrivals_rise (after_tick past 0 moment)))
  where
    all : arrivals (after_tick past 0 moment)
        ≡ (known past front ++ ripe_behind past p ∷ []) ++ map (ripe_behind past) (filter (λ q. nat_le q.ripe moment) rest)
    all =
        arrivals_in_tick past 0 moment front (p ∷ rest) parts ripe
        ∙ ap (λ b. known past (front ++ cond b (p ∷ filter (λ q. nat_le q.ripe moment) rest) (filter (λ q. nat_le q.ripe moment) rest))) is
        ∙ ap (λ rs. arrivals past ++ rs) (map-append (ripe_behind past) front (p ∷ filter (λ q. nat_le q.ripe moment) rest))
        ∙ sym (append_assoc (arrivals past) (map (ripe_behind past) front)
        (ripe_behind past p ∷ map (ripe_behind past) (filter (λ q. nat_le q.ripe moment) rest)))
        ∙ sym (append_assoc (known past front) (ripe_behind past p ∷ []) (map (ripe_behind past) (filter (λ q. nat_le q.ripe moment) rest)))

-- The next one.

-- a task that was accepted and not taken, and is declared with its runner
record IsUntaken (script : Plan) (past : List Entry) (p : Posted) : Type 0 where
  among : Contains (posts past) p
  declared : IsDeclared script p
  untaken : is_taken past p.task ≡ false

next_untaken : (script : Plan) (past : List Entry) (front : List Posted) (p : Posted) (rest : List Posted) → IsPoolPast script past
    → unripe past ≡ front ++ p ∷ rest → IsUntaken script past p
next_untaken script past front p rest fits parts =
    let h : Contains (posts past) p × (is_unripe past p ≡ true)
    = AllByRecursion-at (λ q. Contains (posts past) q × (is_unripe past q ≡ true)) front p rest
    (subst (AllByRecursion (λ q. Contains (posts past) q × (is_unripe past q ≡ true))) parts (unripe_posted past)) in
    record {
      among = h.0;
      declared = is_declared script past p fits h.0;
      untaken = unripe_untaken script past p fits h.0 h.1;
    }

pub can_ripen : (script : Plan) (past : List Entry) (moment place : ℕ) (front : List Posted) (p : Posted) (rest : List Posted) (entry pool : Pool)
    (delayed : Waiting) → IsInTick script past entry place moment → Ripens script past moment front (p ∷ rest) pool → nat_le p.ripe moment ≡ true
    → CanRipen (record pool { delayed = delayed }) place (ripening_of p) (posting_of script p)
can_ripen script past moment place front p rest entry pool delayed tick ripens is = record {
  known = ripens.postings.known p next.among;
  arrives = λ allowed. subst (λ n. CanArrive (record pool { delayed = delayed }) p.task (posting_of script p) (ripe_key n (ripening_of p)))
      (sym tick.can.place_is) arrives;
}
  where
    next : IsUntaken script past p
    next = next_untaken script past front p rest tick.can.stands.past_fits ripens.parts

    there : sequence_of script p.home p.task < sequence_count script
    there = sequence_there script p.home p.task next.declared.0 next.declared.1

    fits : length script.runners + p.task < 2 ^ 32
    fits =
        let limits : IsPoolScript script = tick.can.stands.script_fits in
        let task : p.task < length script.tasks = next.declared.1 in
        omega (arith, limits.runners_fit, limits.tasks_fit, task)

    above : All (λ w. key_below w.key (ripe_behind past p).key ≡ true) (sequence_at pool.sequences (sequence_of script p.home p.task)).tasks
    above = line_below script past (known past front) pool.sequences (ripe_behind past p) (sequence_of script p.home p.task) ripens.lines
        (known_rises past moment front p rest ripens.parts ripens.ripe is) there

    some_room : 0 < pool.sequences.room
    some_room =
        let few : length (posts past) ≤ length script.tasks = posts_fit script past tick.can.stands.past_fits in
        let held : length pool.delayed.held ≡ suc (length (map ripening_of rest)) = ap (λ d. length d.held) ripens.delayed in
        let enough : length script.tasks + length pool.delayed.held ≤ pool.sequences.room + length (posts past) = ripens.room in
        omega (arith, few, held, enough)

    arrives : CanArrive (record pool { delayed = delayed }) p.task (posting_of script p) (ripe_behind past p).key
    arrives = record {
      fits = subst (λ t. length t.runners + p.task < 2 ^ 32) (sym ripens.runners) fits;
      place = subst (λ t. HasPlace (record pool { delayed = delayed }) (sequence_of t p.home p.task) p.home) (sym ripens.runners)
          (has_place script _ p.home p.task tick.can.stands.script_fits ripens.runners ripens.priorities.all ripens.lines.all ripens.queues.roomy
          next.declared.0 next.declared.1);
      room = some_room;
      line = omega (arith, next.declared.0, ripens.listed.lines);
      known = omega (arith, next.declared.1, ripens.listed.tasks);
      above = subst (λ t. All (λ w. key_below w.key (ripe_behind past p).key ≡ true) (sequence_at pool.sequences (sequence_of t p.home p.task)).tasks)
          (sym ripens.runners) above;
    }

-- The step.

-- the rest behind the first
dropped : (pool : Pool) (p : Posted) (rest : List Posted) (room : ℕ) → pool.delayed ≡ record { held = map ripening_of (p ∷ rest); room = room }
    → with_held pool.delayed (drop 1 pool.delayed.held) ≡ record { held = map ripening_of rest; room = room }
dropped pool p rest room is = ap (λ d. with_held d (drop 1 d.held)) is

ripe_push : (moment : ℕ) (front : List Posted) (p : Posted) → AllByRecursion (λ q. nat_le q.ripe moment ≡ true) front → nat_le p.ripe moment ≡ true
    → AllByRecursion (λ q. nat_le q.ripe moment ≡ true) (front ++ p ∷ [])
ripe_push moment front p ripe is = AllByRecursion-append (λ q. nat_le q.ripe moment ≡ true) front (p ∷ []) ripe (is, tt)

-- the next one no longer waits for its moment, and the lists and the queues are such as they are with its key
ripens_with : (script : Plan) (past : List Entry) (moment : ℕ) (front : List Posted) (p : Posted) (rest : List Posted) (pool : Pool) (held : Held)
    (lanes : List Lane) (lists : Lists) → Ripens script past moment front (p ∷ rest) pool → nat_le p.ripe moment ≡ true
    → AreLines script past (known past front ++ ripe_behind past p ∷ []) held
    → HoldBy script (standing script past pool.priorities.items pool.postings.items held) lanes → AreListed script pool.postings.items held lists → pool.sequences.room ≤ held.room + 1
    → Ripens script past moment (front ++ p ∷ []) rest
    (record pool { sequences = held; lanes = lanes; lists = lists; delayed = with_held pool.delayed (drop 1 pool.delayed.held) })
ripens_with script past moment front p rest pool held lanes lists ripens is lines queues listed enough = record {
  parts = ripens.parts ∙ sym (append_assoc front (p ∷ []) rest);
  ripe = ripe_push moment front p ripens.ripe is;
  runners = ripens.runners;
  lines = subst (λ rs. AreLines script past rs held) (sym (known-push past front p)) lines;
  queues = queues;
  listed = listed;
  representatives = ripens.representatives;
  groups = ripens.groups;
  delayed = dropped pool p rest (length script.tasks) ripens.delayed;
  tracker = ripens.tracker;
  postings = ripens.postings;
  priorities = ripens.priorities;
  seats = ripens.seats;
  jobs = ripens.jobs;
  holders = ripens.holders;
  moment_is = ripens.moment_is;
  room =
      let before : length script.tasks + length pool.delayed.held ≤ pool.sequences.room + length (posts past) = ripens.room in
      let some : length pool.delayed.held ≡ suc (length (map ripening_of rest)) = ap (λ d. length d.held) ripens.delayed in
      omega (arith, before, some, enough, length-drop 1 pool.delayed.held);
}

-- it may not start: it waits no longer
barred_step : (script : Plan) (past : List Entry) (moment : ℕ) (front : List Posted) (p : Posted) (rest : List Posted) (pool : Pool)
    → Ripens script past moment front (p ∷ rest) pool → nat_le p.ripe moment ≡ true → is_forbidden script past p ≡ true
    → Ripens script past moment (front ++ p ∷ []) rest (record pool { delayed = with_held pool.delayed (drop 1 pool.delayed.held) })
barred_step script past moment front p rest pool ripens is forbidden =
    ripens_with script past moment front p rest pool pool.sequences pool.lanes pool.lists ripens is
    (lines_at_barred script past (known past front) pool.sequences (ripe_behind past p) ripens.lines
    (and_right (not (is_taken past p.task)) (not (is_forbidden script past p)) (ap not forbidden)))
    ripens.queues ripens.listed (omega arith)

-- the pool with the task at the end of its sequence, by a table of the runners
abbrev placed : Plan → List Entry → Pool → Posted → Waiting → Plan → Pool
placed script past pool p delayed table = record pool {
  sequences = pushed pool.sequences (sequence_of table p.home p.task) (waiting_of script (ripe_behind past p));
  lanes = with_source pool.lanes (lane_by table p.home) (Sequence (sequence_of table p.home p.task))
      (rank_by pool.priorities.items p.home (sequence_at (pushed pool.sequences (sequence_of table p.home p.task) (waiting_of script (ripe_behind past p)))
      (sequence_of table p.home p.task)));
  lists = listed_with (record pool { runners = table }) p.task (posting_of script p);
  delayed = delayed;
}

-- it may start: it goes to the end of its sequence
arrived_step : (script : Plan) (past : List Entry) (moment : ℕ) (front : List Posted) (p : Posted) (rest : List Posted) (pool : Pool) → IsPoolScript script
    → Ripens script past moment front (p ∷ rest) pool → nat_le p.ripe moment ≡ true → IsUntaken script past p → is_forbidden script past p ≡ false
    → Ripens script past moment (front ++ p ∷ []) rest
    (placed script past pool p (with_held pool.delayed (drop 1 pool.delayed.held)) (table_of script.runners script.background))
arrived_step script past moment front p rest pool limits ripens is next allowed =
    ripens_with script past moment front p rest pool held _ _ ripens is
    (lines_at_arrival script past (known past front) pool.sequences (ripe_behind past p) ripens.lines there may)
    (all_refreshed script past pool.priorities.items pool.postings.items pool.sequences held pool.lanes s p.home limits runs
    (sequence_made script pool.lanes p.home p.task limits ripens.queues.roomy next.declared.0 next.declared.1)
    (λ other another. other_sequence pool.sequences s other _ another) ripens.queues)
    (listed_arrived script pool.postings.items pool.sequences held pool.lists p.task (posting_of script p) (ripens.postings.known p next.among)
    next.declared.0 next.declared.1 (λ other another. other_sequence pool.sequences s other _ (λ same. another (sym same))) ripens.listed) (omega arith)
  where
    s : ℕ
    s = sequence_of script p.home p.task

    there : s < sequence_count script
    there = sequence_there script p.home p.task next.declared.0 next.declared.1

    may : may_start script past p ≡ true
    may = and_from (not (is_taken past p.task)) (not (is_forbidden script past p)) (ap not next.untaken) (ap not allowed)

    runs : runner_of script pool.postings.items s ≡ Some p.home
    runs = runner_is script pool.postings.items p.task (posting_of script p) next.declared.0 (ripens.postings.known p next.among)

    held : Held
    held = pushed pool.sequences s (waiting_of script (ripe_behind past p))

pub ripens_on : (script : Plan) (past : List Entry) (moment place : ℕ) (front : List Posted) (p : Posted) (rest : List Posted) (entry pool : Pool)
    → IsInTick script past entry place moment → Ripens script past moment front (p ∷ rest) pool → nat_le p.ripe moment ≡ true
    → Ripens script past moment (front ++ p ∷ []) rest
    (ripened (record pool { delayed = with_held pool.delayed (drop 1 pool.delayed.held) }) place (ripening_of p) (posting_of script p))
ripens_on script past moment place front p rest entry pool tick ripens is =
    subst (λ n. Ripens script past moment (front ++ p ∷ []) rest (ripened later n (ripening_of p) (posting_of script p))) (sym tick.can.place_is)
    (by_forbidden (is_forbidden script past p) refl)
  where
    later : Pool
    later = record pool { delayed = with_held pool.delayed (drop 1 pool.delayed.held) }

    next : IsUntaken script past p
    next = next_untaken script past front p rest tick.can.stands.past_fits ripens.parts

    barred : is_barred later (posting_of script p) ≡ is_forbidden script past p
    barred = ap (λ t. forbids t.phase (effective_at script p.home p.delay)) ripens.tracker

    by_forbidden : (b : Bool) → is_forbidden script past p ≡ b
        → Ripens script past moment (front ++ p ∷ []) rest (ripened later (length past) (ripening_of p) (posting_of script p))
    by_forbidden true forbidden = subst (λ b. Ripens script past moment (front ++ p ∷ []) rest
        (cond b later (arrived later p.task (posting_of script p) (ripe_behind past p).key))) (sym (barred ∙ forbidden))
        (barred_step script past moment front p rest pool ripens is forbidden)
    by_forbidden false allowed = subst (λ b. Ripens script past moment (front ++ p ∷ []) rest
        (cond b later (arrived later p.task (posting_of script p) (ripe_behind past p).key))) (sym (barred ∙ allowed))
        (subst (λ table. Ripens script past moment (front ++ p ∷ []) rest
        (placed script past pool p (with_held pool.delayed (drop 1 pool.delayed.held)) table)) (sym ripens.runners)
        (arrived_step script past moment front p rest pool tick.can.stands.script_fits ripens is next allowed))
