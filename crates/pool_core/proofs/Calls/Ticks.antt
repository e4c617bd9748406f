-- A tick: at its start no delayed task has ripened, each step ripens one, and once none is left that is ripe the pool stands
-- for the past with the tick.
-- Cited by `Pool::ripen_all`.
use Rattle.pool_core.proofs.Jobs.JobTables.{holders_kept, jobs_kept}
use Rattle.pool_core.proofs.Jobs.JobQueues.{jobs_wait}
use Rattle.delayed_manager.specs.Delayed.{Waiting, is_ripe, with_held}
use Rattle.delayed_manager.specs.declared.ripening.Ripening.{Ripening}
use Rattle.list_laws.proofs.Elements.{AllByRecursion-map, AllByRecursion-unmapped}
use Rattle.list_laws.proofs.Filters.{filter_all, filter_none}
use Rattle.list_laws.proofs.Values.{some-injective}
use Rattle.list_laws.specs.Lists.{keep}
use Rattle.pool_core.proofs.Delays.{unripe_at_tick}
use Rattle.pool_core.proofs.Sources.Following.{Tells, hold_from, hold_standing}
use Rattle.pool_core.proofs.Works.GroupGrowth.{groups_at_tick}
use Rattle.pool_core.proofs.LineGrowth.{lines_kept}
use Rattle.pool_core.proofs.Pasts.{past_at_tick}
use Rattle.pool_core.proofs.Calls.Ripening.{arrivals_in_tick, can_ripen, known, ripens_on}
use Rattle.pool_core.proofs.Tables.{postings_kept, priorities_kept, seats_kept}
use Rattle.pool_core.proofs.Tracking.{tracked_kept}
use Rattle.pool_core.specs.Calls.{after_tick}
use Rattle.pool_core.specs.Lines.{AreLines}
use Rattle.pool_core.specs.Ripens.{IsInTick, Ripens}
use Rattle.pool_core.specs.StandsFor.{StandsFor}
use Rattle.pool_core.specs.State.{CanRipen, arrived, is_barred, ripe_key, ripened}
use Rattle.pool_core.specs.Tables.{posting_of, ripening_of, unripe}
use Rattle.pool_core.specs.declared.pool.Pool.{Pool}
use Rattle.pool_core.specs.declared.posting.Posting.{Posting}
use Rattle.pool_laws.proofs.Keys.Posts.{posts_same}
use Rattle.std.proofs.Common.{Bool, List, None, Some, [], ap, arith, cond, drop, false, length, length-drop}
use Rattle.std.proofs.Common.{map, refl, subst, suc, sym, true, ℕ, ◌++◌, ◌+◌, ◌<◌, ◌∙◌, ◌∷◌, ◌≡◌, ◌≤◌}
use Rattle.std.proofs.lemmas.Bool.{le-ltb, leb-true, lt-leb, lt-ltb}
use Rattle.std.proofs.lemmas.List.{append-nil}
use Rattle.std.proofs.lemmas.List.Elements.{filter-append, recursion_from_All}
use Rattle.std.proofs.lemmas.Option.{none-some}
use Rattle.std.specs.List.{AllByRecursion}
use Rattle.std.specs.Prelude.{All, filter, nat_le, nat_lt, slice_get}
use Rattle.task_base.specs.Plan.{Plan}
use Rattle.task_base.specs.declared.entry.Entry.{Entry}
use Rattle.task_model.proofs.Growth.{now_of_push}
use Rattle.pool_laws.specs.Keys.{arrivals}
use Rattle.task_model.specs.Posts.{Posted}
use Rattle.task_base.specs.declared.entry.Kind.TheVariants as kinds

pub ripens_at_start : (script : Plan) (past : List Entry) (pool : Pool) (place moment : ℕ) → IsInTick script past pool place moment
    → Ripens script past moment [] (unripe past) pool
ripens_at_start script past pool place moment tick = subst (Ripens script past moment [] (unripe past)) (sym tick.clock) (record {
  parts = refl;
  ripe = tt;
  runners = stands.runners;
  lines = subst (λ rs. AreLines script past rs tick.before.sequences) (sym (append-nil (arrivals past))) stands.lines;
  queues = hold_standing script past tick.before stands;
  listed = stands.listed;
  representatives = stands.representatives;
  groups = λ seat. groups_at_tick script past tick.before.groups seat moment stands.groups;
  delayed = stands.delayed;
  tracker = stands.tracker;
  postings = stands.postings;
  priorities = stands.priorities;
  seats = stands.seats;
  jobs = stands.jobs;
  holders = stands.holders;
  moment_is = refl;
  room = stands.room;
})
  where
    stands : StandsFor script past tick.before
    stands = tick.can.stands

-- One step.

-- a step takes the one that ripens next out of the delayed tasks
pub record StepsTo (script : Plan) (past : List Entry) (moment place : ℕ) (entry pool : Pool) (ripe : Ripening) (delayed : Waiting) : Type 0 where
  pub tick : IsInTick script past entry place moment
  pub front : List Posted
  pub rest : List Posted
  pub ripens : Ripens script past moment front rest pool
  pub first : Some ripe ≡ keep (is_ripe moment) (slice_get pool.delayed.held 0)
  pub removed : delayed ≡ with_held pool.delayed (drop 1 pool.delayed.held)

pub steps : {script : Plan} {past : List Entry} {moment place : ℕ} {entry pool : Pool} {ripe : Ripening} {delayed : Waiting}
    → IsInTick script past entry place moment → (front : List Posted) × (rest : List Posted) × Ripens script past moment front rest pool
    → Some ripe ≡ keep (is_ripe moment) (slice_get pool.delayed.held 0) → delayed ≡ with_held pool.delayed (drop 1 pool.delayed.held)
    → StepsTo script past moment place entry pool ripe delayed
steps tick so_far first removed = record { tick = tick; front = so_far.0; rest = so_far.1; ripens = so_far.2; first = first; removed = removed }

-- which is the first of those that are left
record IsNextRipe (script : Plan) (past : List Entry) (moment : ℕ) (pool : Pool) (ripe : Ripening) : Type 0 where
  front : List Posted
  next : Posted
  behind : List Posted
  ripens : Ripens script past moment front (next ∷ behind) pool
  ripe_is : ripe ≡ ripening_of next
  come : nat_le next.ripe moment ≡ true

next_ripe : {script : Plan} {past : List Entry} {moment place : ℕ} {entry pool : Pool} {ripe : Ripening} {delayed : Waiting}
    → StepsTo script past moment place entry pool ripe delayed → IsNextRipe script past moment pool ripe
next_ripe {script = script} {past = past} {moment = moment} {pool = pool} {ripe = ripe} step =
    by_rest step.rest step.ripens (step.first ∙ ap (λ d. keep (is_ripe moment) (slice_get d.held 0)) step.ripens.delayed)
  where
    with : (p : Posted) (ps : List Posted) → Ripens script past moment step.front (p ∷ ps) pool → (b : Bool) → nat_le p.ripe moment ≡ b
        → Some ripe ≡ cond b (Some (ripening_of p)) None → IsNextRipe script past moment pool ripe
    with p ps ripens true is h = record { front = step.front; next = p; behind = ps; ripens = ripens; ripe_is = some-injective h; come = is }
    with p ps ripens false is h = absurd (none-some ripe (sym h))

    by_rest : (ps : List Posted) → Ripens script past moment step.front ps pool → Some ripe ≡ keep (is_ripe moment) (slice_get (map ripening_of ps) 0)
        → IsNextRipe script past moment pool ripe
    by_rest [] ripens h = absurd (none-some ripe (sym h))
    by_rest (p ∷ ps) ripens h = with p ps ripens (nat_le p.ripe moment) refl h

can_step : {script : Plan} {past : List Entry} {moment place : ℕ} {entry pool : Pool} {ripe : Ripening} {delayed : Waiting}
    → StepsTo script past moment place entry pool ripe delayed → (n : IsNextRipe script past moment pool ripe)
    → CanRipen (record pool { delayed = delayed }) place ripe (posting_of script n.next)
can_step {script = script} {past = past} {moment = moment} {place = place} {entry = entry} {pool = pool} {delayed = delayed} step n =
    subst (λ r. CanRipen (record pool { delayed = delayed }) place r (posting_of script n.next)) (sym n.ripe_is)
    (can_ripen script past moment place n.front n.next n.behind entry pool delayed step.tick n.ripens n.come)

pub step_can : {script : Plan} {past : List Entry} {moment place : ℕ} {entry pool : Pool} {ripe : Ripening} {delayed : Waiting}
    → StepsTo script past moment place entry pool ripe delayed → (posting : Posting) × CanRipen (record pool { delayed = delayed }) place ripe posting
step_can {script = script} step = let n = next_ripe step in (posting_of script n.next, can_step step n)

-- what a step leaves of the delayed tasks
ripened-delayed : (pool : Pool) (place : ℕ) (ripe : Ripening) (posting : Posting) → (ripened pool place ripe posting).delayed ≡ pool.delayed
ripened-delayed pool place ripe posting = by_barred (is_barred pool posting)
  where
    by_barred : (b : Bool) → (cond b pool (arrived pool ripe.task posting (ripe_key place ripe))).delayed ≡ pool.delayed
    by_barred true = refl
    by_barred false = refl

pub step_smaller : {script : Plan} {past : List Entry} {moment place : ℕ} {entry pool : Pool} {ripe : Ripening} {delayed : Waiting} (after : Pool)
    → StepsTo script past moment place entry pool ripe delayed
    → ((posting : Posting) → CanRipen (record pool { delayed = delayed }) place ripe posting
    → after ≡ ripened (record pool { delayed = delayed }) place ripe posting) → length after.delayed.held < length pool.delayed.held
step_smaller {place = place} {pool = pool} {ripe = ripe} {delayed = delayed} after step so =
    let n = next_ripe step in
    let can = step_can step in
    let left : length after.delayed.held ≡ length (drop 1 pool.delayed.held)
    = ap (λ x. length x.delayed.held) (so can.0 can.1)
    ∙ ap (λ d. length d.held) (ripened-delayed (record pool { delayed = delayed }) place ripe can.0 ∙ step.removed) in
    let some : length pool.delayed.held ≡ suc (length (map ripening_of n.behind)) = ap (λ d. length d.held) n.ripens.delayed in
    omega (arith, left, some, length-drop 1 pool.delayed.held)

pub step_ripens : {script : Plan} {past : List Entry} {moment place : ℕ} {entry pool : Pool} {ripe : Ripening} {delayed : Waiting} (after : Pool)
    → StepsTo script past moment place entry pool ripe delayed
    → ((posting : Posting) → CanRipen (record pool { delayed = delayed }) place ripe posting
    → after ≡ ripened (record pool { delayed = delayed }) place ripe posting)
    → (front : List Posted) × (rest : List Posted) × Ripens script past moment front rest after
step_ripens {script = script} {past = past} {moment = moment} {place = place} {entry = entry} {pool = pool} {delayed = delayed} after step so =
    let n = next_ripe step in (
      n.front ++ n.next ∷ [],
      n.behind,
      subst (Ripens script past moment (n.front ++ n.next ∷ []) n.behind)
          (sym (so (posting_of script n.next) (can_step step n)
          ∙ ap (λ r. ripened (record pool { delayed = delayed }) place r (posting_of script n.next)) n.ripe_is
          ∙ ap (λ d. ripened (record pool { delayed = d }) place (ripening_of n.next) (posting_of script n.next)) step.removed))
          (ripens_on script past moment place n.front n.next n.behind entry pool step.tick n.ripens n.come),
    )

-- The end.

-- what is not ripe
unripe_parts : (moment : ℕ) (ps front rest : List Posted) → ps ≡ front ++ rest → AllByRecursion (λ p. nat_le p.ripe moment ≡ true) front
    → AllByRecursion (λ p. moment < p.ripe) rest → filter (λ p. nat_lt moment p.ripe) ps ≡ rest
unripe_parts moment ps front rest parts ripe unripe_yet =
    ap (filter (λ p. nat_lt moment p.ripe)) parts
    ∙ filter-append (λ p. nat_lt moment p.ripe) front rest
    ∙ ap (λ xs. xs ++ filter (λ p. nat_lt moment p.ripe) rest)
    (filter_none (λ p. nat_lt moment p.ripe) front
    (AllByRecursion-map (λ p. nat_le p.ripe moment ≡ true) (λ p. nat_lt moment p.ripe ≡ false) front
    (λ p h. le-ltb moment p.ripe (leb-true p.ripe moment h)) ripe))
    ∙ filter_all (λ p. nat_lt moment p.ripe) rest
    (AllByRecursion-map (λ p. moment < p.ripe) (λ p. nat_lt moment p.ripe ≡ true) rest (λ p lt. lt-ltb moment p.ripe lt) unripe_yet)

pub stands_at_tick : (script : Plan) (past : List Entry) (seat moment place : ℕ) (front rest : List Posted) (entry pool : Pool)
    → IsInTick script past entry place moment → Ripens script past moment front rest pool → All (λ other. moment < other.ripe) pool.delayed.held
    → StandsFor script (after_tick past seat moment) pool
stands_at_tick script past seat moment place front rest entry pool tick ripens none = record {
  script_fits = tick.can.stands.script_fits;
  past_fits = tells.fits;
  runners = ripens.runners;
  priorities = tells.priorities_are;
  lines = tells.lines;
  queues = hold_from script past later pool.priorities.items pool.postings.items pool.sequences pool.lanes tells (λ j. jobs_wait script past e j refl)
      ripens.queues;
  listed = ripens.listed;
  representatives = ripens.representatives;
  groups = ripens.groups seat;
  delayed = ripens.delayed
      ∙ ap (λ ps. record { held = map ripening_of ps; room = length script.tasks })
      (sym (unripe_at_tick past seat moment ∙ unripe_parts moment (unripe past) front rest ripens.parts ripens.ripe still));
  tracker = ripens.tracker ∙ sym (tracked_kept script past e refl);
  postings = tells.postings_are;
  seats = seats_kept script past e pool.seats.items refl ripens.seats;
  jobs = jobs_kept script past e pool.jobs.items refl ripens.jobs;
  holders = holders_kept script past e pool.holders.items refl ripens.holders;
  moment = ripens.moment_is ∙ sym (now_of_push past e);
  room = subst (λ ps. length script.tasks + length pool.delayed.held ≤ pool.sequences.room + length ps) (sym (posts_same past e refl)) ripens.room;
}
  where
    e : Entry
    e = record { seat = seat; kind = kinds.Tick moment }

    later : List Entry
    later = past ++ e ∷ []

    still : AllByRecursion (λ p. moment < p.ripe) rest
    still = AllByRecursion-unmapped (λ r. moment < r.ripe) ripening_of rest
        (recursion_from_All (λ r. moment < r.ripe) (map ripening_of rest) (subst (λ d. All (λ r. moment < r.ripe) d.held) ripens.delayed none))

    no_more : filter (λ p. nat_le p.ripe moment) rest ≡ []
    no_more = filter_none (λ p. nat_le p.ripe moment) rest
        (AllByRecursion-map (λ p. moment < p.ripe) (λ p. nat_le p.ripe moment ≡ false) rest (λ p lt. lt-leb p.ripe moment lt) still)

    all : arrivals later ≡ known past front
    all =
        arrivals_in_tick past seat moment front rest ripens.parts ripens.ripe
        ∙ ap (λ ps. known past (front ++ ps)) no_more
        ∙ ap (known past) (append-nil front)

    tells : Tells script later pool.priorities.items pool.postings.items pool.sequences
    tells = record {
      fits = past_at_tick script past seat moment tick.can.stands.past_fits tick.can.later tick.can.fits;
      lines = subst (λ rs. AreLines script later rs pool.sequences) (sym all)
          (lines_kept script past e (known past front) pool.sequences refl ripens.lines);
      postings_are = postings_kept script past e pool.postings.items refl ripens.postings;
      priorities_are = priorities_kept script past e pool.priorities.items refl ripens.priorities;
    }
