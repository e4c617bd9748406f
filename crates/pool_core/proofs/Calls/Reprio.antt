-- The pool where a runner's priority has changed: those of its sequences that wait go by it.
-- Cited by `Pool::place_anew`, `Pool::reprio`.
use Rattle.list_laws.proofs.Places.{slice_get-set_other, slice_get-set_same}
use Rattle.list_laws.proofs.Values.{eqb-same, some-injective}
use Rattle.pool_core.proofs.Delays.{unripe_kept}
use Rattle.pool_core.proofs.Sources.Following.{own_room, runner_is, sequence_made}
use Rattle.pool_core.proofs.Sources.Queues.{place_beside, place_given, roomy_kept, same_source}
use Rattle.pool_core.specs.Listings.{AreListed, IsOfListed, IsPostedTo}
use Rattle.pool_core.specs.Moving.{AnyList, IsLoose, IsMoved, IsMoving, IsRanked, NoList}
use Rattle.pool_core.specs.TaskLists.{IsAmong, Lists, list_of}
use Rattle.pool_core.specs.Queues.{HoldBy, IsPlaced, queue_of, with_source}
use Rattle.sequence_queue.specs.declared.rank.Rank.{Rank}
use Rattle.std.specs.Prelude.{option_and_then, slice_set, ◌⊎◌}
use Rattle.pool_core.proofs.Sources.Following.{Tells, hold_from, hold_standing, lane_fits, no_first, sequence_given}
use Rattle.pool_core.proofs.Works.GroupGrowth.{groups_kept}
use Rattle.pool_core.proofs.Jobs.JobQueues.{jobs_wait}
use Rattle.pool_core.proofs.Jobs.JobTables.{holders_kept, jobs_kept}
use Rattle.pool_core.proofs.LineGrowth.{lines_kept}
use Rattle.pool_core.proofs.Pasts.{past_kept}
use Rattle.pool_core.proofs.Sources.Places.{all_declared}
use Rattle.pool_core.proofs.Tables.{postings_kept, seats_kept}
use Rattle.pool_core.proofs.Tracking.{tracked_kept}
use Rattle.pool_core.specs.Calls.{KnowsRunner, after_reprio}
use Rattle.pool_core.specs.StandsFor.{StandsFor}
use Rattle.pool_core.specs.State.{candidate_by, present_priority, rank_by, rank_of_head, runner_of, sequence_standing, standing}
use Rattle.pool_core.specs.Tables.{ArePriorities}
use Rattle.pool_core.specs.declared.lanes.Lane.{Lane}
use Rattle.pool_core.specs.declared.pool.Pool.{Pool}
use Rattle.pool_laws.proofs.Keys.Arrivals.{arrivals_same}
use Rattle.pool_laws.proofs.Keys.Posts.{posts_same}
use Rattle.std.proofs.Common.{Bool, List, None, Option, Some, ap, arith, inl, inr, length, lt-ltb, refl, subst, sym, [], ℕ, ◌++◌, ◌<◌, ◌∙◌, ◌∷◌, ◌≡◌}
use Rattle.std.proofs.lemmas.Bool.{cases_eq, ne_eqb}
use Rattle.std.proofs.lemmas.List.{get_or-set_other, length-set, set-get_or}
use Rattle.std.specs.Option.{option_map}
use Rattle.std.specs.Vec.{with_item}
use Rattle.std.specs.declared.alloc.Global.{Global}
use Rattle.std.specs.declared.vec.Vec.{Vec}
use Rattle.task_base.specs.Plan.{Plan}
use Rattle.task_base.specs.Runners.{sequence_of}
use Rattle.task_sequence.specs.Sequences.{first_of, sequence_at}
use Rattle.sequence_queue.specs.Ranked.{IsMadeFor}
use Rattle.pool_core.specs.State.{HasPlace, lane_by, refreshed}
use Rattle.task_base.specs.declared.entry.Entry.{Entry}
use Rattle.task_base.specs.declared.source.TaskSource.{TaskSource}
use Rattle.task_base.specs.declared.source.TaskSource.TheVariants.{Job, Sequence}
use Rattle.task_model.proofs.Growth.{now_of_push, priority_of_push}
use Rattle.pool_laws.specs.Keys.{arrivals}
use Rattle.task_model.specs.Sources.{Candidate}
use Rattle.task_traits.specs.declared.traits.Priority.{Priority}
use Rattle.task_traits.specs.declared.traits.Priority.TheVariants.{BestEffort}
use Rattle.task_base.specs.declared.entry.Kind.TheVariants as kinds

-- the table with the priority that the runner is given
priorities_given : (script : Plan) (past : List Entry) (seat runner : ℕ) (priority : Priority) (priorities : List Priority)
    → ArePriorities script past priorities → runner < length script.runners
    → ArePriorities script (after_reprio past seat runner priority) (slice_set priorities runner priority)
priorities_given script past seat runner priority priorities are declared = record {
  all = length-set priorities runner priority ∙ are.all;
  each = λ r less. rw (priority_of_push script past (record { seat = seat; kind = kinds.Reprio runner priority }) r) (elim (cases_eq runner r) [
    | inl same ↦ rw (← same, eqb-same runner) (slice_get-set_same priorities runner priority (rw are.all declared))
    | inr other ↦ rw (ne_eqb runner r other) (slice_get-set_other priorities runner r priority other ∙ are.each r less)
  ]);
}

-- a sequence waits as before where its runner is another one, or it has no first task
sequence_stays : (script : Plan) (pool : Pool) (runner : ℕ) (priority : Priority) (s : ℕ)
    → (runner_of script pool.postings.items s ≡ Some runner → first_of (sequence_at pool.sequences s).tasks ≡ None)
    → sequence_standing script (slice_set pool.priorities.items runner priority) pool.postings.items pool.sequences s
    ≡ sequence_standing script pool.priorities.items pool.postings.items pool.sequences s
sequence_stays script pool runner priority s empty = by_runner (runner_of script pool.postings.items s) refl
  where
    later : List Priority
    later = slice_set pool.priorities.items runner priority

    waits : List Priority → Option ℕ → Option Candidate
    waits priorities o = option_and_then (λ r. option_map (candidate_by script s r) (rank_by priorities r (sequence_at pool.sequences s))) o

    unranked_by : (priorities : List Priority) → runner_of script pool.postings.items s ≡ Some runner
        → rank_by priorities runner (sequence_at pool.sequences s) ≡ None
    unranked_by priorities own = no_first (present_priority priorities runner) (sequence_at pool.sequences s) (empty own)

    by_runner : (o : Option ℕ) → runner_of script pool.postings.items s ≡ o → waits later o ≡ waits pool.priorities.items o
    by_runner None is = refl
    by_runner (Some r) is = elim (cases_eq r runner) [
      | inl own ↦ rw (own, unranked_by later (rw own at is), unranked_by pool.priorities.items (rw own at is)) refl
      | inr other ↦ ap (λ p. option_map (candidate_by script s r) (rank_of_head p (sequence_at pool.sequences s)))
          (get_or-set_other pool.priorities.items runner r priority BestEffort other)
    ]

-- the pool with the priority that the runner is given, where the queues follow it
stands_given : (script : Plan) (past : List Entry) (pool : Pool) (seat runner : ℕ) (priority : Priority) (priorities : Vec Priority Global) (lanes : List Lane) (lists : Lists)
    → KnowsRunner script past pool runner → priorities.items ≡ slice_set pool.priorities.items runner priority
    → HoldBy script (standing script past priorities.items pool.postings.items pool.sequences) lanes
    → AreListed script pool.postings.items pool.sequences lists
    → StandsFor script (after_reprio past seat runner priority) (record pool { priorities = priorities; lanes = lanes; lists = lists })
stands_given script past pool seat runner priority priorities lanes lists knows given hold listed = record {
  script_fits = stands.script_fits;
  past_fits = tells.fits;
  runners = stands.runners;
  priorities = tells.priorities_are;
  lines = tells.lines;
  queues = hold_from script past (past ++ e ∷ []) priorities.items pool.postings.items pool.sequences lanes tells (λ j. jobs_wait script past e j refl) hold;
  listed = listed;
  representatives = stands.representatives;
  groups = groups_kept script past e pool.groups refl stands.groups;
  delayed = rw (unripe_kept past e refl) stands.delayed;
  tracker = stands.tracker ∙ sym (tracked_kept script past e refl);
  postings = tells.postings_are;
  seats = seats_kept script past e pool.seats.items refl stands.seats;
  jobs = jobs_kept script past e pool.jobs.items refl stands.jobs;
  holders = holders_kept script past e pool.holders.items refl stands.holders;
  moment = rw (now_of_push past e) stands.moment;
  room = rw (posts_same past e refl) stands.room;
}
  where
    stands : StandsFor script past pool
    stands = knows.stands

    e : Entry
    e = record { seat = seat; kind = kinds.Reprio runner priority }

    tells : Tells script (past ++ e ∷ []) priorities.items pool.postings.items pool.sequences
    tells = record {
      fits = past_kept script past e refl stands.past_fits;
      lines = rw (arrivals_same past e refl) (lines_kept script past e (arrivals past) pool.sequences refl stands.lines);
      postings_are = postings_kept script past e pool.postings.items refl stands.postings;
      priorities_are = rw given (priorities_given script past seat runner priority pool.priorities.items stands.priorities knows.declared);
    }

-- the pool with the priority, whose sources are given their places anew
pub stands_moved : (script : Plan) (past : List Entry) (pool later : Pool) (seat runner : ℕ) (priority : Priority) → KnowsRunner script past pool runner
    → IsMoved script past (record pool { priorities = with_item pool.priorities runner priority }) later runner
    → StandsFor script (after_reprio past seat runner priority) later
stands_moved script past pool later seat runner priority knows moved = rw moved.others
    (stands_given script past pool seat runner priority (with_item pool.priorities runner priority) later.lanes later.lists knows refl moved.hold moved.listed)

-- the queues of its lane are made for the runner's own sequence
own_made : (script : Plan) (past : List Entry) (pool : Pool) (runner : ℕ) → KnowsRunner script past pool runner
    → (best : Bool) → IsMadeFor (queue_of pool.lanes (lane_by script runner) best) (Sequence runner)
own_made script past pool runner knows best = let stands = knows.stands in
    rw (stands.queues.roomy.sequences (lane_by script runner) best (lane_fits script runner stands.script_fits)) (own_room script runner knows.declared)

-- with another priority there are as many
as_many_ranked : (script : Plan) (past : List Entry) (before pool : Pool) (runner : ℕ) → IsRanked script past before pool runner
    → length pool.priorities.items ≡ length script.runners
as_many_ranked script past before pool runner ranked =
    ap length ranked.given ∙ length-set before.priorities.items runner ranked.priority ∙ ranked.knows.stands.priorities.all

-- so it has a place
pub own_place : (script : Plan) (past : List Entry) (before pool : Pool) (runner : ℕ) → IsRanked script past before pool runner
    → HasPlace pool runner runner
own_place script past before pool runner ranked =
    let knows = ranked.knows in
    let stands = knows.stands in rw (ranked.others, stands.runners) record {
      declared = knows.declared;
      ranked = omega (arith, knows.declared, as_many_ranked script past before pool runner ranked);
      there = omega (arith, knows.declared, stands.lines.all);
      lane_there = omega (arith, lane_fits script runner stands.script_fits, stands.queues.roomy.all);
      made = own_made script past before runner knows;
    }

-- before that: the runner's own sequence is in its place
pub moving_at_first : (script : Plan) (past : List Entry) (before pool : Pool) (runner : ℕ) → IsRanked script past before pool runner
    → IsMoving script past (refreshed pool runner runner) runner AnyList
moving_at_first script past before pool runner ranked = rw ranked.others record {
  limits = stands.script_fits;
  runners = stands.runners;
  declared = knows.declared;
  ranked = as_many_ranked script past before pool runner ranked;
  all = stands.lines.all;
  postings_fit = all_declared script past before.postings.items stands.past_fits stands.postings;
  apart = stands.listed.apart;
  lines = stands.listed.lines;
  tasks = stands.listed.tasks;
  owned = λ l t among. inl (stands.listed.owned l t among);
  covered = stands.listed.covered;
  roomy = roomy_kept script before.lanes (lane_by before.runners runner) (Sequence runner) rank stands.queues.roomy;
  places = λ source. subst (λ table. Place table source) (sym stands.runners) (place source);
}
  where
    knows : KnowsRunner script past before runner
    knows = ranked.knows

    stands : StandsFor script past before
    stands = knows.stands

    later : List Priority
    later = pool.priorities.items

    rank : Option Rank
    rank = rank_by later runner (sequence_at before.sequences runner)

    lanes : Plan → List Lane
    lanes table = with_source before.lanes (lane_by table runner) (Sequence runner) rank

    now : TaskSource → Option Candidate
    now = standing script past later before.postings.items before.sequences

    old : TaskSource → Option Candidate
    old = standing script past before.priorities.items before.postings.items before.sequences

    Place : Plan → TaskSource → Type 0
    Place table source = IsPlaced (lanes table) source (now source)
        ⊎ IsLoose script (record before { priorities = pool.priorities; lanes = lanes table }) runner AnyList source

    hold : HoldBy script old before.lanes
    hold = hold_standing script past before stands

    made : (best : Bool) → IsMadeFor (queue_of before.lanes (lane_by script runner) best) (Sequence runner)
    made = own_made script past before runner knows

    runs : runner_of script before.postings.items runner ≡ Some runner
    runs = rw (lt-ltb runner (length script.runners) knows.declared) refl

    beside : (source : TaskSource) → (source ≡ Sequence runner → ⊥) → IsPlaced (lanes script) source (old source)
    beside source another = place_beside script before.lanes (lane_by script runner) (Sequence runner) source (old source) rank
        (lane_fits script runner stands.script_fits) made stands.queues.roomy another (hold.places source)

    stays : (s : ℕ) → (Sequence s ≡ Sequence runner → ⊥)
        → (runner_of script before.postings.items s ≡ Some runner → first_of (sequence_at before.sequences s).tasks ≡ None) → Place script (Sequence s)
    stays s another empty = inl (subst (IsPlaced (lanes script) (Sequence s)) (sym (subst
        (λ ps. sequence_standing script ps before.postings.items before.sequences s ≡ old (Sequence s)) (sym ranked.given)
        (sequence_stays script before runner ranked.priority s empty))) (beside (Sequence s) another))

    its : (s : ℕ) (of : IsOfListed script before.postings.items before.lists s) → runner_of script before.postings.items s ≡ Some of.runner
    its s of =
        let declared = all_declared script past before.postings.items stands.past_fits stands.postings of.task of.posted.posting of.posted.posted in
        subst (λ n. runner_of script before.postings.items n ≡ Some of.runner) of.sequence_is
        (subst (λ r. runner_of script before.postings.items (sequence_of script r of.task) ≡ Some r) of.posted.runner_is
        (runner_is script before.postings.items of.task of.posted.posting declared.0 of.posted.posted))

    its_made : (s : ℕ) (of : IsOfListed script before.postings.items before.lists s) → of.runner ≡ runner
        → (best : Bool) → IsMadeFor (queue_of before.lanes (lane_by script runner) best) (Sequence s)
    its_made s of own best =
        let declared = all_declared script past before.postings.items stands.past_fits stands.postings of.task of.posted.posting of.posted.posted in
        subst (λ n. IsMadeFor (queue_of before.lanes (lane_by script runner) best) (Sequence n)) (ap (λ r. sequence_of script r of.task) (sym own) ∙ of.sequence_is)
        (sequence_made script before.lanes runner of.task stands.script_fits stands.queues.roomy knows.declared declared.1 best)

    of_listed : (s : ℕ) → (Sequence s ≡ Sequence runner → ⊥) → IsOfListed script before.postings.items before.lists s → Place script (Sequence s)
    of_listed s another of = elim (cases_eq of.runner runner) [
      | inl own ↦ inr (record {
        list = of.list;
        task = of.task;
        listed = of.listed;
        is_such = tt;
        posted = subst (IsPostedTo before.postings.items of.task) own of.posted;
        source_is = ap Sequence (ap (λ r. sequence_of script r of.task) (sym own) ∙ of.sequence_is);
        candidate = old (Sequence s);
        of_lane = (sequence_given script before.priorities.items before.priorities.items before.postings.items before.sequences before.sequences before.lanes
            s runner stands.script_fits (subst (λ r. runner_of script before.postings.items s ≡ Some r) own (its s of)) (its_made s of own)).was;
        placed = beside (Sequence s) another;
      })
      | inr other ↦ stays s another (λ own. absurd (other (some-injective (sym (its s of) ∙ own))))
    ]

    place : (source : TaskSource) → Place script source
    place (Job j) = inl (beside (Job j) (λ equal. absurd cc))
    place (Sequence s) = elim (same_source (Sequence s) (Sequence runner)) [
      | inl own ↦ inl (subst (λ q. IsPlaced (lanes script) q (now q)) (sym own) (place_given script before.lanes (lane_by script runner) (Sequence runner)
          (old (Sequence runner)) (now (Sequence runner)) rank (sequence_given script before.priorities.items later before.postings.items before.sequences
          before.sequences before.lanes runner runner stands.script_fits runs made) stands.queues.roomy (hold.places (Sequence runner))))
      | inr another ↦ elim (stands.listed.covered s) [
        | inl none ↦ stays s another (λ own. ap first_of none)
        | inr some ↦ elim some [
          | inl less ↦ stays s another (λ own. absurd (another (ap Sequence (some-injective (sym (rw (lt-ltb s (length script.runners) less) refl) ∙ own)))))
          | inr of ↦ of_listed s another of
        ]
      ]
    ]

-- where the runner has the priority, all stays
pub stands_at_same : (script : Plan) (past : List Entry) (pool : Pool) (seat runner : ℕ) (priority : Priority) → KnowsRunner script past pool runner
    → present_priority pool.priorities.items runner ≡ priority → StandsFor script (after_reprio past seat runner priority) pool
stands_at_same script past pool seat runner priority knows same = stands_given script past pool seat runner priority pool.priorities pool.lanes pool.lists knows
    (sym (ap (slice_set pool.priorities.items runner) (sym same) ∙ set-get_or pool.priorities.items runner BestEffort))
    (hold_standing script past pool knows.stands) knows.stands.listed

-- and after that
pub moved_at_last : (script : Plan) (past : List Entry) (pool later : Pool) (runner : ℕ) → later ≡ record pool { lanes = later.lanes; lists = later.lists }
    → IsMoving script past later runner NoList → list_of later.lists (length script.runners) ≡ [] → IsMoved script past pool later runner
moved_at_last script past pool later runner others moving none =
    let listed : AreListed script later.postings.items later.sequences later.lists = record {
      apart = moving.apart;
      lines = moving.lines;
      tasks = moving.tasks;
      owned = λ l t among. elim (moving.owned l t among) [
        | inl own ↦ own
        | inr spare ↦ absurd (subst (IsAmong t) (ap (list_of later.lists) spare.0 ∙ none) among)
      ];
      covered = moving.covered;
    } in
    let hold : HoldBy script (standing script past later.priorities.items later.postings.items later.sequences) later.lanes = record {
      roomy = moving.roomy;
      places = λ source. elim (moving.places source) [ inl now ↦ now | inr loose ↦ absurd loose.is_such ];
    } in record {
      others = others;
      listed = rw others at listed;
      hold = rw others at hold;
    }
