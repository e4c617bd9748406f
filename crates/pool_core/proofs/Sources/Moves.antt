-- The sources of a runner while they are given their places anew, one task after the other.
-- Cited by `Pool::let_go`, `Pool::place_anew`, `Pool::place_listed`.
use Rattle.list_laws.proofs.Values.{some-injective}
use Rattle.pool_core.proofs.Sources.Following.{has_place, lane_fits, no_first, nothing_first, runner_is, sequence_given, sequence_made}
use Rattle.pool_core.proofs.Sources.Listing.{AreTurned, pushed_there, turned_out, turned_over}
use Rattle.pool_core.proofs.Sources.Queues.{IsOfLane, place_beside, place_given, roomy_kept, same_source}
use Rattle.pool_core.specs.Listings.{IsCovered, IsPostedTo}
use Rattle.pool_core.specs.Moving.{AnyList, IsLoose, IsMoving, IsSpare, NoList, set_aside}
use Rattle.pool_core.specs.Queues.{IsPlaced, queue_of, rank_as, with_source}
use Rattle.pool_core.specs.State.{HasPlace, lane_by, present_priority, rank_by, runner_of, standing}
use Rattle.pool_core.specs.TaskLists.{IsPushed, AreApart, AreAsMany, IsAmong, IsListed, IsPopped, Lists, list_of, with_task}
use Rattle.pool_core.specs.declared.pool.Pool.{Pool}
use Rattle.pool_core.specs.declared.posting.Posting.{Posting}
use Rattle.sequence_queue.specs.Ranked.{IsMadeFor}
use Rattle.sequence_queue.specs.declared.rank.Rank.{Rank}
use Rattle.std.proofs.Common.{cond, Bool, true, false, List, None, Option, Some, [], ap, arith, inl, inr, length, refl, subst, sym, ℕ, ◌+◌, ◌<◌, ◌∙◌, ◌≡◌, ◌^◌}
use Rattle.std.proofs.lemmas.Bool.{cases_eq}
use Rattle.std.specs.Option.{option_map}
use Rattle.std.specs.Prelude.{is_some, ◌⊎◌}
use Rattle.task_base.specs.Plan.{Plan}
use Rattle.task_base.specs.Runners.{sequence_of}
use Rattle.task_base.specs.declared.entry.Entry.{Entry}
use Rattle.task_base.specs.declared.source.TaskSource.{TaskSource}
use Rattle.task_base.specs.declared.source.TaskSource.TheVariants.{Sequence}
use Rattle.task_model.specs.Sources.{Candidate}
use Rattle.task_sequence.specs.Sequences.{first_of, sequence_at}
use Rattle.task_base.specs.declared.source.Key.{Key}
use Rattle.pool_core.proofs.Listed.{with_task_is}

-- a task was posted to one runner
one_runner : (postings : List (Option Posting)) (t a b : ℕ) → IsPostedTo postings t a → IsPostedTo postings t b → a ≡ b
one_runner postings t a b to_a to_b =
    sym to_a.runner_is ∙ ap (λ p. p.runner) (some-injective (some-injective (sym to_a.posted ∙ to_b.posted))) ∙ to_b.runner_is

-- it is declared
pub task_declared : {script : Plan} {past : List Entry} {pool : Pool} {runner t r : ℕ} {such : ℕ → Type 0} → IsMoving script past pool runner such
    → IsPostedTo pool.postings.items t r → (r < length script.runners) × (t < length script.tasks)
task_declared {script = script} {t = t} moving to =
    let is = moving.postings_fit t to.posting to.posted in (subst (λ k. k < length script.runners) to.runner_is is.0, is.1)

-- its sequence has a place
pub moving_place : {script : Plan} {past : List Entry} {pool : Pool} {runner t : ℕ} {such : ℕ → Type 0} (lists : Lists) → IsMoving script past pool runner such
    → IsPostedTo pool.postings.items t runner → HasPlace (record pool { lists = lists }) (sequence_of pool.runners runner t) runner
moving_place {script = script} {pool = pool} {runner = runner} {t = t} lists moving to = subst
    (λ table. HasPlace (record pool { lists = lists }) (sequence_of table runner t) runner) (sym moving.runners)
    (has_place script (record pool { lists = lists }) runner t moving.limits moving.runners moving.ranked moving.all moving.roomy moving.declared
    (task_declared moving to).1)

-- its number fits
pub sequence_fits : {script : Plan} {past : List Entry} {pool : Pool} {runner t : ℕ} {such : ℕ → Type 0} → IsMoving script past pool runner such
    → IsPostedTo pool.postings.items t runner → length pool.runners.runners + t < 2 ^ 32
sequence_fits {t = t} moving to = omega (
  arith,
  ap (λ (table : Plan). length table.runners) moving.runners,
  (task_declared moving to).1,
  moving.limits.runners_fit,
  moving.limits.tasks_fit,
)

-- what changes the lanes and the lists alone, twice
pub only_moved : (a b c : Pool) → b ≡ record a { lanes = b.lanes; lists = b.lists } → c ≡ record b { lanes = c.lanes; lists = c.lists }
    → c ≡ record a { lanes = c.lanes; lists = c.lists }
only_moved a b c first second = second ∙ ap (λ (p : Pool). record p { lanes = c.lanes; lists = c.lists }) first

-- its sequence is the runner's
runs_by : {script : Plan} {past : List Entry} {pool : Pool} {runner t : ℕ} {such : ℕ → Type 0} → IsMoving script past pool runner such
    → IsPostedTo pool.postings.items t runner → runner_of script pool.postings.items (sequence_of script runner t) ≡ Some runner
runs_by {script = script} {pool = pool} {t = t} moving to =
    subst (λ r. runner_of script pool.postings.items (sequence_of script r t) ≡ Some r) to.runner_is
    (runner_is script pool.postings.items t to.posting (subst (λ r. r < length script.runners) (sym to.runner_is) moving.declared) to.posted)

-- a sequence without a first task is no candidate
unheld : (script : Plan) (past : List Entry) (pool : Pool) (s runner : ℕ) → runner_of script pool.postings.items s ≡ Some runner
    → first_of (sequence_at pool.sequences s).tasks ≡ None
    → standing script past pool.priorities.items pool.postings.items pool.sequences (Sequence s) ≡ None
unheld script past pool s runner runs none =
    rw (runs, no_first (present_priority pool.priorities.items runner) (sequence_at pool.sequences s) none) refl

-- one task moves, and its sequence is given this rank: that of its place, or one that is loose while its task is in such a list
step_moving : {script : Plan} {past : List Entry} {pool : Pool} {runner t : ℕ} {such : ℕ → Type 0} (lists : Lists) (into : ℕ) (rank : Option Rank)
    (c : Option Candidate) → IsMoving script past pool runner such → IsPostedTo pool.postings.items t runner → AreTurned pool.lists lists into t
    → IsPostedTo pool.postings.items t into ⊎ ((into ≡ length script.runners) × IsPostedTo pool.postings.items t runner)
    → ((sequence_at pool.sequences (sequence_of script runner t)).tasks ≡ []) ⊎ ((l : ℕ) × IsListed lists l t)
    → IsOfLane (lane_by script runner) c → rank ≡ option_map rank_as c
    → (c ≡ standing script past pool.priorities.items pool.postings.items pool.sequences (Sequence (sequence_of script runner t)))
    ⊎ ((l : ℕ) × IsListed lists l t × such l)
    → IsMoving script past (record pool { lanes = with_source pool.lanes (lane_by script runner) (Sequence (sequence_of script runner t)) rank; lists = lists })
    runner such
step_moving {script = script} {past = past} {pool = pool} {runner = runner} {t = t} {such = such} lists into rank c moving to turned owner own_covered
    of_lane rank_is settled = record {
      limits = moving.limits;
      runners = moving.runners;
      declared = moving.declared;
      ranked = moving.ranked;
      all = moving.all;
      postings_fit = moving.postings_fit;
      apart = turned.apart;
      lines = turned.as_many.lists ∙ moving.lines;
      tasks = turned.as_many.tasks ∙ moving.tasks;
      owned = λ l u among. elim (turned.was l u among) [
        | inl old ↦ moving.owned l u old
        | inr new ↦ subst (λ k. IsPostedTo pool.postings.items u k ⊎ ((k ≡ length script.runners) × IsPostedTo pool.postings.items u runner)) (sym new.0)
            (subst (λ v. IsPostedTo pool.postings.items v into ⊎ ((into ≡ length script.runners) × IsPostedTo pool.postings.items v runner)) (sym new.1) owner)
      ];
      covered = λ s. elim (moving.covered s) [
        | inl none ↦ inl none
        | inr some ↦ elim some [
          | inl its ↦ inr (inl its)
          | inr of ↦ elim (cases_eq of.task t) [
            | inl same ↦ covered_own s (sym of.sequence_is ∙ ap (λ r. sequence_of script r of.task)
                (one_runner pool.postings.items t of.runner runner (subst (λ u. IsPostedTo pool.postings.items u of.runner) same of.posted) to)
                ∙ ap (sequence_of script runner) same) own_covered
            | inr another ↦ inr (inr (record {
              list = of.list;
              task = of.task;
              runner = of.runner;
              listed = turned.kept of.list of.task another of.listed;
              posted = of.posted;
              sequence_is = of.sequence_is;
            }))
          ]
        ]
      ];
      roomy = roomy_kept script pool.lanes lane (Sequence own) rank moving.roomy;
      places = λ source. elim (same_source source (Sequence own)) [
        | inl its_own ↦ subst (λ q. Place q) (sym its_own) (own_place settled)
        | inr another ↦ elim (moving.places source) [
          | inl now ↦ inl (stays source another _ now)
          | inr loose ↦ inr (record {
            list = loose.list;
            task = loose.task;
            listed = turned.kept loose.list loose.task (λ same. another (sym loose.source_is ∙ ap (λ u. Sequence (sequence_of script runner u)) same)) loose.listed;
            is_such = loose.is_such;
            posted = loose.posted;
            source_is = loose.source_is;
            candidate = loose.candidate;
            of_lane = loose.of_lane;
            placed = stays source another loose.candidate loose.placed;
          })
        ]
      ];
    }
  where
    own : ℕ
    own = sequence_of script runner t

    lane : ℕ
    lane = lane_by script runner

    later : Pool
    later = record pool { lanes = with_source pool.lanes lane (Sequence own) rank; lists = lists }

    now : TaskSource → Option Candidate
    now = standing script past pool.priorities.items pool.postings.items pool.sequences

    Place : TaskSource → Type 0
    Place q = IsPlaced later.lanes q (now q) ⊎ IsLoose script later runner such q

    made : (best : Bool) → IsMadeFor (queue_of pool.lanes lane best) (Sequence own)
    made = sequence_made script pool.lanes runner t moving.limits moving.roomy moving.declared (task_declared moving to).1

    runs : runner_of script pool.postings.items own ≡ Some runner
    runs = runs_by moving to

    covered_own : (s : ℕ) → s ≡ own → ((sequence_at pool.sequences own).tasks ≡ []) ⊎ ((l : ℕ) × IsListed lists l t)
        → IsCovered script pool.postings.items pool.sequences lists s
    covered_own s same (inl none) = inl (subst (λ k. (sequence_at pool.sequences k).tasks ≡ []) (sym same) none)
    covered_own s same (inr there) = inr (inr (record {
      list = there.0;
      task = t;
      runner = runner;
      listed = there.1;
      posted = to;
      sequence_is = sym same;
    }))

    given_from : (before : Option Candidate) → IsOfLane lane before → IsPlaced pool.lanes (Sequence own) before → IsPlaced later.lanes (Sequence own) c
    given_from before was placed = place_given script pool.lanes lane (Sequence own) before c rank (record {
      there = lane_fits script runner moving.limits;
      made = made;
      was = was;
      is = of_lane;
      rank_is = rank_is;
    }) moving.roomy placed

    here : IsPlaced later.lanes (Sequence own) c
    here = elim (moving.places (Sequence own)) [
      | inl placed ↦ given_from (now (Sequence own)) (sequence_given script pool.priorities.items pool.priorities.items pool.postings.items pool.sequences
          pool.sequences pool.lanes own runner moving.limits runs made).was placed
      | inr loose ↦ given_from loose.candidate loose.of_lane loose.placed
    ]

    own_place : (c ≡ now (Sequence own)) ⊎ ((l : ℕ) × IsListed lists l t × such l) → Place (Sequence own)
    own_place (inl is) = inl (subst (IsPlaced later.lanes (Sequence own)) is here)
    own_place (inr there) = inr (record {
      list = there.0;
      task = t;
      listed = there.1;
      is_such = there.2;
      posted = to;
      source_is = refl;
      candidate = c;
      of_lane = of_lane;
      placed = here;
    })

    stays : (source : TaskSource) → (source ≡ Sequence own → ⊥) → (candidate : Option Candidate) → IsPlaced pool.lanes source candidate
        → IsPlaced later.lanes source candidate
    stays source another candidate placed = place_beside script pool.lanes lane (Sequence own) source candidate rank (lane_fits script runner moving.limits) made
        moving.roomy another placed

-- Letting go: the first task of the runner's list.

-- a task in the runner's list was posted to it
listed_owned : {script : Plan} {past : List Entry} {pool : Pool} {runner t : ℕ} {such : ℕ → Type 0} → IsMoving script past pool runner such
    → IsListed pool.lists runner t → IsPostedTo pool.postings.items t runner
listed_owned {runner = runner} {t = t} moving among = elim (moving.owned runner t among) [
  | inl own ↦ own
  | inr spare ↦ absurd (omega (arith, spare.0, moving.declared))
]

-- the first one
pub first_posted : {script : Plan} {past : List Entry} {pool : Pool} {runner t : ℕ} {such : ℕ → Type 0} (popped : Lists)
    → IsMoving script past pool runner such → IsPopped pool.lists popped runner (Some t) → IsPostedTo pool.postings.items t runner
first_posted {t = t} popped moving is = listed_owned moving (subst (IsAmong t) (sym is.0) (inl refl))

-- and so was one in the spare list
spare_owned : {script : Plan} {past : List Entry} {pool : Pool} {runner t : ℕ} {such : ℕ → Type 0} → IsMoving script past pool runner such
    → IsListed pool.lists (length script.runners) t → IsPostedTo pool.postings.items t runner
spare_owned {script = script} {t = t} moving among = elim (moving.owned (length script.runners) t among) [
  | inl own ↦ absurd (omega (arith, (task_declared moving own).0))
  | inr spare ↦ spare.1
]

pub spare_posted : {script : Plan} {past : List Entry} {pool : Pool} {runner t : ℕ} {such : ℕ → Type 0} (popped : Lists)
    → IsMoving script past pool runner such → IsPopped pool.lists popped (length script.runners) (Some t) → IsPostedTo pool.postings.items t runner
spare_posted {t = t} popped moving is = spare_owned moving (subst (IsAmong t) (sym is.0) (inl refl))

-- a sequence of the runner's list, which no longer has a rank: its task goes to the spare list where it waits
let_go_moving : {script : Plan} {past : List Entry} {pool : Pool} {runner t : ℕ} (popped : Lists) → IsMoving script past pool runner AnyList
    → IsPopped pool.lists popped runner (Some t) → AreApart popped → AreAsMany popped pool.lists
    → IsMoving script past (record pool {
      lanes = with_source pool.lanes (lane_by script runner) (Sequence (sequence_of script runner t)) None;
      lists = set_aside (record pool { lists = popped }) (sequence_of script runner t) t;
    }) runner AnyList
let_go_moving {script = script} {past = past} {pool = pool} {runner = runner} {t = t} popped moving is apart as_many =
    by_first (first_of (sequence_at pool.sequences own).tasks) refl
  where
    own : ℕ
    own = sequence_of script runner t

    to : IsPostedTo pool.postings.items t runner
    to = listed_owned moving (subst (IsAmong t) (sym is.0) (inl refl))

    spare : ℕ
    spare = length pool.priorities.items

    out : AreTurned pool.lists popped spare t
    out = turned_out pool.lists popped runner spare t apart as_many is

    there : spare < length popped.lines
    there = omega (arith, moving.ranked, moving.lines, as_many.lists)

    known : t < length popped.after
    known = omega (arith, (task_declared moving to).1, moving.tasks, as_many.tasks)

    by_first : (o : Option (ℕ × Key)) → first_of (sequence_at pool.sequences own).tasks ≡ o
        → IsMoving script past (record pool {
          lanes = with_source pool.lanes (lane_by script runner) (Sequence own) None;
          lists = cond (is_some o) (with_task popped spare t) popped;
        }) runner AnyList
    by_first None none = step_moving popped spare None None moving to out (inr (moving.ranked, to)) (inl (nothing_first _ none)) tt refl
        (inl (sym (unheld script past pool own runner (runs_by moving to) none)))
    by_first (Some first) some =
        let is_pushed = with_task_is popped spare t apart there known in
        let in_one = pushed_there popped (with_task popped spare t) spare t is_pushed.0 in
        step_moving (with_task popped spare t) spare None None moving to (turned_over pool.lists popped spare t out there known) (inr (moving.ranked, to))
        (inr (in_one.0, in_one.1)) tt refl (inr (in_one.0, in_one.1, tt))

-- by the table of runners
pub let_go_moved : {script : Plan} {past : List Entry} {pool : Pool} {runner t : ℕ} (popped : Lists) → IsMoving script past pool runner AnyList
    → IsPopped pool.lists popped runner (Some t) → AreApart popped → AreAsMany popped pool.lists
    → IsMoving script past (record pool {
      lanes = with_source pool.lanes (lane_by pool.runners runner) (Sequence (sequence_of pool.runners runner t)) None;
      lists = set_aside (record pool { lists = popped }) (sequence_of pool.runners runner t) t;
    }) runner AnyList
let_go_moved {script = script} {past = past} {pool = pool} {runner = runner} {t = t} popped moving is apart as_many = subst
    (λ table. IsMoving script past (record pool {
      lanes = with_source pool.lanes (lane_by table runner) (Sequence (sequence_of table runner t)) None;
      lists = set_aside (record pool { lists = popped }) (sequence_of table runner t) t;
    }) runner AnyList) (sym moving.runners) (let_go_moving popped moving is apart as_many)

-- the runner's list is shorter
pub let_go_shorter : {script : Plan} {past : List Entry} {pool : Pool} {runner t : ℕ} (popped : Lists) (s : ℕ) → IsMoving script past pool runner AnyList
    → IsPopped pool.lists popped runner (Some t) → AreApart popped → AreAsMany popped pool.lists
    → length (list_of (set_aside (record pool { lists = popped }) s t) runner) < length (list_of pool.lists runner)
let_go_shorter {script = script} {pool = pool} {runner = runner} {t = t} popped s moving is apart as_many =
    by_first (is_some (first_of (sequence_at pool.sequences s).tasks))
  where
    spare : ℕ
    spare = length pool.priorities.items

    to : IsPostedTo pool.postings.items t runner
    to = listed_owned moving (subst (IsAmong t) (sym is.0) (inl refl))

    in_spare : IsPushed popped (with_task popped spare t) spare t
    in_spare = (with_task_is popped spare t apart (omega (arith, moving.ranked, moving.lines, as_many.lists))
        (omega (arith, (task_declared moving to).1, moving.tasks, as_many.tasks))).0

    same : IsPushed popped (with_task popped spare t) spare t → list_of (with_task popped spare t) runner ≡ list_of popped runner
    same (inl new) = new.1 runner (λ equal. omega (arith, equal, moving.ranked, moving.declared))
    same (inr old) = ap (λ lists. list_of lists runner) old.0

    by_first : (b : Bool) → length (list_of (cond b (with_task popped spare t) popped) runner) < length (list_of pool.lists runner)
    by_first true = omega (arith, ap length (same in_spare), ap length is.0)
    by_first false = omega (arith, ap length is.0)

-- once the list is empty, what is loose is in the spare list
pub all_let_go : {script : Plan} {past : List Entry} {pool : Pool} {runner : ℕ} → IsMoving script past pool runner AnyList
    → list_of pool.lists runner ≡ [] → IsMoving script past pool runner (IsSpare script)
all_let_go {script = script} {past = past} {pool = pool} {runner = runner} moving none = record {
  limits = moving.limits;
  runners = moving.runners;
  declared = moving.declared;
  ranked = moving.ranked;
  all = moving.all;
  postings_fit = moving.postings_fit;
  apart = moving.apart;
  lines = moving.lines;
  tasks = moving.tasks;
  owned = moving.owned;
  covered = moving.covered;
  roomy = moving.roomy;
  places = λ source. elim (moving.places source) [
    | inl now ↦ inl now
    | inr loose ↦ inr (record {
      list = loose.list;
      task = loose.task;
      listed = loose.listed;
      is_such = in_spare loose.list loose.task loose.listed loose.posted;
      posted = loose.posted;
      source_is = loose.source_is;
      candidate = loose.candidate;
      of_lane = loose.of_lane;
      placed = loose.placed;
    })
  ];
}
  where
    in_spare : (l u : ℕ) → IsListed pool.lists l u → IsPostedTo pool.postings.items u runner → l ≡ length script.runners
    in_spare l u among to = elim (moving.owned l u among) [
      | inl own ↦ absurd (subst (IsAmong u) (ap (list_of pool.lists) (one_runner pool.postings.items u l runner own to) ∙ none) among)
      | inr spare ↦ spare.0
    ]

-- Giving their places: the first task of the spare list.

placed_moving : {script : Plan} {past : List Entry} {pool : Pool} {runner t : ℕ} (popped : Lists) → IsMoving script past pool runner (IsSpare script)
    → IsPopped pool.lists popped (length script.runners) (Some t) → AreApart popped → AreAsMany popped pool.lists
    → IsMoving script past (record pool {
      lanes = with_source pool.lanes (lane_by script runner) (Sequence (sequence_of script runner t))
          (rank_by pool.priorities.items runner (sequence_at pool.sequences (sequence_of script runner t)));
      lists = with_task popped runner t;
    }) runner (IsSpare script)
placed_moving {script = script} {past = past} {pool = pool} {runner = runner} {t = t} popped moving is apart as_many =
    let own = sequence_of script runner t in
    let to = spare_owned moving (subst (IsAmong t) (sym is.0) (inl refl)) in
    let there : runner < length popped.lines = omega (arith, moving.declared, moving.lines, as_many.lists) in
    let known : t < length popped.after = omega (arith, (task_declared moving to).1, moving.tasks, as_many.tasks) in
    let is_pushed = with_task_is popped runner t apart there known in
    let in_one = pushed_there popped (with_task popped runner t) runner t is_pushed.0 in
    let given = sequence_given script pool.priorities.items pool.priorities.items pool.postings.items pool.sequences pool.sequences pool.lanes own runner
    moving.limits (runs_by moving to) (sequence_made script pool.lanes runner t moving.limits moving.roomy moving.declared (task_declared moving to).1) in
    step_moving (with_task popped runner t) runner (rank_by pool.priorities.items runner (sequence_at pool.sequences own))
    (standing script past pool.priorities.items pool.postings.items pool.sequences (Sequence own)) moving to
    (turned_over pool.lists popped runner t (turned_out pool.lists popped (length script.runners) runner t apart as_many is) there known) (inl to)
    (inr (in_one.0, in_one.1)) given.is given.rank_is (inl refl)

-- by the table of runners
pub placed_moved : {script : Plan} {past : List Entry} {pool : Pool} {runner t : ℕ} (popped : Lists) → IsMoving script past pool runner (IsSpare script)
    → IsPopped pool.lists popped (length script.runners) (Some t) → AreApart popped → AreAsMany popped pool.lists
    → IsMoving script past (record pool {
      lanes = with_source pool.lanes (lane_by pool.runners runner) (Sequence (sequence_of pool.runners runner t))
          (rank_by pool.priorities.items runner (sequence_at pool.sequences (sequence_of pool.runners runner t)));
      lists = with_task popped runner t;
    }) runner (IsSpare script)
placed_moved {script = script} {past = past} {pool = pool} {runner = runner} {t = t} popped moving is apart as_many = subst
    (λ table. IsMoving script past (record pool {
      lanes = with_source pool.lanes (lane_by table runner) (Sequence (sequence_of table runner t))
          (rank_by pool.priorities.items runner (sequence_at pool.sequences (sequence_of table runner t)));
      lists = with_task popped runner t;
    }) runner (IsSpare script)) (sym moving.runners) (placed_moving popped moving is apart as_many)

-- the spare list is shorter
pub placed_shorter : {script : Plan} {past : List Entry} {pool : Pool} {runner t : ℕ} (popped : Lists) → IsMoving script past pool runner (IsSpare script)
    → IsPopped pool.lists popped (length script.runners) (Some t) → AreApart popped → AreAsMany popped pool.lists
    → length (list_of (with_task popped runner t) (length script.runners)) < length (list_of pool.lists (length script.runners))
placed_shorter {script = script} {pool = pool} {runner = runner} {t = t} popped moving is apart as_many = omega (arith, ap length (same pushed), ap length is.0)
  where
    to : IsPostedTo pool.postings.items t runner
    to = spare_owned moving (subst (IsAmong t) (sym is.0) (inl refl))

    pushed : IsPushed popped (with_task popped runner t) runner t
    pushed = (with_task_is popped runner t apart (omega (arith, moving.declared, moving.lines, as_many.lists))
        (omega (arith, (task_declared moving to).1, moving.tasks, as_many.tasks))).0

    same : IsPushed popped (with_task popped runner t) runner t → list_of (with_task popped runner t) (length script.runners) ≡ list_of popped (length script.runners)
    same (inl new) = new.1 (length script.runners) (λ equal. omega (arith, equal, moving.declared))
    same (inr old) = ap (λ lists. list_of lists (length script.runners)) old.0

-- once the spare list is empty, nothing is loose
pub all_placed : {script : Plan} {past : List Entry} {pool : Pool} {runner : ℕ} → IsMoving script past pool runner (IsSpare script)
    → list_of pool.lists (length script.runners) ≡ [] → IsMoving script past pool runner NoList × (list_of pool.lists (length script.runners) ≡ [])
all_placed {script = script} {past = past} {pool = pool} {runner = runner} moving none = (
  record {
    limits = moving.limits;
    runners = moving.runners;
    declared = moving.declared;
    ranked = moving.ranked;
    all = moving.all;
    postings_fit = moving.postings_fit;
    apart = moving.apart;
    lines = moving.lines;
    tasks = moving.tasks;
    owned = moving.owned;
    covered = moving.covered;
    roomy = moving.roomy;
    places = λ source. elim (moving.places source) [
      | inl now ↦ inl now
      | inr loose ↦ absurd (subst (IsAmong loose.task) (ap (list_of pool.lists) loose.is_such ∙ none) loose.listed)
    ];
  },
  none,
)
