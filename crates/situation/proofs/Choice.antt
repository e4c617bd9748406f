-- Pasts in the same situation have the same best sources.
-- Cited by `Counts`, `Onward/Tasks`, `Ways`, `log_count`.
use Rattle.std.proofs.Common.{◌≡◌, ℕ, ◌+◌, ◌<◌, Bool, true, false, cond, eqb, List, [], ◌∷◌, length, refl, sym, ap, subst, ◌∙◌, Option, Some, None, arith}
use Rattle.std.specs.Prelude.{◌&&◌, ◌||◌, not, nat_lt, nat_le, is_none, Contains}
use Rattle.std.specs.Option.{option_map}
use Rattle.std.proofs.lemmas.Bool.{le-leb}
use Rattle.task_base.specs.Plan.{Plan}
use Rattle.task_base.specs.Groups.{group_of}
use Rattle.task_base.specs.declared.entry.Entry.{Entry}
use Rattle.task_base.specs.declared.step.Scope.{Scope}
use Rattle.task_base.specs.declared.step.Scope.TheVariants.{May, Will}
use Rattle.task_traits.specs.declared.traits.Priority.{Priority}
use Rattle.list_laws.specs.Lists.{holds_of}
use Rattle.list_laws.proofs.Counts.{filter_length_congr}
use Rattle.list_laws.proofs.Filters.{filter_congr}
use Rattle.list_laws.proofs.Tests.{list_any_congr}
use Rattle.task_model.specs.Time.{now_of}
use Rattle.task_model.specs.Policies.{is_held}
use Rattle.task_model.specs.Refusal.{is_job_forbidden}
use Rattle.task_model.specs.Seats.{Running, running, Holding, holding, all_seats, worker_seats, runs_of, runs_sequence, inside}
use Rattle.task_model.specs.Capacity.{priority_of, OpenScope, open_scope, scope_counts, priority_of_holding, priority_of_job, work_at, load_of, load}
use Rattle.task_model.specs.Capacity.{best_load, is_in, is_best_in}
use Rattle.task_model.specs.Capacity.{is_blocked, blocked_of, capacity, best_capacity, has_room}
use Rattle.task_model.specs.Jobs.{JobPosted, job_post_of, is_job_accepted, is_cancelled, done, has_unclaimed, may_enter}
use Rattle.hist_model.specs.Legal.{IsLegal}
use Rattle.hist_model.proofs.Laws.Claims.{claimed_is}
use Rattle.std.proofs.lemmas.Option.{same_Some}
use Rattle.std.proofs.lemmas.Bool.{and_parts, and_from}
use Rattle.std.proofs.lemmas.List.Elements.{All-weaker, All-contains, All-contains_itself}
use Rattle.task_base.specs.Keys.{key_below}
use Rattle.task_base.specs.Runners.{seat_of, sequence_count}
use Rattle.task_base.specs.declared.source.TaskSource.{TaskSource}
use Rattle.task_base.specs.declared.source.TaskSource.TheVariants.{Sequence, Job}
use Rattle.list_laws.specs.Lists.{keep}
use Rattle.task_model.specs.Keys.{Ready}
use Rattle.task_model.specs.Sequences.{head_of}
use Rattle.task_model.specs.Sources.{Candidate, sequence_candidate, job_candidate, waiting, goes_before, is_takeable, best_of}
use Rattle.pool_laws.specs.Choice.{IsBest, IsFree, source_waiting}
use Rattle.pool_laws.proofs.Choice.Best.{only_best}
use Rattle.pool_laws.proofs.Choice.Least.{best_is_best}
use Rattle.pool_laws.proofs.Choice.Candidates.{waiting_sequence, waiting_job, sequence_in, job_in, sequence_within, job_within, waiting_is_free}
use Rattle.pool_laws.proofs.Choice.Candidates.{free_is_waiting}
use Rattle.hist_model.proofs.Laws.Choice.{option_map_some}
use Rattle.hist_model.proofs.Laws.Rising.{legal_rises}
use Rattle.std.proofs.lemmas.List.Elements.{Contains-append_right}
use Rattle.std.specs.List.{list_any}
use Rattle.std.proofs.lemmas.Bool.{both_ways}
use Rattle.list_laws.proofs.Elements.{AllByRecursion-contains}
use Rattle.list_laws.proofs.Options.{AllByRecursion-not_any}
use Rattle.task_base.specs.Groups.{importance, same_group}
use Rattle.task_model.specs.Sources.{is_outranked, leaves}
use Rattle.situation.specs.Line.{Standing, TaskStands, JobStands, standing_key, waiter_of, first_at, is_job_open}
use Rattle.situation.proofs.Line.{first_of_sequence, first_of_job, first_same, order_same}
use Rattle.situation.specs.Situation.{counts_from}
use Rattle.situation.specs.Same.{SameWork}

-- an open scope counts once its moment has come
pub counts_by_moment : (script : Plan) (past : List Entry) (o : OpenScope) → scope_counts script past o ≡ nat_le (counts_from script past o) (now_of past)
counts_by_moment script past o = by_scope o.scope refl
  where
    by_test : (b : Bool) → nat_le (o.since + script.threshold) (now_of past) ≡ b → b ≡ nat_le (cond b 0 (o.since + script.threshold)) (now_of past)
    by_test true is = sym (le-leb 0 (now_of past) (omega arith))
    by_test false is = sym is

    by_scope : (scope : Scope) → o.scope ≡ scope → scope_counts script past o ≡ nat_le (counts_from script past o) (now_of past)
    by_scope Will is = rw is (sym (le-leb 0 (now_of past) (omega arith)))
    by_scope May is = rw is (by_test (nat_le (o.since + script.threshold) (now_of past)) refl)

module _ (script : Plan) (past other : List Entry) (same : SameWork script past other) where
  -- ---- seats

  runs_same : (s : ℕ) → runs_sequence script past s ≡ runs_sequence script other s
  unfolding runs_sequence
  runs_same s = list_any_congr (λ seat. holds_of (runs_of script s) (running past seat)) (λ seat. holds_of (runs_of script s) (running other seat))
      (all_seats script) (λ seat. ap (holds_of (runs_of script s)) (same.runs seat))

  holds_same : (j seat : ℕ) → holds_of (λ h. eqb h.job j) (holding past seat) ≡ holds_of (λ h. eqb h.job j) (holding other seat)
  holds_same j seat = by_job (holding past seat) (holding other seat) (same.held seat)
    where
      by_job : (a b : Option Holding) → option_map (λ h. h.job) a ≡ option_map (λ h. h.job) b → holds_of (λ h. eqb h.job j) a ≡ holds_of (λ h. eqb h.job j) b
      by_job a b is = through a ∙ ap (holds_of (λ n. eqb n j)) is ∙ sym (through b)
        where
          through : (o : Option Holding) → holds_of (λ h. eqb h.job j) o ≡ holds_of (λ n. eqb n j) (option_map (λ h. h.job) o)
          through None = refl
          through (Some h) = refl

  pub inside_same : (j : ℕ) → inside script past j ≡ inside script other j
  unfolding inside
  inside_same j = filter_congr (λ seat. holds_of (λ h. eqb h.job j) (holding past seat)) (λ seat. holds_of (λ h. eqb h.job j) (holding other seat))
      (all_seats script) (holds_same j)

  -- ---- how much runs, and how much may

  work_same : (seat : ℕ) → work_at script past seat ≡ work_at script other seat
  work_same seat = by_running (running past seat) refl
    where
      job_priority : (a b : Option Holding) → option_map (λ h. h.job) a ≡ option_map (λ h. h.job) b
          → priority_of_holding script a ≡ priority_of_holding script b
      job_priority None None is = refl
      job_priority (Some h) (Some k) is = ap (λ o. option_map (priority_of_job script) o) is
      job_priority None (Some k) is = absurd cc
      job_priority (Some h) None is = absurd cc

      by_running : (o : Option Running) → running past seat ≡ o → work_at script past seat ≡ work_at script other seat
      by_running None is = rw (is, sym (same.runs seat) ∙ is) (job_priority (holding past seat) (holding other seat) (same.held seat))
      by_running (Some w) is = rw (is, sym (same.runs seat) ∙ is) (same.taken seat w is)

  load_same : (test : Priority → Bool) → load_of script past test ≡ load_of script other test
  load_same test = filter_length_congr (λ seat. holds_of test (work_at script past seat)) (λ seat. holds_of test (work_at script other seat))
      (worker_seats script) (λ seat. ap (holds_of test) (work_same seat))

  blocked_same : (test : Priority → Bool) → blocked_of script past test ≡ blocked_of script other test
  blocked_same test = filter_length_congr (is_blocked script past test) (is_blocked script other test) (worker_seats script) at_seat
    where
      counts : (before : List Entry) (o : Option OpenScope) → holds_of (scope_counts script before) o
          ≡ holds_of (λ n. nat_le n (now_of before)) (option_map (counts_from script before) o)
      counts before None = refl
      counts before (Some o) = counts_by_moment script before o

      at_seat : (seat : ℕ) → is_blocked script past test seat ≡ is_blocked script other test seat
      at_seat seat = by_running (running past seat) refl
        where
          by_running : (o : Option Running) → running past seat ≡ o → is_blocked script past test seat ≡ is_blocked script other test seat
          by_running None is = rw (is, sym (same.runs seat) ∙ is) refl
          by_running (Some w) is =
              let scope : option_map (counts_from script past) (open_scope past w.task) ≡ option_map (counts_from script other) (open_scope other w.task)
              = rw (is, sym (same.runs seat) ∙ is) at (same.scopes seat) in
              rw (
                is,
                sym (same.runs seat) ∙ is,
                same.taken seat w is,
                counts past (open_scope past w.task),
                counts other (open_scope other w.task),
                scope,
                same.now,
              ) refl

  room_same : (priority : Priority) → has_room script past priority ≡ has_room script other priority
  unfolding has_room load capacity best_load best_capacity
  room_same priority = rw (
    load_same (is_in script (group_of script priority)),
    load_same (is_best_in script (group_of script priority)),
    blocked_same (is_in script (group_of script priority)),
    blocked_same (is_best_in script (group_of script priority)),
  ) refl

-- ---- it is the same the other way round

pub turned : (script : Plan) (past other : List Entry) → SameWork script past other → SameWork script other past
turned script past other same = record {
  left = sym same.left;
  made = sym same.made;
  now = sym same.now;
  phase = sym same.phase;
  policy = sym same.policy;
  priorities = λ runner. sym (same.priorities runner);
  runs = λ seat. sym (same.runs seat);
  acts = λ seat w runs. sym (same.acts seat w (same.runs seat ∙ runs));
  taken = λ seat w runs. sym (same.taken seat w (same.runs seat ∙ runs));
  scopes = λ seat. sym (same.scopes seat);
  behaviours = λ seat. sym (same.behaviours seat);
  held = λ seat. sym (same.held seat);
  line = sym same.line;
  unripe = sym same.unripe;
  replies = λ j. sym (same.replies j);
  cancels = λ j. sym (same.cancels j);
  claims = λ j. sym (same.claims j);
  cells = λ s within. sym (same.cells s within);
  blocks = sym same.blocks;
  skips = sym same.skips;
}

-- ---- jobs

module _ (script : Plan) (past other : List Entry) (same : SameWork script past other) (legal : IsLegal script past) (legal_other : IsLegal script other) where
  pub done_same : (j : ℕ) → done past j ≡ done other j
  done_same j = omega (
    arith,
    claimed_is script past j legal,
    claimed_is script other j legal_other,
    same.claims j,
    ap length
        (inside_same script past other same j),
  )

  pub accepted_same : (j : ℕ) → is_job_accepted past j ≡ is_job_accepted other j
  accepted_same j = through (job_post_of past j) ∙ ap (holds_of (λ b. b)) (same.replies j) ∙ sym (through (job_post_of other j))
    where
      through : (o : Option JobPosted) → holds_of (λ p. p.ok) o ≡ holds_of (λ b. b) (option_map (λ (p : JobPosted). p.ok) o)
      through None = refl
      through (Some p) = refl

  pub may_enter_same : (j : ℕ) → may_enter script past j ≡ may_enter script other j
  unfolding may_enter
  may_enter_same j = rw (accepted_same j, same.cancels j, same.phase, same.claims j, inside_same script past other same j, done_same j) refl

-- ---- what waits

-- two candidates are alike, but for their keys
pub record Alike (c d : Candidate) : Type 0 where
  pub source_is : c.source ≡ d.source
  pub priority_is : c.priority ≡ d.priority
  pub inside_is : c.inside ≡ d.inside
  pub seat_is : c.seat ≡ d.seat

-- the key of what waits is that of the first of its source in the line
pub key_is_first : (script : Plan) (past : List Entry) → IsLegal script past → (source : TaskSource) (c : Candidate) → source_waiting script past source ≡ Some c
    → (x : Standing) × (first_at script past source ≡ Some x) × (c.key ≡ standing_key x)
unfolding may_enter
key_is_first script past legal (Sequence s) c is =
    let parts = waiting_sequence script past s c (sequence_within script past s c is).1 in (
      TaskStands parts.0,
      first_of_sequence script past s (legal_rises script past legal).arrivals_are_ready ∙ ap (option_map TaskStands) parts.2,
      ap (λ (d : Candidate). d.key) (sym parts.3),
    )
key_is_first script past legal (Job j) c is =
    let parts = waiting_job script past j c (job_within script past j c is).1 in (
      JobStands j parts.0,
      first_of_job script past j ∙ stands parts.0 parts.1 parts.2,
      ap (λ (d : Candidate). d.key) (sym parts.3),
    )
  where
    stands : (p : JobPosted) → may_enter script past j ≡ true → job_post_of past j ≡ Some p
        → cond (is_job_open script past j) (option_map (JobStands j) (keep (λ q. q.ok) (job_post_of past j))) None ≡ Some (JobStands j p)
    stands p may is_post =
        let rooms = and_parts (is_job_accepted past j && not (is_cancelled past j) && not
        (is_job_forbidden script past j) && has_unclaimed script past j) _ may in
        let items = and_parts (is_job_accepted past j && not (is_cancelled past j) && not (is_job_forbidden script past j))
        (has_unclaimed script past j) rooms.0 in
        let phases = and_parts (is_job_accepted past j && not (is_cancelled past j)) (not (is_job_forbidden script past j)) items.0 in
        let posts = and_parts (is_job_accepted past j) (not (is_cancelled past j)) phases.0 in
        let ok : p.ok ≡ true = rw is_post at posts.0 in
        let opened : is_job_open script past j ≡ true = and_from _ _ (and_from _ _ posts.1 phases.1) items.1 in
        rw (opened, is_post) (ap (λ (b : Bool). option_map (JobStands j) (cond b (Some p) None)) ok)

-- the keys of two sources that wait are in one order in both
keys_same : (script : Plan) (past other : List Entry) → SameWork script past other → IsLegal script past → IsLegal script other → (a b : TaskSource)
    → (c d e f : Candidate) → source_waiting script past a ≡ Some c → source_waiting script past b ≡ Some d
    → source_waiting script other a ≡ Some e → source_waiting script other b ≡ Some f → key_below c.key d.key ≡ key_below e.key f.key
keys_same script past other same legal legal_other a b c d e f is_c is_d is_e is_f =
    let w = key_is_first script past legal a c is_c in
    let x = key_is_first script past legal b d is_d in
    let y = key_is_first script other legal_other a e is_e in
    let z = key_is_first script other legal_other b f is_f in
    rw (w.2, x.2, y.2, z.2) (order_same script past other a b same.line w.0 x.0 y.0 z.0 w.1 x.1 y.1 z.1)

-- who waits in one waits in the other, alike
abbrev AlsoWaits : Plan → List Entry → TaskSource → Candidate → Type 0
AlsoWaits script other source c = (d : Candidate) × (source_waiting script other source ≡ Some d) × Alike c d

module _ (script : Plan) (past other : List Entry) (same : SameWork script past other) (legal : IsLegal script past) (legal_other : IsLegal script other) where
  -- the head of a sequence in the one has the runner of its head in the other
  pub head_also : (s : ℕ) (r : Ready) → head_of script past s ≡ Some r
      → (q : Ready) × (head_of script other s ≡ Some q) × (waiter_of (TaskStands r) ≡ waiter_of (TaskStands q))
  head_also s r is_r = by_head (head_of script other s) refl
      (ap (λ x. option_map waiter_of (option_map TaskStands x)) (sym is_r)
      ∙ ap (option_map waiter_of) (sym (first_of_sequence script past s (legal_rises script past legal).arrivals_are_ready))
      ∙ first_same script past other (Sequence s) same.line
      ∙ ap (option_map waiter_of) (first_of_sequence script other s (legal_rises script other legal_other).arrivals_are_ready))
    where
      by_head : (x : Option Ready) → head_of script other s ≡ x
          → option_map waiter_of (option_map TaskStands (Some r)) ≡ option_map waiter_of (option_map TaskStands x)
          → (q : Ready) × (head_of script other s ≡ Some q) × (waiter_of (TaskStands r) ≡ waiter_of (TaskStands q))
      by_head None is_x h = absurd cc
      by_head (Some q) is_x h = (q, is_x, same_Some _ _ h)

  sequence_also : (s : ℕ) (c : Candidate) (r q : Ready) → s < sequence_count script → runs_sequence script other s ≡ false → head_of script other s ≡ Some q
      → sequence_candidate script past s r ≡ c → waiter_of (TaskStands r) ≡ waiter_of (TaskStands q) → AlsoWaits script other (Sequence s) c
  sequence_also s c r q within runs head made alike =
      let home : r.posted.home ≡ q.posted.home = cc in (
        sequence_candidate script other s q,
        sequence_in script other s within ∙ rw (runs, head) refl,
        subst (λ x. Alike x (sequence_candidate script other s q)) made (record {
          source_is = refl;
          priority_is = same.priorities r.posted.home ∙ ap (priority_of script other) home;
          inside_is = refl;
          seat_is = ap (seat_of script) home;
        }),
      )

  job_also : (j : ℕ) (c : Candidate) (p q : JobPosted) → j < length script.jobs → may_enter script other j ≡ true → job_post_of other j ≡ Some q
      → job_candidate script past j p ≡ c → AlsoWaits script other (Job j) c
  job_also j c p q within may post made = (
    job_candidate script other j q,
    job_in script other j within ∙ rw (may, post) refl,
    subst (λ x. Alike x (job_candidate script other j q)) made (record {
      source_is = refl;
      priority_is = refl;
      inside_is = ap length (inside_same script past other same j);
      seat_is = refl;
    }),
  )

  source_also : (source : TaskSource) (c : Candidate) → source_waiting script past source ≡ Some c → AlsoWaits script other source c
  source_also (Sequence s) c is =
      let within = sequence_within script past s c is in
      let parts = waiting_sequence script past s c within.1 in
      let also = head_also s parts.0 parts.2 in
      sequence_also s c parts.0 also.0 within.0 (sym (runs_same script past other same s) ∙ parts.1) also.1 parts.3 also.2
  source_also (Job j) c is =
      let within = job_within script past j c is in
      let parts = waiting_job script past j c within.1 in
      let post = option_map_some (λ (p : JobPosted). p.ok) (job_post_of other j) parts.0.ok
      (sym (same.replies j) ∙ ap (option_map (λ (p : JobPosted). p.ok)) parts.2) in
      job_also j c parts.0 post.0 within.0 (sym (may_enter_same script past other same legal legal_other j) ∙ parts.1) post.1 parts.3

-- ---- the best

module _ (script : Plan) (past other : List Entry) (same : SameWork script past other) (legal : IsLegal script past) (legal_other : IsLegal script other) where
  held_same : (priority : Priority) → is_held past priority ≡ is_held other priority
  held_same priority = rw (same.phase, same.policy) refl

  -- who is free in one is free in the other, alike
  free_also : (c : Candidate) → IsFree script past c → (d : Candidate) × IsFree script other d × Alike c d
  free_also c free =
      let also = source_also script past other same legal legal_other c.source c free.candidate in (
        also.0,
        record {
          candidate = ap (source_waiting script other) (sym also.2.source_is) ∙ also.1;
          not_held = ap (is_held other) (sym also.2.priority_is) ∙ sym (held_same c.priority) ∙ free.not_held;
        },
        also.2,
      )

  takeable_same : (seat : ℕ) (c d : Candidate) → Alike c d → is_takeable script past seat c ≡ is_takeable script other seat d
  takeable_same seat c d alike = rw (← alike.priority_is, ← alike.seat_is, room_same script past other same c.priority) refl

  goes_same : (c d e f : Candidate) → IsFree script past c → IsFree script past d → IsFree script other e → IsFree script other f → Alike c e → Alike d f
      → goes_before c d ≡ goes_before e f
  goes_same c d e f is_c is_d is_e is_f one two =
      let keys : key_below c.key d.key ≡ key_below e.key f.key =
      keys_same script past other same legal legal_other c.source d.source c d e f is_c.candidate is_d.candidate
      (ap (source_waiting script other) one.source_is ∙ is_e.candidate) (ap (source_waiting script other) two.source_is ∙ is_f.candidate) in
      rw (one.priority_is, two.priority_is, one.inside_is, two.inside_is, keys) refl

-- the best source of the one is the best of the other
pub best_also : (script : Plan) (past other : List Entry) → SameWork script past other → IsLegal script past → IsLegal script other → (seat : ℕ) (c : Candidate)
    → best_of script past seat ≡ Some c → (d : Candidate) × (best_of script other seat ≡ Some d) × Alike c d
best_also script past other same legal legal_other seat c is =
    let best = best_is_best script past seat c is in
    let free = waiting_is_free script past c best.takeable.0 in
    let also = free_also script past other same legal legal_other c free in (
      also.0,
      only_best script other seat also.0 (record {
        takeable = (
          free_is_waiting script other also.0 also.1,
          sym (takeable_same script past other same legal legal_other seat c also.0 also.2) ∙ best.takeable.1,
        );
        none_before = All-weaker (Contains (waiting script other)) (λ e. is_takeable script other seat e ≡ true → goes_before e also.0 ≡ false)
            (none_before best free also.0 also.1 also.2) (waiting script other) (All-contains_itself (waiting script other));
      }),
      also.2,
    )
  where
    none_before : IsBest script past seat c → IsFree script past c → (d : Candidate) → IsFree script other d → Alike c d → (e : Candidate)
        → Contains (waiting script other) e → is_takeable script other seat e ≡ true → goes_before e d ≡ false
    none_before best free d is_d alike e waits takeable =
        let is_e = waiting_is_free script other e waits in
        let back = free_also script other past (turned script past other same) legal_other legal e is_e in
        let turns : Alike back.0 e = record {
          source_is = sym back.2.source_is;
          priority_is = sym back.2.priority_is;
          inside_is = sym back.2.inside_is;
          seat_is = sym back.2.seat_is;
        } in
        sym (goes_same script past other same legal legal_other back.0 c e d back.1 free is_e is_d turns alike)
        ∙ All-contains (λ x. is_takeable script past seat x ≡ true → goes_before x c ≡ false) (waiting script past) back.0 best.none_before
        (free_is_waiting script past back.0 back.1)
        (takeable_same script past other same legal legal_other seat back.0 e turns ∙ takeable)

-- ---- who makes way

-- an element that passes the test
passing : {A : Type 0} (p : A → Bool) (xs : List A) → list_any p xs ≡ true → (x : A) × Contains xs x × (p x ≡ true)
passing p [] h = absurd cc
passing {A = A} p (y ∷ ys) h = by_test (p y) refl h (passing p ys)
  where
    by_test : (b : Bool) → p y ≡ b → (b || list_any p ys) ≡ true → (list_any p ys ≡ true → (x : A) × Contains ys x × (p x ≡ true))
        → (x : A) × Contains (y ∷ ys) x × (p x ≡ true)
    by_test true is k rest = (y, (0, omega arith, refl), is)
    by_test false is k rest = let there = rest k in (there.0, Contains-append_right (y ∷ []) ys there.0 there.1, there.2)

passes_some : {A : Type 0} (p : A → Bool) (xs : List A) (x : A) → Contains xs x → p x ≡ true → list_any p xs ≡ true
passes_some p xs x among passes = by_test (list_any p xs) refl
  where
    by_test : (b : Bool) → list_any p xs ≡ b → b ≡ true
    by_test true is = refl
    by_test false is = absurd (both_ways (p x) (AllByRecursion-contains (λ y. p y ≡ false) xs x (AllByRecursion-not_any p xs is) among) passes)

outranks_also : (script : Plan) (past other : List Entry) → SameWork script past other → IsLegal script past → IsLegal script other → (priority : Priority)
    → is_outranked script past priority ≡ true → is_outranked script other priority ≡ true
outranks_also script past other same legal legal_other priority h =
    let c = passing test (waiting script past) h in
    let also = free_also script past other same legal legal_other c.0 (waiting_is_free script past c.0 c.1) in
    passes_some test (waiting script other) also.0 (free_is_waiting script other also.0 also.1)
    (rw (← also.2.seat_is, ← also.2.priority_is) c.2)
  where
    test : Candidate → Bool
    test c = is_none c.seat && same_group (group_of script c.priority) (group_of script priority) && nat_lt (importance priority) (importance c.priority)

-- two tests that hold together are one
pub both_true : (a b : Bool) → (a ≡ true → b ≡ true) → (b ≡ true → a ≡ true) → a ≡ b
both_true true b one two = sym (one refl)
both_true false true one two = two refl
both_true false false one two = refl

-- whether a seat leaves a job is the same
pub leaves_same : (script : Plan) (past other : List Entry) → SameWork script past other → IsLegal script past → IsLegal script other → (seat j : ℕ)
    → leaves script past seat j ≡ leaves script other seat j
unfolding leaves load capacity
leaves_same script past other same legal legal_other seat j =
    rw (
      same.claims j,
      same.cancels j,
      same.phase,
      load_same script past other same (is_in script (group_of script (priority_of_job script j))),
      blocked_same script past other same (is_in script (group_of script (priority_of_job script j))),
      both_true (is_outranked script past (priority_of_job script j)) (is_outranked script other (priority_of_job script j))
          (outranks_also script past other same legal legal_other (priority_of_job script j))
          (outranks_also script other past (turned script past other same) legal_other legal (priority_of_job script j)),
    ) refl
