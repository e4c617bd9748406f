-- What a worker takes next, by the situation.
-- Cited by `After`, `Ways`.
use Rattle.std.proofs.Common.{◌≡◌, ℕ, suc, Bool, true, false, cond, eqb, List, [], ◌∷◌, ◌++◌, length, map, refl, sym, ap, ◌∙◌, Option, Some, None, arith}
use Rattle.std.proofs.Common.{⊎_elim}
use Rattle.std.specs.Prelude.{◌&&◌, ◌||◌, not, nat_lt, nat_le, is_none, filter, find, Contains}
use Rattle.std.specs.Option.{option_map, option_map_or}
use Rattle.std.specs.List.{AllByRecursion, list_any, filter_map, range_with_len}
use Rattle.std.proofs.lemmas.Bool.{cases_lt, lt-ltb, le-ltb, true≢false}
use Rattle.std.proofs.lemmas.List.{map-append}
use Rattle.std.proofs.lemmas.Option.{none-some, same_Some}
use Rattle.task_base.specs.Groups.{importance, group_of, same_group}
use Rattle.task_base.specs.Keys.{key_below}
use Rattle.task_base.specs.Plan.{Plan}
use Rattle.task_base.specs.Policy.{is_held_back}
use Rattle.task_base.specs.Runners.{seat_of, sequence_count}
use Rattle.task_base.specs.declared.entry.Entry.{Entry}
use Rattle.task_base.specs.declared.source.TaskSource.TheVariants.{Sequence, Job}
use Rattle.task_traits.specs.declared.traits.Priority.{Priority}
use Rattle.list_laws.specs.Lists.{Ranks, holds_of, least, least_from}
use Rattle.list_laws.specs.Sorts.{Rises}
use Rattle.list_laws.proofs.Counts.{filter_length_congr}
use Rattle.list_laws.proofs.Elements.{AllByRecursion-contains, AllByRecursion-contains_itself, AllByRecursion-filter, AllByRecursion-map}
use Rattle.list_laws.proofs.Filters.{filter-map, filter_congr, filter_map-option_map, filter_map_congr}
use Rattle.list_laws.proofs.Finds.{find_contains}
use Rattle.list_laws.proofs.Tests.{list_any_congr}
use Rattle.task_model.specs.Policies.{is_held}
use Rattle.task_model.specs.Keys.{Ready, key_at}
use Rattle.task_model.specs.Seats.{Running, running, Holding, holding, all_seats, worker_seats, runs_of, runs_sequence, inside}
use Rattle.task_model.specs.Sequences.{head_of}
use Rattle.task_model.specs.Capacity.{OpenScope, open_scope, scope_counts, priority_of_holding, priority_of_job, work_at, load_of, load, best_load}
use Rattle.task_model.specs.Capacity.{is_in, is_best_in}
use Rattle.task_model.specs.Capacity.{is_blocked, blocked_of, capacity, best_capacity, has_room}
use Rattle.task_model.specs.Jobs.{JobPosted, job_post_of, is_job_accepted, done, may_enter}
use Rattle.task_model.specs.Sources.{Candidate, sequence_candidate, sequence_waiting, job_waiting, would_wait, waiting, goes_before, is_takeable, best_of}
use Rattle.task_model.specs.Sources.{is_outranked, leaves}
use Rattle.pool_laws.specs.Choice.{IsFree}
use Rattle.pool_laws.proofs.Choice.Candidates.{waiting_is_free}
use Rattle.pool_laws.proofs.Choice.Least.{ranks_key}
use Rattle.hist_model.specs.Legal.{IsLegal}
use Rattle.hist_model.proofs.Laws.Claims.{claimed_is}
use Rattle.hist_model.proofs.Laws.Rising.{legal_rises}
use Rattle.situation.specs.Line.{TaskStands, standing, standing_key, stands_before, line_of, waits_at, waiter_of}
use Rattle.situation.specs.Situation.{Situation, counts_from}
use Rattle.situation.proofs.Choice.{counts_by_moment, key_is_first}
use Rattle.situation.proofs.Line.{first_of_sequence, found_map, standing_rises}
use Rattle.log_count.specs.Parts.{taken_in, scope_in, job_in, reply_in, runs_in}
use Rattle.log_count.specs.Sources.{runs_sequence_in, inside_in, work_in, load_in, blocked_in, has_room_for, done_in, may_enter_in, place_of, sequence_by}
use Rattle.log_count.specs.Sources.{sequence_waits_in, job_waits_in, waiting_in, best_in, leaves_in}
use Rattle.log_count.proofs.Shows.{Shows}

-- ---- places in a list that rises

below_both : (m n : ℕ) → nat_lt (suc m) (suc n) ≡ nat_lt m n
below_both m n = ⊎_elim (λ less. lt-ltb (suc m) (suc n) (omega (arith, less)) ∙ sym (lt-ltb m n less))
    (λ more. le-ltb (suc m) (suc n) (omega (arith, more)) ∙ sym (le-ltb m n more)) (cases_lt m n)

places_rise : {A B : Type 0} (below : A → A → Bool) (f : A → B) (t u : B → Bool) (xs : List A) → Ranks below → Rises below xs
    → (a b : A) → find (λ x. t (f x)) xs ≡ Some a → find (λ x. u (f x)) xs ≡ Some b
    → nat_lt (place_of t (map f xs)) (place_of u (map f xs)) ≡ below a b
places_rise below f t u [] ranks rises a b is_a is_b = absurd (none-some a is_a)
places_rise {A = A} below f t u (x ∷ xs) ranks rises a b is_a is_b =
    by_test (t (f x)) (u (f x)) (places_rise below f t u xs ranks rises.1 a b) is_a is_b
  where
    later : (test : A → Bool) (e : A) → find test xs ≡ Some e → below x e ≡ true
    later test e is = AllByRecursion-contains (λ w. below x w ≡ true) xs e rises.0 (find_contains test xs e is)

    by_test : (p q : Bool)
        → (find (λ z. t (f z)) xs ≡ Some a → find (λ z. u (f z)) xs ≡ Some b → nat_lt (place_of t (map f xs)) (place_of u (map f xs)) ≡ below a b)
        → cond p (Some x) (find (λ z. t (f z)) xs) ≡ Some a → cond q (Some x) (find (λ z. u (f z)) xs) ≡ Some b
        → nat_lt (cond p 0 (suc (place_of t (map f xs)))) (cond q 0 (suc (place_of u (map f xs)))) ≡ below a b
    by_test true true more is_a is_b = rw (← same_Some x a is_a, ← same_Some x b is_b, ranks.itself x) refl
    by_test true false more is_a is_b =
        lt-ltb 0 (suc (place_of u (map f xs))) (omega arith) ∙ rw (← same_Some x a is_a, later (λ z. u (f z)) b is_b) refl
    by_test false true more is_a is_b =
        le-ltb (suc (place_of t (map f xs))) 0 (omega arith) ∙ rw (← same_Some x b is_b, ranks.one_way x a (later (λ z. t (f z)) a is_a)) refl
    by_test false false more is_a is_b = below_both (place_of t (map f xs)) (place_of u (map f xs)) ∙ more is_a is_b

-- keys that are places are in the order of the places
key_at_below : (m n : ℕ) → key_below (key_at m) (key_at n) ≡ nat_lt m n
key_at_below m n = by_tests (nat_lt m n) (eqb m n)
  where
    by_tests : (p q : Bool) → (p || (q && p)) ≡ p
    by_tests true q = refl
    by_tests false true = refl
    by_tests false false = refl

-- ---- the least of a list whose elements are changed in a way that the order doesn't see among them

module _ {A B : Type 0} (below : A → A → Bool) (above : B → B → Bool) (g : A → B) (P : A → Type 0)
    (same : (a b : A) → P a → P b → above (g a) (g b) ≡ below a b) where
  least_from_seen : (x : A) (xs : List A) → P x → AllByRecursion P xs → least_from above (g x) (map g xs) ≡ g (least_from below x xs)
  least_from_seen x [] here all = refl
  least_from_seen x (y ∷ xs) here all = by_test (below y x) (same y x all.0 here) (λ z at. least_from_seen z xs at all.1)
    where
      by_test : (b : Bool) → above (g y) (g x) ≡ b → ((z : A) → P z → least_from above (g z) (map g xs) ≡ g (least_from below z xs))
          → least_from above (cond (above (g y) (g x)) (g y) (g x)) (map g xs) ≡ g (least_from below (cond b y x) xs)
      by_test true is later = ap (λ b. least_from above (cond b (g y) (g x)) (map g xs)) is ∙ later y all.0
      by_test false is later = ap (λ b. least_from above (cond b (g y) (g x)) (map g xs)) is ∙ later x here

  least_seen : (xs : List A) → AllByRecursion P xs → least above (map g xs) ≡ option_map g (least below xs)
  least_seen [] all = refl
  least_seen (x ∷ xs) all = ap Some (least_from_seen x xs all.0 all.1)

any_mapped : {A B : Type 0} (test : B → Bool) (f : A → B) (xs : List A) → list_any test (map f xs) ≡ list_any (λ x. test (f x)) xs
any_mapped test f [] = refl
any_mapped test f (x ∷ xs) = ap (λ b. test (f x) || b) (any_mapped test f xs)

module _ (script : Plan) (past : List Entry) (s : Situation) (shown : Shows script past s) where
  -- ---- seats

  runs_sequence_is : (q : ℕ) → runs_sequence script past q ≡ runs_sequence_in script s q
  unfolding runs_sequence runs_sequence_in
  runs_sequence_is q = list_any_congr (λ seat. holds_of (runs_of script q) (running past seat)) (λ seat. holds_of (runs_of script q) (runs_in s seat))
      (all_seats script) (λ seat. ap (holds_of (runs_of script q)) (shown.runs seat))

  pub inside_is : (j : ℕ) → inside script past j ≡ inside_in script s j
  unfolding inside inside_in
  inside_is j = filter_congr (λ seat. holds_of (λ h. eqb h.job j) (holding past seat)) (λ seat. holds_of (λ job. eqb job j) (job_in s seat))
      (all_seats script) (λ seat. through (holding past seat) ∙ ap (holds_of (λ job. eqb job j)) (shown.held seat))
    where
      through : (o : Option Holding) → holds_of (λ h. eqb h.job j) o ≡ holds_of (λ n. eqb n j) (option_map (λ h. h.job) o)
      through None = refl
      through (Some h) = refl

  work_is : (seat : ℕ) → work_at script past seat ≡ work_in script s seat
  work_is seat = by_running (running past seat) refl
    where
      through : (o : Option Holding) → priority_of_holding script o ≡ option_map (priority_of_job script) (option_map (λ (h : Holding). h.job) o)
      through None = refl
      through (Some h) = refl

      by_running : (o : Option Running) → running past seat ≡ o → work_at script past seat ≡ work_in script s seat
      by_running None is = rw (is, sym (shown.runs seat) ∙ is) (through (holding past seat) ∙ ap (option_map (priority_of_job script)) (shown.held seat))
      by_running (Some w) is = let here = rw is at (shown.taken seat) in rw (is, sym (shown.runs seat) ∙ is) here

  load_is : (test : Priority → Bool) → load_of script past test ≡ load_in script s test
  unfolding load_in
  load_is test = filter_length_congr (λ seat. holds_of test (work_at script past seat)) (λ seat. holds_of test (work_in script s seat))
      (worker_seats script) (λ seat. ap (holds_of test) (work_is seat))

  blocked_is : (test : Priority → Bool) → blocked_of script past test ≡ blocked_in script s test
  unfolding blocked_in
  blocked_is test = filter_length_congr (is_blocked script past test)
      (λ seat. holds_of test (taken_in s seat) && holds_of (λ from. nat_le from s.now) (scope_in s seat)) (worker_seats script) at_seat
    where
      counts : (o : Option OpenScope) → holds_of (scope_counts script past) o
          ≡ holds_of (λ n. nat_le n s.now) (option_map (counts_from script past) o)
      counts None = refl
      counts (Some o) = counts_by_moment script past o ∙ ap (nat_le (counts_from script past o)) shown.now

      at_seat : (seat : ℕ) → is_blocked script past test seat
          ≡ (holds_of test (taken_in s seat) && holds_of (λ from. nat_le from s.now) (scope_in s seat))
      at_seat seat = by_running (running past seat) refl
        where
          by_running : (o : Option Running) → running past seat ≡ o
              → is_blocked script past test seat ≡ (holds_of test (taken_in s seat) && holds_of (λ from. nat_le from s.now) (scope_in s seat))
          by_running None is = let here = rw is at (shown.taken seat) in rw (is, ← here) refl
          by_running (Some w) is =
              let priority = rw is at (shown.taken seat) in
              let scope = rw is at (shown.scopes seat) in
              rw (is, priority, counts (open_scope past w.task), scope) refl

  room_is : (priority : Priority) → has_room script past priority ≡ has_room_for script s priority
  unfolding has_room load capacity best_load best_capacity has_room_for
  room_is priority = rw (
    load_is (is_in script (group_of script priority)),
    load_is (is_best_in script (group_of script priority)),
    blocked_is (is_in script (group_of script priority)),
    blocked_is (is_best_in script (group_of script priority)),
  ) refl

  -- ---- jobs

  pub accepted_is : (j : ℕ) → is_job_accepted past j ≡ holds_of (λ ok. ok) (reply_in s j)
  accepted_is j = through (job_post_of past j) ∙ ap (holds_of (λ b. b)) (shown.replies j)
    where
      through : (o : Option JobPosted) → holds_of (λ p. p.ok) o ≡ holds_of (λ b. b) (option_map (λ (p : JobPosted). p.ok) o)
      through None = refl
      through (Some p) = refl

  module _ (legal : IsLegal script past) where
    pub done_is : (j : ℕ) → done past j ≡ done_in script s j
    done_is j = omega (arith, claimed_is script past j legal, shown.claims j, ap length (inside_is j))

    pub may_enter_is : (j : ℕ) → may_enter script past j ≡ may_enter_in script s j
    unfolding may_enter may_enter_in
    may_enter_is j = rw (accepted_is j, shown.cancels j, shown.phase, shown.claims j, inside_is j, done_is j) refl

    -- ---- what waits

    -- who stands first of a sequence is its head
    pub first_is : (q : ℕ) → find (waits_at script (Sequence q)) s.line ≡ option_map (λ r. waiter_of (TaskStands r)) (head_of script past q)
    unfolding line_of
    first_is q =
        ap (find (waits_at script (Sequence q))) (sym shown.line)
        ∙ sym (found_map waiter_of (waits_at script (Sequence q)) (standing script past))
        ∙ ap (option_map waiter_of) (first_of_sequence script past q (legal_rises script past legal).arrivals_are_ready)
        ∙ twice (head_of script past q)
      where
        twice : (o : Option Ready) → option_map waiter_of (option_map TaskStands o) ≡ option_map (λ r. waiter_of (TaskStands r)) o
        twice None = refl
        twice (Some r) = refl

    -- a candidate with its place in the line as its key
    abbrev pub by_place : Candidate → Candidate
    by_place c = record {
      source = c.source;
      priority = c.priority;
      inside = c.inside;
      key = key_at (place_of (waits_at script c.source) s.line);
      seat = c.seat;
    }

    sequence_is : (q : ℕ) → sequence_waits_in script s q ≡ option_map by_place (sequence_waiting script past q)
    sequence_is q = rw (← runs_sequence_is q, first_is q) (by_runs (runs_sequence script past q) (head_of script past q))
      where
        by_runs : (b : Bool) (o : Option Ready)
            → cond b None (option_map (sequence_by script s q) (option_map (λ r. waiter_of (TaskStands r)) o))
            ≡ option_map by_place (cond b None (option_map (sequence_candidate script past q) o))
        by_runs true o = refl
        by_runs false None = refl
        by_runs false (Some r) = ap (λ (p : Priority). Some (record {
          source = Sequence q;
          priority = p;
          inside = 0;
          key = key_at (place_of (waits_at script (Sequence q)) s.line);
          seat = seat_of script r.posted.home;
        })) (sym (shown.priorities r.posted.home))

    -- a job that was not posted may not be entered
    never_entered : (j : ℕ) → job_post_of past j ≡ None → may_enter script past j ≡ true → ⊥
    unfolding may_enter
    never_entered j none may = true≢false (sym may ∙ rw none refl)

    job_is : (j : ℕ) → job_waits_in script s j ≡ option_map by_place (job_waiting script past j)
    job_is j = rw (← may_enter_is j, ← inside_is j) (by_enter (may_enter script past j) refl (job_post_of past j) refl)
      where
        here : Candidate
        here = record {
          source = Job j;
          priority = priority_of_job script j;
          inside = length (inside script past j);
          key = key_at (place_of (waits_at script (Job j)) s.line);
          seat = None;
        }

        by_enter : (b : Bool) → may_enter script past j ≡ b → (o : Option JobPosted) → job_post_of past j ≡ o
            → cond b (Some here) None ≡ option_map by_place (cond b (option_map (λ (p : JobPosted). record {
              source = Job j;
              priority = priority_of_job script j;
              inside = length (inside script past j);
              key = key_at p.place;
              seat = None;
            }) o) None)
        by_enter true may (Some p) is = refl
        by_enter true may None is = absurd (never_entered j is may)
        by_enter false may o is = refl

    waiting_is : waiting_in script s ≡ map by_place (waiting script past)
    unfolding waiting would_wait waiting_in
    waiting_is =
        ap (filter not_held) (ap (λ xs. xs ++ filter_map (job_waits_in script s) jobs) (filter_map_congr (sequence_waits_in script s)
        (λ q. option_map by_place (sequence_waiting script past q)) sequences sequence_is
        ∙ filter_map-option_map (sequence_waiting script past) by_place sequences)
        ∙ ap (λ xs. map by_place (filter_map (sequence_waiting script past) sequences) ++ xs) (filter_map_congr (job_waits_in script s)
        (λ j. option_map by_place (job_waiting script past j)) jobs job_is ∙ filter_map-option_map (job_waiting script past) by_place jobs)
        ∙ sym (map-append by_place (filter_map (sequence_waiting script past) sequences) (filter_map (job_waiting script past) jobs)))
        ∙ filter-map not_held by_place all
        ∙ ap (map by_place) (filter_congr (λ c. not (is_held_back s.phase s.policy c.priority)) (λ c. not (is_held past c.priority)) all
        (λ c. rw (shown.phase, shown.policy) refl))
      where
        sequences : List ℕ
        sequences = range_with_len 0 (sequence_count script)

        jobs : List ℕ
        jobs = range_with_len 0 (length script.jobs)

        not_held : Candidate → Bool
        not_held c = not (is_held_back s.phase s.policy c.priority)

        all : List Candidate
        all = filter_map (sequence_waiting script past) sequences ++ filter_map (job_waiting script past) jobs

    -- ---- the best

    keys_are : (a b : Candidate) → IsFree script past a → IsFree script past b → key_below (by_place a).key (by_place b).key ≡ key_below a.key b.key
    unfolding line_of
    keys_are a b free_a free_b =
        let x = key_is_first script past legal a.source a free_a.candidate in
        let y = key_is_first script past legal b.source b free_b.candidate in
        key_at_below (place_of (waits_at script a.source) s.line) (place_of (waits_at script b.source) s.line)
        ∙ ap (λ ws. nat_lt (place_of (waits_at script a.source) ws) (place_of (waits_at script b.source) ws)) (sym shown.line)
        ∙ places_rise stands_before waiter_of (waits_at script a.source) (waits_at script b.source) (standing script past) (ranks_key standing_key)
        (standing_rises script past) x.0 y.0 x.1 y.1
        ∙ ap (λ k. key_below k (standing_key y.0)) (sym x.2) ∙ ap (key_below a.key) (sym y.2)

    goes_is : (a b : Candidate) → IsFree script past a → IsFree script past b → goes_before (by_place a) (by_place b) ≡ goes_before a b
    goes_is a b free_a free_b = ap (λ k. nat_lt (importance b.priority) (importance a.priority)
        || (eqb (importance b.priority) (importance a.priority) && (nat_lt a.inside b.inside || (eqb a.inside b.inside && k)))) (keys_are a b free_a free_b)

    all_free : AllByRecursion (IsFree script past) (waiting script past)
    all_free = AllByRecursion-map (Contains (waiting script past)) (IsFree script past) (waiting script past) (waiting_is_free script past)
        (AllByRecursion-contains_itself (waiting script past))

    pub best_is : (seat : ℕ) → best_in script s seat ≡ option_map by_place (best_of script past seat)
    unfolding best_of best_in
    best_is seat =
        ap (λ cs. least goes_before (filter may_take cs)) waiting_is
        ∙ ap (least goes_before) (filter-map may_take by_place (waiting script past)
        ∙ ap (map by_place) (filter_congr (λ c. may_take (by_place c)) (is_takeable script past seat) (waiting script past)
        (λ c. ap (λ b. b && option_map_or (λ only. eqb only seat) c.seat true) (sym (room_is c.priority)))))
        ∙ least_seen goes_before goes_before by_place (IsFree script past) goes_is (filter (is_takeable script past seat) (waiting script past))
        (AllByRecursion-filter (IsFree script past) (is_takeable script past seat) (waiting script past) all_free)
      where
        may_take : Candidate → Bool
        may_take c = has_room_for script s c.priority && option_map_or (λ only. eqb only seat) c.seat true

    -- ---- who leaves a job

    outranked_is : (priority : Priority) → is_outranked script past priority
        ≡ list_any (λ c. is_none c.seat && same_group (group_of script c.priority) (group_of script priority)
        && nat_lt (importance priority) (importance c.priority)) (waiting_in script s)
    outranked_is priority = sym (ap (list_any test) waiting_is ∙ any_mapped test by_place (waiting script past))
      where
        test : Candidate → Bool
        test c = is_none c.seat && same_group (group_of script c.priority) (group_of script priority) && nat_lt (importance priority) (importance c.priority)

    pub leaves_is : (seat j : ℕ) → leaves script past seat j ≡ leaves_in script s seat j
    unfolding leaves load capacity leaves_in
    leaves_is seat j = rw (
      shown.claims j,
      shown.cancels j,
      shown.phase,
      load_is (is_in script (group_of script (priority_of_job script j))),
      blocked_is (is_in script (group_of script (priority_of_job script j))),
      outranked_is (priority_of_job script j),
    ) refl
