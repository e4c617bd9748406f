-- Where a worker may take nothing, and nothing else is against a source, there is no room for it.
-- Cited by `next_of_worker`, `open_explain`.
use Rattle.std.proofs.Common.{◌≡◌, ℕ, ◌+◌, ◌<◌, Bool, true, false, cond, List, [], length, refl, sym, ap, subst, ◌∙◌, Option, Some, None, arith}
use Rattle.std.proofs.lemmas.Bool.{eqb-true}
use Rattle.std.proofs.lemmas.List.Elements.{All-contains}
use Rattle.std.proofs.lemmas.Option.{same_Some, slice_get_within}
use Rattle.std.specs.List.{AllByRecursion}
use Rattle.std.specs.Option.{option_map_or}
use Rattle.std.specs.Prelude.{◌==◌, ◌&&◌, not, nat_lt, is_none, slice_get, Contains}
use Rattle.list_laws.specs.Lists.{holds_of}
use Rattle.list_laws.proofs.Elements.{AllByRecursion-append, AllByRecursion-contains}
use Rattle.list_laws.proofs.Finds.{find_contains}
use Rattle.list_laws.proofs.Made.{contains_not_empty}
use Rattle.list_laws.proofs.Values.{eqb-same}
use Rattle.script_model.specs.Laws.Sound.{IsSound}
use Rattle.task_base.specs.Plan.{JobPlan, Plan}
use Rattle.task_base.specs.Runners.{is_parallel, seat_of, sequence_of}
use Rattle.task_base.specs.declared.entry.Entry.{Entry}
use Rattle.task_base.specs.declared.entry.Kind.{Kind}
use Rattle.task_base.specs.declared.entry.Kind.TheVariants as kinds
use Rattle.task_base.specs.declared.source.Key.{Key}
use Rattle.task_base.specs.declared.source.TaskSource.TheVariants.{Sequence}
use Rattle.task_model.specs.Capacity.{has_room, priority_of, priority_of_job}
use Rattle.task_model.specs.Jobs.{JobPosted, claimed, has_unclaimed, is_cancelled, is_job_accepted, job_post_of, may_enter}
use Rattle.task_model.specs.Keys.{Ready, key_of}
use Rattle.task_model.specs.Past.{fold_past}
use Rattle.task_model.specs.Policies.{is_held}
use Rattle.task_model.specs.Posts.{Posted, is_taken, posted_by, posts}
use Rattle.pool_laws.specs.Posts.{InOrder, post_of}
use Rattle.task_model.specs.Refusal.{is_forbidden, is_job_forbidden}
use Rattle.task_model.specs.Seats.{runs_sequence}
use Rattle.task_model.specs.Sequences.{eligible, head_of}
use Rattle.task_model.specs.Sources.{Candidate, best_of, is_takeable, job_candidate, sequence_candidate}
use Rattle.task_model.proofs.Growth.{posts_push}
use Rattle.pool_laws.specs.Choice.{source_waiting}
use Rattle.pool_laws.specs.Keys.{IsHead}
use Rattle.pool_laws.proofs.Choice.Candidates.{free_is_waiting, job_in, sequence_in}
use Rattle.pool_laws.proofs.Choice.Least.{head_is, no_best, no_head}
use Rattle.hist_model.specs.Allowed.{IsAllowed}
use Rattle.hist_model.specs.Legal.{IsLegal}
use Rattle.hist_model.proofs.Laws.Legal.{legal_induction}
use Rattle.hist_model.proofs.Laws.Order.Keys.{among_eligible}
use Rattle.hist_model.proofs.Laws.Postings.Once.{each_is_accepted_once}
use Rattle.pool_core.specs.Pasts.{IsDeclared}
use Rattle.pool_core.proofs.Accepted.{one_post}
use Rattle.pool_core.proofs.Lines.{sequence_there}
use Rattle.env_core.proofs.Declared.{post_is_sound}
use Rattle.past_lookup.specs.Runners.{is_others}
use Rattle.next_entry.specs.Bars.{bar_of, has_place, is_room_for, job_bar, posted_bar, task_bar}
use Rattle.next_entry.specs.Causes.{IsBarred}
use Rattle.next_entry.specs.declared.cause.Bar.{Bar}
use Rattle.next_entry.specs.declared.cause.Bar.TheVariants as bars

-- Accepted tasks are declared, and so are their runners.

-- what an entry that may come adds is declared
added : (script : Plan) (past : List Entry) (seat : ℕ) (kind : Kind) → IsSound script → IsLegal script past
    → IsAllowed script past (record { seat = seat; kind = kind }) → AllByRecursion (IsDeclared script) (posted_by past kind)
added script past seat (kinds.Post task runner delay true) sound legal allowed =
    let posted = post_is_sound script past seat task runner delay true sound legal allowed in ((posted.1, posted.0), tt)
added script past seat (kinds.Post task runner delay false) sound legal allowed = tt
added script past seat kind sound legal allowed = tt

none_at_first : (script : Plan) → AllByRecursion (IsDeclared script) (posts [])
unfolding posts fold_past
none_at_first script = tt

are_declared : (script : Plan) (past : List Entry) → IsSound script → IsLegal script past → AllByRecursion (IsDeclared script) (posts past)
are_declared script past sound = legal_induction script (λ before. AllByRecursion (IsDeclared script) (posts before)) (none_at_first script)
    (λ before e legal allowed all. subst (AllByRecursion (IsDeclared script)) (sym (posts_push before e))
    (AllByRecursion-append (IsDeclared script) (posts before) (posted_by before e.kind) all (added script before e.seat e.kind sound legal allowed))) past

-- Each accepted task was posted once, and is declared, as is its runner.
module _ (script : Plan) (past : List Entry) (in_order : InOrder (posts past)) (all : AllByRecursion (IsDeclared script) (posts past)) where
  declared : (p : Posted) → Contains (posts past) p → IsDeclared script p
  declared p among = AllByRecursion-contains (IsDeclared script) (posts past) p all among

  -- tasks of one sequence are of one runner
  one_home : (p q : Posted) → Contains (posts past) p → Contains (posts past) q
      → sequence_of script p.home p.task ≡ sequence_of script q.home q.task → p.home ≡ q.home
  one_home p q first second same =
      by_test (holds_of (λ r. is_parallel r.kind) (slice_get script.runners p.home)) (holds_of (λ r. is_parallel r.kind) (slice_get script.runners q.home)) same
    where
      p_there : p.home < length script.runners
      p_there = (declared p first).0

      q_there : q.home < length script.runners
      q_there = (declared q second).0

      of_one : p.task ≡ q.task → p.home ≡ q.home
      of_one is = ap (λ (x : Posted). x.home) (same_Some p q (sym (one_post past p in_order first) ∙ ap (post_of past) is ∙ one_post past q in_order second))

      by_test : (a b : Bool) → cond a (length script.runners + p.task) p.home ≡ cond b (length script.runners + q.task) q.home → p.home ≡ q.home
      by_test true true is = of_one (omega (arith, is))
      by_test true false is = absurd (omega (arith, is, q_there))
      by_test false true is = absurd (omega (arith, is, p_there))
      by_test false false is = is

  -- What is left where nothing else is against a task.

  -- none of the causes before the limits is against the task
  record IsFree (seat : ℕ) (p : Posted) : Type 0 where
    not_taken : is_taken past p.task ≡ false
    allowed : is_forbidden script past p ≡ false
    ripe : is_none (key_of past p) ≡ false
    idle : runs_sequence script past (sequence_of script p.home p.task) ≡ false
    not_others : is_others script seat p.home ≡ false
    not_held : is_held past (priority_of script past p.home) ≡ false

  is_free : (seat : ℕ) (p : Posted) → posted_bar script past seat p ≡ bars.Limit → IsFree seat p
  is_free seat p is = by_taken (is_taken past p.task) (is_forbidden script past p) (is_none (key_of past p))
      (runs_sequence script past (sequence_of script p.home p.task)) (is_others script seat p.home) (is_held past (priority_of script past p.home))
      refl refl refl refl refl refl is
    where
      by_taken : (a b c d e f : Bool) → is_taken past p.task ≡ a → is_forbidden script past p ≡ b → is_none (key_of past p) ≡ c
          → runs_sequence script past (sequence_of script p.home p.task) ≡ d → is_others script seat p.home ≡ e
          → is_held past (priority_of script past p.home) ≡ f
          → cond a bars.Taken (cond b bars.Forbidden (cond c bars.Unripe (cond d bars.Busy (cond e bars.OtherSeat (cond f bars.Held bars.Limit))))) ≡ bars.Limit
          → IsFree seat p
      by_taken true b c d e f ta fo ri id ot he is = absurd cc
      by_taken false true c d e f ta fo ri id ot he is = absurd cc
      by_taken false false true d e f ta fo ri id ot he is = absurd cc
      by_taken false false false true e f ta fo ri id ot he is = absurd cc
      by_taken false false false false true f ta fo ri id ot he is = absurd cc
      by_taken false false false false false true ta fo ri id ot he is = absurd cc
      by_taken false false false false false false ta fo ri id ot he is =
          record { not_taken = ta; allowed = fo; ripe = ri; idle = id; not_others = ot; not_held = he }

-- none of the causes before the limits is against a job
pub record IsFreeJob (script : Plan) (past : List Entry) (j : ℕ) : Type 0 where
  pub accepted : is_job_accepted past j ≡ true
  pub some : has_unclaimed script past j ≡ true
  pub not_held : is_held past (priority_of_job script j) ≡ false
  pub may : may_enter script past j ≡ true

pub job_is_free : (script : Plan) (past : List Entry) (j : ℕ) → job_bar script past j ≡ bars.Limit → IsFreeJob script past j
unfolding may_enter
job_is_free script past j is = by_job_accepted (is_job_accepted past j) (is_cancelled past j) (is_job_forbidden script past j) (has_unclaimed script past j)
    (has_place script past j) (is_held past (priority_of_job script j)) refl refl refl refl refl refl is
  where
    by_job_accepted : (a b c d e f : Bool) → is_job_accepted past j ≡ a → is_cancelled past j ≡ b → is_job_forbidden script past j ≡ c
        → has_unclaimed script past j ≡ d → has_place script past j ≡ e → is_held past (priority_of_job script j) ≡ f
        → cond (not a) bars.Unaccepted (cond b bars.Cancelled (cond c bars.Forbidden
        (cond (not d) bars.Claimed (cond (not e) bars.Full (cond f bars.Held bars.Limit))))) ≡ bars.Limit
        → IsFreeJob script past j
    by_job_accepted false b c d e f ac ca fo un fu he is = absurd cc
    by_job_accepted true true c d e f ac ca fo un fu he is = absurd cc
    by_job_accepted true false true d e f ac ca fo un fu he is = absurd cc
    by_job_accepted true false false false e f ac ca fo un fu he is = absurd cc
    by_job_accepted true false false true false f ac ca fo un fu he is = absurd cc
    by_job_accepted true false false true true true ac ca fo un fu he is = absurd cc
    by_job_accepted true false false true true false ac ca fo un fu he is =
        record { accepted = ac; some = un; not_held = he; may = rw (ac, ca, fo, un) fu }

-- a test and another that holds fail together by the first
first_fails : (a b : Bool) → (a && b) ≡ false → b ≡ true → a ≡ false
first_fails true b fails holds = sym holds ∙ fails
first_fails false b fails holds = refl

-- what is not another seat's is this seat's, or any one's
ones_own : (seat : ℕ) (only : Option ℕ) → holds_of (λ s. not (s == seat)) only ≡ false → option_map_or (λ s. s == seat) only true ≡ true
ones_own seat None is = refl
ones_own seat (Some s) is = by_seat (s == seat) is
  where
    by_seat : (b : Bool) → not b ≡ false → b ≡ true
    by_seat true is = refl
    by_seat false is = absurd cc

module _ (script : Plan) (past : List Entry) (in_order : InOrder (posts past)) (all : AllByRecursion (IsDeclared script) (posts past)) (seat : ℕ)
    (none : best_of script past seat ≡ None) where
  -- what would wait, is not held back and is no other seat's finds no room
  no_room_for : (c : Candidate) → source_waiting script past c.source ≡ Some c → is_held past c.priority ≡ false
      → option_map_or (λ s. s == seat) c.seat true ≡ true → has_room script past c.priority ≡ false
  no_room_for c waits free own = first_fails (has_room script past c.priority) (option_map_or (λ s. s == seat) c.seat true)
      (All-contains (λ d. is_takeable script past seat d ≡ false) _ c (no_best script past seat none)
      (free_is_waiting script past c (record { candidate = waits; not_held = free }))) own

  -- of a sequence with this head
  by_head : (p : Posted) → Contains (posts past) p → IsFree script past in_order all seat p → (head : Ready)
      → head_of script past (sequence_of script p.home p.task) ≡ Some head → has_room script past (priority_of script past p.home) ≡ false
  by_head p among free head head_is_it =
      let s = sequence_of script p.home p.task in
      let is : IsHead script past s head = head_is script past s head head_is_it in
      let home : head.posted.home ≡ p.home = one_home script past in_order all head.posted p is.accepted among
      (eqb-true (sequence_of script head.posted.home head.posted.task) s is.of_sequence) in
      let c : Candidate = sequence_candidate script past s head in
      let known = declared script past in_order all p among in
      let waits : source_waiting script past (Sequence s) ≡ Some c =
      sequence_in script past s (sequence_there script p.home p.task known.0 known.1) ∙ rw (free.idle, head_is_it) refl in
      ap (λ h. has_room script past (priority_of script past h)) (sym home)
      ∙ no_room_for c waits (ap (λ h. is_held past (priority_of script past h)) home ∙ free.not_held)
      (ap (λ h. option_map_or (λ s. s == seat) (seat_of script h) true) home ∙ ones_own seat (seat_of script p.home) free.not_others)

  -- of the sequence of such a task
  no_room_posted : (p : Posted) → Contains (posts past) p → IsFree script past in_order all seat p
      → has_room script past (priority_of script past p.home) ≡ false
  no_room_posted p among free = keyed (key_of past p) refl free.ripe
    where
      s : ℕ
      s = sequence_of script p.home p.task

      headed : (key : Key) → key_of past p ≡ Some key → (o : Option Ready) → head_of script past s ≡ o
          → has_room script past (priority_of script past p.home) ≡ false
      headed key is None empty = absurd (contains_not_empty (eligible script past s) (record { posted = p; key = key })
          (among_eligible script past s p key among is (eqb-same s) free.not_taken free.allowed) (no_head script past s empty))
      headed key is (Some head) some = by_head p among free head some

      keyed : (o : Option Key) → key_of past p ≡ o → is_none o ≡ false → has_room script past (priority_of script past p.home) ≡ false
      keyed None is ripe = absurd cc
      keyed (Some key) is ripe = headed key is (head_of script past s) refl

  no_room_task : (task runner : ℕ) → task_bar script past seat task runner ≡ bars.Limit → has_room script past (priority_of script past runner) ≡ false
  no_room_task task runner is = by_post (post_of past task) refl is
    where
      at_home : (p : Posted) → post_of past task ≡ Some p → (b : Bool) → (p.home == runner) ≡ b
          → cond b (posted_bar script past seat p) bars.Unaccepted ≡ bars.Limit → has_room script past (priority_of script past runner) ≡ false
      at_home p posted true same is = ap (λ r. has_room script past (priority_of script past r)) (sym (eqb-true p.home runner same))
          ∙ no_room_posted p (find_contains (λ q. q.task == task) (posts past) p posted) (is_free script past in_order all seat p is)
      at_home p posted false same is = absurd cc

      by_post : (o : Option Posted) → post_of past task ≡ o
          → option_map_or (λ p. cond (p.home == runner) (posted_bar script past seat p) bars.Unaccepted) o bars.Unaccepted ≡ bars.Limit
          → has_room script past (priority_of script past runner) ≡ false
      by_post None posted is = absurd cc
      by_post (Some p) posted is = at_home p posted (p.home == runner) refl is

  -- What is left where nothing else is against a job.

  -- a job that has an unclaimed item is declared
  job_there : (j : ℕ) → has_unclaimed script past j ≡ true → j < length script.jobs
  job_there j some = by_job (slice_get script.jobs j) refl some
    where
      by_job : (o : Option JobPlan) → slice_get script.jobs j ≡ o → nat_lt (claimed past j) (option_map_or (λ job. job.items) o 0) ≡ true
          → j < length script.jobs
      by_job None is less = absurd (grind arith)
      by_job (Some job) is less = slice_get_within script.jobs j job is

  -- a job that may be entered, and is not held back, finds no room
  no_room_job : (j : ℕ) → may_enter script past j ≡ true → has_unclaimed script past j ≡ true → is_held past (priority_of_job script j) ≡ false
      → (o : Option JobPosted) → job_post_of past j ≡ o → holds_of (λ p. p.ok) o ≡ true → has_room script past (priority_of_job script j) ≡ false
  no_room_job j may some free None is ok = absurd cc
  no_room_job j may some free (Some p) is ok =
      no_room_for (job_candidate script past j p) (job_in script past j (job_there j some) ∙ rw (may, is) refl) free refl

  no_room_at_job : (j : ℕ) → job_bar script past j ≡ bars.Limit → has_room script past (priority_of_job script j) ≡ false
  no_room_at_job j is =
      let free = job_is_free script past j is in no_room_job j free.may free.some free.not_held (job_post_of past j) refl free.accepted

  no_room : (kind : Kind) → bar_of script past seat kind ≡ bars.Limit → is_room_for script past kind ≡ false
  no_room (kinds.Take task runner found) is = no_room_task task runner is
  no_room (kinds.JobTake job id item) is = no_room_at_job job is
  no_room kind is = absurd cc

  -- so what is found to be against an entry's take is so
  pub barred_there : (kind : Kind) (bar : Bar) → bar ≡ bar_of script past seat kind → IsBarred script past seat (Some kind) bar
  barred_there kind bar is = record {
    first = ap (λ (b : Bar). Some b) (sym is);
    no_room = λ limit. no_room kind (sym is ∙ limit);
  }

-- the same of a sound script after a legal past
pub barred : (script : Plan) (past : List Entry) → IsSound script → IsLegal script past → (seat : ℕ) → best_of script past seat ≡ None
    → (kind : Kind) (bar : Bar) → bar ≡ bar_of script past seat kind → IsBarred script past seat (Some kind) bar
barred script past sound legal seat none =
    barred_there script past (each_is_accepted_once script past sound.once.posted_once legal).pool (are_declared script past sound legal) seat none
