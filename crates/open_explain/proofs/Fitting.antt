-- A call may be made exactly where nothing that it asks for fails.
-- Cited by `Causes`, `laws.rt`.
use Rattle.std.proofs.Common.{◌≡◌, ℕ, ◌≤◌, Bool, true, false, cond, List, length, Option, Some, None, refl, sym, ap}
use Rattle.std.proofs.lemmas.Bool.{le-leb}
use Rattle.std.specs.Option.{option_map, option_map_or, option_or}
use Rattle.std.specs.Prelude.{◌==◌, ◌&&◌, IfSome, not, nat_le, nat_lt, is_none, is_some}
use Rattle.list_laws.specs.Lists.{holds_of}
use Rattle.task_base.specs.Plan.{Plan}
use Rattle.task_base.specs.declared.entry.Entry.{Entry}
use Rattle.task_base.specs.declared.entry.Kind.{Kind}
use Rattle.task_base.specs.declared.entry.Kind.TheVariants as kinds
use Rattle.script_model.specs.Draft.{is_voter, may_block_on}
use Rattle.task_model.specs.Capacity.{open_scope}
use Rattle.task_model.specs.Jobs.{is_cancelled, job_post_of}
use Rattle.task_model.specs.Phase.{is_started, phase_of}
use Rattle.task_model.specs.Seats.{Holding, Running, holding, is_free, running}
use Rattle.hist_model.specs.Allowed.{by_own_step, may_post}
use Rattle.hist_model.specs.Open.{is_before, is_done, is_kept, is_post_within, is_poster, was_posted}
use Rattle.live_core.specs.Calls.{call_of, fits, is_taker}
use Rattle.live_core.specs.declared.call.Call.TheVariants as calls
use Rattle.next_entry.specs.declared.open_cause.Part.{Part}
use Rattle.next_entry.specs.declared.open_cause.Part.TheVariants as parts
use Rattle.open_explain.specs.Parts.{busy_part, driving_part, end_part, enter_part, leave_part, main_end_part}
use Rattle.open_explain.specs.Parts.{named_part, only, part_of, post_part, poster_part, take_part, unless}

-- ---- none of several things fails where they all hold

one : (a : Bool) (p : Part) → a ≡ is_none (only a p)
one true p = refl
one false p = refl

two : (a b : Bool) (p q : Part) → (a && b) ≡ is_none (unless a p (only b q))
two true b p q = one b q
two false b p q = refl

three : (a b c : Bool) (p q r : Part) → (a && b && c) ≡ is_none (unless a p (unless b q (only c r)))
three true b c p q r = two b c q r
three false b c p q r = refl

-- and then another
one_and : (a : Bool) (p : Part) (rest : Option Part) → (a && is_none rest) ≡ is_none (unless a p rest)
one_and true p rest = refl
one_and false p rest = refl

two_and : (a b : Bool) (p q : Part) (rest : Option Part) → (a && b && is_none rest) ≡ is_none (unless a p (unless b q rest))
two_and true b p q rest = one_and b q rest
two_and false b p q rest = refl

either : (k a b : Bool) (p q : Part) → cond k a b ≡ is_none (cond k (only a p) (only b q))
either true a b p q = one a p
either false a b p q = one b q

-- ---- what a seat is at

free_is : (r : Option Running) (h : Option Holding) → (is_none r && is_none h)
    ≡ is_none (option_or (option_map (λ (w : Running). parts.Runs w.task) r) (option_map (λ (k : Holding). parts.Holds k.job) h))
free_is None None = refl
free_is None (Some h) = refl
free_is (Some w) h = refl

-- the seat does nothing
not_busy : (past : List Entry) (seat : ℕ) → is_free past seat ≡ is_none (busy_part past seat)
not_busy past seat = free_is (running past seat) (holding past seat)

-- the task that the seat runs passes a test
of_task : (test : Running → Bool) (part : Running → Option Part) (o : Option Running) → ((w : Running) → test w ≡ is_none (part w))
    → holds_of test o ≡ is_none (option_map_or part o (Some parts.RunsNothing))
of_task test part None each = refl
of_task test part (Some w) each = each w

-- ---- the driver

driving : (d : Bool) (busy rest : Option Part) (p : Part) → ((not d && is_none busy) && is_none rest) ≡ is_none (unless (not d) p (option_or busy rest))
driving true busy rest p = refl
driving false None rest p = refl
driving false (Some b) rest p = refl

-- ---- a call

module _ (plan : Plan) (past : List Entry) where
  by_driver : (rest : Option Part) (named : Bool) → named ≡ is_none rest → ((not (is_done (phase_of past)) && is_free past 0) && named)
      ≡ is_none (unless (not (is_done (phase_of past))) parts.IsDone (option_or (busy_part past 0) rest))
  by_driver rest named is = rw (is, not_busy past 0) (driving (is_done (phase_of past)) (busy_part past 0) rest parts.IsDone)

  by_queue : (queue : ℕ) → ((not (is_done (phase_of past)) && is_free past 0) && nat_lt queue (length plan.queues))
      ≡ is_none (unless (not (is_done (phase_of past))) parts.IsDone
      (option_or (busy_part past 0) (only (nat_lt queue (length plan.queues)) parts.Undeclared)))
  by_queue queue = by_driver (only (nat_lt queue (length plan.queues)) parts.Undeclared) (nat_lt queue (length plan.queues)) (one _ parts.Undeclared)

  by_job : (job : ℕ) (test : Bool) (part : Part)
      → ((not (is_done (phase_of past)) && is_free past 0) && (nat_lt job (length plan.jobs) && test))
      ≡ is_none (unless (not (is_done (phase_of past))) parts.IsDone
      (option_or (busy_part past 0) (unless (nat_lt job (length plan.jobs)) parts.Undeclared (only test part))))
  by_job job test part = by_driver (unless (nat_lt job (length plan.jobs)) parts.Undeclared (only test part)) (nat_lt job (length plan.jobs) && test)
      (two (nat_lt job (length plan.jobs)) test parts.Undeclared part)

  -- there is the seat
  with_seat : (seat : ℕ) → seat ≤ plan.workers → (a b : Bool) → a ≡ b → (nat_le seat plan.workers && a) ≡ b
  with_seat seat there a b is = rw (le-leb seat plan.workers there) is

  post_fits : (seat task : ℕ) (kind : Kind) → seat ≤ plan.workers → (nat_le seat plan.workers && may_post plan past seat task kind)
      ≡ is_none (post_part plan past seat task kind)
  post_fits seat task kind there = with_seat seat there _ _ (rw (either (is_kept plan task) (by_own_step plan past seat kind) (is_poster plan past seat)
      (parts.OfStep task) parts.NoPoster) (two_and (is_post_within plan kind) (not (was_posted past task)) parts.Undeclared (parts.PostedBefore task)
      (poster_part plan past seat task kind)))

  take_fits : (seat : ℕ) → is_taker plan past seat ≡ is_none (take_part plan past seat)
  take_fits seat = rw (not_busy past seat)
      (two_and (nat_le 1 seat) (nat_lt seat plan.workers) parts.DriverTakes parts.GuestTakes (busy_part past seat))

  pub fits_where_none_fails : (seat : ℕ) (kind : Kind) → seat ≤ plan.workers → fits plan past (call_of seat kind) ≡ is_none (part_of plan past seat kind)
  fits_where_none_fails seat (kinds.Post task runner delay ok) there = post_fits seat task (kinds.Post task runner delay true) there
  fits_where_none_fails seat (kinds.Main task queue delay ok) there = post_fits seat task (kinds.Main task queue delay true) there
  fits_where_none_fails seat (kinds.Tick now) there = one (not (is_done (phase_of past))) parts.IsDone
  fits_where_none_fails seat (kinds.Take task runner found) there = take_fits seat
  fits_where_none_fails seat (kinds.End task left) there = with_seat seat there _ _ (of_task _ (end_part past) (running past seat)
      (λ w. two (not w.is_main) (is_none (open_scope past w.task)) (parts.IsMain w.task) (parts.ScopeOpen w.task)))
  fits_where_none_fails seat (kinds.Enter task scope) there = with_seat seat there _ _ (of_task _ (enter_part plan past) (running past seat)
      (λ w. three (not w.is_main) (may_block_on plan.runners w.home) (is_none (open_scope past w.task)) (parts.IsMain w.task) (parts.MayNotBlock w.task)
      (parts.ScopeOpen w.task)))
  fits_where_none_fails seat (kinds.Leave task) there = with_seat seat there _ _ (of_task _ (leave_part past) (running past seat)
      (λ w. two (not w.is_main) (is_some (open_scope past w.task)) (parts.IsMain w.task) (parts.NoScope w.task)))
  fits_where_none_fails seat (kinds.MainEnd task left) there = of_task _ (main_end_part past) (running past 0)
      (λ w. two w.is_main (is_none (open_scope past w.task)) (parts.IsPool w.task) (parts.ScopeOpen w.task))
  fits_where_none_fails seat (kinds.JobTake job id item) there = by_seat (seat == 0)
    where
      by_seat : (b : Bool) → fits plan past (cond b (calls.JobTake job) (calls.Take seat))
          ≡ is_none (cond b (driving_part plan past (kinds.JobTake job id item)) (take_part plan past seat))
      by_seat true = by_driver (named_part plan past (kinds.JobTake job id item)) _ (one_and (nat_lt job (length plan.jobs)) parts.Undeclared None)
      by_seat false = take_fits seat
  fits_where_none_fails seat (kinds.JobStep job id item value next) there =
      with_seat seat there _ _ (one (is_some (holding past seat)) parts.HoldsNothing)
  fits_where_none_fails seat (kinds.Policy policy) there = by_driver None true refl
  fits_where_none_fails seat (kinds.Reprio runner priority) there =
      by_driver (only (nat_lt runner (length plan.runners)) parts.Undeclared) (nat_lt runner (length plan.runners)) (one _ parts.Undeclared)
  fits_where_none_fails seat (kinds.Fence queue at) there = by_queue queue
  fits_where_none_fails seat (kinds.Unfence queue) there = by_queue queue
  fits_where_none_fails seat (kinds.Vote queue voter on) there =
      by_driver (only (is_voter plan.queues queue voter) parts.Undeclared) (is_voter plan.queues queue voter) (one _ parts.Undeclared)
  fits_where_none_fails seat (kinds.Rank queue class) there = by_driver (only (nat_lt queue (length plan.queues) && nat_le class 7) parts.Undeclared)
      (nat_lt queue (length plan.queues) && nat_le class 7) (one _ parts.Undeclared)
  fits_where_none_fails seat (kinds.Close queue) there = by_queue queue
  fits_where_none_fails seat (kinds.MainTake task queue found) there = by_driver None true refl
  fits_where_none_fails seat kinds.MainNone there = by_driver None true refl
  fits_where_none_fails seat (kinds.JobPost job ok) there = by_job job (is_none (job_post_of past job)) (parts.JobPostedBefore job)
  fits_where_none_fails seat (kinds.JobCancel job) there = by_job job (is_some (job_post_of past job)) (parts.JobUnposted job)
  fits_where_none_fails seat (kinds.Cancelled job) there = by_job job (is_cancelled past job) (parts.NotCancelled job)
  fits_where_none_fails seat (kinds.Joined job reply) there = by_job job (is_some (job_post_of past job)) (parts.JobUnposted job)
  fits_where_none_fails seat kinds.Idle there = by_driver None true refl
  fits_where_none_fails seat kinds.Shutdown there =
      by_driver (only (is_before (phase_of past)) parts.StartedBefore) (is_before (phase_of past)) (one _ parts.StartedBefore)
  fits_where_none_fails seat kinds.Done there =
      by_driver (only (is_started (phase_of past)) parts.NotStarted) (is_started (phase_of past)) (one _ parts.NotStarted)

-- so where a call may not be made, something fails
pub told_part : (o : Option Part) (part : Part) → is_none o ≡ false → IfSome o (λ p. part ≡ p) → o ≡ Some part
told_part None part fails is = absurd cc
told_part (Some p) part fails is = ap (λ (q : Part). Some q) (sym is)
