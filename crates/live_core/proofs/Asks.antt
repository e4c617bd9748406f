-- What the machines ask, by what fits a call.
-- Cited by 18 functions of `LiveCore`, `Made`, `Scopes`.
use Rattle.std.proofs.Common.{◌≡◌, ℕ, suc, ◌<◌, ◌≤◌, ◌^◌, Bool, true, false, eqb, inl, inr, List, [], ◌∷◌, ◌++◌, length, refl, sym, ap, subst, ◌∙◌}
use Rattle.std.proofs.Common.{Option, Some}
use Rattle.std.proofs.Common.{None, arith}
use Rattle.std.specs.Prelude.{◌&&◌, ◌||◌, is_none, is_some, min, max, nat_le, nat_lt, not, slice_get, unwrap_or}
use Rattle.std.specs.Option.{option_map}
use Rattle.std.proofs.lemmas.Bool.{and_from, and_parts, cases_lt, cond-false, eqb-false, leb-true, lt-ltb, not-true}
use Rattle.std.proofs.lemmas.Option.{slice_get_within}
use Rattle.list_laws.proofs.Counts.{count-append}
use Rattle.list_laws.proofs.Finds.{none_found}
use Rattle.list_laws.proofs.Values.{eqb-same, some-injective}
use Rattle.list_laws.specs.Lists.{count}
use Rattle.task_base.specs.Plan.{Plan}
use Rattle.task_base.specs.declared.entry.Entry.{Entry}
use Rattle.task_base.specs.declared.entry.JobReply.{JobReply}
use Rattle.task_base.specs.declared.entry.Kind.{Kind}
use Rattle.task_base.specs.declared.entry.Kind.TheVariants as kinds
use Rattle.task_base.specs.declared.limits.TheConstants.{LAST_MOMENT, MOST_MICROSECONDS}
use Rattle.task_base.specs.declared.script.FenceAt.{FenceAt}
use Rattle.task_base.specs.declared.script.MainQueue.{MainQueue}
use Rattle.task_traits.specs.declared.phase.Phase.{Phase}
use Rattle.task_traits.specs.declared.phase.Phase.TheVariants as phases
use Rattle.task_traits.specs.declared.traits.Priority.{Priority}
use Rattle.task_model.proofs.Growth.{main_posts_push, posts_push}
use Rattle.task_model.specs.Jobs.{JobPosted, is_cancelled, job_post_of}
use Rattle.task_model.specs.Past.{fold_past}
use Rattle.task_model.specs.Posts.{Posted, main_posted_by, main_posts, posted_by, posts}
use Rattle.task_model.specs.Seats.{holding, is_free, running}
use Rattle.task_model.specs.Phase.{is_started, phase_of}
use Rattle.task_model.specs.Time.{now_of}
use Rattle.hist_model.proofs.Laws.OpenPlans.{phase_own}
use Rattle.pool_laws.specs.Posts.{main_post_of, post_of}
use Rattle.hist_model.proofs.Laws.JobEntries.{none_is}
use Rattle.hist_model.proofs.Laws.Legal.{entry_induction}
use Rattle.hist_model.specs.Allowed.{by_own_step, may_come, may_post}
use Rattle.hist_model.specs.Legal.{IsLegal}
use Rattle.hist_model.specs.Open.{is_before, is_done, is_in_order, is_kept, is_post_within, is_poster, posts_task, was_posted}
use Rattle.hist_model.specs.Views.{own_entries}
use Rattle.pool_core.specs.Calls.{CanPost, CanTake, CanTick, IsInPhase, KnowsRunner}
use Rattle.pool_core.specs.JobCalls.{CanJoin, CanPostJob, KnowsJob}
use Rattle.sequence_manager.specs.Calls.{CanFence, CanPost as MainCanPost, CanTake as MainCanTake, CanRank, CanTick as MainCanTick, CanVote, HasQueue}
use Rattle.live_core.proofs.Entered.{found_first, posted_push}
use Rattle.live_core.proofs.Posting.{any_main_reply, any_reply, new_post, post_declared}
use Rattle.live_core.proofs.Serving.{job_own}
use Rattle.live_core.specs.Calls.{hands_out, is_driving, is_posting, is_spare, job_fits, spare_task, task_of}
use Rattle.live_core.specs.Making.{CanMake}
use Rattle.live_core.specs.declared.books.TheConstants.{MOST_ENTRIES}
use Rattle.live_core.specs.declared.call.Call.{Call}
use Rattle.live_core.specs.declared.call.Call.TheVariants as calls
use Rattle.live_core.specs.declared.live.LiveCore.{LiveCore}

-- ---- what was not posted was not accepted

none_of : (p : Posted → Bool) (xs ys : List Posted) → count p xs ≡ 0 → count p ys ≡ 0 → count p (xs ++ ys) ≡ 0
none_of p xs ys front back = count-append p xs ys ∙ omega (arith, front, back)

not_accepted_by : (past : List Entry) (t : ℕ) (kind : Kind) → posts_task t kind ≡ false → count (λ p. eqb p.task t) (posted_by past kind) ≡ 0
not_accepted_by past t (kinds.Post task runner delay true) other = rw other refl
not_accepted_by past t (kinds.Post task runner delay false) other = refl
not_accepted_by past t kind other = refl

not_main_accepted_by : (past : List Entry) (t : ℕ) (kind : Kind) → posts_task t kind ≡ false → count (λ p. eqb p.task t) (main_posted_by past kind) ≡ 0
not_main_accepted_by past t (kinds.Main task queue delay true) other = rw other refl
not_main_accepted_by past t (kinds.Main task queue delay false) other = refl
not_main_accepted_by past t kind other = refl

either_false : (a b : Bool) → (a || b) ≡ false → (a ≡ false) × (b ≡ false)
either_false true b h = absurd cc
either_false false b h = (refl, h)

-- the accepted tasks, of the pool and of the main queues, don't have it
pub record IsNotAccepted (past : List Entry) (t : ℕ) : Type 0 where
  pub by_pool : count (λ p. eqb p.task t) (posts past) ≡ 0
  pub by_main : count (λ p. eqb p.task t) (main_posts past) ≡ 0

pub not_accepted : (plan : Plan) (past : List Entry) (t : ℕ) → IsLegal plan past → was_posted past t ≡ false → IsNotAccepted past t
unfolding posts main_posts fold_past
not_accepted plan past t legal = entry_induction plan (λ front. was_posted front t ≡ false → IsNotAccepted front t)
    (λ fresh. record { by_pool = refl; by_main = refl }) next past legal
  where
    next : (front : List Entry) (e : Entry) → e.seat ≤ plan.workers → may_come plan front e.seat e.kind ≡ true
        → (was_posted front t ≡ false → IsNotAccepted front t) → was_posted (front ++ e ∷ []) t ≡ false → IsNotAccepted (front ++ e ∷ []) t
    next front e known may before fresh =
        let parts = either_false (was_posted front t) (posts_task t e.kind) (sym (posted_push front e.seat e.kind t) ∙ fresh) in
        let none = before parts.0 in
        record {
          by_pool = ap (count (λ p. eqb p.task t)) (posts_push front e)
              ∙ none_of (λ p. eqb p.task t) (posts front) (posted_by front e.kind) none.by_pool (not_accepted_by front t e.kind parts.1);
          by_main = ap (count (λ p. eqb p.task t)) (main_posts_push front e)
              ∙ none_of (λ p. eqb p.task t) (main_posts front) (main_posted_by front e.kind) none.by_main (not_main_accepted_by front t e.kind parts.1);
        }

-- the task of a post that may be made: it is declared, and new
pub record IsPosting (plan : Plan) (past : List Entry) (seat task : ℕ) (kind : Kind) : Type 0 where
  pub may : may_post plan past seat task kind ≡ true
  pub there : task < length plan.tasks
  pub not_accepted : post_of past task ≡ None
  pub not_main_accepted : main_post_of past task ≡ None

is_posting_new : (plan : Plan) (past : List Entry) (seat task : ℕ) (kind : Kind) → IsLegal plan past → posts_task task kind ≡ true
    → may_post plan past seat task kind ≡ true → IsPosting plan past seat task kind
is_posting_new plan past seat task kind legal its may =
    let new = new_post plan past seat task kind may in
    let none = not_accepted plan past task legal new.fresh in
    record {
      may = may;
      there = post_declared plan task kind its new.within;
      not_accepted = none_found (λ p. eqb p.task task) (posts past) none.by_pool;
      not_main_accepted = none_found (λ p. eqb p.task task) (main_posts past) none.by_main;
    }

-- a task that is handed out may be posted by who may post
spare_may : (plan : Plan) (past : List Entry) (seat task : ℕ) (kind : Kind) → spare_task plan past ≡ Some task → is_poster plan past seat ≡ true
    → (task < length plan.tasks → is_post_within plan kind ≡ true) → may_post plan past seat task kind ≡ true
spare_may plan past seat task kind is poster within =
    let found = found_first (is_spare plan past) 0 (length plan.tasks) task is in
    let parts = and_parts (not (is_kept plan task)) (not (was_posted past task)) found.passes in
    and_from (is_post_within plan kind && not (was_posted past task)) _
    (and_from (is_post_within plan kind) (not (was_posted past task)) (within (omega (arith, found.high))) parts.1)
    (cond-false (is_kept plan task) (by_own_step plan past seat kind) (is_poster plan past seat) (not-true (is_kept plan task) parts.0) ∙ poster)

running_now : (phase : Phase) → is_before phase ≡ true → phase ≡ phases.Running
running_now phases.Running h = refl
running_now phases.Started h = absurd cc
running_now phases.Done h = absurd cc

started_now : (phase : Phase) → is_started phase ≡ true → phase ≡ phases.Started
started_now phases.Running h = absurd cc
started_now phases.Started h = refl
started_now phases.Done h = absurd cc

-- what is not posted by the one is not by the other
posts_in_order : (a b : Option JobPosted) → is_some a ≡ is_some b → is_none b ≡ true → is_none a ≡ true
posts_in_order None b same none = refl
posts_in_order (Some p) None same none = absurd cc
posts_in_order (Some p) (Some q) same none = absurd cc

-- of two reasons that both fail, the second does where its first part holds
not_both : (a b c : Bool) → (a || (b && c)) ≡ false → b ≡ true → c ≡ false
not_both true b c h is = absurd cc
not_both false true c h is = h
not_both false false c h is = absurd cc

some_of : {A : Type 0} (o : Option A) → is_none o ≡ false → is_some o ≡ true
some_of None h = absurd cc
some_of (Some x) h = refl

-- ---- what calls ask

-- what a test of two numbers says
there : {a b : ℕ} → nat_lt a b ≡ true → a < b
there {a = a} {b = b} h = leb-true (suc a) b h

module _ {plan : Plan} {past : List Entry} {live : LiveCore} where
  -- where there is room, another entry can be counted
  pub roomy : {call : Call} → CanMake plan past call live → length past < MOST_ENTRIES
  roomy {call = call} can = at (or-false_left (eqb (length past) MOST_ENTRIES) _ can.may.roomy)
    where
      or-false_left : (a b : Bool) → (a || b) ≡ false → a ≡ false
      or-false_left true b h = absurd cc
      or-false_left false b h = refl

      at : eqb (length past) MOST_ENTRIES ≡ false → length past < MOST_ENTRIES
      at other = elim (cases_lt (length past) MOST_ENTRIES) [
        | inl less ↦ less
        | inr most ↦ absurd (eqb-false (length past) MOST_ENTRIES other (omega (arith, most, can.stands.books.few)))
      ]

  pub few : {call : Call} → CanMake plan past call live → length past < 2 ^ 32
  few can = omega (arith, roomy can)

  -- ---- runners and queues

  pub knows_runner : {runner : ℕ} {priority : Priority} → CanMake plan past (calls.Reprio runner priority) live → KnowsRunner plan past live.pool runner
  knows_runner can = record { stands = can.stands.pool; declared = there (and_parts _ _ can.may.fit).1 }

  has_queue : {queue : ℕ} {call : Call} → CanMake plan past call live → nat_lt queue (length plan.queues) ≡ true → HasQueue plan past live.main queue
  has_queue can declared = record { stands = can.stands.main; declared = there declared }

  pub can_fence : {queue : ℕ} {at : FenceAt} → CanMake plan past (calls.Fence queue at) live → CanFence plan past live.main queue
  can_fence can = record { at = has_queue can (and_parts _ _ can.may.fit).1; few = few can }

  pub can_unfence : {queue : ℕ} → CanMake plan past (calls.Unfence queue) live → HasQueue plan past live.main queue
  can_unfence can = has_queue can (and_parts _ _ can.may.fit).1

  pub can_close : {queue : ℕ} → CanMake plan past (calls.Close queue) live → HasQueue plan past live.main queue
  can_close can = has_queue can (and_parts _ _ can.may.fit).1

  pub can_rank : {queue class : ℕ} → CanMake plan past (calls.Rank queue class) live → CanRank plan past live.main queue class
  can_rank {queue = queue} {class = class} can =
      let names = and_parts (nat_lt queue (length plan.queues)) (nat_le class 7) (and_parts _ _ can.may.fit).1 in
      record { at = has_queue can names.0; fits = leb-true class 7 names.1 }

  pub can_vote : {queue voter : ℕ} {on : Bool} → CanMake plan past (calls.Vote queue voter on) live → CanVote plan past live.main queue voter
  can_vote {queue = queue} {voter = voter} can = by_queue (slice_get plan.queues queue) refl (and_parts _ _ can.may.fit).1
    where
      by_queue : (o : Option MainQueue) → slice_get plan.queues queue ≡ o → unwrap_or (option_map (λ declared. nat_lt voter declared.voters) o) false ≡ true
          → CanVote plan past live.main queue voter
      by_queue None is h = absurd cc
      by_queue (Some declared) is h = record {
        at = record { stands = can.stands.main; declared = slice_get_within plan.queues queue declared is };
        has = rw is (there h);
      }

  -- ---- shutdown

  pub not_started : CanMake plan past calls.Shutdown live → IsInPhase plan past live.pool phases.Running
  not_started can = record { stands = can.stands.pool; phase_is = running_now (phase_of past) (and_parts _ _ can.may.fit).1 }

  pub is_started_by : CanMake plan past calls.Done live → IsInPhase plan past live.pool phases.Started
  is_started_by can = record { stands = can.stands.pool; phase_is = started_now (phase_of past) (and_parts _ _ can.may.fit).1 }

  pub in_order : CanMake plan past calls.Shutdown live → is_in_order plan (own_entries 0 past) kinds.Shutdown ≡ true
  in_order can = ap is_before (phase_own plan past can.stands.legal) ∙ (and_parts _ _ can.may.fit).1

  -- ---- the clock

  pub can_tick : {reading place before raised now : ℕ} → CanMake plan past (calls.Tick reading) live → place ≡ live.books.entries
      → before ≡ now_of past → raised ≡ max reading before → now ≡ min raised LAST_MOMENT → CanTick plan past live.pool place now
  can_tick can place_is before_is raised_is now_is = record {
    stands = can.stands.pool;
    place_is = place_is ∙ can.stands.books.entries;
    later = omega (arith, before_is, raised_is, now_is, can.stands.pool.past_fits.moment_fits);
    fits = omega (arith, now_is);
  }

  pub main_can_tick : {reading place now : ℕ} → CanMake plan past (calls.Tick reading) live → CanTick plan past live.pool place now
      → MainCanTick plan past live.main now
  main_can_tick can tick = record { stands = can.stands.main; few = few can; later = tick.later; fits = tick.fits }

  -- ---- jobs

  -- the job of a call that names one is declared, and the call comes in its order
  names_job : {call : Call} (job : ℕ) → CanMake plan past call live → (nat_lt job (length plan.jobs) && job_fits past call job) ≡ true
      → KnowsJob plan past live.pool job × (job_fits past call job ≡ true)
  names_job {call = call} job can named =
      let parts = and_parts (nat_lt job (length plan.jobs)) (job_fits past call job) named in
      (record { stands = can.stands.pool; declared = there parts.0 }, parts.1)

  pub can_post_job : {job place : ℕ} → CanMake plan past (calls.JobPost job) live → place ≡ live.books.entries → CanPostJob plan past live.pool place job
  can_post_job {job = job} can place_is =
      let named = names_job job can (and_parts _ _ can.may.fit).1 in
      record { knows = named.0; place_is = place_is ∙ can.stands.books.entries; is_new = none_is (job_post_of past job) named.1 }

  pub can_join : {job : ℕ} → CanMake plan past (calls.JobTake job) live → CanJoin plan past live.pool job
  can_join {job = job} can =
      let fit = and_parts (is_driving past) _ can.may.fit in
      record {
        knows = (names_job job can fit.1).0;
        holds_nothing = none_is (holding past 0) (and_parts _ _ (and_parts _ _ fit.0).1).1;
      }

  pub can_cancel : {job : ℕ} → CanMake plan past (calls.JobCancel job) live → KnowsJob plan past live.pool job
  can_cancel {job = job} can = (names_job job can (and_parts _ _ can.may.fit).1).0

  pub may_ask : {job : ℕ} → CanMake plan past (calls.Cancelled job) live → KnowsJob plan past live.pool job × (is_cancelled past job ≡ true)
  may_ask {job = job} can = names_job job can (and_parts _ _ can.may.fit).1

  pub may_join : {job : ℕ} → CanMake plan past (calls.Joined job) live → KnowsJob plan past live.pool job
  may_join {job = job} can = (names_job job can (and_parts _ _ can.may.fit).1).0

  -- each of these is in its order by the driver's own entries
  pub post_in_order : {job : ℕ} (ok : Bool) → CanMake plan past (calls.JobPost job) live
      → is_in_order plan (own_entries 0 past) (kinds.JobPost job ok) ≡ true
  post_in_order {job = job} ok can =
      let parts = and_parts (nat_lt job (length plan.jobs)) (is_none (job_post_of past job)) (and_parts _ _ can.may.fit).1 in
      rw (parts.0) (posts_in_order (job_post_of (own_entries 0 past) job) (job_post_of past job) (job_own plan past job can.stands.legal) parts.1)

  pub cancel_in_order : {job : ℕ} → CanMake plan past (calls.JobCancel job) live → is_in_order plan (own_entries 0 past) (kinds.JobCancel job) ≡ true
  cancel_in_order {job = job} can = job_own plan past job can.stands.legal ∙ (names_job job can (and_parts _ _ can.may.fit).1).1

  pub join_in_order : {job : ℕ} (reply : JobReply) → CanMake plan past (calls.Joined job) live
      → is_in_order plan (own_entries 0 past) (kinds.Joined job reply) ≡ true
  join_in_order {job = job} reply can = job_own plan past job can.stands.legal ∙ (names_job job can (and_parts _ _ can.may.fit).1).1

  -- ---- posts

  -- a task is left for a post that may be made
  one_left : {call : Call} → CanMake plan past call live → hands_out call ≡ true → is_none (spare_task plan past) ≡ false
  one_left can hands = not_both (eqb (length past) MOST_ENTRIES) _ (is_none (spare_task plan past)) can.may.roomy hands

  -- so there is one, named or handed out
  pub has_task : {seat runner delay : ℕ} {named : Option ℕ} → CanMake plan past (calls.Post seat named runner delay) live → (told : Option ℕ)
      → told ≡ task_of plan past named → is_some told ≡ true
  has_task {named = Some task} can told is = rw is refl
  has_task {named = None} can told is = some_of told (ap is_none is ∙ one_left can refl)

  pub has_main_task : {seat queue delay : ℕ} {named : Option ℕ} → CanMake plan past (calls.Main seat named queue delay) live → (told : Option ℕ)
      → told ≡ task_of plan past named → is_some told ≡ true
  has_main_task {named = Some task} can told is = rw is refl
  has_main_task {named = None} can told is = some_of told (ap is_none is ∙ one_left can refl)

  pub is_posting_it : {seat runner delay task : ℕ} {named : Option ℕ} (ok : Bool) → CanMake plan past (calls.Post seat named runner delay) live
      → task_of plan past named ≡ Some task → IsPosting plan past seat task (kinds.Post task runner delay ok)
  is_posting_it {seat = seat} {runner = runner} {delay = delay} {task = task} {named = Some it} ok can is =
      is_posting_new plan past seat task (kinds.Post task runner delay ok) can.stands.legal (eqb-same task)
      (subst (λ t. may_post plan past seat t (kinds.Post t runner delay ok) ≡ true) (some-injective is)
      (any_reply plan past seat it runner delay ok true ∙ (and_parts (nat_le seat plan.workers) _ can.may.fit).1))
  is_posting_it {seat = seat} {runner = runner} {delay = delay} {task = task} {named = None} ok can is =
      let fit = and_parts (is_posting plan past seat && nat_lt runner (length plan.runners)) (nat_le delay MOST_MICROSECONDS) can.may.fit in
      let front = and_parts (is_posting plan past seat) (nat_lt runner (length plan.runners)) fit.0 in
      is_posting_new plan past seat task (kinds.Post task runner delay ok) can.stands.legal (eqb-same task)
      (spare_may plan past seat task (kinds.Post task runner delay ok) is (and_parts (nat_le seat plan.workers) (is_poster plan past seat) front.0).1
      (λ less. rw (lt-ltb task (length plan.tasks) less, front.1, fit.1) refl))

  pub is_posting_main : {seat queue delay task : ℕ} {named : Option ℕ} (ok : Bool) → CanMake plan past (calls.Main seat named queue delay) live
      → task_of plan past named ≡ Some task → IsPosting plan past seat task (kinds.Main task queue delay ok)
  is_posting_main {seat = seat} {queue = queue} {delay = delay} {task = task} {named = Some it} ok can is =
      is_posting_new plan past seat task (kinds.Main task queue delay ok) can.stands.legal (eqb-same task)
      (subst (λ t. may_post plan past seat t (kinds.Main t queue delay ok) ≡ true) (some-injective is)
      (any_main_reply plan past seat it queue delay ok true ∙ (and_parts (nat_le seat plan.workers) _ can.may.fit).1))
  is_posting_main {seat = seat} {queue = queue} {delay = delay} {task = task} {named = None} ok can is =
      let fit = and_parts (is_posting plan past seat && nat_lt queue (length plan.queues)) (nat_le delay MOST_MICROSECONDS) can.may.fit in
      let front = and_parts (is_posting plan past seat) (nat_lt queue (length plan.queues)) fit.0 in
      is_posting_new plan past seat task (kinds.Main task queue delay ok) can.stands.legal (eqb-same task)
      (spare_may plan past seat task (kinds.Main task queue delay ok) is (and_parts (nat_le seat plan.workers) (is_poster plan past seat) front.0).1
      (λ less. rw (lt-ltb task (length plan.tasks) less, front.1, fit.1) refl))

  pub can_post : {seat runner delay place task : ℕ} {named : Option ℕ} → CanMake plan past (calls.Post seat named runner delay) live
      → place ≡ live.books.entries → task_of plan past named ≡ Some task → CanPost plan past live.pool place task runner delay
  can_post {runner = runner} {delay = delay} {task = task} can place_is is =
      let posting = is_posting_it true can is in
      let within = and_parts (nat_lt task (length plan.tasks) && nat_lt runner (length plan.runners)) (nat_le delay MOST_MICROSECONDS)
      (new_post plan past _ task (kinds.Post task runner delay true) posting.may).within in
      record {
        stands = can.stands.pool;
        place_is = place_is ∙ can.stands.books.entries;
        runner_declared = there (and_parts (nat_lt task (length plan.tasks)) (nat_lt runner (length plan.runners)) within.0).1;
        task_declared = posting.there;
        is_new = posting.not_accepted;
        delay_fits = leb-true delay MOST_MICROSECONDS within.1;
      }

  pub can_main_post : {seat queue delay place task : ℕ} {named : Option ℕ} → CanMake plan past (calls.Main seat named queue delay) live
      → place ≡ live.books.entries → task_of plan past named ≡ Some task → MainCanPost plan past live.main place task queue delay
  can_main_post {queue = queue} {delay = delay} {task = task} can place_is is =
      let posting = is_posting_main true can is in
      let within = and_parts (nat_lt task (length plan.tasks) && nat_lt queue (length plan.queues)) (nat_le delay MOST_MICROSECONDS)
      (new_post plan past _ task (kinds.Main task queue delay true) posting.may).within in
      record {
        stands = can.stands.main;
        place_is = place_is ∙ can.stands.books.entries;
        few = few can;
        posted = inr (record {
          opened = can.stands.opened;
          task_declared = posting.there;
          queue_declared = there (and_parts (nat_lt task (length plan.tasks)) (nat_lt queue (length plan.queues)) within.0).1;
        });
        is_new = posting.not_main_accepted;
        delay_fits = leb-true delay MOST_MICROSECONDS within.1;
      }

  -- ---- what seats do

  pub can_take : {seat : ℕ} → CanMake plan past (calls.Take seat) live → CanTake plan past live.pool seat
  can_take {seat = seat} can =
      let fit = and_parts (nat_le 1 seat && nat_lt seat plan.workers) (is_free past seat) can.may.fit in
      let at = and_parts (nat_le 1 seat) (nat_lt seat plan.workers) fit.0 in
      let free = and_parts _ _ fit.1 in
      let below : seat < plan.workers = there at.1 in
      record {
        stands = can.stands.pool;
        worker = leb-true 1 seat at.0;
        known = omega (arith, below);
        free = none_is (running past seat) free.0;
        holds_nothing = none_is (holding past seat) free.1;
      }

  -- the driver, which takes a main task, runs none
  pub can_main_take : CanMake plan past calls.MainTake live → MainCanTake plan past live.main
  can_main_take can =
      let runs_none = none_is (running past 0) (and_parts _ _ (and_parts (not (is_done (phase_of past))) (is_free past 0) (and_parts _ _ can.may.fit).0).1).0 in
      record { stands = can.stands.main; idle = rw runs_none refl }

  -- the seat that takes is not the last one, the guest's
  pub below : {seat : ℕ} → CanMake plan past (calls.Take seat) live → seat < plan.workers
  below {seat = seat} can =
      let fit = and_parts (nat_le 1 seat && nat_lt seat plan.workers) (is_free past seat) can.may.fit in
      there (and_parts (nat_le 1 seat) (nat_lt seat plan.workers) fit.0).1
