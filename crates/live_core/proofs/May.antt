-- When each entry may come in an open plan, by what fits its call and what the machines answer.
-- Cited by 16 functions of `LiveCore`.
use Rattle.std.proofs.Common.{◌≡◌, ℕ, ◌<◌, ◌≤◌, Bool, true, false, List, refl, Option, Some, None, arith}
use Rattle.std.specs.Prelude.{◌&&◌, is_none, is_some, nat_le, not}
use Rattle.std.specs.List.{list_all}
use Rattle.std.proofs.Math.Bool.{or-true}
use Rattle.std.proofs.lemmas.Bool.{and_from, eq-eqb, le-leb, ne_eqb}
use Rattle.list_laws.proofs.Values.{eqb-same}
use Rattle.list_laws.specs.Lists.{holds_of}
use Rattle.script_model.specs.Draft.{may_block_on}
use Rattle.task_base.specs.Plan.{Plan}
use Rattle.task_base.specs.Steps.{after}
use Rattle.task_base.specs.declared.entry.Entry.{Entry}
use Rattle.task_base.specs.declared.entry.JobReply.{JobReply}
use Rattle.task_base.specs.declared.entry.JobReply.TheVariants as replies
use Rattle.task_base.specs.declared.entry.Kind.TheVariants as kinds
use Rattle.task_base.specs.declared.limits.TheConstants.{LAST_MOMENT}
use Rattle.task_base.specs.declared.step.Scope.{Scope}
use Rattle.task_model.specs.Blockers.{blockers_of}
use Rattle.task_model.specs.Capacity.{open_scope}
use Rattle.task_model.specs.Cells.{main_cell_of}
use Rattle.task_model.specs.Jobs.{claimed, free_id, is_cancelled, is_empty, item_value, may_enter, reply_of}
use Rattle.task_model.specs.MainQueues.{Front, chosen_of}
use Rattle.task_model.specs.Phase.{is_started, phase_of}
use Rattle.task_model.specs.Refusal.{is_closed, is_job_forbidden, is_refused}
use Rattle.task_model.specs.Seats.{Holding, Running, holding, is_free, is_quiet, running, steps_of, worker_seats}
use Rattle.task_model.specs.Sources.{best_of, next_item}
use Rattle.task_model.specs.Time.{now_of}
use Rattle.hist_model.proofs.Laws.Open.{open_finished}
use Rattle.hist_model.proofs.Laws.OpenPlans.{phase_own}
use Rattle.hist_model.proofs.Laws.Progress.Pump.{none_open}
use Rattle.hist_model.specs.Allowed.{by_script, is_job, is_posted_by, is_ready_worker, is_reply, may_come, may_post, same_number, same_reply}
use Rattle.hist_model.specs.Legal.{IsLegal}
use Rattle.hist_model.specs.Open.{IsOpen, is_done}
use Rattle.live_core.proofs.Posting.{freely}
use Rattle.pool_core.specs.Calls.{IsEntered, IsTaken}

-- a reply by the rule
says : (refused : Bool) → is_reply refused (not refused) ≡ true
says true = refl
says false = refl

-- ---- the driver

pub tick_may : (plan : Plan) (past : List Entry) (now : ℕ) → by_script plan past 0 (kinds.Tick now) ≡ true → now_of past ≤ now → now ≤ LAST_MOMENT
    → may_come plan past 0 (kinds.Tick now) ≡ true
unfolding may_come
tick_may plan past now by later last = rw (by, le-leb (now_of past) now later, le-leb now LAST_MOMENT last) refl

pub main_take_may : (plan : Plan) (past : List Entry) (task queue found : ℕ) (front : Front) → by_script plan past 0 (kinds.MainTake task queue found) ≡ true
    → chosen_of plan past ≡ Some front → front.task ≡ task → front.queue ≡ queue → found ≡ main_cell_of past queue
    → may_come plan past 0 (kinds.MainTake task queue found) ≡ true
unfolding may_come
main_take_may plan past task queue found front by chosen task_is queue_is found_is =
    rw (by, chosen, eq-eqb _ _ task_is, eq-eqb _ _ queue_is, eq-eqb _ _ found_is) refl

pub main_none_may : (plan : Plan) (past : List Entry) → by_script plan past 0 kinds.MainNone ≡ true → chosen_of plan past ≡ None
    → may_come plan past 0 kinds.MainNone ≡ true
unfolding may_come
main_none_may plan past by none = rw (by, none_open plan past none) refl

pub main_end_may : (plan : Plan) (past : List Entry) (w : Running) → IsOpen plan → running past 0 ≡ Some w → w.is_main ≡ true
    → is_none (open_scope past w.task) ≡ true → may_come plan past 0 (kinds.MainEnd w.task (after (steps_of plan w.task) w.found)) ≡ true
unfolding may_come
main_end_may plan past w opened runs main closed =
    rw (runs, main, opened, closed, eqb-same w.task, eqb-same (after (steps_of plan w.task) w.found)) refl

pub job_post_may : (plan : Plan) (past : List Entry) (job : ℕ) (ok : Bool) → by_script plan past 0 (kinds.JobPost job ok) ≡ true
    → ok ≡ not (is_job_forbidden plan past job) → may_come plan past 0 (kinds.JobPost job ok) ≡ true
unfolding may_come
job_post_may plan past job ok by reply = rw (by, reply) (says (is_job_forbidden plan past job))

pub job_take_may : (plan : Plan) (past : List Entry) (job id item : ℕ) → by_script plan past 0 (kinds.JobTake job id item) ≡ true
    → may_enter plan past job ≡ true → free_id plan past job ≡ Some id → item ≡ claimed past job → may_come plan past 0 (kinds.JobTake job id item) ≡ true
unfolding may_come
job_take_may plan past job id item by may id_is item_is = rw (by, may, id_is, eqb-same id, eq-eqb item (claimed past job) item_is)
    (rw (or-true (is_ready_worker plan past 0 && holds_of (λ c. is_job job c.source) (best_of plan past 0))) refl)

pub cancelled_may : (plan : Plan) (past : List Entry) (job : ℕ) → by_script plan past 0 (kinds.Cancelled job) ≡ true → is_cancelled past job ≡ true
    → is_empty plan past job ≡ true → may_come plan past 0 (kinds.Cancelled job) ≡ true
unfolding may_come
cancelled_may plan past job by cancelled empty = rw (by, cancelled, empty) refl

pub joined_may : (plan : Plan) (past : List Entry) (job : ℕ) (reply : JobReply) → by_script plan past 0 (kinds.Joined job reply) ≡ true
    → is_empty plan past job ≡ true → reply_of plan past job ≡ Some reply → may_come plan past 0 (kinds.Joined job reply) ≡ true
unfolding may_come
joined_may plan past job reply by empty is = rw (by, empty, is) (same reply)
  where
    same : (r : JobReply) → same_reply r r ≡ true
    same replies.Refused = refl
    same (replies.Finished n) = eqb-same n
    same replies.Cancelled = refl
    same replies.Stopped = refl

pub idle_may : (plan : Plan) (past : List Entry) → by_script plan past 0 kinds.Idle ≡ true → is_quiet plan past ≡ true
    → list_all (λ worker. is_none (best_of plan past worker)) (worker_seats plan) ≡ true → may_come plan past 0 kinds.Idle ≡ true
unfolding may_come
idle_may plan past by quiet none = rw (by, quiet, none) refl

pub done_may : (plan : Plan) (past : List Entry) → by_script plan past 0 kinds.Done ≡ true → is_started (phase_of past) ≡ true
    → blockers_of plan past ≡ 0 → may_come plan past 0 kinds.Done ≡ true
unfolding may_come
done_may plan past by started none = rw (by, started, none) refl

-- ---- posts

pub post_may : (plan : Plan) (past : List Entry) (seat task runner delay : ℕ) (ok : Bool) → IsOpen plan
    → may_post plan past seat task (kinds.Post task runner delay ok) ≡ true → ok ≡ not (is_refused plan past runner delay)
    → may_come plan past seat (kinds.Post task runner delay ok) ≡ true
unfolding may_come
post_may plan past seat task runner delay ok opened may reply = and_from (is_posted_by plan past seat task (kinds.Post task runner delay ok)) _
    (freely plan past seat task (kinds.Post task runner delay ok) opened may) (rw reply (says (is_refused plan past runner delay)))

pub main_post_may : (plan : Plan) (past : List Entry) (seat task queue delay : ℕ) (ok : Bool) → IsOpen plan
    → may_post plan past seat task (kinds.Main task queue delay ok) ≡ true → ok ≡ not (is_closed past queue)
    → may_come plan past seat (kinds.Main task queue delay ok) ≡ true
unfolding may_come
main_post_may plan past seat task queue delay ok opened may reply = and_from (is_posted_by plan past seat task (kinds.Main task queue delay ok)) _
    (freely plan past seat task (kinds.Main task queue delay ok) opened may) (rw reply (says (is_closed past queue)))

-- ---- workers

-- a worker that does nothing and is not the guest may take until shutdown is done
ready : (plan : Plan) (past : List Entry) (seat : ℕ) → IsOpen plan → IsLegal plan past → nat_le 1 seat ≡ true → seat < plan.workers
    → is_free past seat ≡ true → is_done (phase_of past) ≡ false → is_ready_worker plan past seat ≡ true
ready plan past seat opened legal worker known free going = rw (
  worker,
  le-leb seat plan.workers (omega (arith, known)),
  free,
  open_finished plan past opened,
  phase_own plan past legal,
  going,
  opened,
  ne_eqb seat plan.workers (λ is. omega (arith, is, known)),
) refl

pub take_may : (plan : Plan) (past : List Entry) (seat task runner found : ℕ) → IsOpen plan → IsLegal plan past → nat_le 1 seat ≡ true → seat < plan.workers
    → is_free past seat ≡ true → is_done (phase_of past) ≡ false → IsTaken plan past seat task runner found
    → may_come plan past seat (kinds.Take task runner found) ≡ true
unfolding may_come
take_may plan past seat task runner found opened legal worker known free going is = rw (
  ready plan past seat opened legal worker known free going,
  is.is_best,
  is.is_head,
  eq-eqb _ _ is.task_is,
  eq-eqb _ _ is.runner_is,
  eq-eqb _ _ is.found_is,
) refl

pub item_may : (plan : Plan) (past : List Entry) (seat job id item : ℕ) → IsOpen plan → IsLegal plan past → nat_le 1 seat ≡ true → seat < plan.workers
    → is_free past seat ≡ true → is_done (phase_of past) ≡ false → IsEntered plan past seat job id item
    → may_come plan past seat (kinds.JobTake job id item) ≡ true
unfolding may_come
item_may plan past seat job id item opened legal worker known free going is = rw (
  ready plan past seat opened legal worker known free going,
  is.is_best,
  is.id_is,
  eqb-same job,
  eqb-same id,
  eq-eqb _ _ is.item_is,
) refl

pub end_may : (plan : Plan) (past : List Entry) (seat : ℕ) (w : Running) → IsOpen plan → running past seat ≡ Some w → w.is_main ≡ false
    → is_none (open_scope past w.task) ≡ true → may_come plan past seat (kinds.End w.task (after (steps_of plan w.task) w.found)) ≡ true
unfolding may_come
end_may plan past seat w opened runs pool closed =
    rw (runs, pool, opened, closed, eqb-same w.task, eqb-same (after (steps_of plan w.task) w.found)) refl

pub enter_may : (plan : Plan) (past : List Entry) (seat : ℕ) (w : Running) (scope : Scope) → IsOpen plan → running past seat ≡ Some w → w.is_main ≡ false
    → may_block_on plan.runners w.home ≡ true → is_none (open_scope past w.task) ≡ true → may_come plan past seat (kinds.Enter w.task scope) ≡ true
unfolding may_come
enter_may plan past seat w scope opened runs pool blocks closed = rw (opened, runs, pool, blocks, closed, eqb-same w.task) refl

pub leave_may : (plan : Plan) (past : List Entry) (seat : ℕ) (w : Running) → IsOpen plan → running past seat ≡ Some w
    → is_some (open_scope past w.task) ≡ true → may_come plan past seat (kinds.Leave w.task) ≡ true
unfolding may_come
leave_may plan past seat w opened runs inside = rw (opened, runs, inside, eqb-same w.task) refl

-- a seat ends its item, and goes on or leaves as the rules say
pub step_may : (plan : Plan) (past : List Entry) (seat : ℕ) (h : Holding) (next : Option ℕ) → holding past seat ≡ Some h
    → next ≡ next_item plan past seat h.job → may_come plan past seat (kinds.JobStep h.job h.id h.item (item_value plan h.job h.item) next) ≡ true
unfolding may_come
step_may plan past seat h next holds next_is =
    rw (holds, eqb-same h.job, eqb-same h.id, eqb-same h.item, eqb-same (item_value plan h.job h.item), next_is) (same (next_item plan past seat h.job))
  where
    same : (o : Option ℕ) → same_number o o ≡ true
    same None = refl
    same (Some n) = eqb-same n
