-- Each entry that may come in an open plan is one of a call.
-- Cited by `calls_are_exact`, `open_check`, `open_explain`.
use Rattle.std.proofs.Common.{◌≡◌, ℕ, ◌≤◌, Bool, true, false, cond, List, refl, sym, inl, inr, arith}
use Rattle.std.specs.Prelude.{◌==◌, nat_le}
use Rattle.std.proofs.lemmas.Bool.{and_parts, cases_lt, eqb-false, eqb-true, leb-true}
use Rattle.task_base.specs.Plan.{Plan}
use Rattle.task_base.specs.declared.entry.Entry.{Entry}
use Rattle.task_base.specs.declared.entry.Kind.{Kind}
use Rattle.task_base.specs.declared.entry.Kind.TheVariants as kinds
use Rattle.task_base.specs.declared.limits.TheConstants.{LAST_MOMENT}
use Rattle.task_model.specs.Cells.{main_cell_of}
use Rattle.task_model.specs.Jobs.{is_cancelled, is_empty}
use Rattle.task_model.specs.Phase.{is_started, phase_of}
use Rattle.task_model.specs.Seats.{is_quiet}
use Rattle.task_model.specs.Time.{now_of}
use Rattle.hist_model.proofs.Laws.Takes.{by_driver}
use Rattle.hist_model.specs.Allowed.{by_script, may_come}
use Rattle.hist_model.specs.Moments.{moment_behind}
use Rattle.hist_model.specs.Open.{IsOpen}
use Rattle.live_core.specs.Answers.{IsMadeBy}
use Rattle.live_core.specs.Calls.{call_of, seat_of}
use Rattle.live_core.specs.declared.call.Call.TheVariants as calls

-- a moment that is a reading stays
stays : (before now : ℕ) → before ≤ now → now ≤ LAST_MOMENT → now ≡ moment_behind before now
stays before now later last = omega (arith, later, last)

pub every_entry : (plan : Plan) (past : List Entry) (seat : ℕ) (kind : Kind) → IsOpen plan → may_come plan past seat kind ≡ true
    → (seat_of (call_of seat kind) ≡ seat) × IsMadeBy plan past (call_of seat kind) kind
unfolding may_come
every_entry plan past seat (kinds.Post task runner delay ok) opened may = (refl, (refl, refl, refl))
every_entry plan past seat (kinds.Main task queue delay ok) opened may = (refl, (refl, refl, refl))
every_entry plan past seat (kinds.Tick now) opened may =
    let all = and_parts _ (nat_le now LAST_MOMENT) may in
    let front = and_parts (by_script plan past seat (kinds.Tick now)) (nat_le (now_of past) now) all.0 in
    (sym (by_driver plan past seat (kinds.Tick now) front.0), stays (now_of past) now (leb-true (now_of past) now front.1) (leb-true now LAST_MOMENT all.1))
every_entry plan past seat (kinds.Take task runner found) opened may = (refl, tt)
every_entry plan past seat (kinds.End task left) opened may = (refl, tt)
every_entry plan past seat (kinds.Enter task scope) opened may = (refl, refl)
every_entry plan past seat (kinds.Leave task) opened may = (refl, tt)
every_entry plan past seat (kinds.Policy policy) opened may = (sym (by_driver plan past seat (kinds.Policy policy) may), refl)
every_entry plan past seat (kinds.Reprio runner priority) opened may = (sym (by_driver plan past seat (kinds.Reprio runner priority) may), (refl, refl))
every_entry plan past seat (kinds.Fence queue at) opened may = (sym (by_driver plan past seat (kinds.Fence queue at) may), (refl, refl))
every_entry plan past seat (kinds.Unfence queue) opened may = (sym (by_driver plan past seat (kinds.Unfence queue) may), refl)
every_entry plan past seat (kinds.Vote queue voter on) opened may = (sym (by_driver plan past seat (kinds.Vote queue voter on) may), (refl, refl, refl))
every_entry plan past seat (kinds.Rank queue class) opened may = (sym (by_driver plan past seat (kinds.Rank queue class) may), (refl, refl))
every_entry plan past seat (kinds.Close queue) opened may = (sym (by_driver plan past seat (kinds.Close queue) may), refl)
every_entry plan past seat (kinds.MainTake task queue found) opened may = (
  sym (by_driver plan past seat (kinds.MainTake task queue found)
      (and_parts (by_script plan past seat (kinds.MainTake task queue found)) _ (and_parts _ (found == main_cell_of past queue) may).0).0),
  tt,
)
every_entry plan past seat (kinds.MainEnd task left) opened may = (sym (eqb-true seat 0 (and_parts (seat == 0) _ may).0), tt)
every_entry plan past seat kinds.MainNone opened may =
    (sym (by_driver plan past seat kinds.MainNone (and_parts (by_script plan past seat kinds.MainNone) _ may).0), tt)
every_entry plan past seat (kinds.JobPost job ok) opened may =
    (sym (by_driver plan past seat (kinds.JobPost job ok) (and_parts (by_script plan past seat (kinds.JobPost job ok)) _ may).0), refl)
every_entry plan past seat (kinds.JobTake job id item) opened may = at (seat == 0) refl
  where
    at : (b : Bool) → (seat == 0) ≡ b → (seat_of (cond b (calls.JobTake job) (calls.Take seat)) ≡ seat)
        × IsMadeBy plan past (cond b (calls.JobTake job) (calls.Take seat)) (kinds.JobTake job id item)
    at true driver = (sym (eqb-true seat 0 driver), refl)
    at false other = (refl, positive)
      where
        positive : 1 ≤ seat
        positive = elim (cases_lt 0 seat) [
          | inl less ↦ less
          | inr none ↦ absurd (eqb-false seat 0 other (omega (arith, none)))
        ]
every_entry plan past seat (kinds.JobStep job id item value next) opened may = (refl, tt)
every_entry plan past seat (kinds.JobCancel job) opened may = (sym (by_driver plan past seat (kinds.JobCancel job) may), refl)
every_entry plan past seat (kinds.Cancelled job) opened may = (
  sym (by_driver plan past seat (kinds.Cancelled job)
      (and_parts (by_script plan past seat (kinds.Cancelled job)) (is_cancelled past job) (and_parts _ (is_empty plan past job) may).0).0),
  refl,
)
every_entry plan past seat (kinds.Joined job reply) opened may = (
  sym (by_driver plan past seat (kinds.Joined job reply)
      (and_parts (by_script plan past seat (kinds.Joined job reply)) (is_empty plan past job) (and_parts _ _ may).0).0),
  refl,
)
every_entry plan past seat kinds.Idle opened may = (
  sym (by_driver plan past seat kinds.Idle
      (and_parts (by_script plan past seat kinds.Idle) (is_quiet plan past) (and_parts _ _ may).0).0),
  tt,
)
every_entry plan past seat kinds.Shutdown opened may = (sym (by_driver plan past seat kinds.Shutdown may), tt)
every_entry plan past seat kinds.Done opened may = (
  sym (by_driver plan past seat kinds.Done
      (and_parts (by_script plan past seat kinds.Done) (is_started (phase_of past)) (and_parts _ _ may).0).0),
  tt,
)
