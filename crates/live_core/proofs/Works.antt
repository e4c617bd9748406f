-- The task that a seat runs, by what the books tell and what fits a call; and the cells of such tasks.
-- Cited by 7 functions of `LiveCore`.
use Rattle.std.proofs.Common.{◌≡◌, ℕ, ◌<◌, ◌≤◌, Bool, true, false, cond, List, length, refl, sym, ap, ◌∙◌, Option, Some, None, inl, inr}
use Rattle.std.specs.Prelude.{◌&&◌, is_none, is_some, nat_le, not, slice_set}
use Rattle.std.specs.Option.{option_map}
use Rattle.std.proofs.Math.Dec.{leb-zero}
use Rattle.std.proofs.lemmas.Bool.{and_parts, cases_lt, false≢true, leb-true, ne_eqb, not-true}
use Rattle.std.proofs.lemmas.Option.{none-some}
use Rattle.list_laws.proofs.Elements.{AllByRecursion-contains}
use Rattle.list_laws.proofs.Values.{eqb-same}
use Rattle.list_laws.specs.Lists.{holds_of}
use Rattle.script_model.specs.Draft.{may_block_on}
use Rattle.task_base.specs.Plan.{Plan}
use Rattle.task_base.specs.Entries.{entry_by, next}
use Rattle.task_base.specs.declared.entry.Entry.{Entry}
use Rattle.task_base.specs.declared.entry.Kind.{Kind}
use Rattle.task_model.proofs.Growth.{running_push}
use Rattle.task_model.specs.Capacity.{OpenScope, open_scope}
use Rattle.task_base.specs.Steps.{after}
use Rattle.task_model.specs.Jobs.{item_value}
use Rattle.task_model.specs.Posts.{main_posts}
use Rattle.task_model.specs.Seats.{Holding, Running, holding, running, running_after, steps_of}
use Rattle.pool_laws.proofs.Seats.Running.{running_other}
use Rattle.pool_laws.specs.Runs.{CanRun}
use Rattle.hist_model.proofs.Laws.Consistent.{legal_is_consistent}
use Rattle.hist_model.proofs.Laws.JobEntries.{none_is}
use Rattle.pool_core.proofs.Works.AtSeat.{closed_at}
use Rattle.pool_core.specs.Calls.{RunsClosed, RunsOpen}
use Rattle.pool_core.specs.declared.pool.Pool.{Pool}
use Rattle.sequence_manager.proofs.Tables.{table_set}
use Rattle.sequence_manager.specs.Calls.{RunsMain}
use Rattle.sequence_manager.specs.Pasts.{IsPostedTo}
use Rattle.sequence_manager.specs.Queues.{IsTable}
use Rattle.live_core.specs.Books.{StandFor, item_of, work_of}
use Rattle.live_core.specs.StandsFor.{StandsFor, cell_at}
use Rattle.live_core.specs.declared.books.Books.{Books}
use Rattle.live_core.specs.declared.books.Item.{Item}
use Rattle.live_core.specs.declared.books.Work.{Work}
use Rattle.live_core.specs.declared.live.LiveCore.{LiveCore}

-- there is the seat, it runs a task that passes the test, and the books tell this task
pub record RunsWork (plan : Plan) (past : List Entry) (seat : ℕ) (told : Option Work) (test : Running → Bool) : Type 0 where
  pub now : Running
  pub known : seat ≤ plan.workers
  pub runs : running past seat ≡ Some now
  pub passes : test now ≡ true
  pub told_is : told ≡ Some (work_of now)

pub runs_work : (plan : Plan) (past : List Entry) (seat : ℕ) (told : Option Work) (test : Running → Bool)
    → told ≡ cond (nat_le seat plan.workers) (option_map work_of (running past seat)) None
    → (nat_le seat plan.workers && holds_of test (running past seat)) ≡ true → RunsWork plan past seat told test
runs_work plan past seat told test told_is fit = at (nat_le seat plan.workers) (running past seat) refl refl told_is fit
  where
    at : (there : Bool) (o : Option Running) → nat_le seat plan.workers ≡ there → running past seat ≡ o → told ≡ cond there (option_map work_of o) None
        → (there && holds_of test o) ≡ true → RunsWork plan past seat told test
    at true (Some w) there runs is passes = record {
      now = w;
      known = leb-true seat plan.workers there;
      runs = runs;
      passes = passes;
      told_is = is;
    }
    at true None there runs is passes = absurd cc
    at false o there runs is passes = absurd cc

-- a task of the pool without a scope
abbrev pub closed_test : List Entry → Running → Bool
closed_test past w = not w.is_main && is_none (open_scope past w.task)

pub runs_closed : {plan : Plan} {past : List Entry} {live : LiveCore} {seat : ℕ} {told : Option Work} → StandsFor plan past live
    → (work : RunsWork plan past seat told (closed_test past)) → RunsClosed plan past live.pool seat work.now
runs_closed {past = past} stands work =
    let parts = and_parts (not work.now.is_main) (is_none (open_scope past work.now.task)) work.passes in
    record { stands = stands.pool; runs = work.runs; is_pool = not-true work.now.is_main parts.0; closed = none_is _ parts.1 }

-- one that may block
abbrev pub blocking_test : Plan → List Entry → Running → Bool
blocking_test plan past w = not w.is_main && may_block_on plan.runners w.home && is_none (open_scope past w.task)

pub may_block : {plan : Plan} {past : List Entry} {seat : ℕ} {told : Option Work} → (work : RunsWork plan past seat told (blocking_test plan past))
    → (not work.now.is_main ≡ true) × (may_block_on plan.runners work.now.home ≡ true) × (is_none (open_scope past work.now.task) ≡ true)
may_block {plan = plan} {past = past} work =
    let parts = and_parts (not work.now.is_main && may_block_on plan.runners work.now.home) (is_none (open_scope past work.now.task)) work.passes in
    let front = and_parts (not work.now.is_main) (may_block_on plan.runners work.now.home) parts.0 in
    (front.0, front.1, parts.1)

pub runs_blocking : {plan : Plan} {past : List Entry} {live : LiveCore} {seat : ℕ} {told : Option Work} → StandsFor plan past live
    → (work : RunsWork plan past seat told (blocking_test plan past)) → RunsClosed plan past live.pool seat work.now
runs_blocking stands work =
    let parts = may_block work in
    record { stands = stands.pool; runs = work.runs; is_pool = not-true work.now.is_main parts.0; closed = none_is _ parts.2 }

-- such a task is declared
pub task_there : {plan : Plan} {past : List Entry} {pool : Pool} {seat : ℕ} {w : Running} → RunsClosed plan past pool seat w
    → w.task < length plan.tasks
task_there runs = (closed_at runs).task_declared

-- one with a scope
abbrev pub open_test : List Entry → Running → Bool
open_test past w = not w.is_main && is_some (open_scope past w.task)

pub record RunsInScope (plan : Plan) (past : List Entry) (live : LiveCore) (seat : ℕ) (w : Running) : Type 0 where
  pub opened : OpenScope
  pub in_scope : RunsOpen plan past live.pool seat w opened
  pub there : w.task < length plan.tasks

pub runs_open : {plan : Plan} {past : List Entry} {live : LiveCore} {seat : ℕ} {told : Option Work} → StandsFor plan past live
    → (work : RunsWork plan past seat told (open_test past)) → RunsInScope plan past live seat work.now
runs_open {plan = plan} {past = past} {live = live} {seat = seat} stands work = at (open_scope past work.now.task) refl parts.1
  where
    parts : (not work.now.is_main ≡ true) × (is_some (open_scope past work.now.task) ≡ true)
    parts = and_parts (not work.now.is_main) (is_some (open_scope past work.now.task)) work.passes

    at : (o : Option OpenScope) → open_scope past work.now.task ≡ o → is_some o ≡ true → RunsInScope plan past live seat work.now
    at None is h = absurd cc
    at (Some opened) is h = record {
      opened = opened;
      in_scope = record { stands = stands.pool; runs = work.runs; is_pool = not-true work.now.is_main parts.0; opens = is };
      there = elim (cases_lt work.now.task (length plan.tasks)) [
        | inl less ↦ less
        | inr beyond ↦ absurd (none-some opened (sym (stands.books.no_other_scopes work.now.task beyond) ∙ is))
      ];
    }

-- ---- main tasks

-- a main task without a scope, which the driver runs
abbrev pub main_test : List Entry → Running → Bool
main_test past w = w.is_main && is_none (open_scope past w.task)

pub driver_work : (plan : Plan) (past : List Entry) (told : Option Work)
    → told ≡ cond (nat_le 0 plan.workers) (option_map work_of (running past 0)) None → holds_of (main_test past) (running past 0) ≡ true
    → RunsWork plan past 0 told (main_test past)
driver_work plan past told told_is fit = runs_work plan past 0 told (main_test past) told_is (rw (leb-zero plan.workers) fit)

-- the driver runs this main task, whose queue is declared
pub record RunsMainWork (plan : Plan) (past : List Entry) (live : LiveCore) (w : Running) : Type 0 where
  pub main : RunsMain plan past live.main w.home w
  pub is_main : w.is_main ≡ true
  pub closed : is_none (open_scope past w.task) ≡ true

pub runs_main : {plan : Plan} {past : List Entry} {live : LiveCore} {told : Option Work} → StandsFor plan past live
    → (work : RunsWork plan past 0 told (main_test past)) → RunsMainWork plan past live work.now
runs_main {plan = plan} {past = past} stands work = record {
  main = record { stands = stands.main; declared = declared posted; runs = rw (work.runs, parts.0) refl; home_is = refl };
  is_main = parts.0;
  closed = parts.1;
}
  where
    parts : (work.now.is_main ≡ true) × (is_none (open_scope past work.now.task) ≡ true)
    parts = and_parts work.now.is_main (is_none (open_scope past work.now.task)) work.passes

    can : CanRun plan past 0 work.now true
    can = ((legal_is_consistent plan past stands.legal true).runs 0 work.now work.runs parts.0).can

    posted : IsPostedTo plan can.accepted.task can.accepted.home
    posted = AllByRecursion-contains (λ p. IsPostedTo plan p.task p.home) (main_posts past) can.accepted stands.main.past_fits.posted can.posted

    declared : IsPostedTo plan can.accepted.task can.accepted.home → work.now.home < length plan.queues
    declared (inl posting) = absurd (false≢true (sym posting.closed ∙ stands.opened))
    declared (inr posting) = rw (← can.home_is) posting.queue_declared

-- ---- items

-- there is the seat, it holds an item, and the books tell this item
pub record HoldsItem (plan : Plan) (past : List Entry) (seat : ℕ) (told : Option Item) : Type 0 where
  pub now : Holding
  pub holds : holding past seat ≡ Some now
  pub told_is : told ≡ Some (item_of now)

pub holds_item : (plan : Plan) (past : List Entry) (seat : ℕ) (told : Option Item)
    → told ≡ cond (nat_le seat plan.workers) (option_map item_of (holding past seat)) None
    → (nat_le seat plan.workers && is_some (holding past seat)) ≡ true → HoldsItem plan past seat told
holds_item plan past seat told told_is fit = at (nat_le seat plan.workers) (holding past seat) refl told_is fit
  where
    at : (there : Bool) (o : Option Holding) → holding past seat ≡ o → told ≡ cond there (option_map item_of o) None
        → (there && is_some o) ≡ true → HoldsItem plan past seat told
    at true (Some h) holds is there = record { now = h; holds = holds; told_is = is }
    at true None holds is there = absurd cc
    at false o holds is there = absurd cc

-- ---- what steps leave

-- what the script's steps leave, the plan's do
pub left_is : (plan : Plan) (past : List Entry) (books : Books) (script : Plan) (left : ℕ) (work : Work) (now : Running) → StandFor plan past books
    → script ≡ books.script → left ≡ after (steps_of script work.task) work.found → work ≡ work_of now
    → left ≡ after (steps_of plan now.task) now.found
left_is plan past books script left work now stand same_script by_steps same_work =
    by_steps ∙ rw (same_work, same_script, stand.plan_is) refl

pub value_is : (plan : Plan) (past : List Entry) (books : Books) (script : Plan) (value : ℕ) (item : Item) (now : Holding) → StandFor plan past books
    → script ≡ books.script → value ≡ item_value script item.job item.item → item ≡ item_of now → value ≡ item_value plan now.job now.item
value_is plan past books script value item now stand same_script by_steps same_item =
    by_steps ∙ rw (same_item, same_script, stand.plan_is) refl

-- ---- cells

-- the cell of one seat is set, and the others stay
pub cells_moved : (past : List Entry) (seat : ℕ) (kind : Kind) (count : ℕ) (cells : List (Option ℕ)) (now : Option ℕ) → IsTable (cell_at past) count cells
    → seat < count → now ≡ option_map (λ w. w.found) (running_after (running past seat) kind)
    → IsTable (cell_at (next past seat kind)) count (slice_set cells seat now)
cells_moved past seat kind count cells now table there is = table_set (cell_at past) (cell_at (next past seat kind)) count cells seat now table there
    (λ other within apart. sym (ap (option_map (λ w. w.found))
    (running_other past (entry_by seat kind) other (ne_eqb seat other (λ same. apart (sym same))))))
    (is ∙ sym (ap (option_map (λ w. w.found)) (running_push past (entry_by seat kind) seat ∙ rw (eqb-same seat) refl)))
