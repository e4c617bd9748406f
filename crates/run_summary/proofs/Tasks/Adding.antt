-- Scripts whose tasks add: what is asked of a script, so that every run of it ends all its tasks, and the cells hold what they add.
-- Cited by `Tasks/Cells`, `Tasks/Ends`, `Tasks/Numbers`, `Tasks/Once`, `Tasks/Posted`, `Tasks/Pumped`, `Tasks/Rest`, `Tasks`.
use Rattle.std.proofs.Common.{◌≡◌, ℕ, ◌+◌, ◌*◌, ◌^◌, ◌<◌, ◌≤◌, true, length, None}
use Rattle.std.specs.Prelude.{sum_by}
use Rattle.std.specs.List.{list_any, range_with_len}
use Rattle.task_base.specs.Plan.{Plan}
use Rattle.task_base.specs.Steps.{after}
use Rattle.task_base.specs.Runners.{seat_of}
use Rattle.task_model.specs.Seats.{steps_of}
use Rattle.script_model.specs.Laws.Postings.{IsPostedOnce}
use Rattle.hist_model.specs.Laws.Consistent.{is_pump}
use Rattle.hist_model.proofs.Laws.Postings.Driver.{actions_post}
use Rattle.run_summary.proofs.Calm.{IsCalmScript}
use Rattle.run_summary.proofs.Tasks.Driver.{ArePlain}

-- the script has so many tasks, and task t adds `amount t`. The driver posts each of them once, to one of four runners, none of which
-- is a single-thread runner, or to the main queue, pumps them all, and ends with a flush; there is a worker, and work of each
-- priority may run
pub record AddsUp (script : Plan) (size : ℕ) (amount : ℕ → ℕ) : Type 0 where
  pub calm : IsCalmScript script
  pub plain : ArePlain size script.actions
  pub pumps : list_any is_pump script.actions ≡ true
  pub posts_each : (t : ℕ) → t < size → 1 ≤ actions_post t script.actions
  pub posted_once : IsPostedOnce script
  pub some_workers : 1 ≤ script.workers
  pub some_foreground : 1 ≤ script.foreground
  pub some_best : 1 ≤ script.foreground_best
  pub four_runners : length script.runners ≡ 4
  pub no_single : (runner : ℕ) → seat_of script runner ≡ None
  pub one_queue : length script.queues ≡ 1
  pub tasks_are : length script.tasks ≡ size
  pub adds : (t found : ℕ) → found + amount t < 2 ^ 64 → after (steps_of script t) found ≡ found + amount t
  pub few : 2 * sum_by amount (range_with_len 0 size) < 2 ^ 64
