-- Two pasts of one script in the same situation, as far as the pool goes: notion by notion.
use Rattle.std.specs.Prelude.{◌≡◌, ℕ, ◌<◌, List, length, Some}
use Rattle.task_base.specs.Plan.{Plan}
use Rattle.task_base.specs.declared.entry.Entry.{Entry}
use Rattle.task_model.specs.Time.{now_of}
use Rattle.task_model.specs.Phase.{phase_of}
use Rattle.task_model.specs.Policies.{policy_of}
use Rattle.task_model.specs.Seats.{Running, running, acts_done}
use Rattle.task_model.specs.Cells.{cell_of}
use Rattle.task_model.specs.Capacity.{priority_of, taken_with}
use Rattle.task_model.specs.Jobs.{is_cancelled, claimed}
use Rattle.task_model.specs.Blockers.{open_blocks, running_skips}
use Rattle.situation.specs.Line.{line_of}
use Rattle.situation.specs.Situation.{agenda_after_past, progress_of_first, scope_now, behaviour_now, job_now, job_reply, unripe_of}

-- each notion of the situation is the same in both
pub record SameWork (script : Plan) (past other : List Entry) : Type 0 where
  pub left : (agenda_after_past script past).actions ≡ (agenda_after_past script other).actions
  pub made : progress_of_first (agenda_after_past script past).actions (agenda_after_past script past).made
      ≡ progress_of_first (agenda_after_past script other).actions (agenda_after_past script other).made
  pub now : now_of past ≡ now_of other
  pub phase : phase_of past ≡ phase_of other
  pub policy : policy_of past ≡ policy_of other
  pub priorities : (runner : ℕ) → priority_of script past runner ≡ priority_of script other runner
  pub runs : (seat : ℕ) → running past seat ≡ running other seat
  pub acts : (seat : ℕ) (w : Running) → running past seat ≡ Some w → acts_done past seat ≡ acts_done other seat
  pub taken : (seat : ℕ) (w : Running) → running past seat ≡ Some w → taken_with script past seat ≡ taken_with script other seat
  pub scopes : (seat : ℕ) → scope_now script past seat ≡ scope_now script other seat
  pub behaviours : (seat : ℕ) → behaviour_now script past seat ≡ behaviour_now script other seat
  pub held : (seat : ℕ) → job_now past seat ≡ job_now other seat
  pub line : line_of script past ≡ line_of script other
  pub unripe : unripe_of script past ≡ unripe_of script other
  pub replies : (j : ℕ) → job_reply past j ≡ job_reply other j
  pub cancels : (j : ℕ) → is_cancelled past j ≡ is_cancelled other j
  pub claims : (j : ℕ) → claimed past j ≡ claimed other j
  pub cells : (s : ℕ) → s < length script.runners → cell_of script past s ≡ cell_of script other s
  pub blocks : open_blocks script past ≡ open_blocks script other
  pub skips : running_skips script past ≡ running_skips script other
