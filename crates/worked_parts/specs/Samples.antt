-- The script of the tests, and a history of it (this project's own).
use Rattle.std.specs.Prelude.{◌≡◌, true, false, List, [], ◌∷◌}
use Rattle.task_base.specs.Plan.{Plan}
use Rattle.task_base.specs.declared.entry.Entry.{Entry}
use Rattle.task_base.specs.declared.entry.Kind.{Kind}
use Rattle.task_base.specs.declared.entry.Kind.TheVariants as kinds
use Rattle.task_base.specs.declared.script.Action.TheVariants as actions
use Rattle.task_base.specs.declared.script.RunnerKind.TheVariants.{Sequenced}
use Rattle.task_base.specs.declared.step.Step.TheVariants as steps
use Rattle.task_traits.specs.declared.traits.Behaviour.TheVariants.{SkipOnShutdown}
use Rattle.task_traits.specs.declared.traits.Priority.TheVariants.{UserVisible}
use Rattle.task_base.specs.Entries.{entry_by as by}
use Rattle.turn_table.specs.Seats.{TurnKey, SeatView}

-- a script that posts a task and shuts down
abbrev pub steps_script : Plan
steps_script = record {
  workers = 1;
  foreground = 1;
  foreground_best = 1;
  background = 0;
  threshold = 0;
  runners = record { kind = Sequenced; traits = record { priority = UserVisible; behaviour = SkipOnShutdown; may_block = false } } ∷ [];
  queues = [];
  tasks = (steps.Add 5 ∷ []) ∷ [];
  jobs = [];
  actions = actions.Post 0 0 0 ∷ actions.Shutdown ∷ [];
  is_open = false;
}

-- what the driver and the worker enter for it
abbrev pub steps_log : List Entry
steps_log = by 0 (kinds.Post 0 0 0 true) ∷ by 1 (kinds.Take 0 0 0) ∷ by 1 (kinds.End 0 5) ∷ by 0 kinds.Shutdown ∷ []

-- seat 0 of a turnstile with four seats, and the three others
pub record AreSeats (key : TurnKey) (first one two three : SeatView) : Type 0 where
  pub first_of : first.of ≡ key
  pub first_is : first.number ≡ 0
  pub made_is : first.made ≡ 4
  pub one_of : one.of ≡ key
  pub one_is : one.number ≡ 1
  pub two_of : two.of ≡ key
  pub two_is : two.number ≡ 2
  pub three_of : three.of ≡ key
  pub three_is : three.number ≡ 3
