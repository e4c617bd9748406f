-- What contracts see of the table of runners.
use Rattle.std.specs.Prelude.{ℕ, false, List, []}
use Rattle.task_base.specs.Plan.{Plan}
use Rattle.task_base.specs.declared.script.Runner.{Runner}

-- a script that declares these runners and has this background limit, and nothing else
abbrev pub table_of : List Runner → ℕ → Plan
table_of runners background = record {
  workers = 0;
  foreground = 0;
  foreground_best = 0;
  background = background;
  threshold = 0;
  runners = runners;
  queues = [];
  tasks = [];
  jobs = [];
  actions = [];
  is_open = false;
}
