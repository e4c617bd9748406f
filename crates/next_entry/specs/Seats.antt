-- What a seat runs or holds, as it is looked up.
use Rattle.task_model.specs.Seats.{Holding, Running}
use Rattle.next_entry.specs.declared.seats.Held.{Held}
use Rattle.next_entry.specs.declared.seats.Runs.{Runs}

-- the task that a seat runs, as the past tells of it
abbrev pub running_seen : Runs → Running
running_seen w = record { task = w.task; home = w.home; found = w.found; is_main = w.is_main }

-- the item that a seat holds, as the past tells of it
abbrev pub holding_seen : Held → Holding
holding_seen h = record { job = h.job; id = h.id; item = h.item }
