-- The situation of a script at its start, part by part.
use Rattle.std.specs.Prelude.{false, [], None, length, map}
use Rattle.std.specs.List.{range_with_len}
use Rattle.task_base.specs.Plan.{Plan}
use Rattle.task_base.specs.declared.policy.Policy.TheVariants.{All}
use Rattle.task_traits.specs.declared.phase.Phase.TheVariants.{Running}
use Rattle.task_model.specs.Capacity.{declared_priority}
use Rattle.task_model.specs.Seats.{all_seats}
use Rattle.hist_model.specs.Laws.Agenda.{agenda_from}
use Rattle.situation.specs.Situation.{SeatAt, JobAt, Situation}
use Rattle.log_count.specs.After.{driver_of}

-- a seat that does nothing
abbrev pub free_seat : SeatAt
free_seat = record { runs = None; acts = 0; taken = None; scope = None; behaviour = None; job = None }

-- a job that was not posted
abbrev pub unposted_job : JobAt
unposted_job = record { reply = None; cancelled = false; claims = 0 }

-- the situation: the driver is at the first action, runners have the priorities that the script declares, and nothing was done
abbrev pub start_of : Plan → Situation
start_of script = record {
  driver = driver_of (agenda_from script.actions []);
  now = 0;
  phase = Running;
  policy = All;
  priorities = map (declared_priority script) (range_with_len 0 (length script.runners));
  seats = map (λ seat. free_seat) (all_seats script);
  line = [];
  unripe = [];
  jobs = map (λ job. unposted_job) (range_with_len 0 (length script.jobs));
  cells = map (λ runner. 0) (range_with_len 0 (length script.runners));
  blocks = 0;
  skips = 0;
}
