-- What a reader holds, against the draft that the lines read so far give.
use Rattle.std.specs.Prelude.{◌≡◌, ℕ, ◌≤◌, false, List, length, map, slice_index_or, Result, Ok, Err}
use Rattle.std.specs.List.{list_any}
use Rattle.task_base.specs.declared.limits.TheConstants.{MOST_ITEMS, MOST_STEPS, MOST_TICKS, MOST_EVENTS}
use Rattle.script_model.specs.Draft.{Draft, posted_in, is_block, is_started, has_shutdown, items_in, steps_in, ticks_in, events_in}
use Rattle.script_lines.specs.declared.fault.LineFault.{LineFault}
use Rattle.script_lines.specs.declared.fault.LineFault.TheVariants.{Bad, Memory}
use Rattle.task_script.specs.Marks.{AreMarks}
use Rattle.task_script.specs.declared.fault.ScriptFault.{ScriptFault}
use Rattle.task_script.specs.declared.fault.ScriptFault.TheVariants.{Bad as BadScript, Memory as NoMemory}
use Rattle.task_script.specs.declared.reader.Reader.{Reader}
use Rattle.task_script.specs.declared.reader.Marks.{Marks}
use Rattle.task_script.specs.declared.reader.Totals.{Totals}

-- the draft that a reader stands for
abbrev pub draft : Reader → Draft
draft reader = record {
  workers = reader.workers;
  groups = reader.groups;
  threshold = reader.threshold;
  runners = reader.runners.items;
  queues = reader.queues.items;
  tasks = reader.tasks.items;
  jobs = reader.jobs.items;
  actions = reader.actions.items;
}

-- the flags say what the draft says: which tasks open a scope, which jobs are started, and whether shutdown is; and the
-- marks are those of these tasks
pub record AreFlags (marks : Marks) (d : Draft) (tasks : List ℕ) : Type 0 where
  pub posted_count : length marks.posted.items ≡ length d.tasks
  pub posted : AreMarks marks.posted.items tasks
  pub blocks : marks.blocks.items ≡ map (list_any is_block) d.tasks
  pub started_count : length marks.started.items ≡ length d.jobs
  pub started : (j : ℕ) → slice_index_or marks.started.items j false ≡ is_started d j
  pub shutdown : marks.shutdown ≡ has_shutdown d

-- the totals are those of the draft, and within the limits
pub record AreTotals (totals : Totals) (d : Draft) : Type 0 where
  pub items : totals.items ≡ items_in d
  pub steps : totals.steps ≡ steps_in d
  pub ticks : totals.ticks ≡ ticks_in d
  pub events : totals.events ≡ events_in d
  pub few_items : totals.items ≤ MOST_ITEMS
  pub few_steps : totals.steps ≤ MOST_STEPS
  pub few_ticks : totals.ticks ≤ MOST_TICKS
  pub few_events : totals.events ≤ MOST_EVENTS

-- the tables of a reader say what its draft says
pub record Tables (reader : Reader) : Type 0 where
  pub flags : AreFlags reader.marks (draft reader) (posted_in (draft reader))
  pub totals : AreTotals reader.totals (draft reader)

-- the line is bad for the reason, or memory ran out
abbrev pub Fails : LineFault → Result Draft ℕ → Type 0
Fails (Bad reason) read = read ≡ Err reason
Fails (Memory error) read = Unit {0}

-- the reader went on to what a line gives, or the line is bad, or memory ran out
abbrev pub Turns : Result (Unit {0}) LineFault → Reader → Result Draft ℕ → Type 0
Turns (Ok done) reader read = Tables reader × (read ≡ Ok (draft reader))
Turns (Err fault) reader read = Fails fault read

-- the totals went on to what an action gives, or it is too much, or memory ran out
abbrev pub Sums : Result (Unit {0}) LineFault → Reader → Result Draft ℕ → Type 0
Sums (Ok done) reader read = AreTotals reader.totals (draft reader) × (read ≡ Ok (draft reader))
Sums (Err fault) reader read = Fails fault read

-- the script went on to what a line gives, by its number, or the line is bad, or memory ran out
abbrev pub TurnsAt : Result (Unit {0}) ScriptFault → Reader → Result Draft (ℕ × ℕ) → Type 0
TurnsAt (Ok done) reader read = Tables reader × (read ≡ Ok (draft reader))
TurnsAt (Err (BadScript line reason)) reader read = read ≡ Err (line, reason)
TurnsAt (Err (NoMemory error)) reader read = Unit {0}
