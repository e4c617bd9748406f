-- What a reader holds, against the nest that the lines read so far give.
use Rattle.std.specs.Prelude.{◌≡◌, ℕ, ◌≤◌, Result, Ok, Err}
use Rattle.script_lines.specs.declared.fault.LineFault.{LineFault}
use Rattle.script_lines.specs.declared.fault.LineFault.TheVariants.{Bad, Memory}
use Rattle.nested_loop.specs.declared.limits.TheConstants.{MOST_NEST_STEPS}
use Rattle.nested_loop.specs.declared.fault.NestFault.{NestFault}
use Rattle.nested_loop.specs.declared.fault.NestFault.TheVariants.{Bad as BadNest, Memory as NoMemory}
use Rattle.nested_loop.specs.declared.reader.Reader.{Reader}
use Rattle.nested_loop.specs.Plan.{NestPlan}
use Rattle.nested_loop.specs.Sound.{nest_postings, nest_steps_in}

-- what the reader knows beside the nest: which tasks the nest posts, and how many steps it has
pub record Knows (reader : Reader) : Type 0 where
  pub posted : reader.posted.items ≡ nest_postings reader.nest
  pub steps : reader.steps ≡ nest_steps_in reader.nest
  pub few_steps : reader.steps ≤ MOST_NEST_STEPS

-- the reader went on to what a line gives, or the line is bad, or memory ran out
abbrev pub NestTurns : Result (Unit {0}) LineFault → Reader → Result NestPlan ℕ → Type 0
NestTurns (Ok done) reader read = Knows reader × (read ≡ Ok reader.nest)
NestTurns (Err (Bad reason)) reader read = read ≡ Err reason
NestTurns (Err (Memory error)) reader read = Unit {0}

-- the same, where the reason stands beside the number of the line
abbrev pub NestTurnsAt : Result (Unit {0}) NestFault → Reader → Result NestPlan (ℕ × ℕ) → Type 0
NestTurnsAt (Ok done) reader read = Knows reader × (read ≡ Ok reader.nest)
NestTurnsAt (Err (BadNest line reason)) reader read = read ≡ Err (line, reason)
NestTurnsAt (Err (NoMemory error)) reader read = Unit {0}
