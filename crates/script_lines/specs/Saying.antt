-- What a reader of a line answers, against the definition of what the line says.
use Rattle.std.specs.Prelude.{◌≡◌, ℕ, Result, Ok, Err}
use Rattle.script_lines.specs.declared.command.Command.{Command}
use Rattle.script_lines.specs.declared.fault.LineFault.{LineFault}
use Rattle.script_lines.specs.declared.fault.LineFault.TheVariants.{Bad, Memory}

-- the command that the line says, or the reason why it says none; want of memory may come at any line
abbrev pub Says : Result Command LineFault → Result Command ℕ → Type 0
Says (Ok command) said = said ≡ Ok command
Says (Err (Bad reason)) said = said ≡ Err reason
Says (Err (Memory error)) said = Unit {0}
