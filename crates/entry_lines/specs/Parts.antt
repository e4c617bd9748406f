-- The parts of a kind in code, as the log's definition has them.
use Rattle.std.specs.Prelude.{◌≤◌, length}
use Rattle.entry_lines.specs.declared.parts.Part.{Part}
use Rattle.entry_lines.specs.declared.parts.Part.TheVariants.{Word, Number}
use Rattle.log_model.specs.LogText as text

-- what a part says
abbrev pub said : Part → text.Part
said (Word bytes) = text.word bytes.now
said (Number n) = text.number n

-- a part that is no longer than a number of 64 bits
abbrev pub IsShort : Part → Type 0
IsShort (Word bytes) = length bytes.now ≤ 20
IsShort (Number n) = Unit {0}
