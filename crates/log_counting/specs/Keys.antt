-- Situations that have the same key.
use Rattle.std.specs.Prelude.{Bool}
use Rattle.std.specs.Str.{bytes_eq}
use Rattle.situation.specs.Situation.{Situation}
use Rattle.situation_key.specs.Words.{key_of}

-- a test of the keys, number by number
abbrev pub same_key : Situation → Situation → Bool
same_key a b = bytes_eq (key_of a) (key_of b)
