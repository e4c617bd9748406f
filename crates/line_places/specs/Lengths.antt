-- How many words a line takes, its command among them.
use Rattle.std.specs.Prelude.{ℕ, ◌+◌, if◌then◌else◌, List, count_by, Option, Some, None}
use Rattle.std.specs.List.{list_any}
use Rattle.std.specs.Option.{option_and_then}
use Rattle.line_places.specs.declared.expected.Language.{Language}
use Rattle.line_places.specs.declared.expected.Expected.{Expected}
use Rattle.line_places.specs.declared.expected.Length.{Length}
use Rattle.line_places.specs.Tables.{places_of}
use Rattle.line_places.specs.Faults.{is_required, takes_word}
use Rattle.line_places.specs.First.{is_steps}

-- how many words these places take, and the command before them, where they have no steps
abbrev pub length_by : List Expected → Option Length
length_by places =
    if list_any is_steps places then None else Some (record { least = count_by is_required places + 1; most = count_by takes_word places + 1 })

-- how many words a line takes that has no steps, if the language has its command
abbrev pub line_length : Language → List ℕ → Option Length
line_length language command = option_and_then length_by (places_of language command)
