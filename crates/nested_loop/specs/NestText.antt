-- The log of a nest as text, a line for each event.
use Rattle.std.specs.Prelude.{ℕ, ◌+◌, List, [], ◌∷◌, ◌++◌, codes, decimal}
use Rattle.nested_loop.specs.declared.event.Event.{Event}
use Rattle.nested_loop.specs.declared.event.Event.TheVariants as events

-- the words of an event: its name and its numbers (this project's own)
abbrev pub event_words : Event → List (List ℕ)
event_words (events.Post task queue) = codes "post" ∷ decimal task ∷ decimal queue ∷ []
event_words (events.Loop depth) = codes "loop" ∷ decimal depth ∷ []
event_words (events.Quit depth) = codes "quit" ∷ decimal depth ∷ []
event_words (events.Start task depth) = codes "start" ∷ decimal task ∷ decimal depth ∷ []
event_words (events.End task) = codes "end" ∷ decimal task ∷ []
event_words (events.Defer task) = codes "defer" ∷ decimal task ∷ []
event_words (events.Say value) = codes "say" ∷ decimal value ∷ []

-- the words, each behind a space
abbrev pub behind_spaces : List (List ℕ) → List ℕ
behind_spaces [] = []
behind_spaces (word ∷ words) = 32 ∷ word ++ behind_spaces words

-- the line of an event: its place and its words, parted by single spaces, and a line feed (this project's own)
abbrev pub event_line : ℕ → Event → List ℕ
event_line place event = decimal place ++ behind_spaces (event_words event) ++ 10 ∷ []

-- the lines of the events from a place on
unfoldable pub event_lines : ℕ → List Event → List ℕ
event_lines place [] = []
event_lines place (event ∷ rest) = event_line place event ++ event_lines (place + 1) rest

-- the text of a log: the lines of its events, in order, the first at place 0
abbrev pub nest_text : List Event → List ℕ
nest_text log = event_lines 0 log
