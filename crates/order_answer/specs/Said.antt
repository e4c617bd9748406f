-- What is said of events of which no order was found (this project's own words).
use Rattle.std.specs.Prelude.{◌≡◌, ℕ, ◌+◌, ◌==◌, Bool, true, false, List, [], ◌∷◌, ◌++◌, codes, decimal, find, flat_map, length, Option}
use Rattle.std.specs.List.{range_with_len}
use Rattle.std.specs.Option.{option_to_list}
use Rattle.task_base.specs.Plan.{Plan}
use Rattle.task_base.specs.declared.entry.Entry.{Entry}
use Rattle.log_model.specs.declared.version.Version.TheVariants.{Two}
use Rattle.log_model.specs.LogText.{head_of, text_from}
use Rattle.next_entry.specs.declared.cause.Explanation.{Explanation}
use Rattle.next_entry.specs.declared.open_cause.OpenTold.{OpenTold}
use Rattle.env_explain.specs.Explained.{IsExplained}
use Rattle.open_explain.specs.Told.{IsTold}
use Rattle.explain_text.specs.OpenPlain.{open_text}
use Rattle.explain_text.specs.Plain.{told_text}
use Rattle.order_model.specs.declared.event.Event.{Event}
use Rattle.order_model.specs.Orders.{entries_of}
use Rattle.order_explain.specs.declared.stuck.Stuck.{Stuck}
use Rattle.order_explain.specs.Stuck.{IsStuck}
use Rattle.order_text.specs.Plain.{stuck_text}

-- the first of these events that is of this seat
abbrev pub next_of : ℕ → List Event → Option Event
next_of seat rest = find (λ (e : Event). e.entry.seat == seat) rest

-- of each seat the first of these events, in the order of the seats
abbrev pub next_events : ℕ → List Event → List Event
next_events workers rest = flat_map (λ seat. option_to_list (next_of seat rest)) (range_with_len 0 (workers + 1))

-- these lines say what stands against each of these, after the events and with the rest left
abbrev pub AreAgainst : Plan → List Event → List Event → List Event → List ℕ → Type 0
AreAgainst script events rest [] lines = lines ≡ []
AreAgainst script events rest (e ∷ next) lines =
    (stuck : Stuck) × (others : List ℕ) × IsStuck script events rest e stuck × AreAgainst script events rest next others
    × (lines ≡ stuck_text (length events) e stuck ++ others)

-- the line says what is left to be done after the entries; or of an open plan, who is at work
abbrev pub IsEndSaid : Bool → Plan → List Entry → List ℕ → Type 0
IsEndSaid false script log line = (told : Explanation) × IsExplained script log told × (line ≡ told_text log told)
IsEndSaid true plan log line = (told : OpenTold) × IsTold plan log told × (line ≡ open_text log told)

-- these lines say what stands against going on after the events: of the next event of each seat, or where none is left, after all
abbrev pub IsAgainst : Plan → List Event → List Event → List ℕ → Type 0
IsAgainst script events [] lines = IsEndSaid script.is_open script (entries_of events) lines
IsAgainst script events (e ∷ rest) lines = AreAgainst script events (e ∷ rest) (next_events script.workers (e ∷ rest)) lines

-- how many of all events can be arranged
abbrev pub count_text : ℕ → ℕ → List ℕ
count_text count all = decimal count ++ (codes " of " ++ decimal all) ++ codes " events can be arranged\n"

-- the beginning of the log that events make
abbrev pub beginning_text : List Event → List ℕ
beginning_text events = head_of Two ++ text_from 0 (entries_of events)

-- what is said of a search that found these events for the longest beginning of an order, of all that many, where these lines say what
-- stands against going on
abbrev pub found_text : List ℕ → List Event → ℕ → List ℕ → List ℕ
found_text head events all lines = head ++ count_text (length events) all ++ lines ++ beginning_text events
