-- What a seat makes by its step, and the log of a schedule (this project's own rule). Each seat has at most one way on, so a log is
-- made by saying whose turn it is, and what the clock reads then.
use Rattle.std.specs.Prelude.{ℕ, if◌then◌else◌, List, [], ◌∷◌, ◌++◌, map, Option, Some, None, option_and_then}
use Rattle.std.specs.Option.{option_map_or}
use Rattle.task_base.specs.Plan.{Plan}
use Rattle.task_base.specs.declared.entry.Entry.{Entry}
use Rattle.task_base.specs.declared.entry.Kind.{Kind}
use Rattle.task_base.specs.declared.entry.Kind.TheVariants as kinds
use Rattle.task_model.specs.Time.{now_of}
use Rattle.hist_model.specs.Allowed.{is_allowed}
use Rattle.hist_model.specs.Moments.{moment_behind}
use Rattle.hist_model.specs.Laws.Ways.{way_on}

-- the entry of a seat, with the moment that the reading becomes where it is a tick
abbrev pub timed : List Entry → ℕ → ℕ → Kind → Entry
timed past reading seat (kinds.Tick now) = record { seat = seat; kind = kinds.Tick (moment_behind (now_of past) reading) }
timed past reading seat kind = record { seat = seat; kind = kind }

-- the entry, where the rules allow it
abbrev pub if_allowed : Plan → List Entry → Entry → Option Entry
if_allowed script past e = if is_allowed script past e then Some e else None

-- the entry that a seat makes whose turn it is with this reading: its one way on, where the rules allow it
unfoldable pub made_by : Plan → List Entry → ℕ → ℕ → Option Entry
made_by script past reading seat = option_and_then (λ kind. if_allowed script past (timed past reading seat kind)) (way_on script past seat)

-- whose turn it is, and what the clock reads then
pub record Turn : Type 0 where
  pub seat : ℕ
  pub reading : ℕ

-- the past with what is made by these turns: a seat that may make no entry is passed over
abbrev pub by_turns : Plan → List Entry → List Turn → List Entry
by_turns script past [] = past
by_turns script past (turn ∷ rest) =
    option_map_or (λ e. by_turns script (past ++ e ∷ []) rest) (made_by script past turn.reading turn.seat) (by_turns script past rest)

-- the reading by which an entry is made: the moment of a tick
abbrev pub reading_of : Kind → ℕ
reading_of (kinds.Tick now) = now
reading_of kind = 0

-- the turns by which a log is made
abbrev pub turns_of : List Entry → List Turn
turns_of log = map (λ e. record { seat = e.seat; reading = reading_of e.kind }) log
