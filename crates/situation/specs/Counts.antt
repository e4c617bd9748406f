-- The whole logs that go on from a past, listed (this project's own rule).
use Rattle.std.specs.Prelude.{◌≡◌, length, ℕ, Bool, true, zero, suc, if◌then◌else◌, List, [], ◌∷◌, ◌++◌, map, flat_map, Option, Some, None, option_and_then}
use Rattle.std.specs.List.{AllByRecursion, range_with_len}
use Rattle.task_base.specs.Plan.{Plan}
use Rattle.task_base.specs.declared.entry.Entry.{Entry}
use Rattle.task_base.specs.declared.entry.Kind.{Kind}
use Rattle.task_base.specs.declared.entry.Kind.TheVariants as kinds
use Rattle.script_model.specs.Bound.{events_bound_of}
use Rattle.task_model.specs.Seats.{all_seats}
use Rattle.hist_model.specs.Allowed.{is_allowed}
use Rattle.hist_model.specs.Legal.{IsLegal}
use Rattle.hist_model.specs.Script.{is_whole, IsWhole}
use Rattle.hist_model.specs.Laws.Ways.{way_on}
use Rattle.situation.specs.Situation.{Situation, situation_of}

-- the kind, a tick at this moment
abbrev pub at_moment : ℕ → Kind → Kind
at_moment moment (kinds.Tick now) = kinds.Tick moment
at_moment moment kind = kind

-- the entry, where it is allowed after the past
abbrev pub if_allowed : Plan → List Entry → Entry → Option Entry
if_allowed script past e = if is_allowed script past e then Some e else None

-- what the seat may make next, if it may make anything; a tick reads what the situation before it tells
abbrev pub next_of : Plan → (Situation → ℕ) → List Entry → ℕ → Option Entry
next_of script tick past seat =
    option_and_then (λ way. if_allowed script past (record { seat = seat; kind = at_moment (tick (situation_of script past)) way })) (way_on script past seat)

-- the lists that begin with the entry, if there is one
abbrev pub beginning_with : Option Entry → (Entry → List (List Entry)) → List (List Entry)
beginning_with None rests = []
beginning_with (Some e) rests = map (λ rest. e ∷ rest) (rests e)

-- so many entries more, one after the other, which make the past one that passes a test: for each seat what follows on what it
-- may make
abbrev pub goings : (List Entry → Bool) → Plan → (Situation → ℕ) → ℕ → List Entry → List (List Entry)
goings test script tick zero past = if test past then [] ∷ [] else []
goings test script tick (suc n) past =
    flat_map (λ seat. beginning_with (next_of script tick past seat) (λ e. goings test script tick n (past ++ e ∷ []))) (all_seats script)

-- so many entries more which make the past a whole one
abbrev pub futures : Plan → (Situation → ℕ) → ℕ → List Entry → List (List Entry)
futures script tick n past = goings (is_whole script) script tick n past

-- so many entries that make the past a legal one that passes the test
pub record GoesOn (test : List Entry → Bool) (script : Plan) (n : ℕ) (past rest : List Entry) : Type 0 where
  pub legal : IsLegal script (past ++ rest)
  pub passes : test (past ++ rest) ≡ true
  pub as_long : length rest ≡ n

-- so many entries that make the past a legal, whole log
pub record IsFuture (script : Plan) (n : ℕ) (past rest : List Entry) : Type 0 where
  pub legal : IsLegal script (past ++ rest)
  pub whole : IsWhole script (past ++ rest)
  pub as_long : length rest ≡ n

-- each tick among the entries reads what the situation before it tells
abbrev pub ReadsBy : Plan → (Situation → ℕ) → List Entry → List Entry → Type 0
ReadsBy script tick past [] = Unit {0}
ReadsBy script tick past (e ∷ rest) = (at_moment (tick (situation_of script past)) e.kind ≡ e.kind) × ReadsBy script tick (past ++ e ∷ []) rest

-- no two of a list are the same
abbrev pub NoDoubles : {A : Type 0} → List A → Type 0
NoDoubles [] = Unit {0}
NoDoubles (x ∷ xs) = AllByRecursion (λ y. x ≡ y → ⊥) xs × NoDoubles xs

-- a legal, whole log of the script, whose ticks read what the situations before them tell
pub record IsWholeLog (script : Plan) (tick : Situation → ℕ) (log : List Entry) : Type 0 where
  pub legal : IsLegal script log
  pub whole : IsWhole script log
  pub moments : ReadsBy script tick [] log

-- the whole logs of the script, shorter ones first; none has more entries than its bound
unfoldable pub whole_logs : Plan → (Situation → ℕ) → List (List Entry)
whole_logs script tick = flat_map (λ n. futures script tick n []) (range_with_len 0 (suc (events_bound_of script)))
