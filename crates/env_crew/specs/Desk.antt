-- What contracts see of a desk, and what one hold of the turn does to it (this project's own rules).
use Rattle.std.specs.Prelude.{◌≡◌, ℕ, ◌+◌, ◌≤◌, Bool, true, false, List, [], ◌∷◌, ◌++◌}
use Rattle.atomic_table.specs.Seated.{TableId}
use Rattle.task_base.specs.Plan.{Plan}
use Rattle.task_base.specs.declared.entry.Entry.{Entry}
use Rattle.task_base.specs.declared.entry.Kind.{Kind}
use Rattle.hist_model.specs.Legal.{IsLegal}
use Rattle.hist_model.specs.Views.{IsPrefix, own_entries}
use Rattle.env_core.specs.Views.{EnvView}

-- the shared object that a desk stands at, told by the table of its turn, and how many seats the desk's seat has drawn
pub record Origin : Type 0 where
  pub table : TableId
  pub made : ℕ

-- a desk: the script of the run, the seat's number, where it comes from, the beginning of the history that it has seen,
-- how many times it took the turn; how many loads it made without the turn, which word the last of them read, and whether it is
-- told of a shutdown; and whether the seat was noted as one that rests by the last call, and has not slept since
pub record DeskView : Type 0 where
  pub script : Plan
  pub seat : ℕ
  pub origin : Origin
  pub seen : List Entry
  pub turns : ℕ
  pub loads : ℕ
  pub last : ℕ
  pub told : Bool
  pub rests : Bool

-- the seat's own entries in what it has seen
abbrev pub mine : DeskView → List Entry
mine d = own_entries d.seat d.seen

-- the environment of the desk's script, with this history
abbrev pub view_at : DeskView → List Entry → EnvView
view_at d history = record { script = d.script; history = history }

-- the environment as the desk has seen it
abbrev pub as_seen : DeskView → EnvView
as_seen d = view_at d d.seen

-- the seat's own entries, with one more of this kind
abbrev pub with_own : DeskView → Kind → List Entry
with_own d kind = mine d ++ record { seat = d.seat; kind = kind } ∷ []

-- the same desk, now or later, after calls that take the turn: it made no load, and what it is told of it stays told
pub record IsLater (old new : DeskView) : Type 0 where
  pub script_is : new.script ≡ old.script
  pub seat_is : new.seat ≡ old.seat
  pub origin_is : new.origin ≡ old.origin
  pub grows : IsPrefix old.seen new.seen
  pub turned : old.turns ≤ new.turns
  pub loads_is : new.loads ≡ old.loads
  pub last_is : new.last ≡ old.last
  pub told_on : old.told ≡ true → new.told ≡ true

-- one hold of the turn: it found this past, which is legal, begins with what was seen, and has no other entries of the seat;
-- it made no load, and a seat that is told of a shutdown stays told
pub record Holds (old : DeskView) (past : List Entry) (new : DeskView) : Type 0 where
  pub script_is : new.script ≡ old.script
  pub seat_is : new.seat ≡ old.seat
  pub origin_is : new.origin ≡ old.origin
  pub turned : new.turns ≡ old.turns + 1
  pub loads_is : new.loads ≡ old.loads
  pub last_is : new.last ≡ old.last
  pub told_on : old.told ≡ true → new.told ≡ true
  pub begins : IsPrefix old.seen past
  pub own : own_entries old.seat past ≡ mine old
  pub legal : IsLegal old.script past

-- one hold of the turn, from whose past the environment answers so; what it left is seen, and this says whether the seat was
-- noted in it as one that rests
pub record AnswersWith (rests : Bool) (old new : DeskView) (answer : EnvView → EnvView → Type 0) : Type 0 where
  pub past : List Entry
  pub holds : Holds old past new
  pub answered : answer (view_at old past) (as_seen new)
  pub rests_is : new.rests ≡ rests

-- one hold of the turn, from whose past the environment answers so; the seat is not noted as one that rests
abbrev pub Answers : DeskView → DeskView → (EnvView → EnvView → Type 0) → Type 0
Answers = AnswersWith false
